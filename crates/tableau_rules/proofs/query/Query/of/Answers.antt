use Rattle.std.proofs.Common.{◌≡◌, subst, sym, IsTrue, [], length}
use Rattle.formula_table.specs.declared.table.Table.{Table}
use Rattle.formula_table.specs.Closures.{closure_of}
use Rattle.formula_table.specs.Tables.{closure_in}
use Rattle.tableau_rules.specs.Nodes.{with_numbers_of}
use Rattle.tableau_rules.specs.NumberedCores.{cores_at, are_below}
use Rattle.tableau_rules.specs.SameCores.{are_same}
use Rattle.tableau_rules.proofs.QueryClosures.{are_same_of}
use Rattle.tableau_rules.proofs.query.Query.of.Goals as goal

pub invariant_of-result : goal.invariant_of-result
invariant_of-result c =
    let numbers = c.args.begun.numbers.items in
    let table = sym c.in_ok-formulas.ensures in
    record {
      closed = subst (λ (t : Table). IsTrue (are_same (closure_in t) (closure_of (cores_at (closure_in t) numbers)))) table (are_same_of _ _ c.requires.closed);
      inside = subst (λ (t : Table). IsTrue (are_below (length (closure_in t)) numbers)) table c.requires.inside;
      started = subst (λ (t : Table). c.args.begun.start ≡ with_numbers_of (closure_in t) (cores_at (closure_in t) numbers) []) table c.requires.started;
    }
