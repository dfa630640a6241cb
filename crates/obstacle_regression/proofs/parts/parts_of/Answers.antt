use Rattle.std.proofs.Common.{[], ◌∙◌, ap, sym, subst, arith}
use Rattle.std.specs.Prelude.{All}
use Rattle.bound_unfolding.specs.CoreView.{core_tree_of}
use Rattle.formula_table.specs.Closures.{with_core}
use Rattle.formula_table.specs.Tables.{IsSubformula}
use Rattle.formula_table.proofs.CoreLaws.{core_size}
use Rattle.obstacle_regression.proofs.Deriving.{closure_stands}
use Rattle.obstacle_regression.proofs.Halves.{all_mapped}
use Rattle.obstacle_regression.proofs.parts.parts_of.Goals as goal

pub take-requires-clause-room : goal.take-requires-clause-room
take-requires-clause-room c =
    let size = core_size (core_tree_of c.args.core.now) [] in
    rw c.new-2.ensures.empty (omega (arith, size, c.requires.small))

pub returns-clause-inside : goal.returns-clause-inside
returns-clause-inside c =
    let core = core_tree_of c.args.core.now in
    let met = c.in_ok-take.ensures.same ∙ c.in_ok-take.ensures.taken ∙ ap (with_core core) c.new-2.ensures.empty in
    all_mapped (λ l. IsSubformula l core) (λ p. core_tree_of p.now) c.take.new.self.list.items (subst (All (λ l. IsSubformula l core)) (sym met) (closure_stands core))
