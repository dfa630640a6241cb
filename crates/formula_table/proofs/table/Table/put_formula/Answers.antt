use Rattle.std.proofs.Common.{◌≤◌, List, length, subst, arith}
use Rattle.std.proofs.lemmas.Result.{on_ok_weaker}
use Rattle.state_space.specs.Spaces.{sizes}
use Rattle.temporal_logic.specs.Trees.{tree_of}
use Rattle.bound_unfolding.specs.CoreForm.{CoreForm}
use Rattle.bound_unfolding.specs.CoreTree.{core_tree}
use Rattle.formula_table.specs.Closures.{with_core}
use Rattle.formula_table.specs.Tables.{closure_in, IsSubformula}
use Rattle.formula_table.proofs.Cores.{part_only, core_only}
use Rattle.formula_table.proofs.Decodings.{decoded_length}
use Rattle.formula_table.proofs.table.Table.put_formula.Goals as goal

pub returns-clause-not_full : goal.returns-clause-not_full
returns-clause-not_full c =
    let new = closure_in c.put_signed.new.self in
    let e = decoded_length c.put_signed.new.self.shapes.keys in
    let few : length new ≤ 4096 = omega (arith, e, c.put_signed.new.self.few) in
    on_ok_weaker c.put_signed.result (λ p. subst (λ (cl : List CoreForm). length cl ≤ 4096) p few) c.put_signed.ensures.put.put

pub returns-clause-only : goal.returns-clause-only
returns-clause-only c =
    let old = closure_in c.args.self.now in
    let core = core_tree (sizes c.args.space.now) c.args.positive (tree_of c.args.f.now) in
    part_only (λ (d : CoreForm). IsSubformula d core) old (closure_in c.put_signed.new.self) (with_core core old) c.put_signed.ensures.put.part (core_only core old)
