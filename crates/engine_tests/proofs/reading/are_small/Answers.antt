use Rattle.std.proofs.Common.{◌≡◌, ◌≤◌, List, length, map, true, subst, arith}
use Rattle.std.specs.Prelude.{All, min}
use Rattle.std.proofs.lemmas.Bool.{leb-true}
use Rattle.std.proofs.lemmas.List.{take_all}
use Rattle.state_space.specs.Spaces.{sizes}
use Rattle.temporal_logic.specs.declared.formula.Formula.{Formula}
use Rattle.temporal_logic.specs.Trees.{tree_of}
use Rattle.bound_unfolding.specs.CoreForm.{levels}
use Rattle.bound_unfolding.specs.CoreLists.{cores_of}
use Rattle.bound_unfolding.specs.CoreTree.{core_tree}
use Rattle.formula_table.specs.Closures.{closure_of}
use Rattle.engine_tests.proofs.SmallLists.{shallow_more}
use Rattle.engine_tests.proofs.reading.are_small.Goals as goal

pub formulas-preserved : goal.formulas-preserved
formulas-preserved c =
    let low : c.core_depth.result ≤ 1000 = omega (arith, c.if-core_depth-gt1000.false) in
    shallow_more (sizes c.args.space.now) c.args.list.now c.formulas.formula-index c.formula-item.result c.core_depth.result c.formulas-test.true c.formula-item.is c.core_depth.ensures.depth low c.formulas.invariant

pub returns : goal.returns
returns c = record {
  small = λ yes.
      let few = leb-true c.in_ok-distinct_size.field-0 4096 yes in
      let size : c.in_ok-distinct_size.field-0 ≡ min (length (closure_of (cores_of (sizes c.args.space.now) (map tree_of c.args.list.now)))) 4097 = c.in_ok-distinct_size.ensures in
      record {
        formulas = omega (arith, few, size);
        levels = subst (λ (fs : List Formula). All (λ f. levels (core_tree (sizes c.args.space.now) true f) ≤ 1000) (map tree_of fs)) (take_all c.formulas.formula-index c.args.list.now c.formulas-test.false) c.formulas.invariant;
      };
}
