use Rattle.std.proofs.Common.{ap, ◌∙◌, true, take, length, arith}
use Rattle.std.proofs.lemmas.Simd.{map-map}
use Rattle.state_space.specs.Spaces.{sizes}
use Rattle.temporal_logic.specs.declared.formula.Formula.{Formula}
use Rattle.temporal_logic.specs.Trees.{tree_of}
use Rattle.bound_unfolding.specs.CoreTree.{core_tree}
use Rattle.formula_table.specs.Closures.{closure_of}
use Rattle.formula_table.specs.Tables.{closure_in}
use Rattle.tableau_rules.proofs.QueryClosures.{room_for}
use Rattle.tableau_rules.proofs.query.Query.of_formulas.Goals as goal

pub add_formula-requires-clause-room : goal.add_formula-requires-clause-room
add_formula-requires-clause-room c =
    let list = c.args.list.now in
    let k = c.formulas.formula-index in
    let core = core_tree (sizes c.args.space.now) true in
    let all = ap (λ cs. length (closure_of cs)) (map-map core tree_of list) in
    room_for (λ (f : Formula). core (tree_of f)) list k c.formula-item.result c.formulas-test.true c.formula-item.is (closure_in c.formulas.begun.table)
    (c.formulas.invariant.begun.closed ∙ ap closure_of (c.formulas.invariant.so_far ∙ map-map core tree_of (take k list)))
    4096 (omega (arith, all, c.requires.small.formulas))
