use Rattle.std.proofs.Common.{◌≡◌, suc, ◌<◌, true, List, ◌∷◌, length, map, drop, sym, ap, subst, ◌∙◌, arith, drop-cons}
use Rattle.std.specs.Prelude.{Result, Err, IsErrOf}
use Rattle.state_space.specs.Spaces.{sizes}
use Rattle.temporal_logic.specs.declared.formula.Formula.{Formula}
use Rattle.temporal_logic.specs.Trees.{tree_of}
use Rattle.bound_unfolding.specs.CoreForm.{CoreForm}
use Rattle.bound_unfolding.specs.CoreTree.{core_tree}
use Rattle.bound_unfolding.specs.CoreLists.{cores_of}
use Rattle.formula_table.specs.declared.table.PutRefusal.{PutRefusal}
use Rattle.formula_table.specs.declared.table.PutRefusal.TheVariants.{Full}
use Rattle.formula_table.specs.Closures.{with_core, with_cores}
use Rattle.formula_table.specs.Tables.{closure_in}
use Rattle.formula_table.proofs.Cores.{cores_kept}
use Rattle.formula_table.proofs.CorePuts.{handed_on}
use Rattle.formula_table.proofs.size.put_all.Goals as goal

pub returns-in_err-put_formula-clause-full : goal.returns-in_err-put_formula-clause-full
returns-in_err-put_formula-clause-full c =
    let list = c.args.list.now in
    let at = c.formulas.formula-index in
    let before = closure_in c.formulas.table in
    let cores = λ (xs : List Formula). cores_of (sizes c.args.space.now) (map tree_of xs) in
    let one = with_core (core_tree (sizes c.args.space.now) true (tree_of c.formula-item.result)) before in
    let next = drop-cons list at c.formula-item.result c.formulas-test.true ∙ ap (λ (f : Formula). f ∷ drop (suc at) list) (sym c.formula-item.is) in
    let all = sym (ap (λ (xs : List Formula). with_cores (cores xs) before) next) ∙ c.formulas.invariant in
    let kept = cores_kept (cores (drop (suc at) list)) one in
    let total = with_cores (cores list) (closure_in c.args.table.now) in
    let refusal = c.in_err-put_formula.field-0.0 in
    let full : refusal ≡ Full → 4096 < length total = λ e.
    let l : 4096 < length one = c.in_err-put_formula.ensures.full (ap Err e) in
    subst (λ (cl : List CoreForm). 4096 < length cl) all (omega (arith, l, kept.0))
    in
    handed_on (λ (r : Result (Unit {0}) PutRefusal). IsErrOf r Full → 4096 < length total) c.from_residual.result refusal c.from_residual.ensures.1 (λ e. full (cc))
