use Rattle.std.proofs.Common.{◌<◌, ◌↔◌, length, sym, subst, arith}
use Rattle.std.specs.Prelude.{All, slice_index_or}
use Rattle.std.proofs.lemmas.Grind.{common_steps}
use Rattle.std.proofs.lemmas.List.{length-map}
use Rattle.std.proofs.lemmas.Result.{IfOk-weaker}
use Rattle.temporal_logic.specs.Fits.{Fits}
use Rattle.temporal_logic.specs.Ltl.{Ltl}
use Rattle.temporal_logic.specs.Truth.{Truth}
use Rattle.goal_model.specs.Models.{RequirementForm, requirement_of}
use Rattle.goal_model.specs.ModelViews.{model_of}
use Rattle.goal_model.specs.Items.{no_requirement}
use Rattle.goal_model.specs.Conditions.{MeetsRequirement}
use Rattle.goal_model.proofs.Tables.{all_at}
use Rattle.operationalisation.proofs.PartTruth.{requirement_true}
use Rattle.operationalisation.proofs.requirement.requirement_formula.Goals as goal

-- the operation of the requirement is one of the model
operation_known : (c : goal.After-operations) → c.index-requirements-place.result.operation < length c.operations.result.now
operation_known c =
    let m = model_of c.args.model.now in
    let P = λ (r : RequirementForm). (r.operation < length m.operations) × Fits m.ranges r.formula in
    let inside : c.args.place < length c.requirements.result.now = rw (← c.requirements.ensures, length-map) at c.requires.place in
    let all = subst (All P) (sym c.requirements.ensures) c.args.model.now.well_formed.parts.requirements in
    let known = (all_at P requirement_of c.requirements.result.now c.args.place c.index-requirements-place.result inside c.index-requirements-place.is all).0 in
    rw (← c.operations.ensures, length-map) at known

pub offset_bounds-operations-requirement : goal.offset_bounds-operations-requirement
offset_bounds-operations-requirement c = omega (arith, operation_known c, c.operations.type_inv)

pub bounds-operations-requirement : goal.bounds-operations-requirement
bounds-operations-requirement c = operation_known c

pub returns-clause-formula : goal.returns-clause-formula
returns-clause-formula c = grind (arith, common_steps)

pub returns-clause-met : goal.returns-clause-met
returns-clause-met c =
    let m = model_of c.args.model.now in
    let r = slice_index_or m.requirements c.args.place no_requirement in
    IfOk-weaker c.requirement_tree.result _ _ (λ f is t. subst (λ (g : Ltl). Truth t g 0 ↔ MeetsRequirement m t r) (sym is) (requirement_true m t r)) (returns-clause-formula c)
