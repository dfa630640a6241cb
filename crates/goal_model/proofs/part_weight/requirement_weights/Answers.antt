use Rattle.std.proofs.Common.{◌≡◌, ◌<◌, ◌≤◌, ◌∙◌, List, length, map, get_or, sym, ap, subst, arith}
use Rattle.std.proofs.lemmas.List.{length-map, take_all}
use Rattle.state_space.specs.Spaces.{ranges, sizes}
use Rattle.temporal_logic.specs.Ltl.{Ltl}
use Rattle.temporal_logic.specs.Fits.{Fits}
use Rattle.goal_model.specs.declared.item.Part.TheVariants.{Requirement as RequirementPart}
use Rattle.goal_model.specs.declared.contents.Requirement.{Requirement}
use Rattle.goal_model.specs.Models.{RequirementForm, contents_of, requirement_of}
use Rattle.goal_model.specs.Items.{no_requirement, requirement_formula}
use Rattle.goal_model.specs.Sizes.{both_weights}
use Rattle.goal_model.proofs.Tables.{all_at, viewed_at}
use Rattle.goal_model.proofs.SizedItems.{part_fits}
use Rattle.goal_model.proofs.WeighedParts.{weighed_more}
use Rattle.goal_model.proofs.part_weight.requirement_weights.Goals as goal

pub compiled-requires : goal.compiled-requires
compiled-requires c =
    let m = contents_of c.args.contents.now in
    let all = c.args.contents.now.requirements.items in
    let inside : c.requirements.requirement-index < length all = rw c.deref-requirement-items.ensures.value at c.requirements-test.true in
    let item : c.requirement-item.result ≡ get_or all c.requirements.requirement-index c.requirement-item.result = rw c.deref-requirement-items.ensures.value at c.requirement-item.is in
    (all_at (λ (r : RequirementForm). (r.operation < length m.operations) × Fits m.ranges r.formula) requirement_of all c.requirements.requirement-index c.requirement-item.result inside item c.requires.requirements).0

pub weigh-requires : goal.weigh-requires
weigh-requires c =
    let m = contents_of c.args.contents.now in
    let all = c.args.contents.now.requirements.items in
    let inside : c.requirements.requirement-index < length all = rw c.deref-requirement-items.ensures.value at c.requirements-test.true in
    let item : c.requirement-item.result ≡ get_or all c.requirements.requirement-index c.requirement-item.result = rw c.deref-requirement-items.ensures.value at c.requirement-item.is in
    let there : c.requirements.requirement-index < length (map requirement_of all) = omega (arith, inside, length-map all requirement_of) in
    subst (λ (f : Ltl). Fits (ranges c.args.contents.now.space) f)
    (sym (c.in_ok-formula.ensures ∙ viewed_at requirement_of (requirement_formula m) all c.requirements.requirement-index c.requirement-item.result no_requirement inside item))
    (part_fits m c.requires (RequirementPart c.requirements.requirement-index) there)

pub requirements-preserved : goal.requirements-preserved
requirements-preserved c =
    let m = contents_of c.args.contents.now in
    let all = c.args.contents.now.requirements.items in
    let inside : c.requirements.requirement-index < length all = rw c.deref-requirement-items.ensures.value at c.requirements-test.true in
    let item : c.requirement-item.result ≡ get_or all c.requirements.requirement-index c.requirement-item.result = rw c.deref-requirement-items.ensures.value at c.requirement-item.is in
    let one = c.weigh.ensures ∙ ap (both_weights (sizes c.args.contents.now.space)) c.in_ok-formula.ensures in
    rw c.in_ok-push.ensures.items (weighed_more requirement_of (λ (r : RequirementForm). both_weights (sizes c.args.contents.now.space) (requirement_formula m r)) c.requirements.weights.items all c.requirements.requirement-index c.requirement-item.result c.weigh.result inside item one c.requirements.invariant)

pub returns : goal.returns
returns c =
    let m = contents_of c.args.contents.now in
    let all = c.args.contents.now.requirements.items in
    let past : length all ≤ c.requirements.requirement-index = rw c.deref-requirement-items.ensures.value at c.requirements-test.false in
    c.requirements.invariant ∙ ap (λ (rs : List Requirement). map (λ (r : RequirementForm). both_weights (sizes c.args.contents.now.space) (requirement_formula m r)) (map requirement_of rs)) (take_all c.requirements.requirement-index all past)
