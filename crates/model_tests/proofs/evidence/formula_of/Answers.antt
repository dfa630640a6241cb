use Rattle.std.proofs.Common.{◌<◌, length, sym, subst, arith}
use Rattle.std.specs.Prelude.{All}
use Rattle.temporal_logic.specs.Fits.{Fits}
use Rattle.goal_model.specs.declared.contents.Goal.{Goal}
use Rattle.goal_model.specs.declared.contents.Property.{Property}
use Rattle.goal_model.specs.Models.{GoalForm, PropertyForm, goal_of, property_of}
use Rattle.goal_model.specs.ModelViews.{model_of}
use Rattle.model_tests.proofs.Images.{image_at}
use Rattle.model_tests.proofs.evidence.formula_of.Goals as goal

pub returns-in-Some : goal.returns-in-Some
returns-in-Some c =
    let P = λ (g : GoalForm). Fits (model_of c.args.model.now).ranges g.formula in
    let goals = c.goals-goals.result.now in
    let inside : c.in-Some.place < length goals = omega (arith, c.in-Some.ensures.bound, c.iter.ensures.len) in
    let all = subst (All P) (sym c.goals-goals.ensures) c.args.model.now.well_formed.parts.goals in
    record { fits = subst (λ (g : Goal). P (goal_of g)) c.index-goals-place.is (image_at P goal_of goals c.in-Some.place c.index-goals-place.result all inside c.index-goals-place.is) }

pub returns : goal.returns
returns c =
    let P = λ (p : PropertyForm). Fits (model_of c.args.model.now).ranges p.formula in
    let domains = c.domains-domains.result.now in
    let inside : c.in_ok-place.place < length domains = omega (arith, c.in_ok-place.ensures.bound, c.iter-2.ensures.len) in
    let all = subst (All P) (sym c.domains-domains.ensures) c.args.model.now.well_formed.parts.domains in
    record { fits = subst (λ (p : Property). P (property_of p)) c.index-domains-place.is (image_at P property_of domains c.in_ok-place.place c.index-domains-place.result all inside c.index-domains-place.is) }
