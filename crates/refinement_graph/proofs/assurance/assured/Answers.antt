use Rattle.std.proofs.Common.{◌≡◌, ℕ, Bool, List, false, ◌++◌, length, map, take, ap, sym, subst, ◌∙◌}
use Rattle.std.proofs.Math.Seq.{take-append_seam}
use Rattle.std.proofs.lemmas.List.{length-map}
use Rattle.goal_model.specs.Models.{GoalForm, ModelForm}
use Rattle.goal_model.specs.ModelViews.{model_of}
use Rattle.refinement_graph.specs.Assurance.{AreAssured, is_expected}
use Rattle.refinement_graph.specs.Marking.{IsRound}
use Rattle.refinement_graph.proofs.MarkedGoals.{expected_marked, round_ended}
use Rattle.refinement_graph.proofs.assurance.assured.Goals as goal

-- all of the marks were lent to the last round
all_lent : (m : ModelForm) (holds marks rest : List Bool) (n : ℕ) → n ≡ length marks → AreAssured m holds marks → AreAssured m holds (take n (marks ++ rest))
all_lent m holds marks rest n is are = subst (AreAssured m holds) (sym (ap (λ k. take k (marks ++ rest)) is ∙ take-append_seam marks rest)) are

pub rounds-init : goal.rounds-init
rounds-init c =
    let m = model_of c.args.model.now in
    let are : c.in_ok-marks.marks.items ≡ map (λ (g : GoalForm). g.is_expected) m.goals = c.in_ok-marks.ensures in
    record {
      size = ap length are ∙ length-map m.goals (λ (g : GoalForm). g.is_expected);
      begun = λ g inside expected. (expected_marked m.goals _ g are).1 (inside, expected);
      sound = λ g marked. let is = (expected_marked m.goals _ g are).0 marked in is_expected g is.0 is.1;
    }

pub returns : goal.returns
returns c =
    let m = model_of c.args.model.now in
    let holds = c.args.holds.now in
    let held = c.in_ok-held.held.items in
    let before = c.rounds.marks.items in
    let after = c.mark_round.new.marks in
    let round : IsRound m held before after false =
    subst (λ hs. IsRound m hs before after false) c.deref.ensures.value
    (subst (λ ms. IsRound m c.deref.result.now ms after false) c.deref_mut.ensures.value c.rounds-test.ensures) in
    all_lent m holds after _ c.rounds.marks.len (c.rounds.marks.ok.0 ∙ sym round.size)
    (round_ended m holds held before after c.in_ok-held.ensures c.rounds.invariant.size c.rounds.invariant.begun c.rounds.invariant.sound round)
