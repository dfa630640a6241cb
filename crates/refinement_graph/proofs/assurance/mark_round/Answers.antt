use Rattle.std.proofs.Common.{◌≡◌, ℕ, ◌<◌, List, true, false, Some, length, refl, ap, sym, subst, ◌∙◌, arith}
use Rattle.std.specs.Prelude.{slice_index_or}
use Rattle.std.proofs.lemmas.Bool.{true≢false}
use Rattle.std.proofs.lemmas.List.{length-map}
use Rattle.goal_model.specs.Models.{LinkForm, LinkIsOf, link_of}
use Rattle.goal_model.specs.ModelViews.{model_of}
use Rattle.goal_model.specs.Items.{no_link}
use Rattle.goal_model.proofs.Tables.{viewed_at}
use Rattle.refinement_graph.specs.Assurance.{link_at}
use Rattle.goal_model.specs.Marking.{IsMarked}
use Rattle.refinement_graph.specs.Marking.{HasMarks, supported, MarksSupported}
use Rattle.refinement_graph.proofs.MarkedGoals.{marks_of_link, round_same, round_new}
use Rattle.refinement_graph.proofs.assurance.mark_round.Goals as goal
use Rattle.refinement_graph.proofs.assurance.mark_round.Goals.{then-held-place+then-mark_supported, else-held-place, else-held-place-via-then-held-place+else-mark_supported, else-held-place-via-else-held-place}

pub mark_supported-requires : goal.mark_supported-requires
mark_supported-requires c =
    let m = model_of c.args.model.now in
    let inside : c.links.place < length m.links = omega (arith, c.links-test.true, length-map c.links-links.result.now link_of, ap length c.links-links.ensures) in
    let here : link_at m c.links.place ≡ link_of c.index-links-place.result =
    ap (λ (ls : List LinkForm). slice_index_or ls c.links.place no_link) (sym c.links-links.ensures) ∙ sym (viewed_at link_of (λ l. l) c.links-links.result.now c.links.place c.index-links-place.result no_link c.links-test.true c.index-links-place.is) in
    let size : length m.goals ≡ length c.links.marks = sym (c.links.invariant.size ∙ c.requires.goals) in
    subst (λ n. HasMarks n (link_of c.index-links-place.result)) size (marks_of_link m _ (subst (LinkIsOf m) here (c.args.model.now.well_formed.parts.links c.links.place no_link inside)))

pub links-preserved : goal.links-preserved
links-preserved c =
    let m = model_of c.args.model.now in
    let held = c.args.held.now in
    let n = c.links.place in
    let before = c.args.marks.now in
    let inside : n < length m.links = omega (arith, c.links-test.true, length-map c.links-links.result.now link_of, ap length c.links-links.ensures) in
    let here : link_at m n ≡ link_of c.index-links-place.result =
    ap (λ (ls : List LinkForm). slice_index_or ls n no_link) (sym c.links-links.ensures) ∙ sym (viewed_at link_of (λ l. l) c.links-links.result.now n c.index-links-place.result no_link c.links-test.true c.index-links-place.is) in
    elim c.if-held-place.branch [
      | then-held-place+then-mark_supported w ↦ rw (w.marks-is, w.is_new-is) (round_new m held n before c.links.marks w.mark_supported.new.marks c.links.is_new inside w.if-held-place.true (subst (λ link. MarksSupported link c.links.marks w.mark_supported.new.marks true) (sym here) w.if-mark_supported.ensures) c.links.invariant)
      | else-held-place w ↦ elim w.else-held-place.branch [
        | else-held-place-via-then-held-place+else-mark_supported v ↦
            let step : MarksSupported (link_at m n) c.links.marks v.mark_supported.new.marks false = subst (λ link. MarksSupported link c.links.marks v.mark_supported.new.marks false) (sym here) v.if-mark_supported.ensures in
            let unchanged : w.else-held-place.marks ≡ c.links.marks = v.marks-is ∙ step.same refl in
            let done = λ (marked : IsMarked held n) (g : ℕ) (gives : supported c.links.marks (link_at m n) ≡ Some g). subst (λ marks. IsMarked marks g) (step.same refl) (step.done g gives) in
            rw (w.marks-is, w.is_new-is, unchanged) (round_same m held n before c.links.marks c.links.is_new done c.links.invariant)
        | else-held-place-via-else-held-place v ↦
            let unset = λ (marked : IsMarked held n) (g : ℕ) (gives : supported c.links.marks (link_at m n) ≡ Some g). absurd (true≢false (sym marked ∙ v.if-held-place.false)) in
            rw (w.marks-is, w.is_new-is, v.marks-is) (round_same m held n before c.links.marks c.links.is_new unset c.links.invariant)
      ]
    ]
