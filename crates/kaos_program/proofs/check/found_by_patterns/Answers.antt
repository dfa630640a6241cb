use Rattle.std.proofs.Common.{◌≡◌, ◌+◌, ◌++◌, ◌∙◌, List, [], ◌∷◌, take, ap, sym, subst}
use Rattle.std.specs.List.{AllZip}
use Rattle.std.proofs.lemmas.List.{append-nil}
use Rattle.std.proofs.lemmas.Slice.Zip.{all_zipped_more}
use Rattle.goal_model.specs.declared.pattern.PatternKind.{PatternKind}
use Rattle.kaos_program.specs.declared.asking.Asked.{Asked}
use Rattle.kaos_program.specs.Asking.{pattern_in, patterns_in}
use Rattle.kaos_program.proofs.AskedDemands.{patterns_more}
use Rattle.kaos_program.proofs.AskedEntries.{IsPatternAnswer}
use Rattle.kaos_program.proofs.check.found_by_patterns.Goals as goal
use Rattle.kaos_program.proofs.check.found_by_patterns.Goals.{in-Instance+in_ok-pattern_answer-in-Instance+in_ok-push-in-Instance, in-Demand, in-Assignment}

pub asked-preserved : goal.asked-preserved
asked-preserved g c =
    let asked = c.args.asked.now in
    let k = c.asked.one-index in
    let one = c.one-item.result in
    let before = patterns_in (take k asked) in
    let R = IsPatternAnswer c.args.budget in
    let more : patterns_in (take (k + 1) asked) ≡ before ++ pattern_in one = patterns_more asked k one c.asked-test.true c.one-item.is in
    elim c.match-one.branch [
      | in-Instance+in_ok-pattern_answer-in-Instance+in_ok-push-in-Instance w ↦ rw w.answers-is (
          subst (λ (ks : List PatternKind). AllZip R ks w.push.new.self.items) (sym (more ∙ ap (λ (x : Asked). before ++ pattern_in x) w.in-Instance.is))
          (subst (AllZip R (before ++ w.in-Instance.kind ∷ [])) (sym w.in_ok-push-in-Instance.ensures.items)
          (all_zipped_more R before c.asked.answers.items w.in-Instance.kind w.in_ok-pattern_answer-in-Instance.field-0 c.asked.invariant w.in_ok-pattern_answer-in-Instance.ensures.valid))
          )
      | in-Demand w ↦ rw w.answers-is (subst (λ (ks : List PatternKind). AllZip R ks c.asked.answers.items) (sym (more ∙ ap (λ (x : Asked). before ++ pattern_in x) w.in-Demand.is ∙ append-nil before)) c.asked.invariant)
      | in-Assignment w ↦ rw w.answers-is (subst (λ (ks : List PatternKind). AllZip R ks c.asked.answers.items) (sym (more ∙ ap (λ (x : Asked). before ++ pattern_in x) w.in-Assignment.is ∙ append-nil before)) c.asked.invariant)
    ]
