-- A complete operationalisation that holds makes its goal true on each trace of its operations.
use Rattle.std.proofs.Common.{ℕ, List, [], ◌∷◌, None, subst, sym}
use Rattle.std.specs.List.{AllZip}
use Rattle.goal_model.specs.declared.item.Wanted.TheVariants.{NoTrace}
use Rattle.goal_model.specs.Models.{ModelForm}
use Rattle.goal_model.specs.Items.{operation_complete_item}
use Rattle.operationalisation.proofs.OperationLaws.{complete_stands}
use Rattle.verdict_report.specs.declared.report.Verdict.TheVariants.{Holds}
use Rattle.verdict_report.specs.declared.report.Entry.{Entry}
use Rattle.verdict_report.specs.Laws.{Tells}
use Rattle.verdict_report.specs.Reports.{Question, IsEntry}
use Rattle.verdict_report.proofs.VerdictLaws.{right_tells}
use Rattle.kaos_program.specs.Achievements.{IsAchieved}

module _ (m : ModelForm) (budget : ℕ) where
  achieved : (q : Question) (e : Entry) → IsEntry m budget q e → IsAchieved m q e
  achieved q e right statement goal requirements asked holds =
      let item = operation_complete_item m statement goal requirements in
      let entry = subst (λ (x : Question). IsEntry m budget x e) (sym asked) right in
      let tells : Tells m budget NoTrace item.parts None Holds = subst (Tells m budget NoTrace item.parts None) holds (right_tells m budget NoTrace item.parts None e.verdict e.evidence entry.2) in
      (complete_stands m statement goal requirements).0 tells.0

  -- and so do all of a report
  pub all_achieved : (qs : List Question) (es : List Entry) → AllZip (IsEntry m budget) qs es → AllZip (IsAchieved m) qs es
  all_achieved [] [] right = tt
  all_achieved [] (e ∷ es) right = absurd right
  all_achieved (q ∷ qs) [] right = absurd right
  all_achieved (q ∷ qs) (e ∷ es) right = (achieved q e right.0, all_achieved qs es right.1)
