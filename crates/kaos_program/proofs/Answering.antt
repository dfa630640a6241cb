-- From what the parts answer to what is answered to the bytes.
use Rattle.std.proofs.Common.{◌≡◌, ℕ, ◌≤◌, ◌⊎◌, Bool, List, length, Some, None, ⊎_elim, sym, subst}
use Rattle.std.specs.Prelude.{Option}
use Rattle.std.specs.List.{AllZip}
use Rattle.model_text.specs.declared.text.TextRefusal.{TextRefusal}
use Rattle.model_text.specs.declared.text.TextRefusal.TheVariants as texts
use Rattle.model_text.specs.Statements.{StatementForm}
use Rattle.model_text.specs.Readability.{IsReadable, Refuses}
use Rattle.goal_model.specs.declared.refusal.RefusalKind.{RefusalKind}
use Rattle.goal_model.specs.Models.{ModelForm}
use Rattle.goal_model.specs.Resolution.{refuses, outcome_of}
use Rattle.verdict_report.specs.declared.report.Report.{Report}
use Rattle.obstacle_regression.specs.declared.standing.Standing.{Standing}
use Rattle.obstacle_regression.specs.Candidates.{FoundForm}
use Rattle.obstacle_regression.specs.Regressions.{goal_regression}
use Rattle.obstacle_regression.specs.Standings.{StandsSo}
use Rattle.kaos_program.specs.declared.status.Status.{Status}
use Rattle.kaos_program.specs.declared.status.Status.TheVariants as statuses
use Rattle.kaos_program.specs.Statuses.{status_of_truths}
use Rattle.kaos_program.specs.Commands.{CommandForm, regress, trace}
use Rattle.kaos_program.specs.Truths.{AreTruths}
use Rattle.kaos_program.specs.Regressing.{goal_named, status_of_standings, regression_text}
use Rattle.kaos_program.specs.RefusalTexts.{text_refusal, model_refusal, no_goal}
use Rattle.kaos_program.specs.TruthTexts.{truths_text}
use Rattle.kaos_program.specs.Answering.{IsAccepted, IsRefused, a_text, its_statements, Answers, a_refusal, no_such_goal, candidates, truths}

-- a cause that is not want of memory
pub text_cause : (bytes : List ℕ) (e : TextRefusal) → (e ≡ texts.Memory) ⊎ Refuses bytes e → (e ≡ texts.Memory → ⊥) → Refuses bytes e
text_cause bytes e either other = ⊎_elim (λ h. absurd (other h)) (λ h. h) either

pub text_line : (bytes : List ℕ) (e : TextRefusal) (line : List ℕ) → length bytes ≤ 1048576 → Refuses bytes e → line ≡ text_refusal e → IsRefused bytes line
text_line bytes e line size cause is = rw is (a_text e size cause)

pub model_line : (bytes : List ℕ) (ss : List StatementForm) (kind : RefusalKind) (statement : ℕ) (name line : List ℕ) → length bytes ≤ 1048576 → IsReadable bytes ss → outcome_of ss ≡ refuses kind statement name
    → line ≡ model_refusal kind statement name → IsRefused bytes line
model_line bytes ss kind statement name line size read cause is = rw is (its_statements ss kind statement name size read cause)

pub traced : (bytes : List ℕ) (ss : List StatementForm) (m : ModelForm) (rows : List (List Bool)) (status : Status) (out : List ℕ) → IsAccepted bytes ss m → AreTruths m rows → status ≡ status_of_truths rows → out ≡ truths_text m rows
    → Answers bytes trace status None out
traced bytes ss m rows status out a right s o = rw (s, o) (truths ss m rows a right)

pub refused_line : (command : CommandForm) (bytes line : List ℕ) (status : Status) (report : Option Report) (out : List ℕ) → IsRefused bytes line → status ≡ statuses.Refused → report ≡ None → out ≡ line
    → Answers bytes command status report out
refused_line command bytes line status report out refused s r o = rw (s, r, o) (a_refusal command line refused)

pub unnamed : (bytes : List ℕ) (ss : List StatementForm) (m : ModelForm) (name : List ℕ) (depth budget : ℕ) (status : Status) (report : Option Report) (out : List ℕ) → IsAccepted bytes ss m → None ≡ goal_named m name
    → status ≡ statuses.Refused → report ≡ None → out ≡ no_goal name → Answers bytes (regress name depth budget) status report out
unnamed bytes ss m name depth budget status report out a none s r o = rw (s, r, o) (no_such_goal ss m name depth budget a (sym none))

pub told_candidates : (bytes : List ℕ) (ss : List StatementForm) (m : ModelForm) (name : List ℕ) (goal depth budget : ℕ) (found : FoundForm) (standings : List Standing) (status : Status) (out : List ℕ) → IsAccepted bytes ss m
    → Some goal ≡ goal_named m name → found ≡ goal_regression m goal depth → AllZip (StandsSo m budget) found.list standings → status ≡ status_of_standings standings → out ≡ regression_text budget m found standings
    → Answers bytes (regress name depth budget) status None out
told_candidates bytes ss m name goal depth budget found standings status out a named is stand s o =
    rw (s, o) (subst (λ (f : FoundForm). Answers bytes (regress name depth budget) (status_of_standings standings) None (regression_text budget m f standings)) (sym is)
    (candidates ss m name goal depth budget standings a (sym named) (subst (λ (f : FoundForm). AllZip (StandsSo m budget) f.list standings) is stand)))
