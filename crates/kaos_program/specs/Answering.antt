-- What is answered to the bytes of a text under each command.
use Rattle.std.specs.Prelude.{◌≡◌, ℕ, ◌<◌, ◌≤◌, Bool, List, length, Option, Some, None}
use Rattle.std.specs.List.{AllZip}
use Rattle.model_text.specs.declared.text.TextRefusal.{TextRefusal}
use Rattle.model_text.specs.Statements.{StatementForm}
use Rattle.model_text.specs.Readability.{IsReadable, Refuses}
use Rattle.goal_model.specs.declared.refusal.RefusalKind.{RefusalKind}
use Rattle.goal_model.specs.Models.{ModelForm}
use Rattle.goal_model.specs.Resolution.{made, refuses, outcome_of}
use Rattle.verdict_report.specs.declared.form.Form.{Form}
use Rattle.verdict_report.specs.declared.report.Report.{Report}
use Rattle.verdict_report.specs.Reports.{questions_of, Reports}
use Rattle.verdict_report.specs.ReportTexts.{report_text}
use Rattle.obstacle_regression.specs.declared.standing.Standing.{Standing}
use Rattle.obstacle_regression.specs.Regressions.{goal_regression}
use Rattle.obstacle_regression.specs.Standings.{StandsSo}
use Rattle.kaos_program.specs.declared.status.Status.{Status}
use Rattle.kaos_program.specs.declared.status.Status.TheVariants as statuses
use Rattle.kaos_program.specs.Statuses.{status_of, status_of_truths}
use Rattle.kaos_program.specs.Commands.{CommandForm, check, regress, trace}
use Rattle.kaos_program.specs.Achievements.{IsAchieved}
use Rattle.kaos_program.specs.Truths.{AreTruths}
use Rattle.kaos_program.specs.Regressing.{goal_named, status_of_standings, regression_text}
use Rattle.kaos_program.specs.RefusalTexts.{too_long_text, text_refusal, model_refusal, no_goal}
use Rattle.kaos_program.specs.TruthTexts.{truths_text}

-- the bytes are within their limit and spell these statements, which make this model
pub record IsAccepted (bytes : List ℕ) (statements : List StatementForm) (m : ModelForm) : Type 0 where
  pub size : length bytes ≤ 1048576
  pub readable : IsReadable bytes statements
  pub made : outcome_of statements ≡ made m

-- the line for a text that is not accepted: it is too long, it has no statements, or these make no model
pub data IsRefused (bytes : List ℕ) : List ℕ → Type 0 where
  too_long : 1048576 < length bytes → IsRefused bytes too_long_text
  a_text : (e : TextRefusal) → length bytes ≤ 1048576 → Refuses bytes e → IsRefused bytes (text_refusal e)
  its_statements : (ss : List StatementForm) (kind : RefusalKind) (statement : ℕ) (name : List ℕ) → length bytes ≤ 1048576 → IsReadable bytes ss
      → outcome_of ss ≡ refuses kind statement name → IsRefused bytes (model_refusal kind statement name)

-- the status, the report and the output that bytes have under a command: a text that is not accepted is refused; else there is the report
-- that answers each question under the budget, in the form that is asked for, in which a complete operationalisation that holds makes its
-- goal true on each trace of its operations; or the candidates for obstacles of the goal that is named, found at the depth that is asked
-- for, each as it stands under the budget, and a refusal where there is no such goal; or the truth of each goal on each trace
pub data Answers (bytes : List ℕ) : CommandForm → Status → Option Report → List ℕ → Type 0 where
  a_refusal : (command : CommandForm) (line : List ℕ) → IsRefused bytes line → Answers bytes command statuses.Refused None line
  a_report : (ss : List StatementForm) (m : ModelForm) (budget : ℕ) (form : Form) (report : Report) → IsAccepted bytes ss m → Reports m budget report
      → AllZip (IsAchieved m) (questions_of m) report.entries.items → Answers bytes (check budget form) (status_of report) (Some report) (report_text form m.names m.ranges report)
  no_such_goal : (ss : List StatementForm) (m : ModelForm) (name : List ℕ) (depth budget : ℕ) → IsAccepted bytes ss m → goal_named m name ≡ None
      → Answers bytes (regress name depth budget) statuses.Refused None (no_goal name)
  candidates : (ss : List StatementForm) (m : ModelForm) (name : List ℕ) (goal depth budget : ℕ) (standings : List Standing) → IsAccepted bytes ss m → goal_named m name ≡ Some goal
      → AllZip (StandsSo m budget) (goal_regression m goal depth).list standings
      → Answers bytes (regress name depth budget) (status_of_standings standings) None (regression_text budget m (goal_regression m goal depth) standings)
  truths : (ss : List StatementForm) (m : ModelForm) (rows : List (List Bool)) → IsAccepted bytes ss m → AreTruths m rows
      → Answers bytes trace (status_of_truths rows) None (truths_text m rows)
