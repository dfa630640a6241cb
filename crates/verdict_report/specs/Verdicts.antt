-- What is found of the parts that a demand is of, and the verdict that it gives; and the verdict on an assignment.
use Rattle.std.specs.Prelude.{◌≡◌, ℕ, ◌≤◌, Bool, List, length, Option, Some, None}
use Rattle.temporal_logic.specs.Lassos.{trace_of, IsOfSpace}
use Rattle.tableau_rules.specs.declared.answer.Answer.{Answer}
use Rattle.tableau_rules.specs.declared.answer.Answer.TheVariants.{Empty, Found, Withheld}
use Rattle.tableau_rules.specs.Certificates.{IsValid}
use Rattle.tableau_rules.specs.CertView.{cert_of}
use Rattle.tableau_rules.specs.Graphs.{HasSize, IsWithin, IsLarger}
use Rattle.goal_model.specs.declared.item.Part.{Part}
use Rattle.goal_model.specs.declared.item.Wanted.{Wanted}
use Rattle.goal_model.specs.declared.item.Wanted.TheVariants.{NoTrace, SomeTrace}
use Rattle.goal_model.specs.declared.pattern.PatternKind.{PatternKind}
use Rattle.goal_model.specs.Models.{ModelForm, sizes_of}
use Rattle.goal_model.specs.Conditions.{MeetsParts, HasTrace}
use Rattle.agent_capabilities.specs.declared.cover.Cover.{Cover}
use Rattle.agent_capabilities.specs.declared.cover.Cover.TheVariants.{Covered}
use Rattle.agent_capabilities.specs.Coverage.{cover_of, coverage_at}
use Rattle.verdict_report.specs.Deciding.{formulas_of, IsDecidedBy, deciding_sizes, deciding_cores}
use Rattle.verdict_report.specs.declared.report.Verdict.{Verdict}
use Rattle.verdict_report.specs.declared.report.Verdict.TheVariants as verdicts
use Rattle.verdict_report.specs.declared.report.Evidence.{Evidence}
use Rattle.verdict_report.specs.declared.report.Evidence.TheVariants as evidences

-- what is found of parts under a budget, where this pattern decides or none: where the tableau of the deciding query has no more nodes than
-- the budget, a valid certificate with no more nodes than the tableau, and no trace meets the parts; or a lasso of the space that meets them.
-- Else nothing but the budget
abbrev pub IsFound : ModelForm → (by : Option PatternKind) → ℕ → List (Part × Bool) → Answer → Type 0
IsFound m by budget parts (Empty cert) =
    (HasTrace m parts → ⊥) × (size : ℕ) × HasSize (deciding_sizes m by) (deciding_cores m by parts) size × (size ≤ budget) × IsValid (deciding_sizes m by) (deciding_cores m by parts) (cert_of cert)
    × (length (cert_of cert) ≤ size)
IsFound m by budget parts (Found lasso) = IsOfSpace (sizes_of m) lasso × MeetsParts m (trace_of lasso) parts × IsWithin (deciding_sizes m by) (deciding_cores m by parts) budget
IsFound m by budget parts (Withheld number) = (number ≡ budget) × IsLarger (deciding_sizes m by) (deciding_cores m by parts) budget

-- the verdict on a demand of which this is found
abbrev pub verdict_of : Wanted → Answer → Verdict
verdict_of NoTrace (Empty cert) = verdicts.Holds
verdict_of NoTrace (Found lasso) = verdicts.Fails
verdict_of SomeTrace (Empty cert) = verdicts.Fails
verdict_of SomeTrace (Found lasso) = verdicts.Holds
verdict_of wanted (Withheld number) = verdicts.Withheld number

-- what is shown of it
abbrev pub evidence_of : (by : Option PatternKind) → Answer → Evidence
evidence_of None (Empty cert) = evidences.Elimination cert
evidence_of (Some kind) (Empty cert) = evidences.ByPattern kind cert
evidence_of by (Found lasso) = evidences.Trace lasso
evidence_of by (Withheld number) = evidences.Nothing

-- a verdict and its evidence are right of the parts of which this is wanted, for which a pattern may be named, under a budget
pub record IsRight (m : ModelForm) (budget : ℕ) (wanted : Wanted) (parts : List (Part × Bool)) (named : Option PatternKind) (said : Verdict) (shown : Evidence) : Type 0 where
  pub by : Option PatternKind
  pub decided : IsDecidedBy (formulas_of m parts) named by
  pub answer : Answer
  pub found : IsFound m by budget parts answer
  pub verdict : said ≡ verdict_of wanted answer
  pub evidence : shown ≡ evidence_of by answer

-- the verdict on an assignment to an agent that covers the goal so
abbrev pub cover_verdict : Cover → Verdict
cover_verdict Covered = verdicts.Holds
cover_verdict lacking = verdicts.Fails

-- what is shown of it: what the agent lacks
abbrev pub cover_evidence : Cover → Evidence
cover_evidence Covered = evidences.Nothing
cover_evidence lacking = evidences.Offending lacking

-- a verdict and its evidence are right of the assignment of a goal to an agent
pub record IsRightCover (m : ModelForm) (goal agent : ℕ) (said : Verdict) (shown : Evidence) : Type 0 where
  pub cover : Cover
  pub covers : cover_of cover ≡ coverage_at m goal agent
  pub verdict : said ≡ cover_verdict cover
  pub evidence : shown ≡ cover_evidence cover
