-- What an answerer may answer for a query and a budget.
use Rattle.std.specs.Prelude.{◌≡◌, ℕ, ◌≤◌, List, length}
use Rattle.temporal_logic.specs.Lassos.{trace_of, IsOfSpace}
use Rattle.bound_unfolding.specs.CoreForm.{CoreForm}
use Rattle.tableau_rules.specs.declared.answer.Answer.{Answer}
use Rattle.tableau_rules.specs.declared.answer.Answer.TheVariants.{Empty, Found, Withheld}
use Rattle.tableau_rules.specs.Queries.{MeetsAll}
use Rattle.tableau_rules.specs.Certificates.{IsValid}
use Rattle.tableau_rules.specs.CertView.{cert_of}
use Rattle.tableau_rules.specs.Graphs.{HasSize, IsWithin, IsLarger}

-- within the budget a valid certificate with no more nodes than the size, or a lasso that meets the cores; else nothing but the budget
abbrev pub IsValidAnswer : List ℕ → List CoreForm → ℕ → Answer → Type 0
IsValidAnswer sizes cores budget (Empty cert) =
    (size : ℕ) × HasSize sizes cores size × (size ≤ budget) × IsValid sizes cores (cert_of cert) × (length (cert_of cert) ≤ size)
IsValidAnswer sizes cores budget (Found lasso) = IsWithin sizes cores budget × IsOfSpace sizes lasso × MeetsAll (trace_of lasso) cores
IsValidAnswer sizes cores budget (Withheld number) = (number ≡ budget) × IsLarger sizes cores budget
