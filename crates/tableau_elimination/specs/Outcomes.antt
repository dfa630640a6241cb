-- What an elimination answers for a whole graph.
use Rattle.std.specs.Prelude.{ℕ, ◌≤◌, List, length}
use Rattle.bound_unfolding.specs.CoreForm.{CoreForm}
use Rattle.tableau_rules.specs.Certificates.{IsValid}
use Rattle.tableau_rules.specs.CertView.{cert_of}
use Rattle.tableau_rules.specs.Graphs.{GraphNodeForm}
use Rattle.tableau_rules.specs.Surviving.{Survives}
use Rattle.tableau_elimination.specs.declared.outcome.Outcome.{Outcome}
use Rattle.tableau_elimination.specs.declared.outcome.Outcome.TheVariants.{RootGone, RootStays}

-- a valid certificate with no more nodes than the graph, or a set from which a lasso can be built
abbrev pub IsOutcome : List ℕ → List CoreForm → List GraphNodeForm → Outcome → Type 0
IsOutcome sizes cores graph (RootGone cert) = IsValid sizes cores (cert_of cert) × (length (cert_of cert) ≤ length graph)
IsOutcome sizes cores graph (RootStays stays) = Survives cores graph stays.items
