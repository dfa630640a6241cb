-- The certificate that marks of a graph's places make.
use Rattle.std.specs.Prelude.{◌≡◌, ℕ, get_or, List, [], ◌∷◌, length, slice_get, Some}
use Rattle.tableau_rules.specs.Certificates.{ReasonForm, clash, dead, wait, CertNodeForm}
use Rattle.tableau_rules.specs.Graphs.{GraphNodeForm}
use Rattle.tableau_elimination.specs.declared.cause.Cause.{Cause}
use Rattle.tableau_elimination.specs.declared.cause.Cause.TheVariants.{Dead, Wait}
use Rattle.tableau_elimination.specs.Marks.{cause_at}

-- the reason that a cause is, of a node with these kids
abbrev pub reason_by : Cause → List ℕ → ReasonForm
reason_by (Wait e) kids = wait e
reason_by Dead [] = clash
reason_by Dead (p ∷ ps) = dead

-- a node of the graph as one of the certificate, with the mark of its place
abbrev pub cert_node_by : GraphNodeForm → ℕ → Cause → CertNodeForm
cert_node_by g rank cause = record { node = g.node; kids = g.kids; rank = rank; reason = reason_by cause g.kids }

-- the certificate has the nodes of the graph, in their order, with their marks
pub record IsCertOf (graph : List GraphNodeForm) (ranks : List ℕ) (causes : List Cause) (cert : List CertNodeForm) : Type 0 where
  pub size : length cert ≡ length graph
  pub nodes : (k : ℕ) (g : GraphNodeForm) → slice_get graph k ≡ Some g → slice_get cert k ≡ Some (cert_node_by g (get_or ranks k 0) (cause_at causes k))
