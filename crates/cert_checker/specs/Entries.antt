-- Nodes of a certificate of the code, and the first fault among all of them or among a range.
use Rattle.std.specs.Prelude.{ℕ, ◌-◌, List, Option, map, take, drop}
use Rattle.std.specs.List.Sorted.{IsStrictlyIncreasing}
use Rattle.bound_unfolding.specs.CoreForm.{CoreForm}
use Rattle.formula_table.specs.Closures.{closure_of}
use Rattle.tableau_rules.specs.declared.node.Node.{Node}
use Rattle.tableau_rules.specs.declared.certificate.Mark.{Mark}
use Rattle.tableau_rules.specs.declared.certificate.CertNode.{CertNode}
use Rattle.tableau_rules.specs.Nodes.{NodeForm, root_of}
use Rattle.tableau_rules.specs.NodeView.{node_of}
use Rattle.tableau_rules.specs.CertView.{reason_of, cert_node_of}
use Rattle.tableau_rules.specs.Certificates.{CertNodeForm}
use Rattle.cert_checker.specs.declared.why.Why.{Why}
use Rattle.cert_checker.specs.Causes.{first_cause, first_fault}

-- the node with these kids and this mark
abbrev pub entry_by : Node → List ℕ → Mark → CertNodeForm
entry_by node kids mark = record { node = node_of node; kids = kids; rank = mark.rank; reason = reason_of mark.reason }

-- the nodes of a certificate of the code, in order
abbrev pub entries_of : List CertNode → List CertNodeForm
entries_of cert = map cert_node_of cert

-- the node's formulas are in ascending order
pub record IsAscending (node : NodeForm) : Type 0 where
  pub todo : IsStrictlyIncreasing node.todo
  pub next : IsStrictlyIncreasing node.next

-- the first bad node of a certificate for these cores, and its first cause
abbrev pub fault_of : List ℕ → List CoreForm → List CertNodeForm → Option (ℕ × Why)
fault_of full cores cert = first_fault (closure_of cores) full (root_of (closure_of cores) full cores) cert

-- the first bad node of those from a place on up to another, and its first cause
abbrev pub fault_in : List ℕ → List CoreForm → List CertNodeForm → ℕ → ℕ → Option (ℕ × Why)
fault_in full cores cert from to =
    first_cause (closure_of cores) full (root_of (closure_of cores) full cores) cert from (take (to - from) (drop from cert))
