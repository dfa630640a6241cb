-- The nodes of a certificate made one by one, in the order of the graph.
use Rattle.std.proofs.Common.{◌≡◌, ℕ, ◌<◌, List, [], ◌∷◌, ◌++◌, Some, length, get_or, map, inl, inr, sym, ap, subst, ◌∙◌, arith}
use Rattle.std.specs.Prelude.{slice_index_or}
use Rattle.std.proofs.lemmas.Bool.{cases_lt}
use Rattle.std.proofs.lemmas.List.{length-map, length-append, get_or_append_left, get_or_at, map_push}
use Rattle.tableau_rules.specs.declared.certificate.CertNode.{CertNode}
use Rattle.tableau_rules.specs.Walks.{no_node}
use Rattle.tableau_rules.specs.Certificates.{clash, CertNodeForm}
use Rattle.tableau_rules.specs.CertView.{cert_node_of}
use Rattle.tableau_rules.specs.Graphs.{GraphNodeForm}
use Rattle.tableau_rules.proofs.Linked.{no_graph_node, get_at, get_of}
use Rattle.tableau_elimination.specs.declared.cause.Cause.{Cause}
use Rattle.tableau_elimination.specs.Marks.{cause_at}
use Rattle.tableau_elimination.specs.CertNodes.{cert_node_by, IsCertOf}

abbrev pub no_entry : CertNodeForm
no_entry = record { node = no_node; kids = []; rank = 0; reason = clash }

module _ (graph : List GraphNodeForm) (ranks : List ℕ) (causes : List Cause) where
  abbrev entry : ℕ → CertNodeForm
  entry k = cert_node_by (slice_index_or graph k no_graph_node) (get_or ranks k 0) (cause_at causes k)

  -- the entries so far are those of the first nodes
  abbrev pub AreEntries : List CertNodeForm → Type 0
  AreEntries cert = (k : ℕ) → k < length cert → slice_index_or cert k no_entry ≡ entry k

  pub no_entries : AreEntries []
  no_entries k l = absurd (omega arith)

  pub one_more_entry : (cert : List CertNodeForm) (k : ℕ) (c : CertNodeForm) → length cert ≡ k → AreEntries cert → c ≡ entry k → AreEntries (cert ++ c ∷ [])
  one_more_entry cert k c size so_far is j jl = elim (cases_lt j (length cert)) [
    | inl b ↦ get_or_append_left cert (c ∷ []) no_entry j b ∙ so_far j b
    | inr b ↦
        let long = length-append cert (c ∷ []) in
        let q : j ≡ k = omega (arith, long) in
        subst (λ z. slice_index_or (cert ++ c ∷ []) z no_entry ≡ entry z) (sym q) (get_or_at cert c [] no_entry k size ∙ is)
  ]

  pub one_more_in_memory : (nodes more : List CertNode) (k : ℕ) (c : CertNode) → more ≡ nodes ++ c ∷ [] → length nodes ≡ k → AreEntries (map cert_node_of nodes) → cert_node_of c ≡ entry k
      → AreEntries (map cert_node_of more)
  one_more_in_memory nodes more k c e size so_far is =
      let long = length-map nodes cert_node_of in
      subst AreEntries (sym (ap (map cert_node_of) e ∙ map_push cert_node_of nodes c)) (one_more_entry (map cert_node_of nodes) k (cert_node_of c) (omega (arith, long, size)) so_far is)

  pub all_entries : (cert : List CertNodeForm) → length cert ≡ length graph → AreEntries cert → IsCertOf graph ranks causes cert
  all_entries cert size all = record {
    size = size;
    nodes = λ k g e.
        let r = get_at graph k g no_graph_node e in
        let l = r.0 in
        let l' : k < length cert = omega (arith, l, size) in
        get_of cert k no_entry l' ∙ ap Some (all k l' ∙ ap (λ x. cert_node_by x (get_or ranks k 0) (cause_at causes k)) r.1);
  }

  pub all_in_memory : (nodes : List CertNode) → length nodes ≡ length graph → AreEntries (map cert_node_of nodes) → IsCertOf graph ranks causes (map cert_node_of nodes)
  all_in_memory nodes size all = all_entries (map cert_node_of nodes) (length-map nodes cert_node_of ∙ size) all
