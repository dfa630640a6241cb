use Rattle.std.proofs.Common.{◌≡◌, ℕ, ◌+◌, ◌<◌, List, ◌++◌, ◌∙◌, drop, get_or, sym, ap, subst, length, map, append_assoc}
use Rattle.std.specs.List.{All, flat_map}
use Rattle.std.proofs.lemmas.List.{length-map, at_drop_more}
use Rattle.state_space.specs.Spaces.{sizes}
use Rattle.tableau_rules.specs.declared.certificate.CertNode.{CertNode}
use Rattle.tableau_rules.specs.CertView.{cert_node_of, cert_of}
use Rattle.elimination_cert.specs.CertTexts.{first_line, node_text}
use Rattle.elimination_cert.proofs.Writing.{node_length}
use Rattle.elimination_cert.proofs.text.put_cert.Goals as goal

pub put_line-requires : goal.put_line-requires
put_line-requires c =
    let fits = subst (λ nodes. All (λ c'. length c'.node.now ≡ length (sizes c.args.space.now)) (map cert_node_of nodes)) (sym c.deref-entry-items.ensures.value) c.requires in
    node_length (sizes c.args.space.now) c.deref-entry-items.result.now c.nodes.entry-index c.entry-item.result fits c.nodes-test.true c.entry-item.is

pub nodes-init : goal.nodes-init
nodes-init c =
    let old = c.args.out.now.items in
    let indent = c.args.indent.now in
    let first = first_line (length (cert_of c.args.cert.now)) in
    let lines = flat_map (λ n. indent ++ node_text (sizes c.args.space.now) n) (cert_of c.args.cert.now) in
    let count : c.len.result ≡ length (cert_of c.args.cert.now) = c.len.ensures ∙ c.args.cert.now.nodes.ok.0 ∙ sym (length-map c.args.cert.now.nodes.items cert_node_of) in
    let front : c.put_front.new.out.items ≡ old ++ indent ++ first = c.in_ok-put_front.ensures ∙ ap (λ (n : ℕ). old ++ indent ++ first_line n) count in
    ap (λ (xs : List ℕ). xs ++ lines) (front ∙ append_assoc old indent first) ∙ append_assoc old (indent ++ first) lines

pub nodes-preserved : goal.nodes-preserved
nodes-preserved c =
    let indent = c.args.indent.now in
    let nodes = c.args.cert.now.nodes.items in
    let lines = λ (ns : List CertNode). flat_map (λ n. indent ++ node_text (sizes c.args.space.now) n) (map cert_node_of ns) in
    let k = c.nodes.entry-index in
    let inside : k < length nodes = rw c.deref-entry-items.ensures.value at c.nodes-test.true in
    let item : c.entry-item.result ≡ get_or nodes k c.entry-item.result = rw c.deref-entry-items.ensures.value at c.entry-item.is in
    let line = indent ++ node_text (sizes c.args.space.now) (cert_node_of c.entry-item.result) in
    let step : lines (drop k nodes) ≡ line ++ lines (drop (k + 1) nodes) = at_drop_more lines nodes k c.entry-item.result inside ∙ ap (λ (n : CertNode). (indent ++ node_text (sizes c.args.space.now) (cert_node_of n)) ++ lines (drop (k + 1) nodes)) (sym item) in
    ap (λ (xs : List ℕ). xs ++ lines (drop (k + 1) nodes)) (c.in_ok-put_line.ensures ∙ append_assoc c.nodes.out.items indent (node_text (sizes c.args.space.now) (cert_node_of c.entry-item.result))) ∙ append_assoc c.nodes.out.items line (lines (drop (k + 1) nodes)) ∙ ap (λ (xs : List ℕ). c.nodes.out.items ++ xs) (sym step) ∙ c.nodes.invariant
