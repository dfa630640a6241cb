use Rattle.std.proofs.Common.{◌++◌, sym, ap, ◌∙◌}
use Rattle.std.proofs.lemmas.Slice.Eq.{bytes_eq-Decides}
use Rattle.state_space.specs.Spaces.{sizes}
use Rattle.tableau_rules.specs.CertView.{cert_node_of}
use Rattle.elimination_cert.specs.CertTexts.{node_text}
use Rattle.elimination_cert.proofs.ReadSteps.{guess_length, guess_fits, other_node, few_sizes}
use Rattle.elimination_cert.proofs.read.read_node.Goals as goal

pub put_node-requires : goal.put_node-requires
put_node-requires c = guess_length (sizes c.args.space.now) c.args.line.now c.in_ok-entry.entry c.in_ok-entry.ensures

pub returns-then-eq : goal.returns-then-eq
returns-then-eq c =
    let text = c.as_slice.ensures.value ∙ c.in_ok-put_node.ensures ∙ ap (λ xs. xs ++ node_text (sizes c.args.space.now) (cert_node_of c.in_ok-entry.entry)) c.new-text.ensures.items in
    (guess_fits (sizes c.args.space.now) c.args.line.now _ c.in_ok-entry.ensures, sym ((bytes_eq-Decides c.as_slice.result.now c.args.line.now).0 (sym c.eq.ensures ∙ c.if-eq.true)) ∙ text)

pub returns-else-eq : goal.returns-else-eq
returns-else-eq c = λ d fits.
    let text = c.as_slice.ensures.value ∙ c.in_ok-put_node.ensures ∙ ap (λ xs. xs ++ node_text (sizes c.args.space.now) (cert_node_of c.in_ok-entry.entry)) c.new-text.ensures.items in
    other_node (sizes c.args.space.now) c.args.line.now c.as_slice.result.now _ d (few_sizes c.args.space.now) c.in_ok-entry.ensures text (sym c.eq.ensures ∙ c.if-eq.false) fits
