use Rattle.std.proofs.Common.{true≢false, sym, ap, ◌∙◌}
use Rattle.std.proofs.lemmas.List.{length-map}
use Rattle.state_space.specs.Members.{full_of}
use Rattle.state_space.specs.Spaces.{sizes}
use Rattle.tableau_rules.specs.QueryView.{cores_in}
use Rattle.tableau_rules.specs.CertView.{cert_node_of, cert_of}
use Rattle.cert_checker.specs.Entries.{entries_of}
use Rattle.cert_checker.proofs.Passing.{err_of, exact_of, refuted_of, no_valid, no_root, no_nodes, some_nodes}
use Rattle.cert_checker.proofs.checking.check.Goals as goal

pub returns-clause-err : goal.returns-clause-err
returns-clause-err c =
    let nodes = c.args.cert.now.nodes in
    err_of (sizes c.args.space.now) (cores_in c.args.query.now) (cert_of c.args.cert.now) (entries_of c.deref.result.now) c.len.result c.check_nodes.result (ap entries_of c.deref.ensures.value)
    (c.len.ensures ∙ nodes.ok.0 ∙ sym (length-map nodes.items cert_node_of)) (some_nodes cert_node_of nodes.items nodes.len nodes.ok.0 (sym c.is_empty.ensures ∙ c.if-is_empty.false)) c.check_nodes.ensures.err

pub returns-clause-exact : goal.returns-clause-exact
returns-clause-exact c =
    let nodes = c.args.cert.now.nodes in
    exact_of (sizes c.args.space.now) (cores_in c.args.query.now) (cert_of c.args.cert.now) (entries_of c.deref.result.now) c.len.result c.check_nodes.result (ap entries_of c.deref.ensures.value)
    (c.len.ensures ∙ nodes.ok.0 ∙ sym (length-map nodes.items cert_node_of)) (some_nodes cert_node_of nodes.items nodes.len nodes.ok.0 (sym c.is_empty.ensures ∙ c.if-is_empty.false))
    c.check_nodes.ensures.ok c.check_nodes.ensures.err c.check_nodes.ensures.ascending

pub returns-clause-refuted : goal.returns-clause-refuted
returns-clause-refuted c =
    refuted_of (sizes c.args.space.now) (cores_in c.args.query.now) (cert_of c.args.cert.now) c.check_nodes.result (returns-clause-exact c)

pub returns-then-is_empty-clause-err : goal.returns-then-is_empty-clause-err
returns-then-is_empty-clause-err c =
    let nodes = c.args.cert.now.nodes in
    no_root (full_of (sizes c.args.space.now)) (cores_in c.args.query.now) (cert_of c.args.cert.now) (no_nodes cert_node_of nodes.items nodes.len nodes.ok.0 (sym c.is_empty.ensures ∙ c.if-is_empty.true))

pub returns-then-is_empty-clause-exact : goal.returns-then-is_empty-clause-exact
returns-then-is_empty-clause-exact c =
    let nodes = c.args.cert.now.nodes in (
      (λ q. absurd (true≢false (sym q))),
      (λ v. absurd (no_valid (sizes c.args.space.now) (cores_in c.args.query.now) (cert_of c.args.cert.now) (no_nodes cert_node_of nodes.items nodes.len nodes.ok.0 (sym c.is_empty.ensures ∙ c.if-is_empty.true)) v)),
    )
