use Rattle.std.proofs.Common.{◌≡◌, List, ℕ, sym, subst, ◌∙◌}
use Rattle.std.specs.Prelude.{OnOk}
use Rattle.std.proofs.lemmas.List.{length-map}
use Rattle.tableau_rules.specs.CertView.{cert_node_of, cert_of}
use Rattle.verdict_report.proofs.Summaries.{summary_appended}
use Rattle.verdict_report.proofs.text.put_summary.Goals as goal

pub returns : goal.returns
returns c =
    let line = summary_appended c.args.out.now.items c.put.new.out.items c.put_decimal.new.out.items c.put-2.new.out.items c.put_decimal-2.new.out.items
    c.len.result c.from.result (cert_of c.args.cert.now) (c.len.ensures ∙ c.args.cert.now.nodes.ok.0 ∙ sym (length-map c.args.cert.now.nodes.items cert_node_of)) (c.from.ensures ∙ c.highest_rank.ensures)
    c.in_ok-put.ensures.text c.in_ok-put_decimal.ensures.text c.in_ok-put-2.ensures.text c.in_ok-put_decimal-2.ensures.text in
    subst (λ (t : List ℕ). OnOk c.put-3.result (c.put-3.new.out.items ≡ t)) line c.put-3.ensures.text
