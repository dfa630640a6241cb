use Rattle.std.proofs.Common.{◌≡◌, ◌++◌, ℕ, List, sym, ap, ap₂, ◌∙◌, subst, codes}
use Rattle.std.specs.Prelude.{OnOk}
use Rattle.state_space.specs.Spaces.{names, ranges, sizes}
use Rattle.state_space.proofs.SpaceFacts.{sizes_of_ranges}
use Rattle.tableau_rules.specs.CertView.{cert_of}
use Rattle.elimination_cert.specs.CertTexts.{indented_cert}
use Rattle.verdict_report.specs.declared.form.Form.{Form}
use Rattle.verdict_report.specs.declared.report.Evidence.{Evidence}
use Rattle.verdict_report.specs.ReportTexts.{evidence_text}
use Rattle.verdict_report.proofs.text.put_evidence.Goals as goal

pub returns-in-Full-Elimination : goal.returns-in-Full-Elimination
returns-in-Full-Elimination c =
    let front = c.args.out.now.items in
    let cert = cert_of c.in-Full-Elimination.cert in
    let text : front ++ indented_cert (codes "  ") (sizes c.args.space.now) cert ≡ front ++ evidence_text c.args.form (names c.args.space.now) (ranges c.args.space.now) c.args.evidence.now =
    ap (λ (ns : List ℕ). front ++ indented_cert (codes "  ") ns cert) (sizes_of_ranges c.args.space.now)
    ∙ ap₂ (λ (f : Form) (e : Evidence). front ++ evidence_text f (names c.args.space.now) (ranges c.args.space.now) e) (sym c.in-Full-Elimination.is-0) (sym c.in-Full-Elimination.is-1) in
    subst (λ (t : List ℕ). OnOk c.put_cert.result (c.put_cert.new.out.items ≡ t)) text c.put_cert.ensures
