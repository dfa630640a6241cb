use Rattle.std.proofs.Common.{◌≡◌, ◌++◌, ℕ, List, ap, sym, subst, ◌∙◌, codes}
use Rattle.std.specs.Prelude.{OnOk}
use Rattle.state_space.specs.Spaces.{sizes}
use Rattle.tableau_rules.specs.CertView.{cert_of}
use Rattle.elimination_cert.specs.CertTexts.{indented_cert}
use Rattle.pattern_library.specs.Patterns.{pattern_of}
use Rattle.pattern_library.specs.Instances.{placeholder_sizes}
use Rattle.verdict_report.specs.Fitting.{CertFits}
use Rattle.verdict_report.proofs.text.put_pattern_cert.Goals as goal

pub put_cert-requires : goal.put_cert-requires
put_cert-requires c =
    let sized : sizes c.in_ok-space.space ≡ placeholder_sizes (pattern_of c.args.kind) = c.in_ok-space.ensures.sizes ∙ ap placeholder_sizes c.in_ok-pattern.ensures.form in
    subst (λ (ns : List ℕ). CertFits ns c.args.cert.now) (sym sized) c.requires

pub returns : goal.returns
returns c =
    let sized : sizes c.in_ok-space.space ≡ placeholder_sizes (pattern_of c.args.kind) = c.in_ok-space.ensures.sizes ∙ ap placeholder_sizes c.in_ok-pattern.ensures.form in
    subst (λ (ns : List ℕ). OnOk c.put_cert.result (c.put_cert.new.out.items ≡ c.args.out.now.items ++ indented_cert (codes "  ") ns (cert_of c.args.cert.now))) sized c.put_cert.ensures
