use Rattle.std.proofs.Common.{◌++◌, sym, ap, ◌∙◌}
use Rattle.elimination_cert.specs.CertTexts.{first_line}
use Rattle.elimination_cert.proofs.ReadSteps.{other_count}
use Rattle.elimination_cert.proofs.read.read_count.Goals as goal

pub returns : goal.returns
returns c = λ n l.
    let text = c.as_slice.ensures.value ∙ c.in_ok-put_first_line.ensures ∙ ap (λ xs. xs ++ first_line c.from.result) c.new-first.ensures.items ∙ ap first_line c.from.ensures in
    other_count c.args.line.now c.as_slice.result.now c.count_in-count.result n c.count_in-count.ensures text (sym c.eq.ensures ∙ c.if-eq.false) l
