use Rattle.std.proofs.Common.{◌≡◌, ◌+◌, sym, ap, ◌∙◌, arith}
use Rattle.tableau_rules.specs.Sets.{numbers_from}
use Rattle.elimination_cert.proofs.Writing.{no_numbers}
use Rattle.elimination_cert.proofs.text.least_above.Goals as goal

pub returns-in-None : goal.returns-in-None
returns-in-None c = λ small.
    let last : c.args.number + 1 ≡ 65536 = omega (arith, c.in-None.ensures) in
    sym (ap (λ n. numbers_from n c.args.set.now) last ∙ no_numbers 65536 c.args.set.now small)
