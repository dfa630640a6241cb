use Rattle.std.proofs.Common.{◌<◌, ◌^◌, sym, arith}
use Rattle.std.proofs.lemmas.Bool.{false≢true, eqb-true}
use Rattle.state_space.proofs.BitSets.{least_has, none_has}
use Rattle.state_space.proofs.values.Values.least.Goals as goal

pub returns-else-self-eq0-clause-least : goal.returns-else-self-eq0-clause-least
returns-else-self-eq0-clause-least c =
    let small : c.args.self.0 < 2 ^ 64 = omega arith in
    least_has c.args.self.0 small c.if-self-eq0.false

pub returns-else-self-eq0-clause-none : goal.returns-else-self-eq0-clause-none
returns-else-self-eq0-clause-none c = (λ e. absurd (false≢true (sym e)), λ h. absurd (c.if-self-eq0.false (eqb-true c.args.self.0 0 ((none_has c.args.self.0).1 h))))
