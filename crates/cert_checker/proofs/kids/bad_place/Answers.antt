use Rattle.std.proofs.Common.{◌∙◌, arith, nat_lt, lt-ltb}
use Rattle.cert_checker.specs.declared.why.Why.TheVariants.{KidPlace}
use Rattle.cert_checker.proofs.Causes.{bad_step}
use Rattle.cert_checker.proofs.kids.bad_place.Goals as goal

pub loop-k-preserved : goal.loop-k-preserved
loop-k-preserved c = bad_step (λ p. nat_lt p c.args.count) KidPlace c.loop-k.k c.args.kids.now (omega arith) (lt-ltb _ _ c.if-p-count.false) ∙ c.loop-k.invariant
