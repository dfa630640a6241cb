use Rattle.std.proofs.Common.{◌≡◌, drop, nat_lt}
use Rattle.cert_checker.specs.declared.why.Why.TheVariants.{KidPlace}
use Rattle.cert_checker.specs.Causes.{first_bad}
use Rattle.cert_checker.proofs.kids.bad_place.Given as goal

abbrev pub invariant-loop-k : goal.invariant-loop-k
invariant-loop-k l = first_bad (λ p. nat_lt p l.count) KidPlace l.k (drop l.k l.kids) ≡ first_bad (λ p. nat_lt p l.count) KidPlace 0 l.kids
