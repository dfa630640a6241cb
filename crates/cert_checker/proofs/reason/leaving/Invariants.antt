use Rattle.std.proofs.Common.{◌≡◌, drop}
use Rattle.std.specs.Prelude.{slice_get}
use Rattle.cert_checker.specs.declared.why.Why.TheVariants.{KidLeaves}
use Rattle.cert_checker.specs.Entries.{entries_of}
use Rattle.cert_checker.specs.Causes.{first_bad, stays}
use Rattle.cert_checker.proofs.reason.leaving.Given as goal

abbrev pub invariant-loop-k : goal.invariant-loop-k
invariant-loop-k l = first_bad (λ p. stays l.rank l.e (slice_get (entries_of l.cert) p)) KidLeaves l.k (drop l.k l.kids) ≡ first_bad (λ p. stays l.rank l.e (slice_get (entries_of l.cert) p)) KidLeaves 0 l.kids
