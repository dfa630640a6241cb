use Rattle.std.proofs.Common.{◌≡◌, drop}
use Rattle.std.specs.Prelude.{slice_get}
use Rattle.cert_checker.specs.declared.why.Why.TheVariants.{NotLower}
use Rattle.cert_checker.specs.Entries.{entries_of}
use Rattle.cert_checker.specs.Causes.{first_bad, is_lower}
use Rattle.cert_checker.proofs.reason.not_lower.Given as goal

abbrev pub invariant-loop-k : goal.invariant-loop-k
invariant-loop-k l = first_bad (λ p. is_lower l.rank (slice_get (entries_of l.cert) p)) NotLower l.k (drop l.k l.kids) ≡ first_bad (λ p. is_lower l.rank (slice_get (entries_of l.cert) p)) NotLower 0 l.kids
