use Rattle.std.proofs.Common.{◌∙◌, arith, sym}
use Rattle.std.specs.Prelude.{slice_get}
use Rattle.cert_checker.specs.declared.why.Why.TheVariants.{NotLower}
use Rattle.cert_checker.specs.Entries.{entries_of}
use Rattle.cert_checker.specs.Causes.{is_lower}
use Rattle.cert_checker.proofs.Causes.{bad_step}
use Rattle.cert_checker.proofs.reason.not_lower.Goals as goal

pub loop-k-preserved : goal.loop-k-preserved
loop-k-preserved c = bad_step (λ p. is_lower c.args.rank (slice_get (entries_of c.args.cert.now) p)) NotLower c.loop-k.k c.args.kids.now (omega arith) (sym c.is_lower.ensures ∙ c.if-not-is_lower.false) ∙ c.loop-k.invariant
