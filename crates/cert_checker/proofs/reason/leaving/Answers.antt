use Rattle.std.proofs.Common.{◌∙◌, arith, sym}
use Rattle.std.specs.Prelude.{slice_get}
use Rattle.cert_checker.specs.declared.why.Why.TheVariants.{KidLeaves}
use Rattle.cert_checker.specs.Entries.{entries_of}
use Rattle.cert_checker.specs.Causes.{stays}
use Rattle.cert_checker.proofs.Causes.{bad_step}
use Rattle.cert_checker.proofs.reason.leaving.Goals as goal

pub loop-k-preserved : goal.loop-k-preserved
loop-k-preserved c = bad_step (λ p. stays c.args.rank c.args.e (slice_get (entries_of c.args.cert.now) p)) KidLeaves c.loop-k.k c.args.kids.now (omega arith) (sym c.stays.ensures ∙ c.if-not-stays.false) ∙ c.loop-k.invariant
