use Rattle.std.proofs.Common.{arith}
use Rattle.state_space.specs.Spaces.{sizes}
use Rattle.state_space.proofs.SpaceFacts.{as_many_sizes}
use Rattle.elimination_cert.proofs.Writing.{now_step}
use Rattle.elimination_cert.proofs.text.put_now.Goals as goal

pub variables-preserved : goal.variables-preserved
variables-preserved c =
    now_step (sizes c.args.space.now) c.args.now.now c.full-full.result.now c.variables.x c.from-place.result c.size_of.result c.variables.first c.in_ok-first.first _ _ _
    (omega (arith, as_many_sizes c.args.space.now)) c.requires c.full-full.ensures.full c.size_of.ensures.size c.from-place.ensures c.variables.invariant c.in_ok-first.ensures
