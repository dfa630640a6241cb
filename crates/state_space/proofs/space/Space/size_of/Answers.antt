use Rattle.std.proofs.Common.{arith}
use Rattle.state_space.specs.Ranges.{form_of}
use Rattle.state_space.proofs.SpaceFacts.{size_at}
use Rattle.state_space.proofs.space.Space.size_of.Goals as goal

pub returns-clause-size : goal.returns-clause-size
returns-clause-size c =
    let size = size_at c.args.self.now c.args.id.0 (form_of c.range_of.result.now) c.range_of.ensures.range in
    omega (arith, size, c.size.ensures.size, c.range_of.ensures.good.few)
