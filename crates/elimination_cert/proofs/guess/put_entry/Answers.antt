use Rattle.std.proofs.Common.{◌<◌, length, arith}
use Rattle.state_space.specs.Spaces.{sizes}
use Rattle.state_space.proofs.SpaceFacts.{as_many_sizes}
use Rattle.elimination_cert.proofs.GuessSteps.{entry_put}
use Rattle.elimination_cert.proofs.guess.put_entry.Goals as goal

pub returns-then-x-from : goal.returns-then-x-from
returns-then-x-from c =
    let inside : c.number_in-x.result < length (sizes c.args.space.now) = omega (arith, as_many_sizes c.args.space.now) in
    entry_put (sizes c.args.space.now) c.args.now.now c.args.entry.now _ _ c.number_in-x.result c.size_of.result c.set_in.result c.cut.ensures.before c.cut.ensures.behind c.number_in-x.ensures inside c.size_of.ensures.size c.set_in.ensures
