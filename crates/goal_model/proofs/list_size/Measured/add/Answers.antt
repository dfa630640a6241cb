use Rattle.state_space.specs.Spaces.{sizes}
use Rattle.temporal_logic.specs.Trees.{tree_of}
use Rattle.goal_model.proofs.MeasuredLists.{measures_more, measures_large}
use Rattle.goal_model.proofs.list_size.Measured.add.Goals as goal

pub returns-in_ok-self-clause-more : goal.returns-in_ok-self-clause-more
returns-in_ok-self-clause-more c list measured =
    measures_more (sizes c.args.space.now) list c.args.positive (tree_of c.args.f.now) c.args.self.now _ measured c.if-self.true c.in_ok-self.ensures.small c.in_ok-self.ensures.put

pub returns-else-self-clause-more : goal.returns-else-self-clause-more
returns-else-self-clause-more c list measured =
    measures_large (sizes c.args.space.now) list c.args.positive (tree_of c.args.f.now) c.args.self.now measured c.if-self.false
