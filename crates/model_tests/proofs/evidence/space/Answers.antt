use Rattle.std.proofs.Common.{map, ap, ◌∙◌}
use Rattle.state_space.specs.Ranges.{size_of}
use Rattle.state_space.proofs.SpaceFacts.{sizes_of_ranges}
use Rattle.model_tests.proofs.evidence.space.Goals as goal

pub returns-clause-sizes : goal.returns-clause-sizes
returns-clause-sizes c = sizes_of_ranges c.space.result.now ∙ ap (map size_of) c.space.ensures.ranges
