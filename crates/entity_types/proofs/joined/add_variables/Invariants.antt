use Rattle.std.proofs.Common.{◌≡◌, ◌++◌, map, take}
use Rattle.state_space.specs.Ranges.{form_of}
use Rattle.state_space.specs.Spaces.{names, ranges}
use Rattle.entity_types.proofs.joined.add_variables.Given as goal

abbrev pub invariant-names : goal.invariant-names
invariant-names l = record {
  names : names l.space ≡ names l.fn.space ++ take l.name-index l.joined;
  ranges : ranges l.space ≡ ranges l.fn.space ++ map (λ n. form_of l.range) (take l.name-index l.joined);
}
