use Rattle.std.proofs.Common.{◌≡◌, ◌≤◌, length, replicate}
use Rattle.std.specs.Prelude.{All}
use Rattle.state_space.specs.Ranges.{truth_values}
use Rattle.state_space.specs.Spaces.{names, ranges}
use Rattle.pattern_library.proofs.query.placeholder_space.Given as goal

abbrev pub invariant-placeholders : goal.invariant-placeholders
invariant-placeholders l = record {
  short : All (λ name. length name ≤ l.number) (names l.space);
  count : length (names l.space) ≡ l.number;
  flags : ranges l.space ≡ replicate l.number truth_values;
}
