use Rattle.std.proofs.Common.{map, ap, ◌∙◌}
use Rattle.std.specs.Prelude.{option_map}
use Rattle.temporal_logic.specs.Trees.{tree_of}
use Rattle.pattern_library.proofs.Listed.{none_only, all_empty}
use Rattle.pattern_library.proofs.matching.Matching.new.Goals as goal

pub returns : goal.returns
returns c =
    ap (map (option_map (λ f. tree_of f.now))) (c.in_ok-vec.ensures.items_if_clones_equal (none_only _ (λ x clone. clone)))
    ∙ all_empty (λ f. tree_of f.now) c.args.placeholders
