use Rattle.std.proofs.Common.{◌≡◌, [], ◌∷◌, ◌++◌}
use Rattle.temporal_logic.specs.Trees.{tree_of}
use Rattle.entity_types.specs.Operators.{joined}
use Rattle.entity_types.specs.View.{written_tree, rows_of}
use Rattle.entity_types.specs.Grounding.{over, ground_of}
use Rattle.entity_types.proofs.grounding.+ground.Given as goal

abbrev pub invariant-ground_each-members : goal.invariant-ground_each-members
invariant-ground_each-members l =
    tree_of l.formula ≡ over (joined l.joining) (λ m. ground_of (rows_of l.entities) (l.choice ++ m ∷ []) (written_tree l.f)) l.member
