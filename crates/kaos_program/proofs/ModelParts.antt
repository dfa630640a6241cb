-- The parts of a model's view, by the parts of its space.
use Rattle.std.proofs.Common.{◌≡◌, List, [], ◌∷◌, map, ap, ◌∙◌}
use Rattle.std.specs.Prelude.{All}
use Rattle.std.proofs.lemmas.List.Elements.{All-nil, All-cons, All-head, All-tail}
use Rattle.state_space.specs.declared.space.Space.{Space}
use Rattle.state_space.specs.Ranges.{size_of}
use Rattle.state_space.specs.Spaces.{ranges, sizes}
use Rattle.state_space.proofs.SpaceFacts.{sizes_of_ranges}
use Rattle.goal_model.specs.Models.{ModelForm, sizes_of}

-- what is said of each image is said of what it is the image of
pub All-unmap : {X Y : Type 0} (P : X → Type 0) (f : Y → X) (ys : List Y) → All P (map f ys) → All (λ y. P (f y)) ys
All-unmap P f [] h = All-nil (λ y. P (f y))
All-unmap P f (y ∷ ys) h =
    All-cons (λ y. P (f y)) y ys (All-head P (f y) (map f ys) h) (All-unmap P f ys (All-tail P (f y) (map f ys) h))

-- the sizes of a space are those of a model that has its ranges
pub sizes_same : (space : Space) (m : ModelForm) → ranges space ≡ m.ranges → sizes space ≡ sizes_of m
sizes_same space m same = sizes_of_ranges space ∙ ap (map size_of) same
