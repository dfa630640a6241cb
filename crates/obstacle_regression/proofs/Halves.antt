-- A property of all of a list made of two, and of a list of images.
use Rattle.std.proofs.Common.{zero, suc, List, [], ◌∷◌, ◌++◌, map, subst, arith}
use Rattle.std.specs.Prelude.{All}
use Rattle.std.proofs.lemmas.List.{length-map, get_or-map}

pub all_left : {X : Type 0} (P : X → Type 0) (xs ys : List X) → All P (xs ++ ys) → All P xs
all_left P [] ys h k d l = absurd (omega arith)
all_left P (x ∷ xs) ys h zero d l = h zero d (omega arith)
all_left P (x ∷ xs) ys h (suc k) d l = all_left P xs ys (λ j e o. h (suc j) e (omega arith)) k d (omega arith)

pub all_right : {X : Type 0} (P : X → Type 0) (xs ys : List X) → All P (xs ++ ys) → All P ys
all_right P [] ys h = h
all_right P (x ∷ xs) ys h = all_right P xs ys (λ j e o. h (suc j) e (omega arith))

pub all_mapped : {X Y : Type 0} (P : Y → Type 0) (f : X → Y) (xs : List X) → All P (map f xs) → All (λ x. P (f x)) xs
all_mapped P f xs h k d l = subst P (get_or-map f xs k d (f d) l) (h k (f d) (omega (arith, l, length-map xs f)))
