-- The place of a goal, and candidates with their standings, among what they stand for.
use Rattle.std.proofs.Common.{◌≡◌, ◌+◌, Bool, List, [], ◌∷◌, map, cond, not, refl, ap}
use Rattle.std.specs.List.{AllZip, position, position_or_len}
use Rattle.std.proofs.lemmas.List.{length-map}

first_mapped : {X Y : Type 0} (p : Y → Bool) (f : X → Y) (xs : List X) → position_or_len p (map f xs) ≡ position_or_len (λ x. p (f x)) xs
first_mapped p f [] = refl
first_mapped p f (x ∷ xs) = ap (λ n. cond (not (p (f x))) (1 + n) 0) (first_mapped p f xs)

-- the first image that passes a test has the place of the first element whose image does
pub position_mapped : {X Y : Type 0} (p : Y → Bool) (f : X → Y) (xs : List X) → position p (map f xs) ≡ position (λ x. p (f x)) xs
position_mapped p f xs = rw (first_mapped p f xs, length-map xs f) refl

-- what is said of each element by its image is said of the images
pub zip_mapped : {X Y Z : Type 0} (R : Y → Z → Type 0) (f : X → Y) (xs : List X) (zs : List Z) → AllZip (λ x z. R (f x) z) xs zs → AllZip R (map f xs) zs
zip_mapped R f [] [] all = tt
zip_mapped R f [] (z ∷ zs) all = absurd all
zip_mapped R f (x ∷ xs) [] all = absurd all
zip_mapped R f (x ∷ xs) (z ∷ zs) all = (all.0, zip_mapped R f xs zs all.1)
