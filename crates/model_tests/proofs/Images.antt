-- What is said of the images of all elements of a list.
use Rattle.std.proofs.Common.{◌≡◌, ℕ, ◌<◌, List, length, map, sym, ap, ◌∙◌, subst, arith}
use Rattle.std.specs.Prelude.{All, slice_index_or}
use Rattle.std.proofs.lemmas.List.{length-map, get_or-map}
use Rattle.std.proofs.lemmas.List.Elements.{All-get_or}

-- it is said of the image of the element at a place
pub image_at : {X Y : Type 0} (P : Y → Type 0) (f : X → Y) (xs : List X) (i : ℕ) (x : X) → All P (map f xs) → i < length xs → x ≡ slice_index_or xs i x → P (f x)
image_at P f xs i x all inside is =
    let inside_images : i < length (map f xs) = omega (arith, length-map xs f, inside) in
    subst P (get_or-map f xs i x (f x) inside ∙ ap f (sym is)) (All-get_or P (map f xs) i (f x) inside_images all)
