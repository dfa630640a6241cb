-- A list whose elements are changed in place, one after the other.
use Rattle.std.proofs.Common.{◌≡◌, ℕ, zero, suc, ◌+◌, ◌<◌, ◌≤◌, List, [], ◌∷◌, ◌++◌, length, map, set, get_or, take, drop, refl, ap, ap₂, ◌∙◌, arith}
use Rattle.std.proofs.lemmas.List.{take_all, drop_all, append-nil}

map_set : {X Y : Type 0} (view : X → Y) (xs : List X) (i : ℕ) (x : X) → map view (set xs i x) ≡ set (map view xs) i (view x)
map_set view [] i x = refl
map_set view (y ∷ ys) zero x = refl
map_set view (y ∷ ys) (suc i) x = ap (λ zs. view y ∷ zs) (map_set view ys i x)

get_or_view : {X Y : Type 0} (view : X → Y) (xs : List X) (i : ℕ) (d : X) → view (get_or xs i d) ≡ get_or (map view xs) i (view d)
get_or_view view [] i d = refl
get_or_view view (y ∷ ys) zero d = refl
get_or_view view (y ∷ ys) (suc i) d = get_or_view view ys i d

changed_here : {Y : Type 0} (f : Y → Y) (old : List Y) (i : ℕ) (d y : Y) → i < length old → y ≡ f (get_or (map f (take i old) ++ drop i old) i d) → set (map f (take i old) ++ drop i old) i y ≡ map f (take (suc i) old) ++ drop (suc i) old
changed_here f [] i d y l v = absurd (omega (arith, l))
changed_here f (x ∷ xs) zero d y l v = ap (λ z. z ∷ xs) v
changed_here f (x ∷ xs) (suc i) d y l v = ap (λ zs. f x ∷ zs) (changed_here f xs i d y (omega (arith, l)) v)

-- the element at a place is changed
pub changed_at : {X Y : Type 0} (view : X → Y) (f : Y → Y) (old : List Y) (now : List X) (i : ℕ) (d new : X) → i < length old → map view now ≡ map f (take i old) ++ drop i old → view new ≡ f (view (get_or now i d))
    → map view (set now i new) ≡ map f (take (i + 1) old) ++ drop (i + 1) old
changed_at view f old now i d new l e v =
    let on : suc i ≡ i + 1 = omega arith in
    map_set view now i new ∙ ap (λ ys. set ys i (view new)) e
    ∙ changed_here f old i (view d) (view new) l (v ∙ ap f (get_or_view view now i d ∙ ap (λ ys. get_or ys i (view d)) e))
    ∙ ap (λ n. map f (take n old) ++ drop n old) on

-- all are changed
pub changed_all : {Y : Type 0} (f : Y → Y) (old : List Y) (i : ℕ) → length old ≤ i → map f (take i old) ++ drop i old ≡ map f old
changed_all f old i l = ap₂ (λ xs ys. map f xs ++ ys) (take_all i old l) (drop_all i old l) ∙ append-nil (map f old)
