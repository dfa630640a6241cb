-- Items, one more at a time.
use Rattle.std.proofs.Common.{◌≡◌, ℕ, zero, suc, ◌+◌, ◌<◌, List, [], ◌∷◌, ◌++◌, length, map, get_or, take, drop, refl, sym, ap, subst, ◌∙◌, arith}
use Rattle.std.specs.Prelude.{All, slice_index_or}
use Rattle.std.proofs.lemmas.List.{length-map, get_or-map, at_drop_more, take_more}
use Rattle.goal_model.specs.declared.item.Item.{Item}
use Rattle.goal_model.specs.Items.{ItemForm, item_of, each_of}

-- the name of what stands at a place
pub name_at : {X Y : Type 0} (form : X → Y) (name : Y → List ℕ) (xs : List X) (k : ℕ) (x : X) → k < length xs → x ≡ get_or xs k x → name (form x) ≡ slice_index_or (map name (map form xs)) k []
name_at form name [] k x l is = absurd (omega (arith, l))
name_at form name (y ∷ ys) zero x l is = ap (λ z. name (form z)) is
name_at form name (y ∷ ys) (suc k) x l is = name_at form name ys k x (omega (arith, l)) is

pub one_more : (is : List Item) (i : Item) (rest : List ItemForm) → map item_of (is ++ i ∷ []) ++ rest ≡ map item_of is ++ item_of i ∷ rest
one_more [] i rest = refl
one_more (j ∷ is) i rest = ap (λ js. item_of j ∷ js) (one_more is i rest)

pub two_more : (is : List Item) (i j : Item) (rest : List ItemForm) → map item_of ((is ++ i ∷ []) ++ j ∷ []) ++ rest ≡ map item_of is ++ item_of i ∷ item_of j ∷ rest
two_more [] i j rest = refl
two_more (h ∷ is) i j rest = ap (λ js. item_of h ∷ js) (two_more is i j rest)

-- the element at a place, between those before it and those behind it
pub each_at : (made : List ℕ → ℕ → List ℕ → ItemForm) (xs : List ℕ) (i : ℕ) (d : ℕ) → i < length xs → each_of made (take i xs) (drop i xs) ≡ made (take i xs) (get_or xs i d) (drop (i + 1) xs) ∷ each_of made (take (i + 1) xs) (drop (i + 1) xs)
each_at made xs i d l =
    at_drop_more (each_of made (take i xs)) xs i d l
    ∙ ap (λ front. made (take i xs) (get_or xs i d) (drop (i + 1) xs) ∷ each_of made front (drop (i + 1) xs)) (sym (take_more xs i d l))

-- a part of what stands at a place
pub viewed_at : {X Y A : Type 0} (form : X → Y) (of : Y → A) (xs : List X) (k : ℕ) (x : X) (e : Y) → k < length xs → x ≡ get_or xs k x → of (form x) ≡ of (slice_index_or (map form xs) k e)
viewed_at form of [] k x e l is = absurd (omega (arith, l))
viewed_at form of (y ∷ ys) zero x e l is = ap (λ z. of (form z)) is
viewed_at form of (y ∷ ys) (suc k) x e l is = viewed_at form of ys k x e (omega (arith, l)) is

-- what stands at a place has what all of the list of forms have
pub all_at : {X Y : Type 0} (P : Y → Type 0) (form : X → Y) (xs : List X) (k : ℕ) (x : X) → k < length xs → x ≡ get_or xs k x → All P (map form xs) → P (form x)
all_at P form xs k x l is all = subst P (get_or-map form xs k x (form x) l ∙ ap form (sym is)) (all k (form x) (rw (length-map xs form) l))
