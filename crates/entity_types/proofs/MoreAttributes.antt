-- What stays when an attribute is added behind the others: each is placed, and its variables are among those of the space.
use Rattle.std.proofs.Common.{◌≡◌, ℕ, zero, suc, ◌+◌, ◌*◌, ◌<◌, ◌≤◌, ◌⊎◌, inl, inr, Bool, true, false, if◌then◌else◌, List, [], ◌∷◌, ◌++◌, length, map, get_or, Some, sym, ap, ◌∙◌, subst, arith, ⊎_elim, slice_get}
use Rattle.std.specs.Prelude.{option_map}
use Rattle.std.proofs.lemmas.Bool.{cases_lt}
use Rattle.std.proofs.lemmas.List.{length-map, length_push, map-append, get_or_append_left, get_or_push}
use Rattle.std.proofs.lemmas.Option.{none-some, slice_get_within, slice_get-get_or, slice_get-map}
use Rattle.entity_types.specs.declared.entities.EntityType.{EntityType}
use Rattle.entity_types.specs.declared.entities.Attribute.{Attribute}
use Rattle.entity_types.specs.Joined.{joined_name, joined_names}
use Rattle.entity_types.specs.Rows.{Rows, IsPlaced}
use Rattle.entity_types.proofs.EntityFacts.{member_lists, counts, counts_at, two_members}

-- ---- lists
-- an element of the first of two lists
pub slice_get_left : {X : Type 0} (xs ys : List X) (k : ℕ) (x : X) → slice_get xs k ≡ Some x → slice_get (xs ++ ys) k ≡ Some x
slice_get_left [] ys k x e = absurd (none-some x e)
slice_get_left (z ∷ xs) ys zero x e = e
slice_get_left (z ∷ xs) ys (suc k) x e = slice_get_left xs ys k x e

-- an element of the second, at a place of both
slice_get_right : {X : Type 0} (xs ys : List X) (k n : ℕ) (y : X) → n ≡ length xs + k → slice_get ys k ≡ Some y → slice_get (xs ++ ys) n ≡ Some y
slice_get_right [] ys k n y at e = let same : n ≡ k = omega (arith, at) in rw same e
slice_get_right (z ∷ xs) ys k zero y at e = absurd (omega (arith, at))
slice_get_right (z ∷ xs) ys k (suc n) y at e = slice_get_right xs ys k n y (omega (arith, at)) e

-- ---- attributes, and one more behind them
module _ {X : Type 0} (f : Attribute → X) (attributes : List Attribute) (a : Attribute) where
  -- what is seen of an attribute that was there
  view_before : (k : ℕ) (d : X) → k < length attributes → get_or (map f (attributes ++ a ∷ [])) k d ≡ get_or (map f attributes) k d
  view_before k d l = ap (λ xs. get_or xs k d) (map-append f attributes (a ∷ [])) ∙ get_or_append_left (map f attributes) (f a ∷ []) d k (omega (arith, l, length-map attributes f))

  -- what is seen of the new one
  view_of_last : (k : ℕ) (d : X) → length attributes ≡ k → get_or (map f (attributes ++ a ∷ [])) k d ≡ f a
  view_of_last k d e = ap (λ xs. get_or xs k d) (map-append f attributes (a ∷ [])) ∙ get_or_push (map f attributes) (f a) d k (length-map attributes f ∙ e)

  -- each was there, or is the new one
  before_or_last : (k : ℕ) → k < length (map f (attributes ++ a ∷ [])) → (k < length attributes) ⊎ (length attributes ≡ k)
  before_or_last k l =
      let one : length (map f (attributes ++ a ∷ [])) ≡ length attributes + 1 = ap length (map-append f attributes (a ∷ [])) ∙ length_push (map f attributes) (f a) ∙ ap (λ n. n + 1) (length-map attributes f) in
      ⊎_elim (λ s. inl s) (λ g. inr (omega (arith, g, one, l))) (cases_lt k (length attributes))

-- the name of an attribute
abbrev name_of : Attribute → List ℕ
name_of a = a.name

-- its type
abbrev type_of : Attribute → ℕ
type_of a = a.entity

-- the variable of the type's first member
abbrev first_of : Attribute → ℕ
first_of a = a.first

-- the rows of types and attributes
abbrev rows : List EntityType → List Attribute → Rows
rows types attributes = record { counts = counts types; owners = map type_of attributes; firsts = map first_of attributes }

-- the variables of these attributes stand among the names
abbrev pub Among : List EntityType → List Attribute → List (List ℕ) → Type 0
Among types attributes names =
    (attr member : ℕ) (m : List ℕ) → attr < length (map name_of attributes) → slice_get (get_or (member_lists types) (get_or (map type_of attributes) attr 0) []) member ≡ Some m
    → slice_get names (get_or (map first_of attributes) attr 0 + member) ≡ Some (joined_name (get_or (map name_of attributes) attr []) m)

-- attributes have two variables or more each, so there are at least twice as many names
few_attributes : (types : List EntityType) (attributes : List Attribute) (names : List (List ℕ)) → IsPlaced (rows types attributes) → Among types attributes names → (n : ℕ) → length attributes ≡ n → 2 * n ≤ length names
few_attributes types attributes names placed among zero e = omega arith
few_attributes types attributes names placed among (suc k) e =
    let last : k < length attributes = omega (arith, e) in
    let owner = get_or (map type_of attributes) k 0 in
    let there : owner < length (counts types) = placed.owned k (omega (arith, last, length-map attributes type_of)) in
    let second = get_or (get_or (member_lists types) owner []) 1 [] in
    let found = among k 1 second (omega (arith, last, length-map attributes name_of)) (slice_get-get_or (get_or (member_lists types) owner []) 1 [] (two_members types owner there)) in
    let inside = slice_get_within names (get_or (map first_of attributes) k 0 + 1) (joined_name (get_or (map name_of attributes) k []) second) found in
    omega (arith, inside, placed.ordered k (omega (arith, last, length-map attributes type_of)))

module _ (types : List EntityType) (attributes : List Attribute) (a : Attribute) (names : List (List ℕ)) (at : a.first ≡ length names) where
  -- they stand among the names with those of the new attribute behind them
  pub among_more : Among types attributes names → Among types (attributes ++ a ∷ []) (names ++ joined_names a.name (get_or (member_lists types) a.entity []))
  among_more among attr member m l e = ⊎_elim before last (before_or_last name_of attributes a attr l)
    where
      added : List (List ℕ)
      added = joined_names a.name (get_or (member_lists types) a.entity [])

      before : attr < length attributes → slice_get (names ++ added) (get_or (map first_of (attributes ++ a ∷ [])) attr 0 + member) ≡ Some (joined_name (get_or (map name_of (attributes ++ a ∷ [])) attr []) m)
      before s =
          let there : attr < length (map name_of attributes) = omega (arith, s, length-map attributes name_of) in
          let owner = view_before type_of attributes a attr 0 s in
          let was = among attr member m there (subst (λ (o : ℕ). slice_get (get_or (member_lists types) o []) member ≡ Some m) owner e) in
          rw (view_before first_of attributes a attr 0 s, view_before name_of attributes a attr [] s) (slice_get_left names added _ _ was)

      last : length attributes ≡ attr → slice_get (names ++ added) (get_or (map first_of (attributes ++ a ∷ [])) attr 0 + member) ≡ Some (joined_name (get_or (map name_of (attributes ++ a ∷ [])) attr []) m)
      last s =
          let owner = view_of_last type_of attributes a attr 0 s in
          let now = subst (λ (o : ℕ). slice_get (get_or (member_lists types) o []) member ≡ Some m) owner e in
          let joined = slice_get-map (joined_name a.name) (get_or (member_lists types) a.entity []) member ∙ ap (option_map (joined_name a.name)) now in
          rw (view_of_last first_of attributes a attr 0 s, view_of_last name_of attributes a attr [] s) (slice_get_right names added member (a.first + member) (joined_name a.name m) (ap (λ n. n + member) at) joined)

  -- each is placed where the new one finds room
  placed_more : IsPlaced (rows types attributes) → Among types attributes names → a.entity < length (counts types) → length names + length (get_or (member_lists types) a.entity []) ≤ 64 → IsPlaced (rows types (attributes ++ a ∷ []))
  placed_more placed among there room =
      record {
        owned = λ attr l. ⊎_elim (owned_before attr) (owned_last attr) (before_or_last type_of attributes a attr l);
        inside = λ attr l. ⊎_elim (inside_before attr) (inside_last attr) (before_or_last type_of attributes a attr l);
        ordered = λ attr l. ⊎_elim (ordered_before attr) (ordered_last attr) (before_or_last type_of attributes a attr l);
      }
    where
      -- all attributes
      now : List Attribute
      now = attributes ++ a ∷ []

      owned_before : (attr : ℕ) → attr < length attributes → get_or (map type_of now) attr 0 < length (counts types)
      owned_before attr s = rw (view_before type_of attributes a attr 0 s) (placed.owned attr (omega (arith, s, length-map attributes type_of)))

      owned_last : (attr : ℕ) → length attributes ≡ attr → get_or (map type_of now) attr 0 < length (counts types)
      owned_last attr s = rw (view_of_last type_of attributes a attr 0 s) there

      inside_before : (attr : ℕ) → attr < length attributes → get_or (map first_of now) attr 0 + get_or (counts types) (get_or (map type_of now) attr 0) 0 ≤ 64
      inside_before attr s = rw (view_before first_of attributes a attr 0 s, view_before type_of attributes a attr 0 s) (placed.inside attr (omega (arith, s, length-map attributes type_of)))

      inside_last : (attr : ℕ) → length attributes ≡ attr → get_or (map first_of now) attr 0 + get_or (counts types) (get_or (map type_of now) attr 0) 0 ≤ 64
      inside_last attr s = rw (view_of_last first_of attributes a attr 0 s, view_of_last type_of attributes a attr 0 s) (omega (arith, room, at, counts_at types a.entity there))

      ordered_before : (attr : ℕ) → attr < length attributes → 2 * attr ≤ get_or (map first_of now) attr 0
      ordered_before attr s = rw (view_before first_of attributes a attr 0 s) (placed.ordered attr (omega (arith, s, length-map attributes type_of)))

      ordered_last : (attr : ℕ) → length attributes ≡ attr → 2 * attr ≤ get_or (map first_of now) attr 0
      ordered_last attr s = rw (view_of_last first_of attributes a attr 0 s) (omega (arith, at, few_attributes types attributes names placed among attr s))

  -- the attribute comes, or memory ran out
  pub placed_grown : (grows : Bool) (later : List Attribute) → IsPlaced (rows types attributes) → Among types attributes names → a.entity < length (counts types) → length names + length (get_or (member_lists types) a.entity []) ≤ 64
      → later ≡ (if grows then attributes ++ a ∷ [] else attributes) → IsPlaced (rows types later)
  placed_grown true later placed among there room is = subst (λ (rs : List Attribute). IsPlaced (rows types rs)) (sym is) (placed_more placed among there room)
  placed_grown false later placed among there room is = subst (λ (rs : List Attribute). IsPlaced (rows types rs)) (sym is) placed
