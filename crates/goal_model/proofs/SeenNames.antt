-- Names that are walked, and looked up among those before them by their hashes.
use Rattle.std.proofs.Common.{◌≡◌, ℕ, ◌+◌, ◌<◌, Bool, true, false, if◌then◌else◌, List, [], ◌∷◌, ◌++◌, length, map, get_or, take, drop, Result, refl, sym, ap, ap₂, subst, ◌∙◌, nat_eq, Bor}
use Rattle.std.specs.Prelude.{not, ◌||◌}
use Rattle.std.specs.List.{list_any}
use Rattle.std.specs.Cmp.Lexicographic.{pointwise}
use Rattle.std.proofs.lemmas.List.{at_drop_more, take_more, map-append}
use Rattle.indexmap.specs.IndexSet.{insert_key}
use Rattle.state_space.proofs.NameIndexes.{same_bytes}
use Rattle.goal_model.specs.declared.refusal.RefusalKind.TheVariants.{DuplicateName}
use Rattle.goal_model.specs.declared.refusal.Stop.{Stop}
use Rattle.goal_model.specs.Names.{is_among}
use Rattle.goal_model.specs.Refusals.{and_then, holds, refused, Gives}
use Rattle.goal_model.specs.ValueIndexes.{apart_from}
use Rattle.goal_model.proofs.Walking.{refused_as}

-- whether two borrowed names are the same
abbrev pub is_same : Bor (List ℕ) → Bor (List ℕ) → Bool
is_same x y = pointwise nat_eq x.now y.now

-- a name is in the set where it is among the names that were put
in_set : (x : Bor (List ℕ)) (keys : List (Bor (List ℕ))) → list_any (is_same x) keys ≡ is_among x.now (map (λ k. k.now) keys)
in_set x [] = refl
in_set x (k ∷ ks) = ap₂ (λ a b. a || b) (same_bytes x.now k.now) (in_set x ks)

-- the walk at a name
apart_there : (names : List (List ℕ)) (i : ℕ) (x : List ℕ) → i < length names → x ≡ get_or names i x
    → apart_from (take i names) (drop i names) ≡ and_then (holds (not (is_among x (take i names))) DuplicateName x) (λ _. apart_from (take (i + 1) names) (drop (i + 1) names))
unfolding apart_from
apart_there names i x l is =
    at_drop_more (apart_from (take i names)) names i x l
    ∙ ap (λ n. apart_from (take i names) (n ∷ drop (i + 1) names)) (sym is)
    ∙ ap (λ front. and_then (holds (not (is_among x (take i names))) DuplicateName x) (λ _. apart_from front (drop (i + 1) names))) (sym (one_more names i x l is))
  where
    one_more : (names : List (List ℕ)) (i : ℕ) (x : List ℕ) → i < length names → x ≡ get_or names i x → take (i + 1) names ≡ take i names ++ x ∷ []
    one_more names i x l is = take_more names i x l ∙ ap (λ n. take i names ++ n ∷ []) (sym is)

-- a set has the names before a place: the test of the name there, and the set with it
pub tested : (names : List (List ℕ)) (i : ℕ) (x : Bor (List ℕ)) (keys : List (Bor (List ℕ))) → map (λ k. k.now) keys ≡ take i names → list_any (is_same x) keys ≡ is_among x.now (take i names)
tested names i x keys seen = in_set x keys ∙ ap (is_among x.now) seen

pub seen_more : (names : List (List ℕ)) (i : ℕ) (x : Bor (List ℕ)) (keys new : List (Bor (List ℕ))) → i < length names → x.now ≡ get_or names i x.now → map (λ k. k.now) keys ≡ take i names
    → list_any (is_same x) keys ≡ false → new ≡ insert_key is_same keys x → map (λ k. k.now) new ≡ take (i + 1) names
seen_more names i x keys new l is seen none put =
    ap (map (λ k. k.now)) (put ∙ ap (λ b. if b then keys else keys ++ x ∷ []) none)
    ∙ map-append (λ k. k.now) keys (x ∷ [])
    ∙ ap₂ (λ front n. front ++ n ∷ []) seen is
    ∙ sym (take_more names i x.now l)

pub walk_more : (names : List (List ℕ)) (i : ℕ) (x : List ℕ) → i < length names → x ≡ get_or names i x → is_among x (take i names) ≡ false → apart_from (take i names) (drop i names) ≡ apart_from [] names → apart_from (take (i + 1) names) (drop (i + 1) names) ≡ apart_from [] names
walk_more names i x l is none walked = sym (apart_there names i x l is ∙ ap (λ b. and_then (holds (not b) DuplicateName x) (λ _. apart_from (take (i + 1) names) (drop (i + 1) names))) none) ∙ walked

pub walk_ends : {A : Type 0} (view : A → Unit {0}) (o : Result A Stop) (names : List (List ℕ)) (i : ℕ) (x : List ℕ) → i < length names → x ≡ get_or names i x → is_among x (take i names) ≡ true → apart_from (take i names) (drop i names) ≡ apart_from [] names
    → Gives (λ a. a) o (refused DuplicateName x) → Gives view o (apart_from [] names)
walk_ends view o names i x l is some walked given =
    subst (Gives view o) (sym (apart_there names i x l is ∙ ap (λ b. and_then (holds (not b) DuplicateName x) (λ _. apart_from (take (i + 1) names) (drop (i + 1) names))) some) ∙ walked) (refused_as view o DuplicateName x given)
