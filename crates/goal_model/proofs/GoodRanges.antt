-- A range that passes the tests of a variable's statement is good, and names that are walked are distinct.
use Rattle.std.proofs.Common.{◌≡◌, ◌≢◌, ℕ, ◌-◌, true, false, List, [], ◌∷◌, ◌++◌, length, get_or, Ok, refl, sym, ap, subst, ◌∙◌, arith, append_assoc, ⊎_elim, bytes_eq}
use Rattle.std.specs.Prelude.{All, AllPairs, Contains, Option, Some, None, is_some, find, nat_lt, nat_le, not}
use Rattle.std.proofs.lemmas.Bool.{and_parts, ltb-true, leb-true, false≢true, not-true, cases_lt}
use Rattle.std.proofs.lemmas.List.{get_or_append_left, get_or-append_right, length-append, append-nil}
use Rattle.std.proofs.lemmas.List.Folds.{list_any_at}
use Rattle.std.proofs.lemmas.Slice.Eq.{bytes_eq-Decides}
use Rattle.state_space.specs.Ranges.{RangeForm, truth_values, named, span, size_of, HasDistinctNames, IsGoodRange}
use Rattle.goal_model.specs.declared.refusal.RefusalKind.TheVariants.{DuplicateName}
use Rattle.goal_model.specs.Names.{is_among}
use Rattle.goal_model.specs.Refusals.{holds}
use Rattle.goal_model.specs.ValueIndexes.{apart_from, values_apart, has_few_values}
use Rattle.goal_model.specs.Names.{place_of}
use Rattle.goal_model.specs.Scopes.{ScopeForm, either_of, fresh}
use Rattle.state_space.proofs.Places.{none_among}
use Rattle.goal_model.proofs.Found.{then_ok, held}

pub pairs_push : (xs : List (List ℕ)) (x : List ℕ) → All (λ y. y ≢ x) xs → AllPairs (λ a b. a ≢ b) xs → AllPairs (λ a b. a ≢ b) (xs ++ x ∷ [])
pairs_push xs x others pairs = λ i j d l h. ⊎_elim
    (λ inside same. pairs i j d l inside (sym (get_or_append_left xs (x ∷ []) d i (omega (arith, l, inside))) ∙ same ∙ get_or_append_left xs (x ∷ []) d j inside))
    (λ past same. others i d (omega (arith, l, h, length-append xs (x ∷ []))) (sym (get_or_append_left xs (x ∷ []) d i (omega (arith, l, h, length-append xs (x ∷ [])))) ∙ same ∙ last j d (omega (arith, past, h, length-append xs (x ∷ [])))))
    (cases_lt j (length xs))
  where
    last : (j : ℕ) (d : List ℕ) → j ≡ length xs → get_or (xs ++ x ∷ []) j d ≡ x
    last j d e = get_or-append_right xs (x ∷ []) (length xs) j d refl (omega (arith, e)) ∙ ap (λ k. get_or (x ∷ []) k d) zero_left
      where
        zero_left : j - length xs ≡ 0
        zero_left = omega (arith, e)

pub not_among : (x : List ℕ) (xs : List (List ℕ)) → is_among x xs ≡ false → All (λ y. y ≢ x) xs
not_among x xs e k d l same = false≢true (sym e ∙ list_any_at (λ n. bytes_eq n x) xs k d l ((bytes_eq-Decides (get_or xs k d) x).1 same))

pub apart_distinct : (front xs : List (List ℕ)) → AllPairs (λ a b. a ≢ b) front → apart_from front xs ≡ Ok tt → AllPairs (λ a b. a ≢ b) (front ++ xs)
unfolding apart_from
apart_distinct front [] pairs e = subst (AllPairs (λ a b. a ≢ b)) (sym (append-nil front)) pairs
apart_distinct front (x ∷ xs) pairs e =
    let s = then_ok (holds (not (is_among x front)) DuplicateName x) (λ _. apart_from (front ++ x ∷ []) xs) tt e in
    let new = not_among x front (not-true (is_among x front) (held (not (is_among x front)) DuplicateName x s.0 s.1)) in
    subst (AllPairs (λ a b. a ≢ b)) (append_assoc front (x ∷ []) xs) (apart_distinct (front ++ x ∷ []) xs (pairs_push front x new pairs) s.2)

pub good_range : (r : RangeForm) → values_apart r ≡ Ok tt → has_few_values r ≡ true → IsGoodRange r
good_range r apart few =
    let sizes = and_parts (nat_lt 0 (size_of r)) (nat_le (size_of r) 64) few in
    record { some = ltb-true 0 (size_of r) sizes.0; few = leb-true (size_of r) 64 sizes.1; apart = distinct r apart }
  where
    distinct : (r : RangeForm) → values_apart r ≡ Ok tt → HasDistinctNames r
    distinct truth_values e = tt
    distinct (named xs) e = apart_distinct [] xs (λ i j d l h. absurd (omega (arith, h))) e
    distinct (span low high) e = tt

-- a new name is no variable's
pub fresh_new : (s : ScopeForm) (x : List ℕ) → fresh s x ≡ Ok tt → ¬ (Contains s.names x)
fresh_new s x e = by (place_of x s.names) refl e
  where
    by : (o : Option ℕ) → place_of x s.names ≡ o → holds (not (is_some (either_of o (find (λ d. bytes_eq d.name x) s.others)))) DuplicateName x ≡ Ok tt → ¬ (Contains s.names x)
    by (Some k) is h = absurd cc
    by None is h = none_among s.names x is
