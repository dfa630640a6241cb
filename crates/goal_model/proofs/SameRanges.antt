-- The test whether ranges are the same, and what it tests.
use Rattle.std.proofs.Common.{◌≡◌, ℕ, true, List, [], ◌∷◌, refl, ap, subst, bytes_eq}
use Rattle.std.specs.Ordering.{int_eq}
use Rattle.std.proofs.lemmas.Bool.{and_parts, and_from, false≢true}
use Rattle.std.proofs.lemmas.Bool.Decides.{Decides-int_eq}
use Rattle.std.proofs.lemmas.Slice.Eq.{bytes_eq-Decides}
use Rattle.state_space.specs.Ranges.{RangeForm, truth_values, named, span}
use Rattle.goal_model.specs.ValueIndexes.{are_same_names, is_same_range}

-- ranges that are the same

same_names_tested : (xs ys : List (List ℕ)) → are_same_names xs ys ≡ true → xs ≡ ys
same_names_tested [] [] e = refl
same_names_tested [] (y ∷ ys) e = absurd (false≢true e)
same_names_tested (x ∷ xs) [] e = absurd (false≢true e)
same_names_tested (x ∷ xs) (y ∷ ys) e =
    let parts = and_parts (bytes_eq x y) (are_same_names xs ys) e in
    let first : x ≡ y = (bytes_eq-Decides x y).0 parts.0 in
    let rest : xs ≡ ys = same_names_tested xs ys parts.1 in
    cc

test_same_names : (xs : List (List ℕ)) → are_same_names xs xs ≡ true
test_same_names [] = refl
test_same_names (x ∷ xs) = and_from (bytes_eq x x) (are_same_names xs xs) ((bytes_eq-Decides x x).1 refl) (test_same_names xs)

pub same_range_tested : (r s : RangeForm) → is_same_range r s ≡ true → r ≡ s
same_range_tested truth_values truth_values e = refl
same_range_tested truth_values (named ys) e = absurd (false≢true e)
same_range_tested truth_values (span c d) e = absurd (false≢true e)
same_range_tested (named xs) truth_values e = absurd (false≢true e)
same_range_tested (named xs) (named ys) e = ap named (same_names_tested xs ys e)
same_range_tested (named xs) (span c d) e = absurd (false≢true e)
same_range_tested (span a b) truth_values e = absurd (false≢true e)
same_range_tested (span a b) (named ys) e = absurd (false≢true e)
same_range_tested (span a b) (span c d) e =
    let parts = and_parts (int_eq a c) (int_eq b d) e in
    let low : a ≡ c = (Decides-int_eq a c).0 parts.0 in
    let high : b ≡ d = (Decides-int_eq b d).0 parts.1 in
    cc

test_same_range : (r : RangeForm) → is_same_range r r ≡ true
test_same_range truth_values = refl
test_same_range (named xs) = test_same_names xs
test_same_range (span a b) = and_from (int_eq a a) (int_eq b b) ((Decides-int_eq a a).1 refl) ((Decides-int_eq b b).1 refl)

pub same_range_test : (r s : RangeForm) → r ≡ s → is_same_range r s ≡ true
same_range_test r s e = subst (λ (t : RangeForm). is_same_range r t ≡ true) e (test_same_range r)
