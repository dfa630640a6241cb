-- The tests of a node's shape, number by number and set by set.
use Rattle.std.proofs.Common.{◌≡◌, ◌≢◌, ℕ, zero, suc, ◌+◌, ◌<◌, ◌≤◌, Bool, true, false, List, [], ◌∷◌, IsTrue, Some, None, nat_lt, ◌==◌, ◌&&◌, length, drop, bit_and, refl, sym, ap, ap₂, ◌∙◌, true≢false, arith}
use Rattle.std.specs.Prelude.{slice_index_or}
use Rattle.std.specs.List.{AllByRecursion as Each}
use Rattle.state_space.specs.declared.values.Values.{Values}
use Rattle.bound_unfolding.specs.CoreForm.{CoreForm}
use Rattle.formula_table.specs.Closures.{formula_at}
use Rattle.tableau_rules.specs.Sets.{least_from}
use Rattle.tableau_rules.specs.Turns.{sets_of}
use Rattle.tableau_rules.specs.Certificates.{is_until}
use Rattle.formula_table.proofs.Tests.{cond_case, and_true, eq_to}
use Rattle.cert_checker.specs.Causes.{all_below, are_inside}
use Rattle.std.proofs.lemmas.Bool.{ne_eqb}

-- ---- numbers
pub none_below : (n : ℕ) (xs : List ℕ) → least_from n xs ≡ None → true ≡ all_below n xs
none_below n [] = λ h. refl
none_below n (x ∷ xs) = cond_case (λ o. o ≡ None → true ≡ all_below n (x ∷ xs)) (nat_lt x n) _ _
    (λ l h. ap₂ (λ a b. a && b) (sym l) (none_below n xs h))
    (λ l h. absurd (some x h))
  where
    some : (v : ℕ) → Some v ≡ None → ⊥
    some v h = cc

pub some_below : (n y : ℕ) (xs : List ℕ) → least_from n xs ≡ Some y → false ≡ all_below n xs
some_below n y [] = λ h. absurd (cc)
some_below n y (x ∷ xs) = cond_case (λ o. o ≡ Some y → false ≡ all_below n (x ∷ xs)) (nat_lt x n) _ _
    (λ l h. some_below n y xs h ∙ ap (λ a. a && all_below n xs) (sym l))
    (λ l h. ap (λ a. a && all_below n xs) (sym l))

pub each_below : (n : ℕ) (xs : List ℕ) → IsTrue (all_below n xs) → Each (λ x. x < n) xs
each_below n [] h = tt
each_below n (x ∷ xs) h = let r = and_true (nat_lt x n) _ h in (less x n r.0, each_below n xs r.1)
  where
    less : (a b : ℕ) → IsTrue (nat_lt a b) → a < b
    less a b h = grind arith

pub until_past : (closure : List CoreForm) (n : ℕ) → length closure ≤ n → false ≡ is_until (formula_at closure n)
until_past [] n l = refl
until_past (c ∷ closure) zero l = absurd (omega arith)
until_past (c ∷ closure) (suc n) l = until_past closure n (omega arith)

-- ---- sets
and_no : (a b : Bool) → a ≡ false → false ≡ (a && b)
and_no a b e = ap (λ v. v && b) (sym e)

pub inside_lengths : (full sets : List Values) → length full ≢ length sets → false ≡ are_inside (sets_of full) (sets_of sets)
inside_lengths [] [] h = absurd (h refl)
inside_lengths [] (s ∷ sets) h = refl
inside_lengths (f ∷ full) [] h = refl
inside_lengths (f ∷ full) (s ∷ sets) h = inside_lengths full sets (λ e. h (ap suc e)) ∙ last (bit_and s.0 f.0 == s.0) (are_inside (sets_of full) (sets_of sets)) (inside_lengths full sets (λ e. h (ap suc e)))
  where
    last : (a b : Bool) → false ≡ b → b ≡ (a && b)
    last true b e = refl
    last false b e = sym e

pub inside_step : (full sets : List Values) (k : ℕ) (d : Values) → k < length full → length full ≡ length sets
    → bit_and (slice_index_or sets k d).0 (slice_index_or full k d).0 ≡ (slice_index_or sets k d).0
    → are_inside (sets_of (drop (k + 1) full)) (sets_of (drop (k + 1) sets)) ≡ are_inside (sets_of (drop k full)) (sets_of (drop k sets))
inside_step full sets k d l m h =
    let a : k + 1 ≡ suc k = omega arith in
    ap (λ j. are_inside (sets_of (drop j full)) (sets_of (drop j sets))) a ∙ go full sets k l m h
  where
    go : (full sets : List Values) (k : ℕ) → k < length full → length full ≡ length sets
        → bit_and (slice_index_or sets k d).0 (slice_index_or full k d).0 ≡ (slice_index_or sets k d).0
        → are_inside (sets_of (drop (suc k) full)) (sets_of (drop (suc k) sets)) ≡ are_inside (sets_of (drop k full)) (sets_of (drop k sets))
    go [] sets k l m h = absurd (omega arith)
    go (f ∷ full) [] k l m h = absurd (omega arith)
    go (f ∷ full) (s ∷ sets) zero l m h = ap (λ v. v && are_inside (sets_of full) (sets_of sets)) (sym (eq_to (bit_and s.0 f.0) s.0 h))
    go (f ∷ full) (s ∷ sets) (suc k) l m h = go full sets k (omega arith) (omega arith) h

pub inside_no : (full sets : List Values) (k : ℕ) (d : Values) → k < length full → length full ≡ length sets
    → bit_and (slice_index_or sets k d).0 (slice_index_or full k d).0 ≢ (slice_index_or sets k d).0
    → false ≡ are_inside (sets_of (drop k full)) (sets_of (drop k sets))
inside_no [] sets k d l m h = absurd (omega arith)
inside_no (f ∷ full) [] k d l m h = absurd (omega arith)
inside_no (f ∷ full) (s ∷ sets) zero d l m h = and_no (bit_and s.0 f.0 == s.0) (are_inside (sets_of full) (sets_of sets)) (ne_eqb (bit_and s.0 f.0) s.0 h)
inside_no (f ∷ full) (s ∷ sets) (suc k) d l m h = inside_no full sets k d (omega arith) (omega arith) h

pub inside_end : (full sets : List Values) (k : ℕ) → length full ≤ k → length full ≡ length sets → are_inside (sets_of (drop k full)) (sets_of (drop k sets)) ≡ true
inside_end [] [] zero l m = refl
inside_end [] [] (suc k) l m = refl
inside_end [] (s ∷ sets) k l m = absurd (omega arith)
inside_end (f ∷ full) [] k l m = absurd (omega arith)
inside_end (f ∷ full) (s ∷ sets) zero l m = absurd (omega arith)
inside_end (f ∷ full) (s ∷ sets) (suc k) l m = inside_end full sets k (omega arith) (omega arith)

pub inside_length : (full sets : List ℕ) → IsTrue (are_inside full sets) → length sets ≡ length full
inside_length [] [] h = refl
inside_length [] (s ∷ sets) h = absurd (true≢false (sym h))
inside_length (f ∷ full) [] h = absurd (true≢false (sym h))
inside_length (f ∷ full) (s ∷ sets) h = ap suc (inside_length full sets (and_true (bit_and s f == s) _ h).1)
