-- Lists of numbers are read again as they were written.
use Rattle.std.proofs.Common.{◌≡◌, ◌≢◌, ℕ, zero, suc, ◌+◌, ◌^◌, ◌<◌, ◌≤◌, false, List, [], ◌∷◌, ◌++◌, length, map, take, refl, sym, subst, ap, ◌∙◌, append_assoc, append-nil, arith}
use Rattle.std.specs.Prelude.{◌==◌, ◌&&◌, codes, nat_lt, bytes_eq, slice_index}
use Rattle.std.specs.List.{All, AllByRecursion as Each}
use Rattle.std.specs.List.Sorted.{IsStrictlyIncreasing}
use Rattle.std.specs.Fmt.{decimal}
use Rattle.std.proofs.lemmas.Bool.{cond-false, ne_eqb}
use Rattle.std.proofs.lemmas.Bool.Decides.{nat_tests}
use Rattle.tableau_rules.specs.Sets.{with_number}
use Rattle.tableau_rules.proofs.Ascending.{IsAscending, ascending_with, increasing}
use Rattle.tableau_rules.proofs.NumberSets.{each_with}
use Rattle.elimination_cert.specs.CertTexts.{or_dash, list_text}
use Rattle.elimination_cert.specs.Guesses.{pieces, number_in, small_in, listed_in, with_all, formulas_in, kids_in}
use Rattle.elimination_cert.proofs.Cuts.{Lacks, ArePieces, pieces_joined}
use Rattle.elimination_cert.proofs.Numerals.{each_joined, each_mapped, lacks_decimal, below_digits, pieces_decimal, number_again, small_again, number_fits, small_fits}
use Rattle.tableau_rules.proofs.Lists.{each_map}
use Rattle.tableau_rules.proofs.QueryNodes.{ascending_of}

pub each_of_all : {X : Type 0} (P : X → Type 0) (xs : List X) → All P xs → Each P xs
each_of_all P [] h = tt
each_of_all P (x ∷ xs) h = (h 0 x (omega arith), each_of_all P xs (λ k d l. h (suc k) d (omega arith)))

pub all_of_each : {X : Type 0} (P : X → Type 0) (xs : List X) → Each P xs → All P xs
all_of_each P [] h k d l = absurd (omega arith)
all_of_each P (x ∷ xs) h zero d l = h.0
all_of_each P (x ∷ xs) h (suc k) d l = all_of_each P xs h.1 k d (omega arith)

-- ---- the texts of a list
listed_first : (byte : ℕ) (bytes : List ℕ) → byte ≢ 45 → listed_in (byte ∷ bytes) ≡ byte ∷ bytes
listed_first byte bytes n = let other : (byte == 45) ≡ false = ne_eqb byte 45 n in cond-false (bytes_eq (byte ∷ bytes) (codes "-")) _ _ (ap (λ b. b && bytes_eq bytes []) other)

pub listed_again : (texts : List (List ℕ)) → ArePieces 44 texts → Each (Lacks 45) texts → pieces 44 (listed_in (or_dash texts)) ≡ texts
listed_again [] a b = refl
listed_again ([] ∷ texts) a b = absurd (omega (arith, a.0.1))
listed_again ((byte ∷ bytes) ∷ texts) a b = ap (pieces 44) (listed_first byte _ b.0.0) ∙ pieces_joined 44 ((byte ∷ bytes) ∷ texts) a

numbers_listed : (numbers : List ℕ) → Each (λ n. n < 2 ^ 64) numbers → pieces 44 (listed_in (list_text numbers)) ≡ map decimal numbers
numbers_listed numbers h =
    listed_again (map decimal numbers) (pieces_decimal 44 numbers (below_digits 44 (omega arith)) h)
    (each_mapped (λ n. n < 2 ^ 64) (Lacks 45) decimal numbers (λ n l. lacks_decimal 45 n (below_digits 45 (omega arith)) l) h)

-- ---- formulas
with_last : (x : ℕ) (xs : List ℕ) → Each (λ y. y < x) xs → with_number x xs ≡ xs ++ x ∷ []
with_last x [] h = refl
with_last x (y ∷ ys) h =
    let less : y < x = h.0 in
    let first : nat_lt x y ≡ false = grind (arith, nat_tests) in
    let other : (x == y) ≡ false = ne_eqb x y (λ e. omega arith) in
    cond-false (nat_lt x y) _ _ first ∙ cond-false (x == y) _ _ other ∙ ap (λ zs. y ∷ zs) (with_last x ys h.1)

-- each of the first is below each of the others
abbrev AreBelow : List ℕ → List ℕ → Type 0
AreBelow xs ys = Each (λ y. Each (λ x. x < y) xs) ys

below_with : (x : ℕ) (xs ys : List ℕ) → AreBelow xs ys → Each (λ y. x < y) ys → AreBelow (xs ++ x ∷ []) ys
below_with x xs [] h g = tt
below_with x xs (y ∷ ys) h g = (each_joined (λ z. z < y) xs (x ∷ []) h.0 (g.0, tt), below_with x xs ys h.1 g.1)

all_again : (xs ys : List ℕ) → AreBelow xs ys → IsAscending ys → Each (λ y. y < 2 ^ 16) ys → with_all (map decimal ys) xs ≡ xs ++ ys
all_again xs [] h a s = sym (append-nil xs)
all_again xs (y ∷ ys) h a s =
    ap (λ n. with_all (map decimal ys) (with_number n xs)) (small_again y s.0)
    ∙ ap (with_all (map decimal ys)) (with_last y xs h.0)
    ∙ all_again (xs ++ y ∷ []) ys (below_with y xs ys h.1 a.0) a.1 s.1 ∙ append_assoc xs (y ∷ []) ys

below_none : (ys : List ℕ) → AreBelow [] ys
below_none [] = tt
below_none (y ∷ ys) = (tt, below_none ys)

pub formulas_again : (formulas : List ℕ) → IsStrictlyIncreasing formulas → All (λ f. f < 2 ^ 16) formulas → formulas_in (list_text formulas) ≡ formulas
unfolding formulas_in
formulas_again formulas i s =
    let small = each_of_all (λ f. f < 2 ^ 16) formulas s in
    ap (λ texts. with_all texts []) (numbers_listed formulas (each_map (λ f. f < 2 ^ 16) (λ f. f < 2 ^ 64) formulas (λ f l. omega arith) small))
    ∙ all_again [] formulas (below_none formulas) (ascending_of formulas i) small

with_all_fits : (texts : List (List ℕ)) (formulas : List ℕ) → IsAscending formulas → Each (λ f. f < 2 ^ 16) formulas → IsAscending (with_all texts formulas) × Each (λ f. f < 2 ^ 16) (with_all texts formulas)
with_all_fits [] formulas a s = (a, s)
with_all_fits (text ∷ texts) formulas a s = with_all_fits texts (with_number (small_in text) formulas) (ascending_with (small_in text) formulas a) (each_with (λ f. f < 2 ^ 16) (small_in text) formulas (small_fits text) s)

pub formulas_fit : (bytes : List ℕ) → IsStrictlyIncreasing (formulas_in bytes) × All (λ f. f < 2 ^ 16) (formulas_in bytes)
unfolding formulas_in
formulas_fit bytes =
    let fits = with_all_fits (pieces 44 (listed_in bytes)) [] tt tt in
    (increasing (with_all (pieces 44 (listed_in bytes)) []) fits.0, all_of_each (λ f. f < 2 ^ 16) (with_all (pieces 44 (listed_in bytes)) []) fits.1)

-- ---- kids
numbers_again : (numbers : List ℕ) → Each (λ n. n < 2 ^ 32) numbers → map number_in (map decimal numbers) ≡ numbers
numbers_again [] h = refl
numbers_again (n ∷ numbers) h = ap (λ k. k ∷ map number_in (map decimal numbers)) (number_again n h.0) ∙ ap (λ ks. n ∷ ks) (numbers_again numbers h.1)

take_two : (xs : List ℕ) → length xs ≤ 2 → take 2 xs ≡ xs
take_two [] l = refl
take_two (x ∷ []) l = refl
take_two (x ∷ y ∷ []) l = refl
take_two (x ∷ y ∷ z ∷ xs) l = absurd (omega arith)

pub kids_again : (kids : List ℕ) → length kids ≤ 2 → All (λ k. k < 2 ^ 32) kids → kids_in (list_text kids) ≡ kids
unfolding kids_in
kids_again kids few s =
    let small = each_of_all (λ k. k < 2 ^ 32) kids s in
    ap (λ texts. take 2 (map number_in texts)) (numbers_listed kids (each_map (λ k. k < 2 ^ 32) (λ k. k < 2 ^ 64) kids (λ k l. omega arith) small))
    ∙ ap (take 2) (numbers_again kids small) ∙ take_two kids few

numbers_fit : (texts : List (List ℕ)) → Each (λ n. n < 2 ^ 32) (take 2 (map number_in texts)) × (length (take 2 (map number_in texts)) ≤ 2)
numbers_fit [] = (tt, omega arith)
numbers_fit (t ∷ []) = ((number_fits t, tt), omega arith)
numbers_fit (t ∷ u ∷ texts) = ((number_fits t, (number_fits u, tt)), omega arith)

pub kids_fit : (bytes : List ℕ) → All (λ k. k < 2 ^ 32) (kids_in bytes) × (length (kids_in bytes) ≤ 2)
unfolding kids_in
kids_fit bytes = let fits = numbers_fit (pieces 44 (listed_in bytes)) in (all_of_each (λ k. k < 2 ^ 32) _ fits.0, fits.1)
