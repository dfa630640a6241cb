-- Trimmed words are the words of their numbers, so what is said of them is said of the numbers.
use Rattle.std.specs.Int.RustNames.{bit_or}
use Rattle.std.proofs.Common.{◌≡◌, ◌≢◌, ℕ, zero, suc, ◌-◌, ◌/◌, ◌%◌, ◌^◌, ◌<◌, ◌≤◌, List, [], ◌∷◌, ◌==◌, ◌||◌, length, get_or, refl, inl, inr, sym, ap, ap₂, ◌∙◌, subst, arith}
use Rattle.std.proofs.lemmas.Bool.{cases_lt, cases_eq, ne_eqb}
use Rattle.std.proofs.lemmas.Nat.{or_disjoint, or_lt, one_shl, le_or_r, pow_pos}
use Rattle.std.proofs.lemmas.Nat.Bits.{bit_at-zero}
use Rattle.tableau_rules.specs.Sets.{has_number}
use Rattle.tableau_rules.specs.Words.{has_bit, numbers_of, IsTrimmed, with_bit, words_of}
use Rattle.tableau_rules.proofs.OneWord.{bit_eq, with_bit as word_with_bit}
use Rattle.tableau_rules.proofs.NumbersOfWords.{numbers_are, numbers_ascending}
use Rattle.tableau_rules.proofs.SameWords.{same_words}

zero_or : (n : ℕ) → n ≡ bit_or 0 n
zero_or n = let e = or_disjoint 0 n refl in omega (arith, e)

-- ---- the words with one bit more
at_place : (at bit : ℕ) (ws : List ℕ) → get_or (with_bit at bit ws) at 0 ≡ bit_or (get_or ws at 0) (2 ^ bit)
at_place zero bit [] = zero_or (2 ^ bit)
at_place zero bit (w ∷ ws) = refl
at_place (suc at) bit [] = at_place at bit []
at_place (suc at) bit (w ∷ ws) = at_place at bit ws

elsewhere : (at bit : ℕ) (ws : List ℕ) (k : ℕ) → k ≢ at → get_or (with_bit at bit ws) k 0 ≡ get_or ws k 0
elsewhere zero bit [] zero n = absurd (n refl)
elsewhere zero bit [] (suc k) n = refl
elsewhere zero bit (w ∷ ws) zero n = absurd (n refl)
elsewhere zero bit (w ∷ ws) (suc k) n = refl
elsewhere (suc at) bit [] zero n = refl
elsewhere (suc at) bit [] (suc k) n = elsewhere at bit [] k (λ e. n (ap suc e))
elsewhere (suc at) bit (w ∷ ws) zero n = refl
elsewhere (suc at) bit (w ∷ ws) (suc k) n = elsewhere at bit ws k (λ e. n (ap suc e))

length_within : (at bit : ℕ) (ws : List ℕ) → at < length ws → length (with_bit at bit ws) ≡ length ws
length_within at bit [] l = absurd (omega arith)
length_within zero bit (w ∷ ws) l = refl
length_within (suc at) bit (w ∷ ws) l = ap suc (length_within at bit ws (omega arith))

length_past : (at bit : ℕ) (ws : List ℕ) → length ws ≤ at → length (with_bit at bit ws) ≡ suc at
length_past zero bit [] l = refl
length_past zero bit (w ∷ ws) l = absurd (omega arith)
length_past (suc at) bit [] l = ap suc (length_past at bit [] (omega arith))
length_past (suc at) bit (w ∷ ws) l = ap suc (length_past at bit ws (omega arith))

here_positive : (at bit : ℕ) (ws : List ℕ) → 0 < get_or (with_bit at bit ws) at 0
here_positive at bit ws =
    let e = at_place at bit ws in
    let p = pow_pos bit in
    let l = le_or_r (get_or ws at 0) (2 ^ bit) in
    omega (arith, e, p, l)

bit_trimmed : (at bit : ℕ) (ws : List ℕ) → IsTrimmed ws → IsTrimmed (with_bit at bit ws)
bit_trimmed at bit ws t l = elim (cases_lt at (length ws)) [
  | inl m ↦
      let e = length_within at bit ws m in
      elim (cases_eq (length ws - 1) at) [
        | inl q ↦ subst (λ k. 0 < get_or (with_bit at bit ws) k 0) (omega (arith, e, q)) (here_positive at bit ws)
        | inr n ↦ subst (λ k. 0 < get_or (with_bit at bit ws) (k - 1) 0) (sym e) (subst (λ v. 0 < v) (sym (elsewhere at bit ws (length ws - 1) n)) (t (omega arith)))
      ]
  | inr g ↦ let e = length_past at bit ws g in subst (λ k. 0 < get_or (with_bit at bit ws) k 0) (omega (arith, e)) (here_positive at bit ws)
]

bit_small : (at bit : ℕ) (ws : List ℕ) → bit < 64 → ((k : ℕ) → get_or ws k 0 < 2 ^ 64) → (k : ℕ) → get_or (with_bit at bit ws) k 0 < 2 ^ 64
bit_small at bit ws l s k = elim (cases_eq k at) [
  | inl q ↦
      subst (λ j. get_or (with_bit at bit ws) j 0 < 2 ^ 64) (sym q)
      (subst (λ v. v < 2 ^ 64) (sym (at_place at bit ws)) (or_lt 64 (get_or ws at 0) (2 ^ bit) (s at) (small bit l)))
  | inr n ↦ subst (λ v. v < 2 ^ 64) (sym (elsewhere at bit ws k n)) (s k)
]
  where
    small : (b : ℕ) → b < 64 → 2 ^ b < 2 ^ 64
    small b l = let e = one_shl b 64 l in omega (arith, e)

has_bit_more : (x : ℕ) (ws : List ℕ) (z : ℕ) → has_bit (with_bit (x / 64) (x % 64) ws) z ≡ (z == x || has_bit ws z)
has_bit_more x ws z = elim (cases_eq (z / 64) (x / 64)) [
  | inl q ↦
      let w = get_or ws (x / 64) 0 in
      bit_eq _ _ (z % 64) (z % 64) (ap (λ j. get_or (with_bit (x / 64) (x % 64) ws) j 0) q ∙ (at_place (x / 64) (x % 64) ws ∙ ap (bit_or w) (sym (one_shl (x % 64) 64 (omega arith))))) refl
      ∙ (word_with_bit w x (x / 64) (x / 64) (z % 64) refl refl (omega arith)
      ∙ ap₂ (λ y b. y == x || b) (omega (arith, q)) (bit_eq w _ (z % 64) (z % 64) (ap (λ j. get_or ws j 0) (sym q)) refl))
  | inr n ↦
      bit_eq _ _ (z % 64) (z % 64) (elsewhere (x / 64) (x % 64) ws (z / 64) n) refl
      ∙ sym (ap (λ b. b || has_bit ws z) (ne_eqb z x (λ e. n (ap (λ y. y / 64) e))))
]

-- ---- the words of numbers
words_trimmed : (xs : List ℕ) → IsTrimmed (words_of xs)
unfolding words_of
words_trimmed [] = λ l. absurd (omega arith)
words_trimmed (x ∷ xs) = bit_trimmed (x / 64) (x % 64) (words_of xs) (words_trimmed xs)

words_small : (xs : List ℕ) (k : ℕ) → get_or (words_of xs) k 0 < 2 ^ 64
unfolding words_of
words_small [] k = omega arith
words_small (x ∷ xs) k = bit_small (x / 64) (x % 64) (words_of xs) (omega arith) (words_small xs) k

words_bits : (xs : List ℕ) (z : ℕ) → has_bit (words_of xs) z ≡ has_number xs z
unfolding words_of
words_bits [] z = bit_eq 0 0 (z % 64) (z % 64) refl refl ∙ ap (λ v. v == 1) (bit_at-zero (z % 64))
words_bits (x ∷ xs) z = has_bit_more x (words_of xs) z ∙ ap (λ b. z == x || b) (words_bits xs z)

pub words_of_numbers : (ws : List ℕ) → IsTrimmed ws → ((k : ℕ) → get_or ws k 0 < 2 ^ 64) → words_of (numbers_of ws) ≡ ws
words_of_numbers ws t s =
    same_words (words_of (numbers_of ws)) ws (words_trimmed (numbers_of ws)) t (words_small (numbers_of ws)) s
    (numbers_are (words_of (numbers_of ws)) (numbers_of ws) (numbers_ascending ws) (words_bits (numbers_of ws)))
