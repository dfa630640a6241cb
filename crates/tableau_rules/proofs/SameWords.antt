-- Trimmed words are known from their numbers.
use Rattle.std.specs.Int.{bit_at}
use Rattle.std.proofs.Common.{◌≡◌, ℕ, suc, ◌+◌, ◌-◌, ◌*◌, ◌/◌, ◌%◌, ◌^◌, ◌<◌, ◌≤◌, List, [], ◌∷◌, length, get_or, refl, inl, inr, sym, ap, ap₂, ◌∙◌, arith}
use Rattle.std.proofs.lemmas.Bool.{cases_lt}
use Rattle.std.proofs.lemmas.Nat.Bits.{same_from_bits_below, bit_at-lt}
use Rattle.std.proofs.lemmas.List.{get_or_past}
use Rattle.tableau_rules.specs.Sets.{has_number}
use Rattle.tableau_rules.specs.Words.{has_bit, numbers_of, IsTrimmed}
use Rattle.tableau_rules.proofs.OneWord.{bit_eq, bit_value}
use Rattle.tableau_rules.proofs.NumbersOfWords.{has_numbers_of}

lower : (k i : ℕ) → i < 64 → ((64 * k + i) / 64 ≡ k) × ((64 * k + i) % 64 ≡ i)
lower k i l = (omega arith, omega arith)

pub same_word : (ws vs : List ℕ) (k : ℕ) → get_or ws k 0 < 2 ^ 64 → get_or vs k 0 < 2 ^ 64 → ((z : ℕ) → has_bit ws z ≡ has_bit vs z) → get_or ws k 0 ≡ get_or vs k 0
same_word ws vs k a b h = same_from_bits_below 64 (get_or ws k 0) (get_or vs k 0) a b (λ i l.
    let r = lower k i l in
    bit_value (bit_at (get_or ws k 0) i) (bit_at (get_or vs k 0) i) (bit_at-lt (get_or ws k 0) i) (bit_at-lt (get_or vs k 0) i)
    (bit_eq _ _ _ _ (ap (λ j. get_or ws j 0) (sym r.0)) (sym r.1) ∙ (h (64 * k + i) ∙ bit_eq _ _ _ _ (ap (λ j. get_or vs j 0) r.0) r.1)))

same_by_words : (ws vs : List ℕ) → length ws ≡ length vs → ((k : ℕ) → get_or ws k 0 ≡ get_or vs k 0) → ws ≡ vs
same_by_words [] [] l h = refl
same_by_words [] (v ∷ vs) l h = absurd (omega arith)
same_by_words (w ∷ ws) [] l h = absurd (omega arith)
same_by_words (w ∷ ws) (v ∷ vs) l h = ap₂ (λ z zs. z ∷ zs) (h 0) (same_by_words ws vs (omega arith) (λ k. h (suc k)))

not_longer : (ws vs : List ℕ) → IsTrimmed vs → ((k : ℕ) → get_or ws k 0 ≡ get_or vs k 0) → length ws < length vs → ⊥
not_longer ws vs t h l =
    let k = length vs - 1 in
    let p : get_or ws k 0 ≡ 0 = get_or_past ws k 0 (omega arith) in
    let q : 0 < get_or vs k 0 = t (omega arith) in
    let e = h k in
    omega arith

pub same_words : (ws vs : List ℕ) → IsTrimmed ws → IsTrimmed vs → ((k : ℕ) → get_or ws k 0 < 2 ^ 64) → ((k : ℕ) → get_or vs k 0 < 2 ^ 64) → numbers_of ws ≡ numbers_of vs → ws ≡ vs
same_words ws vs t u a b e =
    let bits : (z : ℕ) → has_bit ws z ≡ has_bit vs z = λ z. sym (has_numbers_of ws z) ∙ (ap (λ zs. has_number zs z) e ∙ has_numbers_of vs z) in
    let words : (k : ℕ) → get_or ws k 0 ≡ get_or vs k 0 = λ k. same_word ws vs k (a k) (b k) bits in
    let l : length vs ≤ length ws = elim (cases_lt (length ws) (length vs)) [ inl l ↦ absurd (not_longer ws vs u words l) | inr g ↦ g ] in
    let m : length ws ≤ length vs = elim (cases_lt (length vs) (length ws)) [ inl l ↦ absurd (not_longer vs ws t (λ k. sym (words k)) l) | inr g ↦ g ] in
    same_by_words ws vs (omega arith) words
