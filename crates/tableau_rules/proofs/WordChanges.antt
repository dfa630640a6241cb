-- Words after a change of the set, word by word.
use Rattle.std.specs.Int.{bit_at}
use Rattle.std.proofs.Common.{◌≡◌, ℕ, ◌+◌, ◌-◌, ◌*◌, ◌^◌, ◌<◌, ◌≤◌, List, ◌==◌, ◌||◌, ◌&&◌, not, Option, get_or, sym, ap, ◌∙◌, arith}
use Rattle.std.proofs.lemmas.Nat.Bits.{same_from_bits_below, bit_at-lt}
use Rattle.tableau_rules.specs.Sets.{has_number, with_option, without_option, changed}
use Rattle.tableau_rules.specs.Words.{has_bit, is_given, bit_after, numbers_of}
use Rattle.tableau_rules.proofs.Ascending.{ascending_with_option, ascending_without_option, has_in_with_option, has_in_without_option}
use Rattle.tableau_rules.proofs.OneWord.{bit_value, word_bit, word_bit_of}
use Rattle.tableau_rules.proofs.NumbersOfWords.{numbers_ascending, has_numbers_of, numbers_are}

-- ---- the numbers after a change
has_in_changed : (g a b : Option ℕ) (z : ℕ) (vs : List ℕ) → has_number (changed g a b (numbers_of vs)) z ≡ bit_after g a b z (has_bit vs z)
has_in_changed g a b z vs =
    has_in_with_option b z (with_option a (without_option g (numbers_of vs)))
    ∙ ap (λ u. is_given b z || u) (has_in_with_option a z (without_option g (numbers_of vs))
    ∙ ap (λ u. is_given a z || u) (has_in_without_option g z (numbers_of vs) (numbers_ascending vs) ∙ ap (λ u. not (is_given g z) && u) (has_numbers_of vs z)))

pub numbers_changed : (ws vs : List ℕ) (g a b : Option ℕ) → ((z : ℕ) → has_bit ws z ≡ bit_after g a b z (has_bit vs z)) → numbers_of ws ≡ changed g a b (numbers_of vs)
numbers_changed ws vs g a b h = numbers_are ws (changed g a b (numbers_of vs)) (ascending_with_option b (with_option a (without_option g (numbers_of vs))) (ascending_with_option a (without_option g (numbers_of vs)) (ascending_without_option g (numbers_of vs) (numbers_ascending vs)))) (λ z. h z ∙ sym (has_in_changed g a b z vs))

pub bits_changed : (ws vs : List ℕ) (g a b : Option ℕ) → numbers_of ws ≡ changed g a b (numbers_of vs) → (z : ℕ) → has_bit ws z ≡ bit_after g a b z (has_bit vs z)
bits_changed ws vs g a b e z = sym (has_numbers_of ws z) ∙ (ap (λ zs. has_number zs z) e ∙ has_in_changed g a b z vs)

-- ---- one word after a change
pub after_same : (new old : List ℕ) (at nw ow r : ℕ) (g a b : Option ℕ) → nw ≡ get_or new at 0 → ow ≡ get_or old at 0
    → ((k : ℕ) → k < 64 → (bit_at r k == 1) ≡ bit_after g a b (64 * at + k) (bit_at ow k == 1)) → nw ≡ r
    → (z : ℕ) → 64 * at ≤ z → z < 64 * at + 64 → has_bit new z ≡ bit_after g a b z (has_bit old z)
after_same new old at nw ow r g a b e f h q z l m =
    let k = z - 64 * at in
    let kz : 64 * at + k ≡ z = omega arith in
    word_bit new at z l m ∙ (ap (λ w. bit_at w k == 1) (sym e ∙ q) ∙ (h k (omega arith)
    ∙ (ap (λ y. bit_after g a b y (bit_at ow k == 1)) kz ∙ ap (λ u. bit_after g a b z u) (ap (λ w. bit_at w k == 1) f ∙ sym (word_bit old at z l m)))))

pub after_back : (new old : List ℕ) (at nw ow r : ℕ) (g a b : Option ℕ) → nw ≡ get_or new at 0 → ow ≡ get_or old at 0
    → ((k : ℕ) → k < 64 → (bit_at r k == 1) ≡ bit_after g a b (64 * at + k) (bit_at ow k == 1)) → nw < 2 ^ 64 → r < 2 ^ 64
    → ((z : ℕ) → has_bit new z ≡ bit_after g a b z (has_bit old z)) → nw ≡ r
after_back new old at nw ow r g a b e f h s t all = same_from_bits_below 64 nw r s t (λ k l.
    bit_value (bit_at nw k) (bit_at r k) (bit_at-lt nw k) (bit_at-lt r k)
    (ap (λ w. bit_at w k == 1) e ∙ (sym (word_bit_of new at k l) ∙ (all (64 * at + k) ∙ (ap (λ u. bit_after g a b (64 * at + k) u) (word_bit_of old at k l ∙ ap (λ w. bit_at w k == 1) (sym f)) ∙ sym (h k l))))))
