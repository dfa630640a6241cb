-- The numbers of words: an ascending list with the numbers whose bits are set.
use Rattle.std.specs.Int.{bit_at}
use Rattle.std.specs.List.{All, AllByRecursion as Each}
use Rattle.std.proofs.Common.{◌≡◌, ℕ, zero, suc, ◌+◌, ◌*◌, ◌/◌, ◌%◌, ◌^◌, ◌<◌, ◌≤◌, Bool, true, false, List, [], ◌∷◌, IsTrue, ◌==◌, ◌||◌, ◌&&◌, not, Some, None, length, refl, inl, inr, sym, ap, ◌∙◌, subst, true≢false, arith}
use Rattle.std.proofs.lemmas.List.Elements.{All-from_recursion}
use Rattle.std.proofs.lemmas.Bool.{cases_lt, cases_eq}
use Rattle.std.proofs.lemmas.Nat.Bits.{bit_at-zero}
use Rattle.std.proofs.lemmas.List.{get_or_past}
use Rattle.tableau_rules.specs.Sets.{has_number, with_number, without_number, least_from}
use Rattle.tableau_rules.specs.Words.{has_bit, passing, numbers_of}
use Rattle.formula_table.proofs.Tests.{cond_case, or_left, or_right, or_true, eq_of, eq_to}
use Rattle.tableau_rules.proofs.Ascending.{IsAscending, ascending_with, ascending_without, same_bool, same_ascending, has_in_with, has_in_without}
use Rattle.tableau_rules.proofs.LeastNumbers.{least_is, least_none}
use Rattle.state_space.proofs.BitSets.{not_one_from_zero}

-- ---- those that pass
pub passing_above : (p : ℕ → Bool) (a n b : ℕ) → b < a → Each (λ y. b < y) (passing p a n)
passing_above p a zero b l = tt
passing_above p a (suc n) b l = cond_case (Each (λ y. b < y)) (p a) _ _ (λ _. (l, passing_above p (suc a) n b (omega arith))) (λ _. passing_above p (suc a) n b (omega arith))

pub passing_ascending : (p : ℕ → Bool) (a n : ℕ) → IsAscending (passing p a n)
passing_ascending p a zero = tt
passing_ascending p a (suc n) = cond_case IsAscending (p a) _ _ (λ _. (passing_above p (suc a) n a (omega arith), passing_ascending p (suc a) n)) (λ _. passing_ascending p (suc a) n)

pub passing_below : (p : ℕ → Bool) (a n b : ℕ) → a + n ≤ b → Each (λ y. y < b) (passing p a n)
passing_below p a zero b l = tt
passing_below p a (suc n) b l = cond_case (Each (λ y. y < b)) (p a) _ _ (λ _. (omega arith, passing_below p (suc a) n b (omega arith))) (λ _. passing_below p (suc a) n b (omega arith))

pub of_passing : (p : ℕ → Bool) (a n z : ℕ) → IsTrue (has_number (passing p a n) z) → IsTrue (p z) × (a ≤ z) × (z < a + n)
of_passing p a zero z = λ h. absurd (true≢false (sym h))
of_passing p a (suc n) z =
    cond_case (λ zs. IsTrue (has_number zs z) → IsTrue (p z) × (a ≤ z) × (z < a + suc n)) (p a) (a ∷ passing p (suc a) n) (passing p (suc a) n)
    (λ e h. elim (or_true (z == a) (has_number (passing p (suc a) n) z) h) [
      | inl q ↦ here e (eq_of z a q)
      | inr m ↦ further (of_passing p (suc a) n z m)
    ])
    (λ _ h. further (of_passing p (suc a) n z h))
  where
    here : IsTrue (p a) → z ≡ a → IsTrue (p z) × (a ≤ z) × (z < a + suc n)
    here e k = (subst (λ w. IsTrue (p w)) (sym k) e, omega arith, omega arith)

    further : IsTrue (p z) × (suc a ≤ z) × (z < suc a + n) → IsTrue (p z) × (a ≤ z) × (z < a + suc n)
    further r = (r.0, omega (arith, r.1), omega (arith, r.2))

pub to_passing : (p : ℕ → Bool) (a n z : ℕ) → IsTrue (p z) → a ≤ z → z < a + n → IsTrue (has_number (passing p a n) z)
to_passing p a zero z t l u = absurd (omega arith)
to_passing p a (suc n) z t l u =
    cond_case (λ zs. IsTrue (has_number zs z)) (p a) _ _
    (λ e. elim (cases_eq z a) [ inl q ↦ or_left (z == a) _ (eq_to z a q) | inr m ↦ or_right (z == a) _ (to_passing p (suc a) n z t (omega arith) (omega arith)) ])
    (λ f. elim (cases_eq z a) [ inl q ↦ absurd (true≢false (sym (subst (λ w. IsTrue (p w)) q t) ∙ f)) | inr m ↦ to_passing p (suc a) n z t (omega arith) (omega arith) ])

-- ---- past the words there are no bits
pub bit_below : (ws : List ℕ) (z : ℕ) → IsTrue (has_bit ws z) → z < 64 * length ws
bit_below ws z h = elim (cases_lt (z / 64) (length ws)) [
  | inl l ↦ omega arith
  | inr g ↦ absurd (zero_bit (z % 64) (subst (λ w. IsTrue (bit_at w (z % 64) == 1)) (get_or_past ws (z / 64) 0 g) h))
]
  where
    zero_bit : (i : ℕ) → IsTrue (bit_at 0 i == 1) → ⊥
    zero_bit i h = let e : bit_at 0 i ≡ 0 = bit_at-zero i in let o : bit_at 0 i ≡ 1 = eq_of (bit_at 0 i) 1 h in not_one_from_zero (bit_at 0 i) e o

not_here : (b : Bool) → (IsTrue b → ⊥) → b ≡ false
not_here true h = absurd (h refl)
not_here false h = refl

pub past_none : (ws : List ℕ) (z : ℕ) → 64 * length ws ≤ z → has_bit ws z ≡ false
past_none ws z l = not_here (has_bit ws z) (λ h. absurd (omega (arith, bit_below ws z h)))

-- ---- the numbers
pub numbers_ascending : (ws : List ℕ) → IsAscending (numbers_of ws)
unfolding numbers_of
numbers_ascending ws = passing_ascending (has_bit ws) 0 (64 * length ws)

pub numbers_small : (ws : List ℕ) → length ws ≤ 1024 → All (λ y. y < 2 ^ 16) (numbers_of ws)
unfolding numbers_of
numbers_small ws l = All-from_recursion (λ y. y < 2 ^ 16) _ (passing_below (has_bit ws) 0 (64 * length ws) (2 ^ 16) (omega arith))

pub bit_of_number : (ws : List ℕ) (z : ℕ) → IsTrue (has_number (numbers_of ws) z) → IsTrue (has_bit ws z)
unfolding numbers_of
bit_of_number ws z h = (of_passing (has_bit ws) 0 (64 * length ws) z h).0

pub number_of_bit : (ws : List ℕ) (z : ℕ) → IsTrue (has_bit ws z) → IsTrue (has_number (numbers_of ws) z)
unfolding numbers_of
number_of_bit ws z h = to_passing (has_bit ws) 0 (64 * length ws) z h (omega arith) (omega (arith, bit_below ws z h))

pub numbers_of_none : numbers_of [] ≡ []
unfolding numbers_of
numbers_of_none = refl

pub has_numbers_of : (ws : List ℕ) (z : ℕ) → has_number (numbers_of ws) z ≡ has_bit ws z
has_numbers_of ws z = same_bool _ _ (bit_of_number ws z) (number_of_bit ws z)

pub numbers_are : (ws ys : List ℕ) → IsAscending ys → ((z : ℕ) → has_bit ws z ≡ has_number ys z) → numbers_of ws ≡ ys
numbers_are ws ys a h = same_ascending (numbers_of ws) ys (numbers_ascending ws) a (λ z k. sym (h z) ∙ bit_of_number ws z k) (λ z k. number_of_bit ws z (h z ∙ k))

pub numbers_with : (ws vs : List ℕ) (x : ℕ) → ((z : ℕ) → has_bit ws z ≡ (z == x || has_bit vs z)) → numbers_of ws ≡ with_number x (numbers_of vs)
numbers_with ws vs x h = numbers_are ws (with_number x (numbers_of vs)) (ascending_with x (numbers_of vs) (numbers_ascending vs))
    (λ z. h z ∙ (ap (λ b. z == x || b) (sym (has_numbers_of vs z)) ∙ sym (has_in_with x z (numbers_of vs))))

pub numbers_without : (ws vs : List ℕ) (x : ℕ) → ((z : ℕ) → has_bit ws z ≡ (not (z == x) && has_bit vs z)) → numbers_of ws ≡ without_number x (numbers_of vs)
numbers_without ws vs x h = numbers_are ws (without_number x (numbers_of vs)) (ascending_without x (numbers_of vs) (numbers_ascending vs))
    (λ z. h z ∙ (ap (λ b. not (z == x) && b) (sym (has_numbers_of vs z)) ∙ sym (has_in_without x z (numbers_of vs) (numbers_ascending vs))))

-- ---- the least of them
pub least_of_some : (ws : List ℕ) (x y : ℕ) → IsTrue (has_bit ws y) → x ≤ y → ((z : ℕ) → x ≤ z → z < y → has_bit ws z ≡ false) → least_from x (numbers_of ws) ≡ Some y
least_of_some ws x y h l n = least_is x y (numbers_of ws) (number_of_bit ws y h) l (λ z p q k. true≢false (sym (bit_of_number ws z k) ∙ n z p q)) (numbers_ascending ws)

pub least_of_none : (ws : List ℕ) (x : ℕ) → ((z : ℕ) → x ≤ z → has_bit ws z ≡ false) → least_from x (numbers_of ws) ≡ None
least_of_none ws x n = least_none x (numbers_of ws) (λ z p k. true≢false (sym (bit_of_number ws z k) ∙ n z p))
