-- The row of what stands at the next position.
use Rattle.std.proofs.Common.{◌≡◌, ℕ, suc, ◌+◌, ◌-◌, ◌/◌, ◌%◌, ◌<◌, ◌≤◌, ◌↔◌, ◌≢◌, List, sym, ap, ◌∙◌, arith, ⊎_elim, Bool}
use Rattle.std.specs.Prelude.{IsTrue, slice_index}
use Rattle.std.specs.Int.{bit_at}
use Rattle.std.proofs.lemmas.Bool.{cases_lt}
use Rattle.std.proofs.lemmas.Nat.Bits.{bit_at-suc}
use Rattle.temporal_logic.proofs.Equivalences.{iff_trans, iff_sym, value_iff}
use Rattle.temporal_logic.proofs.Search.{repeats_next}
use Rattle.lasso_checker.specs.Places.{bit_of, place_of, RowAt}
use Rattle.lasso_checker.proofs.Positions.{place_in, place_below, place_turn, by_place, row_repeats}
use Rattle.lasso_checker.proofs.WordRows.{Worked, word_bit}

pub bit_at_half : (n r : ℕ) → bit_at (n / 2) r ≡ bit_at n (r + 1)
bit_at_half n r =
    let e : suc r ≡ r + 1 = omega arith in sym (bit_at-suc n r) ∙ ap (bit_at n) e

-- the next place's bit, where it lies in the row's words
abbrev pub IsNextBit : List ℕ → ℕ → ℕ → ℕ → Type 0
IsNextBit old base words q = (bit_of old base (q + 1) ≡ 1) × ((q + 1) / 64 < words)

module _ (old now : List ℕ) (base words count : ℕ) (room : count < words) (f : Worked (IsNextBit old base words) old now base count) where
  pub moved_bit : (w : ℕ) (entering : Bool) → IsTrue entering ↔ ((count + 1 < words) × (bit_at (slice_index now (base + count + 1)) 0 ≡ 1)) → IsTrue entering ↔ (bit_at w 63 ≡ 1) → ((r : ℕ) → r < 63 → bit_at w r ≡ bit_at (slice_index now (base + count)) (r + 1)) → (q : ℕ) → q / 64 ≡ count → (bit_at w (q % 64) ≡ 1) ↔ IsNextBit old base words q
  moved_bit w entering enters here rest q e = ⊎_elim inner last (cases_lt (q % 64) 63)
    where
      inner : q % 64 < 63 → (bit_at w (q % 64) ≡ 1) ↔ IsNextBit old base words q
      inner s =
          let a : q % 64 + 1 ≡ (q + 1) % 64 = omega arith in
          let d : (q + 1) / 64 ≡ count = omega arith in
          let same = rest (q % 64) s ∙ ap (bit_at (slice_index now (base + count))) a ∙ word_bit (IsNextBit old base words) old now base count f base (q + 1) (omega arith) d in
          (λ h. (sym same ∙ h, omega (arith, d)), λ h. same ∙ h.0)

      last : 63 ≤ q % 64 → (bit_at w (q % 64) ≡ 1) ↔ IsNextBit old base words q
      last g =
          let a : q % 64 ≡ 63 = omega arith in
          let z : 0 ≡ (q + 1) % 64 = omega arith in
          let d : (q + 1) / 64 ≡ count + 1 = omega arith in
          let k : base + count + 1 ≡ base + (q + 1) / 64 = omega arith in
          let same : bit_at (slice_index now (base + count + 1)) 0 ≡ bit_of old base (q + 1) = ap (λ v. bit_at v 0) (f.todo (base + count + 1) (omega arith)) ∙ ap (λ n. bit_at (slice_index old n) 0) k ∙ ap (bit_at (slice_index old (base + (q + 1) / 64))) z in
          (λ h. let p = enters.0 (here.1 (sym (ap (bit_at w) a) ∙ h)) in (sym same ∙ p.1, omega (arith, p.0, d)), λ h. ap (bit_at w) a ∙ here.0 (enters.1 (omega (arith, h.1, d), same ∙ h.0)))

module _ (p c : ℕ) (turns : 0 < c) (old : List ℕ) (base : ℕ) where
  -- what stands at the position after the last place is what stands where the loop begins
  next_place : (q : ℕ) → q < p + c → (q + 1 < p + c → (bit_of old base (q + 1) ≡ 1) ↔ RowAt old base p c (q + 1))
  next_place q l s = value_iff (λ n. bit_of old base n ≡ 1) (sym (place_below p c turns (q + 1) s))

  wrapped_place : (q : ℕ) → q + 1 ≡ p + c → (bit_of old base p ≡ 1) ↔ RowAt old base p c (q + 1)
  wrapped_place q e =
      value_iff (λ n. bit_of old base n ≡ 1) (sym (ap (place_of p c) e ∙ place_turn p c turns p (omega arith) ∙ place_below p c turns p (omega arith)))

  pub next_is : (mid new : List ℕ) (words : ℕ) (back : Bool) → words ≡ (p + c + 63) / 64 → IsTrue back ↔ (bit_of old base p ≡ 1) → ((q : ℕ) → q / 64 < words → (bit_of mid base q ≡ 1) ↔ IsNextBit old base words q) → IsTrue back ↔ (bit_of new base (p + c - 1) ≡ 1) → ((r : ℕ) → r ≢ p + c - 1 → bit_of new base r ≡ bit_of mid base r) → (i : ℕ) → RowAt new base p c i ↔ RowAt old base p c (i + 1)
  next_is mid new words back enough first done here rest i =
      iff_trans (at (place_of p c i) (place_in p c turns i)) (by_place p c turns (λ k. RowAt old base p c (k + 1)) (repeats_next p c turns (RowAt old base p c) (row_repeats p c turns old base)) i)
    where
      inner : (q : ℕ) → q + 1 < p + c → (bit_of new base q ≡ 1) ↔ RowAt old base p c (q + 1)
      inner q s =
          let d = done q (omega arith) in
          iff_trans (value_iff (λ v. v ≡ 1) (rest q (omega arith))) (iff_trans (λ h. (d.0 h).0, λ h. d.1 (h, omega arith)) (next_place q (omega arith) s))

      last : (q : ℕ) → q + 1 ≡ p + c → (bit_of new base q ≡ 1) ↔ RowAt old base p c (q + 1)
      last q e =
          let same : q ≡ p + c - 1 = omega arith in
          iff_trans (value_iff (λ n. bit_of new base n ≡ 1) same) (iff_trans (iff_sym here) (iff_trans first (wrapped_place q e)))

      at : (q : ℕ) → q < p + c → (bit_of new base q ≡ 1) ↔ RowAt old base p c (q + 1)
      at q l = ⊎_elim (inner q) (λ g. last q (omega arith)) (cases_lt (q + 1) (p + c))
