-- A row that is written word by word, from its first to its last.
use Rattle.std.proofs.Common.{◌≡◌, ℕ, ◌+◌, ◌/◌, ◌%◌, ◌<◌, ◌≤◌, ◌↔◌, List, length, refl, sym, ap, ◌∙◌, arith, ⊎_elim, get_or-set_same, get_or-set_other}
use Rattle.std.specs.Prelude.{slice_index, slice_set}
use Rattle.std.specs.Int.{bit_at}
use Rattle.std.proofs.lemmas.Bool.{cases_lt}
use Rattle.temporal_logic.proofs.Equivalences.{iff_trans, value_iff}
use Rattle.lasso_checker.specs.Places.{bit_of, place_of, RowAt}
use Rattle.lasso_checker.proofs.Positions.{place_in}

-- the first words of the row say U, and everything else is as it was
pub record Worked (U : ℕ → Type 0) (old now : List ℕ) (base count : ℕ) : Type 0 where
  pub done : (q : ℕ) → q / 64 < count → (bit_of now base q ≡ 1) ↔ U q
  pub below : (k : ℕ) → k < base → slice_index now k ≡ slice_index old k
  pub todo : (k : ℕ) → base + count ≤ k → slice_index now k ≡ slice_index old k

pub worked_none : (U : ℕ → Type 0) (t : List ℕ) (base : ℕ) → Worked U t t base 0
worked_none U t base = record { done = λ q l. absurd (omega arith); below = λ k l. refl; todo = λ k l. refl }

module _ (U : ℕ → Type 0) (old now : List ℕ) (base count : ℕ) (f : Worked U old now base count) where
  -- a bit that is not written yet, of this row or of one further on
  pub word_bit : (at q : ℕ) → base ≤ at → q / 64 ≡ count → bit_at (slice_index now (at + count)) (q % 64) ≡ bit_of old at q
  word_bit at q l e =
      ap (λ v. bit_at v (q % 64)) (f.todo (at + count) (omega arith)) ∙ ap (λ k. bit_at (slice_index old (at + k)) (q % 64)) (sym e)

  pub worked_more : (w : ℕ) → base + count < length now → ((q : ℕ) → q / 64 ≡ count → (bit_at w (q % 64) ≡ 1) ↔ U q) → Worked U old (slice_set now (base + count) w) base (count + 1)
  worked_more w room here = record {
    done = λ q l. ⊎_elim (before q) (λ g. last q (omega arith)) (cases_lt (q / 64) count);
    below = λ k l. get_or-set_other now (base + count) k w 0 (omega arith) ∙ f.below k l;
    todo = λ k l. get_or-set_other now (base + count) k w 0 (omega arith) ∙ f.todo k (omega arith);
  }
    where
      before : (q : ℕ) → q / 64 < count → (bit_of (slice_set now (base + count) w) base q ≡ 1) ↔ U q
      before q l =
          iff_trans (value_iff (λ v. v ≡ 1) (ap (λ v. bit_at v (q % 64)) (get_or-set_other now (base + count) (base + q / 64) w 0 (omega arith)))) (f.done q l)

      last : (q : ℕ) → q / 64 ≡ count → (bit_of (slice_set now (base + count) w) base q ≡ 1) ↔ U q
      last q e =
          let same = ap (λ k. bit_at (slice_index (slice_set now (base + count) w) (base + k)) (q % 64)) e ∙ ap (λ v. bit_at v (q % 64)) (get_or-set_same now (base + count) w 0 room) in
          iff_trans (value_iff (λ v. v ≡ 1) same) (here q e)

pub worked_all : (U : ℕ → Type 0) (old now : List ℕ) (base words p c count : ℕ) → 0 < c → words ≡ (p + c + 63) / 64 → words ≤ count → Worked U old now base count → (i : ℕ) → RowAt now base p c i ↔ U (place_of p c i)
worked_all U old now base words p c count turns e l f i =
    let within = place_in p c turns i in f.done (place_of p c i) (omega (arith, within))

-- a bit of a row that lies before the one that is written
pub word_bit_before : (U : ℕ → Type 0) (old now : List ℕ) (base count : ℕ) → Worked U old now base count → (at q : ℕ) → at + count < base → q / 64 ≡ count → bit_at (slice_index now (at + count)) (q % 64) ≡ bit_of old at q
word_bit_before U old now base count f at q l e =
    ap (λ v. bit_at v (q % 64)) (f.below (at + count) l) ∙ ap (λ k. bit_at (slice_index old (at + k)) (q % 64)) (sym e)
