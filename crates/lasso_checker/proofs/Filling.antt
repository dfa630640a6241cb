-- A row that is written from its end to its beginning.
use Rattle.std.proofs.Common.{◌≡◌, ℕ, ◌+◌, ◌/◌, ◌%◌, ◌<◌, ◌≤◌, ◌↔◌, ◌≢◌, List, refl, sym, ap, ◌∙◌, subst, arith, ⊎_elim, Bool}
use Rattle.std.specs.Prelude.{IsTrue, slice_index}
use Rattle.std.specs.Int.{bit_at}
use Rattle.std.proofs.lemmas.Bool.{cases_lt}
use Rattle.temporal_logic.proofs.Search.{Repeats}
use Rattle.lasso_checker.specs.Places.{bit_of, place_of, RowAt}
use Rattle.lasso_checker.proofs.Positions.{place_in, by_place}

-- from the place on the row says U, and everything else is as it was
pub record Filled (U : ℕ → Type 0) (old now : List ℕ) (base words end place : ℕ) : Type 0 where
  pub done : (q : ℕ) → place ≤ q → q < end → (bit_of now base q ≡ 1) ↔ U q
  pub todo : (q : ℕ) → q < place → bit_of now base q ≡ bit_of old base q
  pub below : (k : ℕ) → k < base → slice_index now k ≡ slice_index old k
  pub above : (k : ℕ) → base + words ≤ k → slice_index now k ≡ slice_index old k

pub filled_none : (U : ℕ → Type 0) (t : List ℕ) (base words end : ℕ) → Filled U t t base words end end
filled_none U t base words end =
    record { done = λ q l s. absurd (omega arith); todo = λ q l. refl; below = λ k l. refl; above = λ k l. refl }

pub filled_more : (U : ℕ → Type 0) (old t t' : List ℕ) (base words end k i : ℕ) (b : Bool) → k ≡ i + 1 → i < end → i / 64 < words → Filled U old t base words end k → IsTrue b ↔ (bit_of t' base i ≡ 1) → ((r : ℕ) → r ≢ i → bit_of t' base r ≡ bit_of t base r) → ((r : ℕ) → r ≢ base + i / 64 → slice_index t' r ≡ slice_index t r) → IsTrue b ↔ U i → Filled U old t' base words end i
filled_more U old t t' base words end k i b e l room f here rest others u = record {
  done = λ q o s. ⊎_elim (at q) (λ g. later q (omega arith) s) (cases_lt q (i + 1)) o;
  todo = λ q s. rest q (omega arith) ∙ f.todo q (omega arith);
  below = λ r s. others r (omega arith) ∙ f.below r s;
  above = λ r s. others r (omega arith) ∙ f.above r s;
}
  where
    at : (q : ℕ) → q < i + 1 → i ≤ q → (bit_of t' base q ≡ 1) ↔ U q
    at q s o =
        let e : i ≡ q = omega arith in
        subst (λ n. (bit_of t' base n ≡ 1) ↔ U n) e (λ h. u.0 (here.1 h), λ h. here.0 (u.1 h))

    later : (q : ℕ) → i + 1 ≤ q → q < end → i ≤ q → (bit_of t' base q ≡ 1) ↔ U q
    later q o s o' =
        let same = rest q (omega arith) in
        let d = f.done q (omega arith) s in
        (λ h. d.0 (sym same ∙ h), λ h. same ∙ d.1 h)

-- bits of the rows above are as they were
pub above_same : (U : ℕ → Type 0) (old t : List ℕ) (base words end place : ℕ) → Filled U old t base words end place → (q : ℕ) → bit_of t (base + words) q ≡ bit_of old (base + words) q
above_same U old t base words end place f q = ap (λ v. bit_at v (q % 64)) (f.above (base + words + q / 64) (omega arith))

-- the whole row
pub filled_all : (U : ℕ → Type 0) (old t : List ℕ) (base words p c place : ℕ) → 0 < c → Repeats U p c → place ≡ 0 → Filled U old t base words (p + c) place → (i : ℕ) → RowAt t base p c i ↔ U i
filled_all U old t base words p c place turns r z f i =
    let d = f.done (place_of p c i) (omega arith) (place_in p c turns i) in
    let b = by_place p c turns U r i in
    (λ h. b.0 (d.0 h), λ h. d.1 (b.1 h))

pub repeats_at : (P : ℕ → Type 0) (p c p' c' : ℕ) → p' ≡ p → c' ≡ c → Repeats P p c → Repeats P p' c'
repeats_at P p c p' c' e f r = subst (λ n. Repeats P n c') (sym e) (subst (λ n. Repeats P p n) (sym f) r)
