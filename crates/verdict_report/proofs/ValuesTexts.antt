-- The values of a state, a variable at a time.
use Rattle.std.proofs.Common.{◌≡◌, ℕ, zero, suc, ◌+◌, ◌<◌, List, [], ◌∷◌, ◌++◌, length, get_or, drop, Option, Some, refl, ap₂, ◌∙◌, add-one, arith}
use Rattle.std.specs.Prelude.{slice_get}
use Rattle.state_space.specs.Ranges.{RangeForm}
use Rattle.verdict_report.specs.LassoTexts.{setting_text, values_text}

-- what is given twice is the same
some_is : {X : Type 0} (a b : X) → ◌≡◌ {A = Option X} (Some a) (Some b) → a ≡ b
some_is a b e = cc

-- the values from a place on are the one there, and those behind it
pub values_text-drop : (xs : List (List ℕ)) (rs : List RangeForm) (vs : List ℕ) (k : ℕ) (n : List ℕ) (r : RangeForm) → slice_get xs k ≡ Some n → slice_get rs k ≡ Some r → k < length vs
    → values_text (drop k xs) (drop k rs) (drop k vs) ≡ setting_text n r (get_or vs k 0) ++ values_text (drop (k + 1) xs) (drop (k + 1) rs) (drop (k + 1) vs)
values_text-drop [] rs vs k n r e f l = absurd cc
values_text-drop (x ∷ xs) [] vs k n r e f l = absurd cc
values_text-drop (x ∷ xs) (s ∷ rs) [] k n r e f l = let never : ⊥ = omega arith in absurd never
values_text-drop (x ∷ xs) (s ∷ rs) (v ∷ vs) zero n r e f l = ap₂ (λ (m : List ℕ) (q : RangeForm). setting_text m q v ++ values_text xs rs vs) (some_is x n e) (some_is s r f)
values_text-drop (x ∷ xs) (s ∷ rs) (v ∷ vs) (suc k) n r e f l = values_text-drop xs rs vs k n r e f (omega arith) ∙ rw (add-one, add-one) refl
