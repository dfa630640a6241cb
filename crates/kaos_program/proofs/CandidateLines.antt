-- The lines of candidates, one at a time.
use Rattle.std.proofs.Common.{◌≡◌, ℕ, zero, suc, ◌≤◌, List, [], ◌∷◌, map, length, drop, min, refl, arith}
use Rattle.bound_unfolding.specs.declared.core_form.Core.{Core}
use Rattle.bound_unfolding.specs.CoreForm.{CoreForm}
use Rattle.bound_unfolding.specs.CoreView.{core_tree_of}
use Rattle.goal_model.specs.Models.{ModelForm}
use Rattle.obstacle_regression.specs.declared.standing.Standing.{Standing}
use Rattle.kaos_program.specs.Regressing.{candidate_lines}

no_lines : (m : ModelForm) (number : ℕ) (cs : List CoreForm) → candidate_lines m number cs [] ≡ []
no_lines m number [] = refl
no_lines m number (c ∷ cs) = refl

-- past the shorter of the two lists there is none
pub lines_end : (m : ModelForm) (number : ℕ) (xs : List Core) (ss : List Standing) (i : ℕ) → min (length xs) (length ss) ≤ i → candidate_lines m number (map core_tree_of (drop i xs)) (drop i ss) ≡ []
lines_end m number [] ss zero l = refl
lines_end m number [] ss (suc i) l = refl
lines_end m number (x ∷ xs) [] zero l = refl
lines_end m number (x ∷ xs) [] (suc i) l = no_lines m number (map core_tree_of (drop i xs))
lines_end m number (x ∷ xs) (s ∷ ss) zero l = let never : ⊥ = omega arith in absurd never
lines_end m number (x ∷ xs) (s ∷ ss) (suc i) l = lines_end m number xs ss i (omega arith)
