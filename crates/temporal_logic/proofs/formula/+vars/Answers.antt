use Rattle.std.proofs.Common.{◌≡◌, ℕ, ◌↔◌, zero, suc, List, [], ◌∷◌, ◌++◌, ⊎_elim, inl, inr, ◌⊎◌, sym, subst, arith, get_or, ◌<◌}
use Rattle.std.specs.Prelude.{Contains}
use Rattle.std.specs.Int.{bit_at}
use Rattle.std.proofs.lemmas.List.Elements.{Contains-append_left, Contains-append_right, Contains-append_cases}
use Rattle.temporal_logic.specs.Shapes.{variables_of}
use Rattle.temporal_logic.specs.Trees.{tree_of}
use Rattle.temporal_logic.proofs.formula.+vars.Goals as goal

in_both : (P Q R : ℕ → Type 0) (xs ys : List ℕ) → ((i : ℕ) → P i ↔ Contains xs i) → ((i : ℕ) → Q i ↔ Contains ys i) → ((i : ℕ) → R i ↔ (P i ⊎ Q i)) → (i : ℕ) → R i ↔ Contains (xs ++ ys) i
in_both P Q R xs ys p q r i = (
  λ h. ⊎_elim (λ l. Contains-append_left xs ys i ((p i).0 l)) (λ l. Contains-append_right xs ys i ((q i).0 l)) ((r i).0 h),
  λ h. (r i).1 (⊎_elim (λ l. inl ((p i).1 l)) (λ l. inr ((q i).1 l)) (Contains-append_cases xs ys i h)),
)

in_one : (x i : ℕ) → (i ≡ x) ↔ Contains (x ∷ []) i
in_one x i = (λ h. (0, omega arith, sym h), λ h. first h.0 h.1 h.2)
  where
    first : (k : ℕ) → k < 1 → get_or (x ∷ []) k i ≡ i → i ≡ x
    first zero l e = sym e
    first (suc k) l e = absurd (omega arith)

in_two : (N P R : ℕ → Type 0) (x y : ℕ) → ((i : ℕ) → ¬ (N i)) → ((i : ℕ) → P i ↔ ((i ≡ x) ⊎ N i)) → ((i : ℕ) → R i ↔ ((i ≡ y) ⊎ P i)) → (i : ℕ) → R i ↔ Contains (x ∷ y ∷ []) i
in_two N P R x y n p r =
    in_both (λ i. i ≡ x) (λ i. i ≡ y) R (x ∷ []) (y ∷ []) (in_one x) (in_one y) (λ i. (
      λ h. ⊎_elim (λ l. inr l) (λ o. ⊎_elim (λ l. inl l) (λ o. absurd (n i o)) ((p i).0 o)) ((r i).0 h),
      λ h. (r i).1 (⊎_elim (λ l. inr ((p i).1 (inl l))) (λ l. inl l) h),
    ))

pub Formula::vars-returns-in-Same : goal.Formula::vars-returns-in-Same
Formula::vars-returns-in-Same t c =
    let set = c.with-in-Same.result.0 in
    let two = in_two (λ i. bit_at c.none.result.0 i ≡ 1) (λ i. bit_at c.with.result.0 i ≡ 1) (λ i. bit_at set i ≡ 1) c.in-Same.x.0 c.in-Same.y.0 c.none.ensures.members c.with.ensures.members c.with-in-Same.ensures.members in
    record { members = subst (λ f. (i : ℕ) → (bit_at set i ≡ 1) ↔ Contains (variables_of (tree_of f)) i) (sym c.in-Same.is) two }

pub vars_of_both-returns : goal.vars_of_both-returns
vars_of_both-returns t c = record {
  members = in_both (λ i. bit_at c.vars.result.0 i ≡ 1) (λ i. bit_at c.vars-2.result.0 i ≡ 1) (λ i. bit_at c.join.result.0 i ≡ 1) _ _ c.vars.ensures.members c.vars-2.ensures.members c.join.ensures.members;
}
