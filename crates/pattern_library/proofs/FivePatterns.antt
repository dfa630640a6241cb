-- No trace has the subgoals of one of the five patterns, and not its parent.
use Rattle.std.proofs.Common.{◌≡◌, ℕ, zero, suc, ◌+◌, ◌-◌, ⊎_elim, [], ◌∷◌, subst, arith}
use Rattle.std.proofs.lemmas.List.Elements.{All-from_recursion}
use Rattle.goal_model.specs.declared.pattern.PatternKind.{PatternKind}
use Rattle.goal_model.specs.declared.pattern.PatternKind.TheVariants.{Milestone, Cases, Guard, Split, Induction}
use Rattle.temporal_logic.specs.Ltl.{Ltl, truth, flag, neg, conj, disj, entails, next, eventually, always, unless}
use Rattle.temporal_logic.specs.Truth.{Trace, Truth, Meets, Sometime, Ever}
use Rattle.pattern_library.specs.Patterns.{pattern_of, pattern_list}
use Rattle.pattern_library.specs.Instances.{IsOverPlaceholders, IsPattern}

module _ (t : Trace) where
  two_suffice : (a b p : Ltl) → (Truth t a 0 → Truth t b 0 → Truth t p 0) → ¬ (Meets t (a ∷ b ∷ neg p ∷ []))
  two_suffice a b p f m = m 2 truth (omega arith) (f (m 0 truth (omega arith)) (m 1 truth (omega arith)))

  three_suffice : (a b c p : Ltl) → (Truth t a 0 → Truth t b 0 → Truth t c 0 → Truth t p 0) → ¬ (Meets t (a ∷ b ∷ c ∷ neg p ∷ []))
  three_suffice a b c p f m = m 3 truth (omega arith) (f (m 0 truth (omega arith)) (m 1 truth (omega arith)) (m 2 truth (omega arith)))

  -- T after M after j is after j
  later : (P : ℕ → Type 0) (j : ℕ) (w : Sometime (λ k. Sometime P k) j) → Sometime P j
  later P j w = (w.2.0, omega (arith, w.1, w.2.1), w.2.2)

  milestone_true : (C T M : Ltl) → Truth t (entails C (eventually M)) 0 → Truth t (entails M (eventually T)) 0 → Truth t (entails C (eventually T)) 0
  milestone_true C T M one two j l c =
      let w = one j l c in
      later (Truth t T) j (w.0, w.1, two w.0 (omega arith) w.2)

  cases_true : (C T P Q : Ltl) → Truth t (entails (conj C P) (eventually T)) 0 → Truth t (entails (conj C Q) (eventually T)) 0 → Truth t (entails C (disj P Q)) 0
      → Truth t (entails C (eventually T)) 0
  cases_true C T P Q one two some j l c = ⊎_elim (λ p. one j l (c, p)) (λ q. two j l (c, q)) (some j l c)

  guard_true : (C T D : Ltl) → Truth t (entails (conj C D) (eventually T)) 0 → Truth t (entails C (eventually D)) 0 → Truth t (entails C (unless C T)) 0
      → Truth t (entails C (eventually T)) 0
  guard_true C T D one two stays j l c = ⊎_elim (λ u. (u.0, u.1, u.2.0)) for_ever (stays j l c)
    where
      for_ever : Ever (Truth t C) j → Sometime (Truth t T) j
      for_ever e =
          let w = two j l c in
          later (Truth t T) j (w.0, w.1, one w.0 (omega arith) (e w.0 w.1, w.2))

  split_true : (C P Q : Ltl) → Truth t (entails C P) 0 → Truth t (entails C Q) 0 → Truth t (entails C (conj P Q)) 0
  split_true C P Q one two j l c = (one j l c, two j l c)

  kept : (P : ℕ → Type 0) → ((j : ℕ) → P j → P (j + 1)) → (j d : ℕ) → P j → P (j + d)
  kept P step j zero h = let e : j ≡ j + 0 = omega arith in subst P e h
  kept P step j (suc d) h = let e : j + d + 1 ≡ j + suc d = omega arith in subst P e (step (j + d) (kept P step j d h))

  induction_true : (C P : Ltl) → Truth t (entails C P) 0 → Truth t (entails P (next P)) 0 → Truth t (entails C (always P)) 0
  induction_true C P one step j l c k o =
      let e : j + (k - j) ≡ k = omega arith in
      subst (Truth t P) e (kept (Truth t P) (λ i. step i (omega arith)) j (k - j) (one j l c))

  pub library_refuted : (kind : PatternKind) → ¬ (Meets t (pattern_list (pattern_of kind)))
  library_refuted Milestone = two_suffice _ _ _ (milestone_true (flag 0) (flag 1) (flag 2))
  library_refuted Cases = three_suffice _ _ _ _ (cases_true (flag 0) (flag 1) (flag 2) (flag 3))
  library_refuted Guard = three_suffice _ _ _ _ (guard_true (flag 0) (flag 1) (flag 2))
  library_refuted Split = two_suffice _ _ _ (split_true (flag 0) (flag 1) (flag 2))
  library_refuted Induction = two_suffice _ _ _ (induction_true (flag 0) (flag 1))

-- each is over its placeholders
pub library_over : (kind : PatternKind) → IsPattern (pattern_of kind)
library_over Milestone = record {
  parent = (omega arith, omega arith);
  subgoals = All-from_recursion (IsOverPlaceholders 3) (pattern_of Milestone).subgoals ((omega arith, omega arith), ((omega arith, omega arith), tt));
}
library_over Cases = record {
  parent = (omega arith, omega arith);
  subgoals =
      All-from_recursion (IsOverPlaceholders 4) (pattern_of Cases).subgoals
      (((omega arith, omega arith), omega arith), (((omega arith, omega arith), omega arith), ((omega arith, (omega arith, omega arith)), tt)));
}
library_over Guard = record {
  parent = (omega arith, omega arith);
  subgoals =
      All-from_recursion (IsOverPlaceholders 3) (pattern_of Guard).subgoals
      (((omega arith, omega arith), omega arith), ((omega arith, omega arith), ((omega arith, (omega arith, omega arith)), tt)));
}
library_over Split = record {
  parent = (omega arith, (omega arith, omega arith));
  subgoals = All-from_recursion (IsOverPlaceholders 3) (pattern_of Split).subgoals ((omega arith, omega arith), ((omega arith, omega arith), tt));
}
library_over Induction = record {
  parent = (omega arith, omega arith);
  subgoals = All-from_recursion (IsOverPlaceholders 2) (pattern_of Induction).subgoals ((omega arith, omega arith), ((omega arith, omega arith), tt));
}
