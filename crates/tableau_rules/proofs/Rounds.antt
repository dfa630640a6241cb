-- A list that goes on as another list, over and over: what comes again, and the first round.
use Rattle.std.proofs.Common.{◌≡◌, ℕ, zero, suc, ◌+◌, ◌-◌, ◌%◌, ◌<◌, ◌≤◌, List, ◌++◌, nat_lt, cond, sym, ap, subst, ◌∙◌, arith, length, mod-eq_of_lt, ⊎_elim, inl, inr}
use Rattle.std.specs.Prelude.{slice_index_or}
use Rattle.std.proofs.Math.Nat.{add-mod_right}
use Rattle.std.proofs.Math.ListN.{get_or-append}
use Rattle.std.proofs.Math.Seq.{get_or-append_right}
use Rattle.std.proofs.lemmas.Bool.{cases_lt, le-ltb, lt-ltb, cond-false, cond-true}

abbrev pub unrolled : {X : Type 0} → X → List X → List X → ℕ → X
unrolled d stem loop k = cond (nat_lt k (length stem)) (slice_index_or stem k d) (slice_index_or loop ((k - length stem) % length loop) d)

module _ {X : Type 0} (d : X) (stem loop : List X) where
  unrolled_before : (k : ℕ) → k < length stem → unrolled d stem loop k ≡ slice_index_or stem k d
  unrolled_before k h = cond-true _ _ _ (lt-ltb k (length stem) h)

  unrolled_behind : (k : ℕ) → length stem ≤ k → unrolled d stem loop k ≡ slice_index_or loop ((k - length stem) % length loop) d
  unrolled_behind k h = cond-false _ _ _ (le-ltb k (length stem) h)

  -- a round later it is the same
  pub unrolled_again : (k : ℕ) → length stem ≤ k → unrolled d stem loop (k + length loop) ≡ unrolled d stem loop k
  unrolled_again k l =
      let c = length loop in
      let e : k + c - length stem ≡ k - length stem + c = omega arith in
      unrolled_behind (k + c) (omega arith)
      ∙ ap (λ j. slice_index_or loop (j % c) d) e
      ∙ ap (λ j. slice_index_or loop j d) (add-mod_right (k - length stem) c)
      ∙ sym (unrolled_behind k l)

  pub first_round : (k : ℕ) → k < length stem + length loop → unrolled d stem loop k ≡ slice_index_or (stem ++ loop) k d
  first_round k l = ⊎_elim early late (cases_lt k (length stem))
    where
      early : k < length stem → unrolled d stem loop k ≡ slice_index_or (stem ++ loop) k d
      early b = unrolled_before k b ∙ sym (get_or-append stem loop d k b)

      late : length stem ≤ k → unrolled d stem loop k ≡ slice_index_or (stem ++ loop) k d
      late b =
          unrolled_behind k b
          ∙ ap (λ j. slice_index_or loop j d) (mod-eq_of_lt (omega arith))
          ∙ sym (get_or-append_right stem loop k d b)

  -- what holds along the stem and one round holds everywhere
  pub each_round : (P : X → X → Type 0) → 0 < length loop → ((k : ℕ) → k < length stem + length loop → P (unrolled d stem loop k) (unrolled d stem loop (suc k)))
      → (rounds k : ℕ) → k < length stem + length loop + rounds → P (unrolled d stem loop k) (unrolled d stem loop (suc k))
  each_round P some h zero k l = h k (omega arith)
  each_round P some h (suc rounds) k l =
      elim (cases_lt k (length stem + length loop)) [
        | inl b ↦ h k b
        | inr b ↦
            let c = length loop in
            let j = k - c in
            let q : j + c ≡ k = omega arith in
            let q_next : suc j + c ≡ suc k = omega arith in
            let e = sym (unrolled_again j (omega arith)) ∙ ap (unrolled d stem loop) q in
            let e_next = sym (unrolled_again (suc j) (omega arith)) ∙ ap (unrolled d stem loop) q_next in
            subst (λ z. P z (unrolled d stem loop (suc k))) e
            (subst (P (unrolled d stem loop j)) e_next (each_round P some h rounds j (omega arith)))
      ]
