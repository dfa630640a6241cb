-- Bounded operators over operands that are there: a step more comes behind the steps before it.
use Rattle.std.proofs.Common.{◌≡◌, ℕ, zero, suc, ◌<◌, ◌≤◌, inl, inr, Bool, not, List, refl, sym, ap, ◌∙◌, subst, arith}
use Rattle.std.specs.Prelude.{Result, Ok, Err, IsErrAnd}
use Rattle.std.proofs.lemmas.Bool.{cases_lt}
use Rattle.bound_unfolding.specs.CoreForm.{CoreForm, after}
use Rattle.bound_unfolding.specs.CoreTree.{joined, steps, chain}
use Rattle.formula_table.specs.declared.shape.FormulaId.{FormulaId}
use Rattle.formula_table.specs.declared.table.PutRefusal.{PutRefusal}
use Rattle.formula_table.specs.Closures.{formula_at, with_formula, with_core}
use Rattle.formula_table.specs.CorePuts.{IsCorePut}
use Rattle.formula_table.specs.Tables.{IsKept}
use Rattle.formula_table.proofs.Puts.{with_kept}
use Rattle.formula_table.proofs.Cores.{kept_self, kept_then}
use Rattle.formula_table.proofs.CoreLaws.{core_again}
use Rattle.formula_table.proofs.CorePuts.{rebased, refused, handed_on, first_again, first_kept, second_kept, deep_again, deep_kept, joined_over}

-- ---- cores of which each comes behind the one before
module _ (core : ℕ → CoreForm) (old : List CoreForm) (again : (k : ℕ) → with_core (core (suc k)) (with_core (core k) old) ≡ with_core (core (suc k)) old) (more : (k : ℕ) → IsKept (with_core (core k) old) (with_core (core (suc k)) old)) where
  -- what one brings stays in those behind it
  up_to : (k n : ℕ) → k ≤ n → IsKept (with_core (core k) old) (with_core (core n) old)
  up_to k zero l = let e : k ≡ zero = omega arith in subst (λ m. IsKept (with_core (core k) old) (with_core (core m) old)) e (kept_self (with_core (core k) old))
  up_to k (suc n) l = elim (cases_lt n k) [
    | inl b ↦ let e : k ≡ suc n = omega arith in subst (λ m. IsKept (with_core (core k) old) (with_core (core m) old)) e (kept_self (with_core (core k) old))
    | inr m ↦ kept_then (with_core (core k) old) (with_core (core n) old) (with_core (core (suc n)) old) (up_to k n m) (more n)
  ]

  module _ (k n : ℕ) (e : n ≡ suc k) (mid new : List CoreForm) (i : FormulaId) (done : IsCorePut (core k) old mid (Ok i)) where
    -- after one more
    pub one_more : (r : Result FormulaId PutRefusal) → IsCorePut (core (suc k)) mid new r → IsCorePut (core n) old new r
    one_more r p = subst (λ m. IsCorePut (core m) old new r) (sym e) (rebased (core (suc k)) old mid new r done.kept (ap (with_core (core (suc k))) done.put ∙ again k) p)

    -- after a refusal on the way to a bound
    pub none_more : (bound : ℕ) → k < bound → (r : Result FormulaId PutRefusal) (x : PutRefusal) → IsErrAnd r (λ y. y ≡ x) → IsCorePut (core (suc k)) mid new (Err x) → IsCorePut (core bound) old new r
    none_more bound l r x gave p =
        handed_on (IsCorePut (core bound) old new) r x gave
        (refused (core (suc k)) (core bound) old old new x (kept_self old) (up_to (suc k) bound (omega arith)) (rebased (core (suc k)) old mid new (Err x) done.kept (ap (with_core (core (suc k))) done.put ∙ again k) p))

-- ---- the steps of an operand that is there
module _ (each : Bool) (a : CoreForm) (old : List CoreForm) (settled : with_core a old ≡ old) where
  -- the steps before one more come again in it
  pub steps_again : (k : ℕ) → with_core (steps each (suc k) a) (with_core (steps each k a) old) ≡ with_core (steps each (suc k) a) old
  steps_again k =
      let rest = steps each k a in
      deep_again (steps each (suc k) a) a (after rest) (joined_over each a (after rest)) rest old settled (ap (with_formula (after rest)) (core_again rest old))

  -- and stay
  pub steps_more : (k : ℕ) → IsKept (with_core (steps each k a) old) (with_core (steps each (suc k) a) old)
  steps_more k =
      let rest = steps each k a in
      deep_kept (steps each (suc k) a) a (after rest) (joined_over each a (after rest)) rest old settled (with_kept (with_core rest old) (after rest))

-- ---- the chain of two operands that are there
module _ (each : Bool) (a b : CoreForm) (old : List CoreForm) (first : with_core a old ≡ old) (second : with_core b old ≡ old) where
  -- the chain before one step more comes again in it
  pub chain_again : (k : ℕ) → with_core (chain each (suc k) a b) (with_core (chain each k a b) old) ≡ with_core (chain each (suc k) a b) old
  chain_again k =
      let rest = chain each k a b in
      let on = joined (not each) a (after rest) in
      deep_again (chain each (suc k) a b) b on (joined_over each b on) rest old second
      (deep_again on a (after rest) (joined_over (not each) a (after rest)) rest old first (ap (with_formula (after rest)) (core_again rest old)))

  -- and stays
  pub chain_more : (k : ℕ) → IsKept (with_core (chain each k a b) old) (with_core (chain each (suc k) a b) old)
  chain_more k =
      let rest = chain each k a b in
      let on = joined (not each) a (after rest) in
      deep_kept (chain each (suc k) a b) b on (joined_over each b on) rest old second
      (deep_kept on a (after rest) (joined_over (not each) a (after rest)) rest old first (with_kept (with_core rest old) (after rest)))

-- ---- operands by their numbers
module _ (each : Bool) (a rest : CoreForm) (mid new : List CoreForm) (i k : FormulaId) (r : Result FormulaId PutRefusal) (e : formula_at mid i.0 ≡ a) (g : formula_at mid k.0 ≡ rest) where
  -- a step over numbers is one over what they stand for
  pub step_at : IsCorePut (joined each (formula_at mid i.0) (after (formula_at mid k.0))) mid new r → IsCorePut (joined each a (after rest)) mid new r
  step_at p = subst (λ z. IsCorePut (joined each z (after rest)) mid new r) e (subst (λ z. IsCorePut (joined each (formula_at mid i.0) (after z)) mid new r) g p)

  -- and so is a link of a chain
  pub link_at : (b : CoreForm) (j : FormulaId) → formula_at mid j.0 ≡ b → IsCorePut (joined each (formula_at mid j.0) (joined (not each) (formula_at mid i.0) (after (formula_at mid k.0)))) mid new r → IsCorePut (joined each b (joined (not each) a (after rest))) mid new r
  link_at b j f p =
      subst (λ z. IsCorePut (joined each z (joined (not each) a (after rest))) mid new r) f
      (subst (λ z. IsCorePut (joined each (formula_at mid j.0) (joined (not each) z (after rest))) mid new r) e
      (subst (λ z. IsCorePut (joined each (formula_at mid j.0) (joined (not each) (formula_at mid i.0) (after z))) mid new r) g p))

-- ---- operands that are put before
module _ (each : Bool) (a b : CoreForm) (cl : List CoreForm) where
  -- the operand of steps comes again in them
  pub steps_begin : (k : ℕ) → with_core (steps each k a) (with_core a cl) ≡ with_core (steps each k a) cl
  steps_begin zero = core_again a cl
  steps_begin (suc k) = let rest = after (steps each k a) in first_again (joined each a rest) a rest (joined_over each a rest) cl

  -- and stays
  pub steps_hold : (k : ℕ) → IsKept (with_core a cl) (with_core (steps each k a) cl)
  steps_hold zero = kept_self (with_core a cl)
  steps_hold (suc k) = let rest = after (steps each k a) in first_kept (joined each a rest) a rest (joined_over each a rest) cl

  -- the operands of a chain that has a step come again in it
  pub chain_begin : (k : ℕ) → ¬ (k ≡ 0) → with_core (chain each k a b) (with_core a (with_core b cl)) ≡ with_core (chain each k a b) cl
  chain_begin zero n = absurd (n refl)
  chain_begin (suc k) n =
      let rest = after (chain each k a b) in
      let on = joined (not each) a rest in
      deep_again (joined each b on) b on (joined_over each b on) a (with_core b cl) (core_again b cl) (first_again on a rest (joined_over (not each) a rest) (with_core b cl))
      ∙ first_again (joined each b on) b on (joined_over each b on) cl

  -- the second operand of a chain stays
  pub chain_hold : (k : ℕ) → IsKept (with_core b cl) (with_core (chain each k a b) cl)
  chain_hold zero = kept_self (with_core b cl)
  chain_hold (suc k) = let on = joined (not each) a (after (chain each k a b)) in first_kept (joined each b on) b on (joined_over each b on) cl

  -- and both do where it has a step
  pub chain_hold_both : (k : ℕ) → ¬ (k ≡ 0) → IsKept (with_core a (with_core b cl)) (with_core (chain each k a b) cl)
  chain_hold_both zero n = absurd (n refl)
  chain_hold_both (suc k) n =
      let rest = after (chain each k a b) in
      let on = joined (not each) a rest in
      kept_then (with_core a (with_core b cl)) (with_core on (with_core b cl)) (with_core (joined each b on) cl) (first_kept on a rest (joined_over (not each) a rest) (with_core b cl)) (second_kept (joined each b on) b on (joined_over each b on) cl)
