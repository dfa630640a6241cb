-- The cores of operators whose operands are put one after another.
use Rattle.std.proofs.Common.{◌≡◌, ℕ, Bool, not, List, refl, sym, ap, ◌∙◌, subst}
use Rattle.std.specs.Prelude.{Result, Ok, Err, IsErrAnd}
use Rattle.bound_unfolding.specs.CoreForm.{CoreForm, after}
use Rattle.bound_unfolding.specs.CoreTree.{joined, fixed, steps, chain}
use Rattle.formula_table.specs.declared.shape.FormulaId.{FormulaId}
use Rattle.formula_table.specs.declared.table.PutRefusal.{PutRefusal}
use Rattle.formula_table.specs.Closures.{formula_at, with_formula, with_core}
use Rattle.formula_table.specs.CorePuts.{IsCorePut}
use Rattle.formula_table.specs.Tables.{IsKept}
use Rattle.formula_table.proofs.Cores.{kept_then}
use Rattle.formula_table.proofs.CoreLaws.{core_again}
use Rattle.formula_table.proofs.CorePuts.{handed_on, refused, rebased, then_first, then_both, refused_first, refused_second, then_part, put_at, joined_at, fixed_at, joined_over, fixed_over}
use Rattle.formula_table.proofs.StepLaws.{steps_begin, chain_begin, chain_hold_both}

-- ---- both operands, and then the core over them
module _ (old one two : List CoreForm) (i j : FormulaId) (a b : CoreForm) (first : IsCorePut a old one (Ok i)) (second : IsCorePut b one two (Ok j)) (new : List CoreForm) (r : Result FormulaId PutRefusal) where
  -- joined
  pub both_joined : (each : Bool) → IsCorePut (joined each (formula_at two i.0) (formula_at two j.0)) two new r → IsCorePut (joined each a b) old new r
  both_joined each p = then_both (joined each a b) a b (joined_over each a b) old one two new i j r first second (joined_at each two new i j a b r (put_at a old one i first two second.kept) second.id p)

  -- fixed
  pub both_fixed : (each : Bool) → IsCorePut (fixed each (formula_at two i.0) (formula_at two j.0)) two new r → IsCorePut (fixed each a b) old new r
  both_fixed each p = then_both (fixed each a b) a b (fixed_over each a b) old one two new i j r first second (fixed_at each two new i j a b r (put_at a old one i first two second.kept) second.id p)

-- ---- the operand, and then the core over it
module _ (old mid new : List CoreForm) (i : FormulaId) (a : CoreForm) (r : Result FormulaId PutRefusal) (first : IsCorePut a old mid (Ok i)) where
  -- at the next position
  pub one_after : IsCorePut (after (formula_at mid i.0)) mid new r → IsCorePut (after a) old new r
  one_after p = then_part a (after a) old mid new i r (ap (with_formula (after a)) (core_again a old)) first (subst (λ z. IsCorePut (after z) mid new r) first.id p)

  -- at each step
  pub one_steps : (each : Bool) (k : ℕ) → IsCorePut (steps each k (formula_at mid i.0)) mid new r → IsCorePut (steps each k a) old new r
  one_steps each k p = then_part a (steps each k a) old mid new i r (steps_begin each a a old k) first (subst (λ z. IsCorePut (steps each k z) mid new r) first.id p)

-- ---- the second operand of a chain, the first one, and then the chain
module _ (old one two new : List CoreForm) (i j : FormulaId) (a b : CoreForm) (r : Result FormulaId PutRefusal) (second : IsCorePut b old one (Ok j)) (each : Bool) (k : ℕ) (some : ¬ (k ≡ 0)) where
  -- all of them
  pub both_chain : IsCorePut a one two (Ok i) → IsCorePut (chain each k (formula_at two i.0) (formula_at two j.0)) two new r → IsCorePut (chain each k a b) old new r
  both_chain first p =
      let named = subst (λ z. IsCorePut (chain each k a z) two new r) (put_at b old one j second two first.kept) (subst (λ z. IsCorePut (chain each k z (formula_at two j.0)) two new r) first.id p) in
      rebased (chain each k a b) old two new r (kept_then old one two second.kept first.kept) (ap (with_core (chain each k a b)) (first.put ∙ ap (with_core a) second.put) ∙ chain_begin each a b old k some) named

  -- as far as a refusal at the first one
  pub chain_refused : (e : PutRefusal) → IsErrAnd r (λ x. x ≡ e) → IsCorePut a one new (Err e) → IsCorePut (chain each k a b) old new r
  chain_refused e gave p =
      handed_on (IsCorePut (chain each k a b) old new) r e gave
      (refused a (chain each k a b) old one new e second.kept (subst (λ z. IsKept (with_core a z) (with_core (chain each k a b) old)) (sym second.put) (chain_hold_both each a b old k some)) p)

-- ---- the second operand of `unless`, the first one, both, and then the core
module _ (old one two : List CoreForm) (i j : FormulaId) (a b : CoreForm) (s : Bool) (second : IsCorePut b old one (Ok j)) where
  -- as far as both
  step_put : (three : List CoreForm) (r : Result FormulaId PutRefusal) → IsCorePut a one two (Ok i) → IsCorePut (joined (not s) (formula_at two i.0) (formula_at two j.0)) two three r → IsCorePut (joined (not s) a b) one three r
  step_put three r first p = then_first (joined (not s) a b) a b (joined_over (not s) a b) one two three i r first (joined_at (not s) two three i j a b r first.id (put_at b old one j second two first.kept) p)

  module _ (new : List CoreForm) (r : Result FormulaId PutRefusal) where
    -- all of them
    pub unless_put : (three : List CoreForm) (k : FormulaId) → IsCorePut a one two (Ok i) → IsCorePut (joined (not s) (formula_at two i.0) (formula_at two j.0)) two three (Ok k) → IsCorePut (fixed s (formula_at three j.0) (formula_at three k.0)) three new r → IsCorePut (fixed s b (joined (not s) a b)) old new r
    unless_put three k first p q = both_fixed old one three j k b (joined (not s) a b) second (step_put three (Ok k) first p) new r s q

    module _ (e : PutRefusal) (gave : IsErrAnd r (λ x. x ≡ e)) where
      -- as far as a refusal at both
      pub step_refused : IsCorePut a one two (Ok i) → IsCorePut (joined (not s) (formula_at two i.0) (formula_at two j.0)) two new (Err e) → IsCorePut (fixed s b (joined (not s) a b)) old new r
      step_refused first p = let step = joined (not s) a b in refused_second (fixed s b step) b step (fixed_over s b step) r e gave old one new j second (step_put new (Err e) first p)

      -- as far as a refusal at the first one
      pub again_refused : IsCorePut a one new (Err e) → IsCorePut (fixed s b (joined (not s) a b)) old new r
      again_refused p =
          let step = joined (not s) a b in
          refused_second (fixed s b step) b step (fixed_over s b step) r e gave old one new j second (refused_first step a b (joined_over (not s) a b) (Err e) e refl one new p)
