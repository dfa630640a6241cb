-- One core put after another: the operands of a core, and then the core.
use Rattle.std.proofs.Common.{◌≡◌, ◌<◌, Bool, true, false, List, length, refl, sym, ap, ◌∙◌, subst, arith}
use Rattle.std.specs.Prelude.{Result, Ok, Err, OnOk, IsErrAnd}
use Rattle.bound_unfolding.specs.CoreForm.{CoreForm}
use Rattle.bound_unfolding.specs.CoreTree.{joined, fixed}
use Rattle.formula_table.specs.declared.shape.FormulaId.{FormulaId}
use Rattle.formula_table.specs.declared.table.PutRefusal.{PutRefusal}
use Rattle.formula_table.specs.declared.table.PutRefusal.TheVariants.{Memory}
use Rattle.formula_table.specs.Closures.{formula_at, with_formula, with_core}
use Rattle.formula_table.specs.Distinct.{IsMember}
use Rattle.formula_table.specs.Tables.{IsKept}
use Rattle.formula_table.specs.CorePuts.{IsCorePut}
use Rattle.formula_table.proofs.Puts.{with_kept}
use Rattle.formula_table.proofs.Cores.{kept_self, kept_then, core_kept}
use Rattle.formula_table.proofs.CoreLaws.{member_kept, core_members, core_known, core_again}

-- a core that brings nothing brings nothing later
pub settled_kept : (c : CoreForm) (cl new : List CoreForm) → with_core c cl ≡ cl → IsKept cl new → with_core c new ≡ new
settled_kept c cl new e kept = core_known c new (λ d s. member_kept cl new kept d (subst (λ z. IsMember z d) e (core_members c cl d s)))

-- what comes of putting a core into a closure that has a part of it comes of putting it into the one before
pub rebased : (c : CoreForm) (old mid new : List CoreForm) (r : Result FormulaId PutRefusal) → IsKept old mid → with_core c mid ≡ with_core c old → IsCorePut c mid new r → IsCorePut c old new r
rebased c old mid new r kept e p = record {
  put = subst (λ z. OnOk r (new ≡ z)) e p.put;
  id = p.id;
  inside = p.inside;
  full = λ f. subst (λ z. 4096 < length z) e (p.full f);
  kept = kept_then old mid new kept p.kept;
  part = subst (IsKept new) e p.part;
}

-- a refusal at a core is one at a core that brings more
pub refused : (a c : CoreForm) (old mid new : List CoreForm) (e : PutRefusal) → IsKept old mid → IsKept (with_core a mid) (with_core c old) → IsCorePut a mid new (Err e) → IsCorePut c old new (Err e)
refused a c old mid new e kept more p = record {
  put = tt;
  id = tt;
  inside = tt;
  full = λ f. let l = p.full f in omega (arith, l, more.0);
  kept = kept_then old mid new kept p.kept;
  part = kept_then new (with_core a mid) (with_core c old) p.part more;
}

-- ---- a core that was put is there
module _ (c : CoreForm) (old new : List CoreForm) (i : FormulaId) (p : IsCorePut c old new (Ok i)) where
  -- it brings nothing then
  pub put_settled : with_core c new ≡ new
  put_settled = subst (λ z. with_core c z ≡ z) (sym p.put) (core_again c old)

  -- its number stays its own
  pub put_at : (later : List CoreForm) → IsKept new later → formula_at later i.0 ≡ c
  put_at later kept = kept.1 i.0 p.inside ∙ p.id

-- what holds of a refusal holds of the result that hands it on
pub handed_on : {X : Type 0} (P : Result X PutRefusal → Type 0) (r : Result X PutRefusal) (e : PutRefusal) → IsErrAnd r (λ x. x ≡ e) → P (Err e) → P r
handed_on P (Ok x) e h p = absurd h
handed_on P (Err x) e h p = subst (λ z. P (Err z)) (sym h) p

-- ---- a core over two operands
module _ (f a b : CoreForm) (over : (cl : List CoreForm) → with_core f cl ≡ with_formula f (with_core b (with_core a cl))) where
  -- the first operand comes again in the core
  pub first_again : (cl : List CoreForm) → with_core f (with_core a cl) ≡ with_core f cl
  first_again cl = over (with_core a cl) ∙ ap (λ z. with_formula f (with_core b z)) (core_again a cl) ∙ sym (over cl)

  -- what comes again in the second operand comes again in the core, where the first operand is there
  pub deep_again : (c : CoreForm) (cl : List CoreForm) → with_core a cl ≡ cl → with_core b (with_core c cl) ≡ with_core b cl → with_core f (with_core c cl) ≡ with_core f cl
  deep_again c cl settled again =
      let one = with_core c cl in
      over one ∙ ap (λ z. with_formula f (with_core b z)) (settled_kept a cl one settled (core_kept c cl)) ∙ ap (with_formula f) again
      ∙ sym (over cl ∙ ap (λ z. with_formula f (with_core b z)) settled)

  -- what the operands bring stays
  pub second_kept : (cl : List CoreForm) → IsKept (with_core b (with_core a cl)) (with_core f cl)
  second_kept cl = subst (IsKept (with_core b (with_core a cl))) (sym (over cl)) (with_kept (with_core b (with_core a cl)) f)

  -- what stays in the second operand stays in the core, where the first operand is there
  pub deep_kept : (c : CoreForm) (cl : List CoreForm) → with_core a cl ≡ cl → IsKept (with_core c cl) (with_core b cl) → IsKept (with_core c cl) (with_core f cl)
  deep_kept c cl settled kept = kept_then (with_core c cl) (with_core b cl) (with_core f cl) kept (subst (λ z. IsKept (with_core b z) (with_core f cl)) settled (second_kept cl))

  -- what the first operand brings stays
  pub first_kept : (cl : List CoreForm) → IsKept (with_core a cl) (with_core f cl)
  first_kept cl = kept_then (with_core a cl) (with_core b (with_core a cl)) (with_core f cl) (core_kept b (with_core a cl)) (second_kept cl)

  module _ (old mid new : List CoreForm) where
    -- after the first operand
    pub then_first : (i : FormulaId) (r : Result FormulaId PutRefusal) → IsCorePut a old mid (Ok i) → IsCorePut f mid new r → IsCorePut f old new r
    then_first i r p q = rebased f old mid new r p.kept (ap (with_core f) p.put ∙ first_again old) q

    -- after the second one, where the first is there
    pub then_second : (i : FormulaId) (r : Result FormulaId PutRefusal) → with_core a old ≡ old → IsCorePut b old mid (Ok i) → IsCorePut f mid new r → IsCorePut f old new r
    then_second i r settled p q = rebased f old mid new r p.kept (ap (with_core f) p.put ∙ deep_again b old settled (core_again b old)) q

  -- after both
  pub then_both : (old one two new : List CoreForm) (i j : FormulaId) (r : Result FormulaId PutRefusal) → IsCorePut a old one (Ok i) → IsCorePut b one two (Ok j) → IsCorePut f two new r → IsCorePut f old new r
  then_both old one two new i j r p q s = then_first old one new i r p (then_second one two new j r (put_settled a old one i p) q s)

  -- a refusal at an operand is handed on
  module _ (r : Result FormulaId PutRefusal) (e : PutRefusal) (gave : IsErrAnd r (λ x. x ≡ e)) where
    -- at the first one
    pub refused_first : (old new : List CoreForm) → IsCorePut a old new (Err e) → IsCorePut f old new r
    refused_first old new p = handed_on (IsCorePut f old new) r e gave (refused a f old old new e (kept_self old) (first_kept old) p)

    -- at the second one
    pub refused_second : (old mid new : List CoreForm) (i : FormulaId) → IsCorePut a old mid (Ok i) → IsCorePut b mid new (Err e) → IsCorePut f old new r
    refused_second old mid new i p q = handed_on (IsCorePut f old new) r e gave (refused b f old mid new e p.kept (subst (λ z. IsKept (with_core b z) (with_core f old)) (sym p.put) (second_kept old)) q)

    -- at the second one, where the first is there
    pub refused_rest : (old new : List CoreForm) → with_core a old ≡ old → IsCorePut b old new (Err e) → IsCorePut f old new r
    refused_rest old new settled q = handed_on (IsCorePut f old new) r e gave (refused b f old old new e (kept_self old) (deep_kept b old settled (kept_self (with_core b old))) q)

-- a joined core is one over two operands
pub joined_over : (each : Bool) (a b : CoreForm) (cl : List CoreForm) → with_core (joined each a b) cl ≡ with_formula (joined each a b) (with_core b (with_core a cl))
joined_over true a b cl = refl
joined_over false a b cl = refl

-- and so is a fixed one
pub fixed_over : (each : Bool) (a b : CoreForm) (cl : List CoreForm) → with_core (fixed each a b) cl ≡ with_formula (fixed each a b) (with_core b (with_core a cl))
fixed_over true a b cl = refl
fixed_over false a b cl = refl

-- ---- operands by their numbers
module _ (each : Bool) (mid new : List CoreForm) (i j : FormulaId) (a b : CoreForm) (r : Result FormulaId PutRefusal) (e : formula_at mid i.0 ≡ a) (f : formula_at mid j.0 ≡ b) where
  -- a joined core over numbers is one over what they stand for
  pub joined_at : IsCorePut (joined each (formula_at mid i.0) (formula_at mid j.0)) mid new r → IsCorePut (joined each a b) mid new r
  joined_at p = subst (λ z. IsCorePut (joined each z b) mid new r) e (subst (λ z. IsCorePut (joined each (formula_at mid i.0) z) mid new r) f p)

  -- and so is a fixed one
  pub fixed_at : IsCorePut (fixed each (formula_at mid i.0) (formula_at mid j.0)) mid new r → IsCorePut (fixed each a b) mid new r
  fixed_at p = subst (λ z. IsCorePut (fixed each z b) mid new r) e (subst (λ z. IsCorePut (fixed each (formula_at mid i.0) z) mid new r) f p)

-- ---- a core of which a part was put
module _ (part c : CoreForm) where
  -- after the part
  pub then_part : (old mid new : List CoreForm) (i : FormulaId) (r : Result FormulaId PutRefusal) → with_core c (with_core part old) ≡ with_core c old → IsCorePut part old mid (Ok i) → IsCorePut c mid new r → IsCorePut c old new r
  then_part old mid new i r again p q = rebased c old mid new r p.kept (ap (with_core c) p.put ∙ again) q

  -- after a refusal at the part
  pub refused_part : (old new : List CoreForm) (r : Result FormulaId PutRefusal) (e : PutRefusal) → IsErrAnd r (λ x. x ≡ e) → IsKept (with_core part old) (with_core c old) → IsCorePut part old new (Err e) → IsCorePut c old new r
  refused_part old new r e gave more p = handed_on (IsCorePut c old new) r e gave (refused part c old old new e (kept_self old) more p)

-- a refusal for want of memory before anything was put
pub nothing_put : (c : CoreForm) (old : List CoreForm) (r : Result FormulaId PutRefusal) → IsErrAnd r (λ x. x ≡ Memory) → IsCorePut c old old r
nothing_put c old r gave = handed_on (IsCorePut c old old) r Memory gave (record {
  put = tt;
  id = tt;
  inside = tt;
  full = λ f. absurd (cc);
  kept = kept_self old;
  part = core_kept c old;
})
