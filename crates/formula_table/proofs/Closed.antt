-- All that stands in a formula of a table is in the table, so that it brings nothing.
use Rattle.std.proofs.Common.{◌≡◌, ℕ, zero, suc, ◌<◌, List, length, refl, sym, ap, ◌∙◌, subst, arith}
use Rattle.std.specs.Prelude.{Ok, slice_index_or}
use Rattle.bound_unfolding.specs.CoreForm.{CoreForm, both, either, after, core_until, core_release}
use Rattle.formula_table.specs.declared.shape.FormulaId.{FormulaId}
use Rattle.formula_table.specs.declared.shape.Shape.{Shape}
use Rattle.formula_table.specs.declared.shape.Shape.TheVariants.{True, False, Lit, And, Or, Next, Until, Release}
use Rattle.formula_table.specs.Closures.{formula_at, with_formula, with_core}
use Rattle.formula_table.specs.CorePuts.{IsCorePut}
use Rattle.formula_table.specs.Decoding.{formula_of, OperandsBelow, decoded, OperandsFirst}
use Rattle.formula_table.specs.Tables.{IsKept}
use Rattle.formula_table.proofs.Decodings.{shape_formula, shape_below}
use Rattle.formula_table.proofs.Members.{member_where}
use Rattle.formula_table.proofs.Puts.{with_known}
use Rattle.formula_table.proofs.Cores.{kept_self}

-- a core over two that bring nothing brings itself alone
two : (f a b : CoreForm) (cl : List CoreForm) → with_core a cl ≡ cl → with_core b cl ≡ cl → with_formula f (with_core b (with_core a cl)) ≡ with_formula f cl
two f a b cl p q = ap (λ z. with_formula f (with_core b z)) p ∙ ap (with_formula f) q

module _ (cl : List CoreForm) (n : ℕ) (h : (k : ℕ) → k < n → with_core (formula_at cl k) cl ≡ cl) where
  -- and so does a shape
  pub shape_settled : (s : Shape) → OperandsBelow n s → with_core (formula_of cl s) cl ≡ with_formula (formula_of cl s) cl
  shape_settled True b = refl
  shape_settled False b = refl
  shape_settled (Lit x s) b = refl
  shape_settled (And x y) b = two (both (formula_at cl x.0) (formula_at cl y.0)) (formula_at cl x.0) (formula_at cl y.0) cl (h x.0 b.0) (h y.0 b.1)
  shape_settled (Or x y) b = two (either (formula_at cl x.0) (formula_at cl y.0)) (formula_at cl x.0) (formula_at cl y.0) cl (h x.0 b.0) (h y.0 b.1)
  shape_settled (Next x) b = ap (with_formula (after (formula_at cl x.0))) (h x.0 b)
  shape_settled (Until x y) b = two (core_until (formula_at cl x.0) (formula_at cl y.0)) (formula_at cl x.0) (formula_at cl y.0) cl (h x.0 b.0) (h y.0 b.1)
  shape_settled (Release x y) b = two (core_release (formula_at cl x.0) (formula_at cl y.0)) (formula_at cl x.0) (formula_at cl y.0) cl (h x.0 b.0) (h y.0 b.1)

module _ (ss : List Shape) (o : OperandsFirst 0 ss) where
  -- a formula brings nothing where those before it bring nothing
  below_settled : (n k : ℕ) → k < n → k < length (decoded ss) → with_core (formula_at (decoded ss) k) (decoded ss) ≡ decoded ss
  below_settled zero k l b = absurd (omega arith)
  below_settled (suc n) k l b =
      let cl = decoded ss in
      let s = slice_index_or ss k True in
      let e : formula_of cl s ≡ formula_at cl k = shape_formula ss o k b in
      let operands = shape_settled cl k (λ j m. below_settled n j (omega arith) (omega arith)) s (shape_below ss o k b) in
      subst (λ z. with_core z cl ≡ cl) e (operands ∙ with_known cl (formula_of cl s) (member_where cl (formula_of cl s) k b (sym e)))

  -- a formula of a table brings nothing
  pub table_settled : (k : ℕ) → k < length (decoded ss) → with_core (formula_at (decoded ss) k) (decoded ss) ≡ decoded ss
  table_settled k b = below_settled (suc k) k (omega arith) b

  -- a shape over formulas of a table brings itself alone
  pub node_settled : (s : Shape) → OperandsBelow (length (decoded ss)) s → with_core (formula_of (decoded ss) s) (decoded ss) ≡ with_formula (formula_of (decoded ss) s) (decoded ss)
  node_settled = shape_settled (decoded ss) (length (decoded ss)) table_settled

  -- the number of a formula of a table is what comes of putting it
  pub already_put : (id : FormulaId) (core : CoreForm) → id.0 < length (decoded ss) → formula_at (decoded ss) id.0 ≡ core → IsCorePut core (decoded ss) (decoded ss) (Ok id)
  already_put id core b e =
      let settled : with_core core (decoded ss) ≡ decoded ss = subst (λ z. with_core z (decoded ss) ≡ decoded ss) e (table_settled id.0 b) in
      record {
        put = sym settled;
        id = e;
        inside = b;
        full = λ p. absurd (cc);
        kept = kept_self (decoded ss);
        part = subst (IsKept (decoded ss)) (sym settled) (kept_self (decoded ss));
      }
