-- What is known stays known as more comes.
use Rattle.std.proofs.Common.{ℕ, true, false, List, ◌∙◌, arith}
use Rattle.std.specs.Prelude.{Option, Some, None, Result, Ok, Err, OnOk}
use Rattle.temporal_logic.specs.Ltl.{Ltl}
use Rattle.bound_unfolding.specs.CoreForm.{CoreForm}
use Rattle.bound_unfolding.specs.CoreTree.{core_tree}
use Rattle.formula_table.specs.declared.shape.FormulaId.{FormulaId}
use Rattle.formula_table.specs.declared.notes.Notes.{Notes}
use Rattle.formula_table.specs.declared.notes.Notes.TheVariants.{Unmet, Met'}
use Rattle.formula_table.specs.declared.table.PutRefusal.{PutRefusal}
use Rattle.formula_table.specs.KnownNumbers.{first_operand, second_operand, IsNumber, AreKnown, AreBothKnown}
use Rattle.formula_table.specs.Tables.{IsKept}

-- of one number
number_kept : (old new : List CoreForm) → IsKept old new → (c : CoreForm) (o : Option FormulaId) → IsNumber old c o → IsNumber new c o
number_kept old new kept c (Some id) h = (omega (arith, h.0, kept.0), kept.1 id.0 h.0 ∙ h.1)
number_kept old new kept c None h = tt

-- of a formula
pub known_kept : (sizes : List ℕ) (old new : List CoreForm) → IsKept old new → (f : Ltl) (n : Notes) → AreKnown sizes old f n → AreKnown sizes new f n
known_kept sizes old new kept f Unmet h = tt
known_kept sizes old new kept f (Met' n p a b) h = (
  (number_kept old new kept (core_tree sizes true f) n.positive h.0.0, number_kept old new kept (core_tree sizes false f) n.negative h.0.1),
  known_kept sizes old new kept (first_operand f) a h.1,
  known_kept sizes old new kept (second_operand f) b h.2,
)

-- of two formulas
pub both_kept : (sizes : List ℕ) (old new : List CoreForm) → IsKept old new → (f g : Ltl) (n : Notes × Notes) → AreBothKnown sizes old f g n → AreBothKnown sizes new f g n
both_kept sizes old new kept f g n h = (known_kept sizes old new kept f n.0 h.0, known_kept sizes old new kept g n.1 h.1)

-- ---- and after a call, by what it kept
module _ {X : Type 0} (sizes : List ℕ) (old new : List CoreForm) (kept : IsKept old new) where
  -- of a formula
  pub still_known : (r : Result X PutRefusal) (f : Ltl) (n : Notes) → AreKnown sizes old f n → OnOk r (AreKnown sizes new f n)
  still_known (Ok x) f n h = known_kept sizes old new kept f n h
  still_known (Err e) f n h = tt

  -- of two formulas
  pub both_still_known : (r : Result X PutRefusal) (f g : Ltl) (n : Notes × Notes) → AreBothKnown sizes old f g n → OnOk r (AreBothKnown sizes new f g n)
  both_still_known (Ok x) f g n h = both_kept sizes old new kept f g n h
  both_still_known (Err e) f g n h = tt

  -- what a call says of the first of two formulas, and what it kept of the second
  pub first_known : (r : Result X PutRefusal) (f g : Ltl) (m n : Notes) → OnOk r (AreKnown sizes new f m) → AreKnown sizes old g n → OnOk r (AreBothKnown sizes new f g (m, n))
  first_known (Ok x) f g m n h k = (h, known_kept sizes old new kept g n k)
  first_known (Err e) f g m n h k = tt
