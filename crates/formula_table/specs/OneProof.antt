-- What a table carries has one proof.
use Rattle.std.specs.Prelude.{ℕ, suc, List, [], ◌∷◌}
use Rattle.std.specs.Coded.{→_prop, Unit-prop, le_prop}
use Rattle.bound_unfolding.specs.CoreForm.{CoreForm}
use Rattle.formula_table.specs.declared.shape.Shape.{Shape}
use Rattle.formula_table.specs.declared.shape.Shape.TheVariants.{And, Or, Next, Until, Release}
use Rattle.formula_table.specs.Decoding.{OperandsBelow, OperandsFirst}
use Rattle.formula_table.specs.Distinct.{IsDistinct}

-- any two proofs that the operands of a shape are below a number are the same
OperandsBelow-prop : (n : ℕ) (s : Shape) → IsProp (OperandsBelow n s)
OperandsBelow-prop n (And a b) x y = λ i. (le_prop x.0 y.0 i, le_prop x.1 y.1 i)
OperandsBelow-prop n (Or a b) x y = λ i. (le_prop x.0 y.0 i, le_prop x.1 y.1 i)
OperandsBelow-prop n (Next a) x y = le_prop x y
OperandsBelow-prop n (Until a b) x y = λ i. (le_prop x.0 y.0 i, le_prop x.1 y.1 i)
OperandsBelow-prop n (Release a b) x y = λ i. (le_prop x.0 y.0 i, le_prop x.1 y.1 i)
OperandsBelow-prop n _ x y = Unit-prop x y

-- any two proofs that each shape has its operands before it are the same
pub OperandsFirst-prop : (n : ℕ) (shapes : List Shape) → IsProp (OperandsFirst n shapes)
OperandsFirst-prop n [] x y = Unit-prop x y
OperandsFirst-prop n (s ∷ ss) x y = λ i. (OperandsBelow-prop n s x.0 y.0 i, OperandsFirst-prop (suc n) ss x.1 y.1 i)

-- any two proofs that no formula stands in a closure twice are the same
pub IsDistinct-prop : (closure : List CoreForm) → IsProp (IsDistinct closure)
IsDistinct-prop [] x y = Unit-prop x y
IsDistinct-prop (c ∷ cs) x y = λ i. (→_prop (λ p q. absurd p) x.0 y.0 i, IsDistinct-prop cs x.1 y.1 i)
