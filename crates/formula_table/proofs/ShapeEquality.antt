-- Equal shapes, by the test and by the equation.
use Rattle.std.proofs.Common.{◌≡◌, ◌↔◌, IsTrue, rules}
use Rattle.formula_table.specs.declared.shape.Shape.{Shape}
use Rattle.formula_table.specs.contracts.shape.ShapePartialEq.TheImpl

pub shape_eq : (s t : Shape) → IsTrue ((TheImpl.eq-value).it s t) ↔ (s ≡ t)
shape_eq s t = search rules
