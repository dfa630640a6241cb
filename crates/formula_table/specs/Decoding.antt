-- What the shapes of a table stand for: each is a formula over the formulas before it.
use Rattle.std.specs.Prelude.{ℕ, suc, ◌<◌, List, [], ◌∷◌, ◌++◌}
use Rattle.bound_unfolding.specs.CoreForm.{CoreForm, core_true, core_false, lit, both, either, after, core_until, core_release}
use Rattle.formula_table.specs.declared.shape.Shape.{Shape}
use Rattle.formula_table.specs.declared.shape.Shape.TheVariants.{True, False, Lit, And, Or, Next, Until, Release}
use Rattle.formula_table.specs.Closures.{formula_at}

-- the formula of a shape over a closure
abbrev pub formula_of : List CoreForm → Shape → CoreForm
formula_of closure True = core_true
formula_of closure False = core_false
formula_of closure (Lit x set) = lit x.0 set.0
formula_of closure (And a b) = both (formula_at closure a.0) (formula_at closure b.0)
formula_of closure (Or a b) = either (formula_at closure a.0) (formula_at closure b.0)
formula_of closure (Next a) = after (formula_at closure a.0)
formula_of closure (Until a b) = core_until (formula_at closure a.0) (formula_at closure b.0)
formula_of closure (Release a b) = core_release (formula_at closure a.0) (formula_at closure b.0)

-- the operands of a shape have numbers below n
abbrev pub OperandsBelow : ℕ → Shape → Type 0
OperandsBelow n (And a b) = (a.0 < n) × (b.0 < n)
OperandsBelow n (Or a b) = (a.0 < n) × (b.0 < n)
OperandsBelow n (Next a) = a.0 < n
OperandsBelow n (Until a b) = (a.0 < n) × (b.0 < n)
OperandsBelow n (Release a b) = (a.0 < n) × (b.0 < n)
OperandsBelow n _ = Unit {0}

-- the formulas of the shapes behind those of a closure, each over those before it
abbrev pub decoded_over : List CoreForm → List Shape → List CoreForm
decoded_over closure [] = closure
decoded_over closure (s ∷ ss) = decoded_over (closure ++ formula_of closure s ∷ []) ss

-- the formulas of the shapes of a table
abbrev pub decoded : List Shape → List CoreForm
decoded shapes = decoded_over [] shapes

-- each shape has its operands before it, where n others come before them all
abbrev pub OperandsFirst : ℕ → List Shape → Type 0
OperandsFirst n [] = Unit {0}
OperandsFirst n (s ∷ ss) = OperandsBelow n s × OperandsFirst (suc n) ss
