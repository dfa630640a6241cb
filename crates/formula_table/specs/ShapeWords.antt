-- The words by which a shape is hashed: its kind and two payloads.
use Rattle.std.specs.Prelude.{ℕ}
use Rattle.formula_table.specs.declared.shape.Shape.{Shape}
use Rattle.formula_table.specs.declared.shape.Shape.TheVariants.{True, False, Lit, And, Or, Next, Until, Release}

-- the kind of a shape, and two numbers that tell it from the others of its kind
abbrev pub shape_words : Shape → ℕ × ℕ × ℕ
shape_words True = (0, 0, 0)
shape_words False = (1, 0, 0)
shape_words (Lit x set) = (2, x.0, set.0)
shape_words (And a b) = (3, a.0, b.0)
shape_words (Or a b) = (4, a.0, b.0)
shape_words (Next a) = (5, a.0, 0)
shape_words (Until a b) = (6, a.0, b.0)
shape_words (Release a b) = (7, a.0, b.0)
