-- What notes say of a formula: numbers of its cores, and the same of its operands.
use Rattle.std.specs.Prelude.{◌≡◌, ℕ, ◌<◌, true, false, List, length, Option, IfSome}
use Rattle.temporal_logic.specs.Ltl.{Ltl, neg, conj, disj, implies, iff, entails, next, eventually, always, until, unless, release, eventually_within, always_within, until_within, unless_within, release_within}
use Rattle.bound_unfolding.specs.CoreForm.{CoreForm}
use Rattle.bound_unfolding.specs.CoreTree.{core_tree}
use Rattle.formula_table.specs.declared.shape.FormulaId.{FormulaId}
use Rattle.formula_table.specs.declared.notes.Notes.{Notes}
use Rattle.formula_table.specs.declared.notes.Notes.TheVariants.{Unmet, Met'}
use Rattle.formula_table.specs.declared.notes.Numbers.{Numbers}
use Rattle.formula_table.specs.Closures.{formula_at}

-- the first operand of a formula; one without operands stands for its own
abbrev pub first_operand : Ltl → Ltl
first_operand (neg a) = a
first_operand (conj a b) = a
first_operand (disj a b) = a
first_operand (implies a b) = a
first_operand (iff a b) = a
first_operand (entails a b) = a
first_operand (next a) = a
first_operand (eventually a) = a
first_operand (always a) = a
first_operand (until a b) = a
first_operand (unless a b) = a
first_operand (release a b) = a
first_operand (eventually_within d a) = a
first_operand (always_within d a) = a
first_operand (until_within d a b) = a
first_operand (unless_within d a b) = a
first_operand (release_within d a b) = a
first_operand f = f

-- the second operand of a formula; one without a second stands for its own
abbrev pub second_operand : Ltl → Ltl
second_operand (conj a b) = b
second_operand (disj a b) = b
second_operand (implies a b) = b
second_operand (iff a b) = b
second_operand (entails a b) = b
second_operand (until a b) = b
second_operand (unless a b) = b
second_operand (release a b) = b
second_operand (until_within d a b) = b
second_operand (unless_within d a b) = b
second_operand (release_within d a b) = b
second_operand f = f

-- a number that is there is that of a core in a closure
abbrev pub IsNumber : List CoreForm → CoreForm → Option FormulaId → Type 0
IsNumber closure core number = IfSome number (λ id. (id.0 < length closure) × (formula_at closure id.0 ≡ core))

-- the numbers that are there are those of the two cores
abbrev pub AreNumbers : List ℕ → List CoreForm → Ltl → Numbers → Type 0
AreNumbers sizes closure f n = IsNumber closure (core_tree sizes true f) n.positive × IsNumber closure (core_tree sizes false f) n.negative

-- the same of the formula and of all that stand in it
abbrev pub AreKnown : List ℕ → List CoreForm → Ltl → Notes → Type 0
AreKnown sizes closure f Unmet = Unit {0}
AreKnown sizes closure f (Met' n p a b) = AreNumbers sizes closure f n × AreKnown sizes closure (first_operand f) a × AreKnown sizes closure (second_operand f) b

-- the same of two formulas
abbrev pub AreBothKnown : List ℕ → List CoreForm → Ltl → Ltl → Notes × Notes → Type 0
AreBothKnown sizes closure f g notes = AreKnown sizes closure f notes.0 × AreKnown sizes closure g notes.1
