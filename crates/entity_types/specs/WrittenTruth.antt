-- When a written formula is true at a position of a trace under a choice, which gives each enclosing quantifier one member of its type,
-- the outermost first.
use Rattle.std.specs.Prelude.{ℕ, ◌<◌, List, [], ◌∷◌, ◌++◌, slice_index}
use Rattle.temporal_logic.specs.Ltl as ltl
use Rattle.temporal_logic.specs.Ltl.{Ltl}
use Rattle.temporal_logic.specs.Truth.{Trace, Truth}
use Rattle.entity_types.specs.WrittenTrees.{TermForm, plain, of_member, of_bound, AtomForm, truth, falsity, flag, compares, among, relates, WrittenTree, atom, opening, joining, all, exists}
use Rattle.entity_types.specs.Operators.{Opens, Joins}
use Rattle.entity_types.specs.Rows.{Rows, count_of, variable_of}

-- the variable that a term names under a choice
abbrev pub named_by : Rows → (choice : List ℕ) → TermForm → ℕ
named_by rows choice (plain x) = x
named_by rows choice (of_member attr member) = variable_of rows attr member
named_by rows choice (of_bound attr level) = variable_of rows attr (slice_index choice level)

-- an atom over the variables that its terms name
abbrev pub plain_atom : Rows → (choice : List ℕ) → AtomForm → Ltl
plain_atom rows choice truth = ltl.truth
plain_atom rows choice falsity = ltl.falsity
plain_atom rows choice (flag x) = ltl.flag (named_by rows choice x)
plain_atom rows choice (compares x r v) = ltl.compares (named_by rows choice x) r v
plain_atom rows choice (among x set) = ltl.among (named_by rows choice x) set
plain_atom rows choice (relates x r y) = ltl.relates (named_by rows choice x) r (named_by rows choice y)

-- the formula is true at position i of the trace under the choice: a quantifier asks it of each member of its type, or of some one
abbrev pub WrittenTruth : Rows → Trace → (choice : List ℕ) → WrittenTree → ℕ → Type 0
WrittenTruth rows t choice (atom a) i = Truth t (plain_atom rows choice a) i
WrittenTruth rows t choice (opening o a) i = Opens o (WrittenTruth rows t choice a) i
WrittenTruth rows t choice (joining j a b) i = Joins j (WrittenTruth rows t choice a) (WrittenTruth rows t choice b) i
WrittenTruth rows t choice (all entity a) i = (m : ℕ) → m < count_of rows entity → WrittenTruth rows t (choice ++ m ∷ []) a i
WrittenTruth rows t choice (exists entity a) i = (m : ℕ) × (m < count_of rows entity) × WrittenTruth rows t (choice ++ m ∷ []) a i
