-- The plain formula of a written one: a quantifier becomes `and` or `or` over the members in order, grouped to the left.
use Rattle.std.specs.Prelude.{ℕ, zero, suc, ◌+◌, List, [], ◌∷◌, ◌++◌}
use Rattle.temporal_logic.specs.Ltl.{Ltl, truth, falsity, flag, compares, among, relates, neg, conj, disj, implies, iff, entails, next, eventually, always, until, unless, release, eventually_within, always_within, until_within, unless_within, release_within}
use Rattle.entity_types.specs.WrittenTrees.{WrittenTree, atom, opening, joining, all, exists}
use Rattle.entity_types.specs.Operators.{opened, joined}
use Rattle.entity_types.specs.Rows.{Rows, count_of}
use Rattle.entity_types.specs.WrittenTruth.{plain_atom}

-- the first formula, and the ones behind it, up to a number, each joined to all before
abbrev pub grouped : (Ltl → Ltl → Ltl) → (ℕ → Ltl) → ℕ → Ltl
grouped make f zero = f 0
grouped make f (suc n) = make (grouped make f n) (f (n + 1))

-- the same of as many formulas, which are one or more
abbrev pub over : (Ltl → Ltl → Ltl) → (ℕ → Ltl) → ℕ → Ltl
over make f zero = f 0
over make f (suc n) = grouped make f n

-- the plain formula of a written one, under quantifiers that chose these members
abbrev pub ground_of : Rows → (choice : List ℕ) → WrittenTree → Ltl
ground_of rows choice (atom a) = plain_atom rows choice a
ground_of rows choice (opening o a) = opened o (ground_of rows choice a)
ground_of rows choice (joining j a b) = joined j (ground_of rows choice a) (ground_of rows choice b)
ground_of rows choice (all entity a) = over conj (λ m. ground_of rows (choice ++ m ∷ []) a) (count_of rows entity)
ground_of rows choice (exists entity a) = over disj (λ m. ground_of rows (choice ++ m ∷ []) a) (count_of rows entity)

-- how many nodes a plain formula has
abbrev pub nodes : Ltl → ℕ
nodes truth = 1
nodes falsity = 1
nodes (flag x) = 1
nodes (compares x r v) = 1
nodes (among x set) = 1
nodes (relates x r y) = 1
nodes (neg a) = 1 + nodes a
nodes (next a) = 1 + nodes a
nodes (eventually a) = 1 + nodes a
nodes (always a) = 1 + nodes a
nodes (eventually_within d a) = 1 + nodes a
nodes (always_within d a) = 1 + nodes a
nodes (conj a b) = 1 + (nodes a + nodes b)
nodes (disj a b) = 1 + (nodes a + nodes b)
nodes (implies a b) = 1 + (nodes a + nodes b)
nodes (iff a b) = 1 + (nodes a + nodes b)
nodes (entails a b) = 1 + (nodes a + nodes b)
nodes (until a b) = 1 + (nodes a + nodes b)
nodes (unless a b) = 1 + (nodes a + nodes b)
nodes (release a b) = 1 + (nodes a + nodes b)
nodes (until_within d a b) = 1 + (nodes a + nodes b)
nodes (unless_within d a b) = 1 + (nodes a + nodes b)
nodes (release_within d a b) = 1 + (nodes a + nodes b)
