-- Core formulas: negation normal form over literals, next, until and release.
use Rattle.std.specs.Prelude.{ℕ, ◌+◌, max}
use Rattle.temporal_logic.specs.Ltl.{Ltl, truth, falsity, among, conj, disj, next, until, release}
use Rattle.temporal_logic.specs.Truth.{Trace, Truth}

-- a literal has a variable and the set of the value indexes that it allows
pub data CoreForm : Type 0 where
  core_true : CoreForm
  core_false : CoreForm
  lit : (x set : ℕ) → CoreForm
  both : (a b : CoreForm) → CoreForm
  either : (a b : CoreForm) → CoreForm
  after : (a : CoreForm) → CoreForm
  core_until : (a b : CoreForm) → CoreForm
  core_release : (a b : CoreForm) → CoreForm

-- a core read as a formula
abbrev pub as_ltl : CoreForm → Ltl
as_ltl core_true = truth
as_ltl core_false = falsity
as_ltl (lit x set) = among x set
as_ltl (both a b) = conj (as_ltl a) (as_ltl b)
as_ltl (either a b) = disj (as_ltl a) (as_ltl b)
as_ltl (after a) = next (as_ltl a)
as_ltl (core_until a b) = until (as_ltl a) (as_ltl b)
as_ltl (core_release a b) = release (as_ltl a) (as_ltl b)

-- a core is true where the formula is that it reads as
abbrev pub CoreTruth : Trace → CoreForm → ℕ → Type 0
CoreTruth t c i = Truth t (as_ltl c) i

-- the number of nodes of the tree
abbrev pub nodes : CoreForm → ℕ
nodes core_true = 1
nodes core_false = 1
nodes (lit x set) = 1
nodes (both a b) = 1 + nodes a + nodes b
nodes (either a b) = 1 + nodes a + nodes b
nodes (after a) = 1 + nodes a
nodes (core_until a b) = 1 + nodes a + nodes b
nodes (core_release a b) = 1 + nodes a + nodes b

-- the number of levels of the tree
abbrev pub levels : CoreForm → ℕ
levels core_true = 1
levels core_false = 1
levels (lit x set) = 1
levels (both a b) = 1 + max (levels a) (levels b)
levels (either a b) = 1 + max (levels a) (levels b)
levels (after a) = 1 + levels a
levels (core_until a b) = 1 + max (levels a) (levels b)
levels (core_release a b) = 1 + max (levels a) (levels b)
