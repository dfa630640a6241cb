-- Kids over numbers of a table: what an effect makes of a node.
use Rattle.std.specs.Prelude.{ℕ, List, length, Option, Some, None, ◌==◌, if◌then◌else◌, bit_and}
use Rattle.tableau_rules.specs.declared.effect.Effect.{Effect}
use Rattle.tableau_rules.specs.declared.effect.Effect.TheVariants.{Adds, AddsBoth, Waits, Later, Meets}
use Rattle.tableau_rules.specs.declared.effect.Turn.{Turn}
use Rattle.tableau_rules.specs.declared.effect.Turn.TheVariants.{Step}
use Rattle.tableau_rules.specs.Sets.{with_option, changed}
use Rattle.tableau_rules.specs.Nodes.{NodeForm, met_with}
use Rattle.tableau_rules.specs.Turns.{effects_of}

-- ---- what comes to the formulas to be true now, and what to those at the next position
-- the formula that is added to those to be true now, or the first of two
abbrev pub first_of : Effect → Option ℕ
first_of (Adds a) = Some a.0
first_of (AddsBoth a b) = Some a.0
first_of (Waits a later) = Some a.0
first_of _ = None

-- the second of two formulas that are added to those to be true now
abbrev pub second_of : Effect → Option ℕ
second_of (AddsBoth a b) = Some b.0
second_of _ = None

-- the formula that is added to those at the next position
abbrev pub later_of : Effect → Option ℕ
later_of (Waits a later) = Some later.0
later_of (Later a) = Some a.0
later_of _ = None

-- ---- what becomes of the sets, and of that of one variable
-- the sets of all variables behind an effect
abbrev pub met_by : Effect → List ℕ → List ℕ
met_by (Meets x set) now = met_with x.0 set.0 now
met_by _ now = now

-- the set of the variable y behind an effect, where it was `old` before
abbrev pub set_by : Effect → ℕ → ℕ → ℕ
set_by (Meets x set) y old = if y == x.0 then bit_and old set.0 else old
set_by _ y old = old

-- what an effect makes of a node that works on the formula g
abbrev pub kid_by : NodeForm → ℕ → Effect → NodeForm
kid_by n g e = record {
  todo = changed (Some g) (first_of e) (second_of e) n.todo;
  now = met_by e n.now;
  next = with_option (later_of e) n.next;
}

-- how many kids come of a turn
abbrev pub count_of : Turn → ℕ
count_of Step = 1
count_of turn = length (effects_of turn)
