-- Nodes of the tableau, and the kids that the rules give them.
use Rattle.std.specs.Prelude.{ℕ, zero, suc, Bool, false, List, [], ◌∷◌, map, nat_lt, ◌==◌, ◌||◌, if◌then◌else◌, bit_and}
use Rattle.bound_unfolding.specs.CoreForm.{CoreForm}
use Rattle.formula_table.specs.Closures.{formula_at, number_in}
use Rattle.tableau_rules.specs.Sets.{has_number, with_number, without_number}
use Rattle.tableau_rules.specs.Rules.{Change, Rule, clash, step, changes, class_of, rule_of}

-- formulas to be true now, for each variable the set that its index now lies in, and formulas to be true at the next position;
-- formulas are given by their numbers in the closure
pub record NodeForm : Type 0 where
  pub todo : List ℕ
  pub now : List ℕ
  pub next : List ℕ

-- whether the formula stands in the node
abbrev pub carries : ℕ → NodeForm → Bool
carries f n = has_number n.todo f || has_number n.next f

-- the number of a formula of the least class among f and those of a list, and of these the first
abbrev pub first_best : List CoreForm → ℕ → List ℕ → ℕ
first_best closure f [] = f
first_best closure f (g ∷ gs) =
    first_best closure (if nat_lt (class_of (formula_at closure g)) (class_of (formula_at closure f)) then g else f) gs

-- the formula whose turn it is; the number 0 where there is none to do
abbrev pub chosen : List CoreForm → List ℕ → ℕ
chosen closure [] = 0
chosen closure (f ∷ fs) = first_best closure f fs

-- whether some variable has no index left
abbrev pub has_empty : List ℕ → Bool
has_empty [] = false
has_empty (s ∷ now) = s == 0 || has_empty now

-- a node with nothing to do steps to the next position
abbrev pub todo_rule : List CoreForm → List ℕ → List ℕ → Rule
todo_rule closure now [] = step
todo_rule closure now (f ∷ fs) = rule_of now (formula_at closure (first_best closure f fs))

-- a node clashes where a variable has no index left, and else has the rule of what it is to do
abbrev pub node_rule : List CoreForm → NodeForm → Rule
node_rule closure n = if has_empty n.now then clash else todo_rule closure n.now n.todo

-- the sets of now, with that of one variable met with another set
abbrev pub met_with : ℕ → ℕ → List ℕ → List ℕ
met_with x set [] = []
met_with zero set (s ∷ now) = bit_and s set ∷ now
met_with (suc x) set (s ∷ now) = s ∷ met_with x set now

-- the sets of now, with each of the given sets met with that of its variable
abbrev pub met_with_all : List (ℕ × ℕ) → List ℕ → List ℕ
met_with_all [] now = now
met_with_all (m ∷ ms) now = met_with_all ms (met_with m.0 m.1 now)

-- the numbers of these cores, added to a set
abbrev pub with_numbers_of : List CoreForm → List CoreForm → List ℕ → List ℕ
with_numbers_of closure [] numbers = numbers
with_numbers_of closure (c ∷ cs) numbers = with_numbers_of closure cs (with_number (number_in closure c) numbers)

-- what a choice for the formula g makes of a node
abbrev pub kid : List CoreForm → NodeForm → ℕ → Change → NodeForm
kid closure n g c = record {
  todo = with_numbers_of closure c.todo (without_number g n.todo);
  now = met_with_all c.sets n.now;
  next = with_numbers_of closure c.next n.next;
}

-- what a step makes of a node, where full has all indexes of each variable
abbrev pub stepped : List ℕ → NodeForm → NodeForm
stepped full n = record { todo = n.next; now = full; next = [] }

-- the kids that a rule gives: the node at the next position for a step, else one for each choice
abbrev pub kids_by : List CoreForm → List ℕ → NodeForm → Rule → List NodeForm
kids_by closure full n step = stepped full n ∷ []
kids_by closure full n rule = map (kid closure n (chosen closure n.todo)) (changes rule)

-- the kids of a node, in the order of the choices of its own rule
abbrev pub kids : List CoreForm → List ℕ → NodeForm → List NodeForm
kids closure full n = kids_by closure full n (node_rule closure n)

-- the node that asks for all of the cores
abbrev pub root_of : List CoreForm → List ℕ → List CoreForm → NodeForm
root_of closure full cores = record { todo = with_numbers_of closure cores []; now = full; next = [] }
