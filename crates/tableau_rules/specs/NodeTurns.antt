-- When a turn over numbers of a table is that of a node of the tableau.
use Rattle.std.specs.Prelude.{◌≡◌, ℕ, List, length}
use Rattle.bound_unfolding.specs.CoreForm.{CoreForm}
use Rattle.tableau_rules.specs.declared.effect.Turn.{Turn}
use Rattle.tableau_rules.specs.Nodes.{NodeForm, chosen, node_rule}
use Rattle.tableau_rules.specs.Turns.{rule_in, TurnBelow}

-- the turn stands for the node's rule, and the number is that of the formula that the node works on
pub record IsTurnOf (closure : List CoreForm) (n : NodeForm) (turn : Turn) (number : ℕ) : Type 0 where
  pub rule : rule_in closure turn ≡ node_rule closure n
  pub chosen : number ≡ chosen closure n.todo
  pub below : TurnBelow (length closure) turn
