-- Nodes as they are kept, seen as nodes of the tableau.
use Rattle.std.specs.Prelude.{ℕ, ◌<◌, List, All}
use Rattle.tableau_rules.specs.declared.node.Node.{Node}
use Rattle.tableau_rules.specs.Nodes.{NodeForm}
use Rattle.tableau_rules.specs.Turns.{sets_of}

-- the node without where it lies in memory
abbrev pub node_of : Node → NodeForm
node_of n = record { todo = n.todo; now = sets_of n.now.items; next = n.next }

-- each of the numbers is below n
abbrev pub AreNumbersBelow : ℕ → List ℕ → Type 0
AreNumbersBelow n numbers = All (λ f. f < n) numbers
