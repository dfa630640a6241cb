use Rattle.std.proofs.Common.{◌≡◌, ◌≤◌, take}
use Rattle.tableau_elimination.specs.Marks.{living}
use Rattle.tableau_elimination.proofs.right.living.Given as goal

abbrev pub invariant-places : goal.invariant-places
invariant-places l = (l.count ≡ living (take l.place l.alive)) × (l.count ≤ l.place)
