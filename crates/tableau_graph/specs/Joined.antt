-- Nodes and rows of places, joined to a graph.
use Rattle.std.specs.Prelude.{ℕ, List, [], ◌∷◌, map}
use Rattle.smallvec.specs.SmallVec.{SmallVec}
use Rattle.tableau_rules.specs.Nodes.{NodeForm}
use Rattle.tableau_rules.specs.Graphs.{GraphNodeForm}

-- the places of one row, which are those of a node's kids
abbrev pub places_of : SmallVec ℕ → List ℕ
places_of row = row.items

-- the places of all rows, one row for a node
abbrev pub rows_in : List (SmallVec ℕ) → List (List ℕ)
rows_in rows = map places_of rows

-- each node with its row
abbrev pub join : List NodeForm → List (List ℕ) → List GraphNodeForm
join [] rows = []
join (n ∷ ns) [] = []
join (n ∷ ns) (r ∷ rs) = record { node = n; kids = r } ∷ join ns rs
