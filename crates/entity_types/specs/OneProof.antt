-- That attributes are placed has one proof, so the entities carry it.
use Rattle.std.specs.Coded.{Π_prop, le_prop}
use Rattle.entity_types.specs.Rows.{Rows, IsPlaced}

-- any two proofs that attributes are placed are the same
pub IsPlaced-prop : (rows : Rows) → IsProp (IsPlaced rows)
IsPlaced-prop rows x y =
    λ i. record {
      owned = Π_prop (λ a. Π_prop (λ l. le_prop)) x.owned y.owned i;
      inside = Π_prop (λ a. Π_prop (λ l. le_prop)) x.inside y.inside i;
      ordered = Π_prop (λ a. Π_prop (λ l. le_prop)) x.ordered y.ordered i;
    }
