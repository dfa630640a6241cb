-- The value that decimal digits have.
use Rattle.std.specs.Prelude.{ℕ, ◌+◌, ◌-◌, ◌*◌, List, [], ◌∷◌}

-- the value of decimal digits behind those of a value; another byte counts as how far it is above the digit 0
abbrev pub value_behind : ℕ → List ℕ → ℕ
value_behind front [] = front
value_behind front (digit ∷ digits) = value_behind (10 * front + (digit - 48)) digits
