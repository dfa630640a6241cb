-- What names and numbers of the text count as: a name by its first 40 bytes, a magnitude over 1,000,000,000 as the next one, and a
-- bound outside 0 to 100 as 101. So each has a meaning whatever its length, and a limit can be tested after the form of the text.
use Rattle.std.specs.Prelude.{ℕ, min, ℤ, pos, neg_ℤ, Bool, true, false, List, take, ◌==◌, ◌&&◌, not, if◌then◌else◌}
use Rattle.source_sink.specs.Decimals.{value_behind}

-- a name counts by its first 40 bytes
abbrev pub cut_name : List ℕ → List ℕ
cut_name bytes = take 40 bytes

-- a magnitude counts as 1,000,000,001 where it is over 1,000,000,000
unfoldable pub magnitude : List ℕ → ℕ
magnitude digits = min (value_behind 0 digits) 1000000001

-- the value of a number, which is below 0 where a `-` stands before its digits
unfoldable pub number_value : Bool → List ℕ → ℤ
number_value true digits = neg_ℤ (pos (magnitude digits))
number_value false digits = pos (magnitude digits)

-- a bound counts as 101 where it is below 0 or over 100
unfoldable pub bound_value : Bool → List ℕ → ℕ
bound_value negative digits = if negative && not (magnitude digits == 0) then 101 else min (magnitude digits) 101
