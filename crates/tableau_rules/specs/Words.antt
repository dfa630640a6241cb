-- Sets of numbers as words of 64 bits.
use Rattle.std.specs.Int.{bit_at}
use Rattle.std.specs.Int.RustNames.{bit_or}
use Rattle.std.specs.Prelude.{ℕ, zero, suc, ◌<◌, ◌≤◌, ◌-◌, ◌*◌, ◌/◌, ◌%◌, ◌^◌, List, [], ◌∷◌, Bool, false, Option, Some, None, not, ◌||◌, ◌&&◌, if◌then◌else◌, ◌==◌, length, slice_index}

-- whether the words have the bit of the number x
abbrev pub has_bit : List ℕ → ℕ → Bool
has_bit words x = bit_at (slice_index words (x / 64)) (x % 64) == 1

-- those of the `count` numbers from x on that pass, in order
abbrev pub passing : (ℕ → Bool) → ℕ → ℕ → List ℕ
passing test x zero = []
passing test x (suc count) = if test x then x ∷ passing test (suc x) count else passing test (suc x) count

-- the numbers whose bits are set, in order
unfoldable pub numbers_of : List ℕ → List ℕ
numbers_of words = passing (has_bit words) 0 (64 * length words)

-- whether the number is the one given
abbrev pub is_given : Option ℕ → ℕ → Bool
is_given None z = false
is_given (Some x) z = z == x

-- whether the number z is in a set after a change, where `before` says whether it was there
abbrev pub bit_after : Option ℕ → Option ℕ → Option ℕ → ℕ → Bool → Bool
bit_after gone first second z before = is_given second z || (is_given first z || (not (is_given gone z) && before))

-- the last word is not 0
abbrev pub IsTrimmed : List ℕ → Type 0
IsTrimmed words = 0 < length words → 0 < slice_index words (length words - 1)

-- trimmed, and no more words than the numbers below 65,536 need
pub record IsFit (words : List ℕ) : Type 0 where
  pub trimmed : IsTrimmed words
  pub few : length words ≤ 1024

-- ---- words from numbers
-- the words with this bit of the word at the place
abbrev pub with_bit : ℕ → ℕ → List ℕ → List ℕ
with_bit zero bit [] = 2 ^ bit ∷ []
with_bit zero bit (w ∷ ws) = bit_or w (2 ^ bit) ∷ ws
with_bit (suc at) bit [] = 0 ∷ with_bit at bit []
with_bit (suc at) bit (w ∷ ws) = w ∷ with_bit at bit ws

-- the fewest words that have the bits of the numbers, and no other
unfoldable pub words_of : List ℕ → List ℕ
words_of [] = []
words_of (x ∷ xs) = with_bit (x / 64) (x % 64) (words_of xs)
