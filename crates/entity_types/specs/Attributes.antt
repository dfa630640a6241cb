-- When an attribute is refused, and when it is taken. The causes are tried in one order, before the space is touched.
use Rattle.std.specs.Prelude.{◌≡◌, ℕ, ◌+◌, ◌<◌, ◌≤◌, List, length, Bool, true, false, Some, None}
use Rattle.std.specs.List.{list_any}
use Rattle.state_space.specs.Ranges.{RangeForm, IsGoodRange}
use Rattle.entity_types.specs.declared.entities.EntityRefusal.{EntityRefusal}
use Rattle.entity_types.specs.declared.entities.EntityRefusal.TheVariants.{BadRange, LongName, DuplicateName, TooManyVars}
use Rattle.entity_types.specs.Joined.{joined_name, joined_names, is_long, first_taken}

-- some of the joined names has more bytes than a name can have
abbrev pub is_some_long : (attr : List ℕ) → (members : List (List ℕ)) → Bool
is_some_long attr members = list_any (λ m. is_long (joined_name attr m)) members

-- why an attribute is refused: a cause applies, and none before it does
pub data RefusesAttribute (names : List (List ℕ)) (attr : List ℕ) (members : List (List ℕ)) (range : RangeForm) : EntityRefusal → Type 0 where
  a_bad_range : ¬ (IsGoodRange range) → RefusesAttribute names attr members range BadRange
  a_long_name : IsGoodRange range → is_some_long attr members ≡ true → RefusesAttribute names attr members range LongName
  a_name_there : (member : ℕ) → IsGoodRange range → is_some_long attr members ≡ false → first_taken names (joined_names attr members) ≡ Some member
      → RefusesAttribute names attr members range (DuplicateName member)
  too_many : IsGoodRange range → is_some_long attr members ≡ false → first_taken names (joined_names attr members) ≡ None → 64 < length names + length members
      → RefusesAttribute names attr members range TooManyVars

-- no cause applies
pub record TakesAttribute (names : List (List ℕ)) (attr : List ℕ) (members : List (List ℕ)) (range : RangeForm) : Type 0 where
  pub good : IsGoodRange range
  pub short : is_some_long attr members ≡ false
  pub free : first_taken names (joined_names attr members) ≡ None
  pub room : length names + length members ≤ 64
