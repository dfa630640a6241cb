-- What the smallest parts of a text count as: the comparison that a sign is, and the value that a token is.
use Rattle.std.specs.Prelude.{true, false, Option, Some, None}
use Rattle.state_space.specs.declared.keyword.Keyword.TheVariants as keywords
use Rattle.model_tokens.specs.declared.token.Sign.{Sign}
use Rattle.model_tokens.specs.declared.token.Sign.TheVariants.{Equal, NotEqual, Below, AtMost, Above, AtLeast}
use Rattle.temporal_logic.specs.Ltl.{Relation, is_same, is_other, is_below, is_at_most, is_above, is_at_least}
use Rattle.model_tokens.specs.Tokens.{TokenForm, keyword, name, number}
use Rattle.model_tokens.specs.Values.{cut_name, number_value}
use Rattle.model_text.specs.RawTrees.{WrittenValue, a_word, a_number, a_truth}

-- the comparison that a sign is
abbrev pub relation_of : Sign → Option Relation
relation_of Equal = Some is_same
relation_of NotEqual = Some is_other
relation_of Below = Some is_below
relation_of AtMost = Some is_at_most
relation_of Above = Some is_above
relation_of AtLeast = Some is_at_least
relation_of _ = None

-- value = name | number | "true" | "false"
abbrev pub value_of : TokenForm → Option WrittenValue
value_of (name bytes) = Some (a_word (cut_name bytes))
value_of (number negative digits) = Some (a_number (number_value negative digits))
value_of (keyword keywords.True) = Some (a_truth true)
value_of (keyword keywords.False) = Some (a_truth false)
value_of _ = None
