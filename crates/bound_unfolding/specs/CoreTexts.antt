-- How cores are written, for readers of evidence: each core of two operands in parentheses, so that a text says which tree it is.
use Rattle.std.specs.Prelude.{ℕ, ◌^◌, ◌<◌, ◌==◌, if◌then◌else◌, List, [], ◌++◌, length, slice_index_or, codes}
use Rattle.state_space.specs.Ranges.{RangeForm, truth_values, named, span}
use Rattle.state_space.specs.ValueTexts.{set_text}
use Rattle.temporal_logic.specs.Fits.{size_at}
use Rattle.bound_unfolding.specs.CoreForm.{CoreForm, core_true, core_false, lit, both, either, after, core_until, core_release}

-- a core names variables of these ranges, and sets of values that these have
abbrev pub CoreFits : List RangeForm → CoreForm → Type 0
CoreFits ranges core_true = Unit {0}
CoreFits ranges core_false = Unit {0}
CoreFits ranges (lit x set) = (x < length ranges) × (set < 2 ^ size_at ranges x)
CoreFits ranges (both a b) = CoreFits ranges a × CoreFits ranges b
CoreFits ranges (either a b) = CoreFits ranges a × CoreFits ranges b
CoreFits ranges (after a) = CoreFits ranges a
CoreFits ranges (core_until a b) = CoreFits ranges a × CoreFits ranges b
CoreFits ranges (core_release a b) = CoreFits ranges a × CoreFits ranges b

-- `x in {v, w}`
unfoldable pub choice_text : List ℕ → RangeForm → (set : ℕ) → List ℕ
choice_text name range set = name ++ codes " in " ++ set_text range set

-- `x` or `not x`, of a truth variable that has one value; else as a choice
abbrev pub literal_text : List ℕ → RangeForm → (set : ℕ) → List ℕ
literal_text name truth_values set =
    if set == 2 then name else (if set == 1 then codes "not " ++ name else choice_text name truth_values set)
literal_text name (named values) set = choice_text name (named values) set
literal_text name (span low high) set = choice_text name (span low high) set

-- the text of a core over variables of these names and ranges
abbrev pub core_text : List (List ℕ) → List RangeForm → CoreForm → List ℕ
core_text names ranges core_true = codes "true"
core_text names ranges core_false = codes "false"
core_text names ranges (lit x set) =
    literal_text (slice_index_or names x []) (slice_index_or ranges x truth_values) set
core_text names ranges (both a b) = codes "(" ++ core_text names ranges a ++ codes " and " ++ core_text names ranges b ++ codes ")"
core_text names ranges (either a b) = codes "(" ++ core_text names ranges a ++ codes " or " ++ core_text names ranges b ++ codes ")"
core_text names ranges (after a) = codes "next " ++ core_text names ranges a
core_text names ranges (core_until a b) =
    codes "(" ++ core_text names ranges a ++ codes " until " ++ core_text names ranges b ++ codes ")"
core_text names ranges (core_release a b) =
    codes "(" ++ core_text names ranges a ++ codes " release " ++ core_text names ranges b ++ codes ")"
