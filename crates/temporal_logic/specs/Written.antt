-- The written form of a formula over the variables of a space. Parentheses stand exactly where an operand binds less tightly than its
-- place asks; the left operand of `and` and of `or` may be of the same rule, and so may the right one of `implies`.
use Rattle.std.specs.Prelude.{ℕ, nat_le, List, [], ◌++◌, slice_index_or, codes, decimal, if◌then◌else◌}
use Rattle.state_space.specs.Ranges.{RangeForm, truth_values}
use Rattle.state_space.specs.ValueTexts.{value_text, set_text}
use Rattle.temporal_logic.specs.Ltl.{Relation, is_same, is_other, is_below, is_at_most, is_above, is_at_least, Ltl, truth, falsity, flag, compares, among, relates, neg, conj, disj, implies, iff, entails, next, eventually, always, until, unless, release, eventually_within, always_within, until_within, unless_within, release_within}

-- the name of the variable with a number
abbrev pub name_at : List (List ℕ) → ℕ → List ℕ
name_at names x = slice_index_or names x []

-- the range of the variable with a number
abbrev pub range_at : List RangeForm → ℕ → RangeForm
range_at ranges x = slice_index_or ranges x truth_values

-- a comparison with the spaces around it
abbrev pub sign : Relation → List ℕ
sign is_same = codes " = "
sign is_other = codes " != "
sign is_below = codes " < "
sign is_at_most = codes " <= "
sign is_above = codes " > "
sign is_at_least = codes " >= "

-- ` within d`
abbrev pub within : ℕ → List ℕ
within d = codes " within " ++ decimal d

-- what binds so tightly, at a place that asks how tightly
abbrev pub enclosed : (asked own : ℕ) → List ℕ → List ℕ
enclosed asked own text = if nat_le asked own then text else codes "(" ++ text ++ codes ")"

-- an operator of one operand, with its bound
abbrev pub prefixed : (asked : ℕ) → (word operand : List ℕ) → List ℕ
prefixed asked word operand = enclosed asked 6 (word ++ codes " " ++ operand)

-- an operator of two operands, with its bound
abbrev pub joined : (asked own : ℕ) → (first word second : List ℕ) → List ℕ
joined asked own first word second = enclosed asked own (first ++ codes " " ++ word ++ codes " " ++ second)

-- the written form at a place that asks for a tightness: from 0, of `entails`, over 1 `iff`, 2 `implies`, 3 `or`, 4 `and`, 5 `until` and
-- its kin, 6 the operators of one operand, to 7, of what has no operand
abbrev pub written : List (List ℕ) → List RangeForm → (asked : ℕ) → Ltl → List ℕ
written ns rs asked truth = codes "true"
written ns rs asked falsity = codes "false"
written ns rs asked (flag x) = name_at ns x
written ns rs asked (compares x r v) = name_at ns x ++ sign r ++ value_text (range_at rs x) v
written ns rs asked (among x set) = name_at ns x ++ codes " in " ++ set_text (range_at rs x) set
written ns rs asked (relates x r y) = name_at ns x ++ sign r ++ name_at ns y
written ns rs asked (neg a) = prefixed asked (codes "not") (written ns rs 6 a)
written ns rs asked (next a) = prefixed asked (codes "next") (written ns rs 6 a)
written ns rs asked (eventually a) = prefixed asked (codes "eventually") (written ns rs 6 a)
written ns rs asked (always a) = prefixed asked (codes "always") (written ns rs 6 a)
written ns rs asked (eventually_within d a) = prefixed asked (codes "eventually" ++ within d) (written ns rs 6 a)
written ns rs asked (always_within d a) = prefixed asked (codes "always" ++ within d) (written ns rs 6 a)
written ns rs asked (until a b) = joined asked 5 (written ns rs 6 a) (codes "until") (written ns rs 6 b)
written ns rs asked (unless a b) = joined asked 5 (written ns rs 6 a) (codes "unless") (written ns rs 6 b)
written ns rs asked (release a b) = joined asked 5 (written ns rs 6 a) (codes "release") (written ns rs 6 b)
written ns rs asked (until_within d a b) = joined asked 5 (written ns rs 6 a) (codes "until" ++ within d) (written ns rs 6 b)
written ns rs asked (unless_within d a b) = joined asked 5 (written ns rs 6 a) (codes "unless" ++ within d) (written ns rs 6 b)
written ns rs asked (release_within d a b) = joined asked 5 (written ns rs 6 a) (codes "release" ++ within d) (written ns rs 6 b)
written ns rs asked (conj a b) = joined asked 4 (written ns rs 4 a) (codes "and") (written ns rs 5 b)
written ns rs asked (disj a b) = joined asked 3 (written ns rs 3 a) (codes "or") (written ns rs 4 b)
written ns rs asked (implies a b) = joined asked 2 (written ns rs 3 a) (codes "implies") (written ns rs 2 b)
written ns rs asked (iff a b) = joined asked 1 (written ns rs 2 a) (codes "iff") (written ns rs 2 b)
written ns rs asked (entails a b) = joined asked 0 (written ns rs 1 a) (codes "entails") (written ns rs 1 b)

-- the written form of a formula that stands alone
abbrev pub formula_text : List (List ℕ) → List RangeForm → Ltl → List ℕ
formula_text ns rs f = written ns rs 0 f
