-- The positive and the negative core of a formula: the first has its truth, the second the opposite.
use Rattle.std.specs.Prelude.{ℕ, zero, suc, ◌+◌, ◌^◌, Bool, true, false, not, nat_eq, nat_lt, nat_le, ◌==◌, List, if◌then◌else◌, slice_index}
use Rattle.state_space.specs.Members.{others}
use Rattle.temporal_logic.specs.Ltl.{Relation, is_same, is_other, is_below, is_at_most, is_above, is_at_least, Ltl, truth, falsity, flag, compares, among, relates, neg, conj, disj, implies, iff, entails, next, eventually, always, until, unless, release, eventually_within, always_within, until_within, unless_within, release_within}
use Rattle.bound_unfolding.specs.CoreForm.{CoreForm, core_true, core_false, lit, both, either, after, core_until, core_release}

-- whether two value indexes stand in a comparison
abbrev pub stand : Relation → ℕ → ℕ → Bool
stand is_same a b = nat_eq a b
stand is_other a b = not (nat_eq a b)
stand is_below a b = nat_lt a b
stand is_at_most a b = nat_le a b
stand is_above a b = nat_lt b a
stand is_at_least a b = nat_le b a

-- the comparison that stands where another does not
abbrev pub opposite : Relation → Relation
opposite is_same = is_other
opposite is_other = is_same
opposite is_below = is_at_least
opposite is_at_most = is_above
opposite is_above = is_at_most
opposite is_at_least = is_below

-- the comparison for a positive core, its opposite for a negative one
abbrev pub signed : Bool → Relation → Relation
signed true r = r
signed false r = opposite r

-- the set of the indexes below a number that pass a test
abbrev pub indexes : (ℕ → Bool) → ℕ → ℕ
indexes p zero = 0
indexes p (suc n) = indexes p n + (if p n then 2 ^ n else 0)

-- a conjunction or a disjunction, which change places where the sign does
abbrev pub joined : Bool → CoreForm → CoreForm → CoreForm
joined true a b = both a b
joined false a b = either a b

-- release or until, which change places where the sign does
abbrev pub fixed : Bool → CoreForm → CoreForm → CoreForm
fixed true a b = core_release a b
fixed false a b = core_until a b

-- the core that is true everywhere, or the one that is true nowhere
abbrev pub constant : Bool → CoreForm
constant true = core_true
constant false = core_false

-- a term in front of a sum, whose end is no term; an index of x that stands to none of y has no term
abbrev pub term_before : CoreForm → CoreForm → CoreForm
term_before term core_false = term
term_before term sum = either term sum

-- a comparison of x and y: for each of n indexes of x from i on, that index and the indexes of y that it stands to, joined by `or` to the right
abbrev pub sum_from : Relation → (x y size : ℕ) → ℕ → ℕ → CoreForm
sum_from r x y size i zero = core_false
sum_from r x y size i (suc n) =
    let set = indexes (stand r i) size in
    if set == 0 then sum_from r x y size (i + 1) n else
    term_before (both (lit x (2 ^ i)) (lit y set)) (sum_from r x y size (i + 1) n)

-- a core now, and so on at each of d steps more, joined by "and" for true, by "or" for false
abbrev pub steps : Bool → ℕ → CoreForm → CoreForm
steps each zero a = a
steps each (suc d) a = joined each a (after (steps each d a))

-- b now, joined with a and so on for d steps more: "b or (a and next ..)" for false, "b and (a or next ..)" for true
abbrev pub chain : Bool → ℕ → CoreForm → CoreForm → CoreForm
chain each zero a b = b
chain each (suc d) a b = joined each b (joined (not each) a (after (chain each d a b)))

-- the core of a formula over variables of these sizes: the positive one for true, the negative one for false
abbrev pub core_tree : List ℕ → Bool → Ltl → CoreForm
core_tree sizes s truth = constant s
core_tree sizes s falsity = constant (not s)
core_tree sizes s (flag x) = lit x (if s then 2 else 1)
core_tree sizes s (compares x r v) = lit x (indexes (λ i. stand (signed s r) i v) (slice_index sizes x))
core_tree sizes s (among x set) = lit x (if s then set else others set (slice_index sizes x))
core_tree sizes s (relates x r y) = sum_from (signed s r) x y (slice_index sizes y) 0 (slice_index sizes x)
core_tree sizes s (neg a) = core_tree sizes (not s) a
core_tree sizes s (conj a b) = joined s (core_tree sizes s a) (core_tree sizes s b)
core_tree sizes s (disj a b) = joined (not s) (core_tree sizes s a) (core_tree sizes s b)
core_tree sizes s (implies a b) = joined (not s) (core_tree sizes (not s) a) (core_tree sizes s b)
core_tree sizes s (iff a b) =
    either (both (core_tree sizes true a) (core_tree sizes s b)) (both (core_tree sizes false a) (core_tree sizes (not s) b))
core_tree sizes s (entails a b) = fixed s (constant (not s)) (joined (not s) (core_tree sizes (not s) a) (core_tree sizes s b))
core_tree sizes s (next a) = after (core_tree sizes s a)
core_tree sizes s (eventually a) = fixed (not s) (constant s) (core_tree sizes s a)
core_tree sizes s (always a) = fixed s (constant (not s)) (core_tree sizes s a)
core_tree sizes s (until a b) = fixed (not s) (core_tree sizes s a) (core_tree sizes s b)
core_tree sizes s (release a b) = fixed s (core_tree sizes s a) (core_tree sizes s b)
core_tree sizes s (unless a b) = fixed s (core_tree sizes s b) (joined (not s) (core_tree sizes s a) (core_tree sizes s b))
core_tree sizes s (eventually_within d a) = steps (not s) d (core_tree sizes s a)
core_tree sizes s (always_within d a) = steps s d (core_tree sizes s a)
core_tree sizes s (until_within d a b) = chain (not s) d (core_tree sizes s a) (core_tree sizes s b)
core_tree sizes s (release_within d a b) = chain s d (core_tree sizes s a) (core_tree sizes s b)
core_tree sizes s (unless_within d a b) =
    joined (not s) (chain (not s) d (core_tree sizes s a) (core_tree sizes s b)) (steps s d (core_tree sizes s a))

-- what a core of a sign is to say of a claim
abbrev pub Signed : Bool → Type 0 → Type 0
Signed true P = P
Signed false P = ¬ P
