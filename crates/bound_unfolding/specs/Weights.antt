-- How large a core is, counted as far as its limit.
use Rattle.std.specs.Prelude.{ℕ, zero, suc, ◌+◌, min, max, if◌then◌else◌, ◌==◌}
use Rattle.temporal_logic.specs.Ltl.{Relation}
use Rattle.bound_unfolding.specs.CoreForm.{CoreForm, core_true, core_false, lit, both, either, after, core_until, core_release}
use Rattle.bound_unfolding.specs.CoreTree.{stand, indexes}
use Rattle.bound_unfolding.specs.declared.count.Measure.{Measure}
use Rattle.bound_unfolding.specs.declared.count.Measure.TheVariants.{Nodes, Levels}

-- the count of a node over an operand's
abbrev pub above : Measure → ℕ → ℕ
above Nodes a = min (a + 1) 4097
above Levels a = min (a + 1) 1001

-- the count of a node over those of two operands
abbrev pub over : Measure → ℕ → ℕ → ℕ
over Nodes a b = min (a + b + 1) 4097
over Levels a b = min (max a b + 1) 1001

-- the nodes of a core up to 4097 of them, or its levels up to 1001
abbrev pub weight : Measure → CoreForm → ℕ
weight m core_true = 1
weight m core_false = 1
weight m (lit x set) = 1
weight m (both a b) = over m (weight m a) (weight m b)
weight m (either a b) = over m (weight m a) (weight m b)
weight m (after a) = above m (weight m a)
weight m (core_until a b) = over m (weight m a) (weight m b)
weight m (core_release a b) = over m (weight m a) (weight m b)

-- the count of an operand's steps
abbrev pub steps_weight : Measure → ℕ → ℕ → ℕ
steps_weight m zero a = a
steps_weight m (suc d) a = over m a (above m (steps_weight m d a))

-- the count of a chain of two operands
abbrev pub chain_weight : Measure → ℕ → ℕ → ℕ → ℕ
chain_weight m zero a b = b
chain_weight m (suc d) a b = over m b (over m a (above m (chain_weight m d a b)))

-- the count of a sum that has one more term, where 0 stands for a sum of no term
abbrev pub with_term : Measure → ℕ → ℕ
with_term m terms = if terms == 0 then over m 1 1 else over m (over m 1 1) terms

-- the count of the sum of a comparison, or 0 where it has no term
abbrev pub sum_weight : Measure → Relation → (size : ℕ) → ℕ → ℕ → ℕ
sum_weight m r size i zero = 0
sum_weight m r size i (suc n) =
    let rest = sum_weight m r size (i + 1) n in
    if indexes (stand r i) size == 0 then rest else with_term m rest
