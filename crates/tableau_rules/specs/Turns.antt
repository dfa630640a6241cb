-- Turns over numbers of a table: the rules over formulas that they stand for.
use Rattle.std.specs.Prelude.{ℕ, ◌<◌, List, [], ◌∷◌, map}
use Rattle.state_space.specs.declared.values.Values.{Values}
use Rattle.bound_unfolding.specs.CoreForm.{CoreForm}
use Rattle.formula_table.specs.Closures.{formula_at}
use Rattle.tableau_rules.specs.Rules.{Change, Rule, nothing, adds, waits, clash, step, one, two, fulfil_only, wait_only, fulfil_or_wait}
use Rattle.tableau_rules.specs.declared.effect.Effect.{Effect}
use Rattle.tableau_rules.specs.declared.effect.Effect.TheVariants.{Nothing, Adds, AddsBoth, Waits, Later, Meets}
use Rattle.tableau_rules.specs.declared.effect.Turn.{Turn}
use Rattle.tableau_rules.specs.declared.effect.Turn.TheVariants.{Clash, Step, One, Two, FulfilOnly, WaitOnly, FulfilOrWait}

-- the sets of all variables, as the numbers whose bits are their indexes
abbrev pub sets_of : List Values → List ℕ
sets_of now = map (λ set. set.0) now

-- the change over formulas that an effect is
abbrev pub change_of : List CoreForm → Effect → Change
change_of closure Nothing = nothing
change_of closure (Adds a) = adds (formula_at closure a.0 ∷ [])
change_of closure (AddsBoth a b) = adds (formula_at closure a.0 ∷ formula_at closure b.0 ∷ [])
change_of closure (Waits a later) = waits (formula_at closure a.0) (formula_at closure later.0)
change_of closure (Later a) = record { todo = []; next = formula_at closure a.0 ∷ []; sets = [] }
change_of closure (Meets x set) = record { todo = []; next = []; sets = (x.0, set.0) ∷ [] }

-- the rule over formulas that a turn is
abbrev pub rule_in : List CoreForm → Turn → Rule
rule_in closure Clash = clash
rule_in closure Step = step
rule_in closure (One e) = one (change_of closure e)
rule_in closure (Two e f) = two (change_of closure e) (change_of closure f)
rule_in closure (FulfilOnly e) = fulfil_only (change_of closure e)
rule_in closure (WaitOnly e) = wait_only (change_of closure e)
rule_in closure (FulfilOrWait e f) = fulfil_or_wait (change_of closure e) (change_of closure f)

-- the effects of a turn, one for each kid but a step's
abbrev pub effects_of : Turn → List Effect
effects_of Clash = []
effects_of Step = []
effects_of (One e) = e ∷ []
effects_of (Two e f) = e ∷ f ∷ []
effects_of (FulfilOnly e) = e ∷ []
effects_of (WaitOnly e) = e ∷ []
effects_of (FulfilOrWait e f) = e ∷ f ∷ []

-- the formulas of an effect have numbers below n
abbrev pub EffectBelow : ℕ → Effect → Type 0
EffectBelow n Nothing = Unit {0}
EffectBelow n (Adds a) = a.0 < n
EffectBelow n (AddsBoth a b) = (a.0 < n) × (b.0 < n)
EffectBelow n (Waits a later) = (a.0 < n) × (later.0 < n)
EffectBelow n (Later a) = a.0 < n
EffectBelow n (Meets x set) = Unit {0}

-- the formulas of a turn have numbers below n
abbrev pub TurnBelow : ℕ → Turn → Type 0
TurnBelow n Clash = Unit {0}
TurnBelow n Step = Unit {0}
TurnBelow n (One e) = EffectBelow n e
TurnBelow n (Two e f) = EffectBelow n e × EffectBelow n f
TurnBelow n (FulfilOnly e) = EffectBelow n e
TurnBelow n (WaitOnly e) = EffectBelow n e
TurnBelow n (FulfilOrWait e f) = EffectBelow n e × EffectBelow n f
