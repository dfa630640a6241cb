-- The rule of a formula: what has to hold for it to be true now, as one choice or two.
use Rattle.std.specs.Prelude.{ℕ, zero, suc, Bool, true, false, List, [], ◌∷◌, ◌==◌, ◌||◌, if◌then◌else◌, bit_and}
use Rattle.bound_unfolding.specs.CoreForm.{CoreForm, core_true, core_false, lit, both, either, after, core_until, core_release}

-- cores added to what is to be true now and at the next position, and sets, each with its variable, that the index now has to lie in
pub record Change : Type 0 where
  pub todo : List CoreForm
  pub next : List CoreForm
  pub sets : List (ℕ × ℕ)

-- nothing is asked: the formula is true already
abbrev pub nothing : Change
nothing = record { todo = []; next = []; sets = [] }

-- these to be true now
abbrev pub adds : List CoreForm → Change
adds cores = record { todo = cores; next = []; sets = [] }

-- the first to be true now, and the other at the next position
abbrev pub waits : CoreForm → CoreForm → Change
waits a later = record { todo = a ∷ []; next = later ∷ []; sets = [] }

-- an until has rules of its own: whether it can be fulfilled now, or wait, or both
pub data Rule : Type 0 where
  clash : Rule
  step : Rule
  one : (c : Change) → Rule
  two : (c d : Change) → Rule
  fulfil_only : (c : Change) → Rule
  wait_only : (c : Change) → Rule
  fulfil_or_wait : (c d : Change) → Rule

-- the choices; of an until the fulfilment comes before the wait, and is known by that place
abbrev pub changes : Rule → List Change
changes clash = []
changes step = []
changes (one c) = c ∷ []
changes (two c d) = c ∷ d ∷ []
changes (fulfil_only c) = c ∷ []
changes (wait_only c) = c ∷ []
changes (fulfil_or_wait c d) = c ∷ d ∷ []

-- no choice is left, so that no trace meets the node
abbrev pub is_clash : Rule → Bool
is_clash clash = true
is_clash _ = false

-- whether the first choice fulfils an until
abbrev pub fulfils : Rule → Bool
fulfils (fulfil_only c) = true
fulfils (fulfil_or_wait c d) = true
fulfils _ = false

-- each index that the variable may have now is in the set
abbrev pub inside : List ℕ → ℕ → ℕ → Bool
inside [] x set = false
inside (s ∷ now) zero set = bit_and s set == s
inside (s ∷ now) (suc x) set = inside now x set

-- no index that the variable may have now is in the set
abbrev pub apart : List ℕ → ℕ → ℕ → Bool
apart [] x set = false
apart (s ∷ now) zero set = bit_and s set == 0
apart (s ∷ now) (suc x) set = apart now x set

-- the sets of now alone make the core true
abbrev pub decided_true : List ℕ → CoreForm → Bool
decided_true now core_true = true
decided_true now (lit x set) = inside now x set
decided_true now _ = false

-- the sets of now alone make the core false
abbrev pub decided_false : List ℕ → CoreForm → Bool
decided_false now core_false = true
decided_false now (lit x set) = apart now x set
decided_false now _ = false

-- the rule of a core under the sets of now, which may decide an operand already
abbrev pub rule_of : List ℕ → CoreForm → Rule
rule_of now core_true = one nothing
rule_of now core_false = clash
rule_of now (lit x set) = one (record { todo = []; next = []; sets = (x, set) ∷ [] })
rule_of now (both a b) = one (adds (a ∷ b ∷ []))
rule_of now (after a) = one (record { todo = []; next = a ∷ []; sets = [] })
rule_of now (either a b) =
    if decided_true now a || decided_true now b then one nothing else
    if decided_false now a then one (adds (b ∷ [])) else
    if decided_false now b then one (adds (a ∷ [])) else
    two (adds (a ∷ [])) (adds (b ∷ []))
rule_of now (core_until a b) =
    if decided_true now b then fulfil_only (adds (b ∷ [])) else
    if decided_false now b then wait_only (waits a (core_until a b)) else
    fulfil_or_wait (adds (b ∷ [])) (waits a (core_until a b))
rule_of now (core_release a b) =
    if decided_true now a then one (adds (a ∷ b ∷ [])) else
    if decided_false now a then one (waits b (core_release a b)) else
    two (adds (a ∷ b ∷ [])) (waits b (core_release a b))

-- `true` or `false`
abbrev pub is_constant : CoreForm → Bool
is_constant core_true = true
is_constant core_false = true
is_constant _ = false

-- the class of a formula, and the least has its turn first: 0 without operands, 1 with one choice, 2 where there may be two
abbrev pub class_of : CoreForm → ℕ
class_of core_true = 0
class_of core_false = 0
class_of (lit x set) = 0
class_of (both a b) = 1
class_of (after a) = 1
class_of (either a b) = 2
class_of (core_until a b) = if is_constant b then 1 else 2
class_of (core_release a b) = if is_constant a then 1 else 2
