-- The closure of cores: their distinct subformulas in order of first meeting, numbered from 0. The cores are walked in order, and in
-- each the operands come before the formula, the first operand before the second.
use Rattle.std.specs.Prelude.{ℕ, zero, suc, Bool, true, false, List, [], ◌∷◌, ◌++◌, ◌==◌, ◌&&◌, if◌then◌else◌}
use Rattle.std.specs.List.{list_any}
use Rattle.bound_unfolding.specs.CoreForm.{CoreForm, core_true, core_false, lit, both, either, after, core_until, core_release}

-- whether two cores are the same tree
abbrev pub is_same : CoreForm → CoreForm → Bool
is_same core_true core_true = true
is_same core_false core_false = true
is_same (lit x s) (lit y t) = x == y && s == t
is_same (both a b) (both c d) = is_same a c && is_same b d
is_same (either a b) (either c d) = is_same a c && is_same b d
is_same (after a) (after c) = is_same a c
is_same (core_until a b) (core_until c d) = is_same a c && is_same b d
is_same (core_release a b) (core_release c d) = is_same a c && is_same b d
is_same _ _ = false

-- the formula of a number; past the end there is `false`
abbrev pub formula_at : List CoreForm → ℕ → CoreForm
formula_at [] n = core_false
formula_at (c ∷ cs) zero = c
formula_at (c ∷ cs) (suc n) = formula_at cs n

-- the number of a formula; the length where it is not there
abbrev pub number_in : List CoreForm → CoreForm → ℕ
number_in [] c = 0
number_in (d ∷ ds) c = if is_same c d then 0 else suc (number_in ds c)

-- a formula is there, or comes at the end
abbrev pub with_formula : CoreForm → List CoreForm → List CoreForm
with_formula c closure = if list_any (is_same c) closure then closure else closure ++ c ∷ []

-- the subformulas of a core come behind those that are there
abbrev pub with_core : CoreForm → List CoreForm → List CoreForm
with_core core_true closure = with_formula core_true closure
with_core core_false closure = with_formula core_false closure
with_core (lit x set) closure = with_formula (lit x set) closure
with_core (both a b) closure = with_formula (both a b) (with_core b (with_core a closure))
with_core (either a b) closure = with_formula (either a b) (with_core b (with_core a closure))
with_core (after a) closure = with_formula (after a) (with_core a closure)
with_core (core_until a b) closure = with_formula (core_until a b) (with_core b (with_core a closure))
with_core (core_release a b) closure = with_formula (core_release a b) (with_core b (with_core a closure))

-- the subformulas of the cores, one core behind the other, come behind those that are there
abbrev pub with_cores : List CoreForm → List CoreForm → List CoreForm
with_cores [] closure = closure
with_cores (c ∷ cs) closure = with_cores cs (with_core c closure)

-- the closure of a list of cores
abbrev pub closure_of : List CoreForm → List CoreForm
closure_of cores = with_cores cores []

-- the formulas that a core joins, in order
abbrev pub operands : CoreForm → List CoreForm
operands (both a b) = a ∷ b ∷ []
operands (either a b) = a ∷ b ∷ []
operands (after a) = a ∷ []
operands (core_until a b) = a ∷ b ∷ []
operands (core_release a b) = a ∷ b ∷ []
operands _ = []
