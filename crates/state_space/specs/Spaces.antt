-- What a space has, in the order of its variables.
use Rattle.std.specs.Prelude.{ℕ, List, map}
use Rattle.state_space.specs.declared.space.Space.{Space}
use Rattle.state_space.specs.Ranges.{RangeForm, form_of, size_of}

-- the names of the variables
abbrev pub names : Space → List (List ℕ)
names space = map (λ v. v.name) space.variables.items

-- the ranges of the variables
abbrev pub ranges : Space → List RangeForm
ranges space = map (λ v. form_of v.range) space.variables.items

-- how many values each variable may have
abbrev pub sizes : Space → List ℕ
sizes space = map (λ v. size_of (form_of v.range)) space.variables.items
