-- The kind of a node's rule, which tells how many kids the node has.
use Rattle.std.specs.Prelude.{ℕ}
use Rattle.tableau_rules.specs.declared.kind.RuleKind.{RuleKind}
use Rattle.tableau_rules.specs.declared.kind.RuleKind.TheVariants.{Clash, Step, One, Two, FulfilOnly, WaitOnly, FulfilOrWait}
use Rattle.tableau_rules.specs.Rules.{Rule, clash, step, one, two, fulfil_only, wait_only, fulfil_or_wait}

-- the kind of the rule of the formula f
abbrev pub kind_of : ℕ → Rule → RuleKind
kind_of f clash = Clash
kind_of f step = Step
kind_of f (one c) = One
kind_of f (two c d) = Two
kind_of f (fulfil_only c) = FulfilOnly f
kind_of f (wait_only c) = WaitOnly f
kind_of f (fulfil_or_wait c d) = FulfilOrWait f

-- how many kids a node has by a rule of this kind
abbrev pub kid_count_of : RuleKind → ℕ
kid_count_of Clash = 0
kid_count_of Two = 2
kid_count_of (FulfilOrWait e) = 2
kid_count_of _ = 1
