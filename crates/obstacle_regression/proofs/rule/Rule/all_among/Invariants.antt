use Rattle.std.proofs.Common.{◌≡◌, map, ◌++◌, drop}
use Rattle.state_space.specs.Spaces.{sizes}
use Rattle.temporal_logic.specs.Trees.{tree_of}
use Rattle.obstacle_regression.specs.Regressions.{rules_among, rule_cores}
use Rattle.obstacle_regression.specs.Views.{rule_of}
use Rattle.obstacle_regression.proofs.rule.Rule.all_among.Given as goal

abbrev pub invariant-formulas : goal.invariant-formulas
invariant-formulas l =
    map rule_of l.rules.items ++ map (rule_cores (sizes l.space)) (rules_among (map tree_of (drop l.formula-index l.formulas)))
    ≡ map (rule_cores (sizes l.space)) (rules_among (map tree_of l.formulas))
