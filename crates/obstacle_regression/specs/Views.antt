-- What rules, searches and results stand for, wherever their parts lie in memory.
use Rattle.std.specs.Prelude.{true, List, map}
use Rattle.std.specs.Borrow.{Bor}
use Rattle.state_space.specs.Spaces.{sizes}
use Rattle.temporal_logic.specs.Trees.{tree_of}
use Rattle.bound_unfolding.specs.CoreForm.{CoreForm}
use Rattle.bound_unfolding.specs.CoreTree.{core_tree}
use Rattle.bound_unfolding.specs.CoreView.{core_tree_of}
use Rattle.bound_unfolding.specs.declared.core_form.Core.{Core}
use Rattle.obstacle_regression.specs.Candidates.{RuleCores, FoundForm}
use Rattle.obstacle_regression.specs.declared.rule.Side.{Side}
use Rattle.obstacle_regression.specs.declared.rule.Rule.{Rule}
use Rattle.obstacle_regression.specs.declared.candidate.Candidate.{Candidate}
use Rattle.obstacle_regression.specs.declared.search.Search.{Search}
use Rattle.obstacle_regression.specs.declared.regression.Regressed.{Regressed}

-- the positive core of a side of a rule, whether or not it is built
abbrev pub side_core : Side → CoreForm
side_core s = core_tree (sizes s.space.now) true (tree_of s.formula.now)

abbrev pub rule_of : Rule → RuleCores
rule_of r = record { cause = side_core r.cause; effect = side_core r.effect }

abbrev pub candidate_core : Candidate → CoreForm
candidate_core c = core_tree_of c.core

abbrev pub search_of : Search → FoundForm
search_of s = record { list = map candidate_core s.candidates.items; more = s.more }

abbrev pub regressed_of : Regressed → FoundForm
regressed_of r = record { list = map core_tree_of r.list.items; more = r.more }

-- the parts of a core
abbrev pub part_cores : List (Bor Core) → List CoreForm
part_cores parts = map (λ part. core_tree_of part.now) parts
