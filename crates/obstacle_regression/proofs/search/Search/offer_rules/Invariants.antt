use Rattle.std.proofs.Common.{◌≡◌, map, drop}
use Rattle.bound_unfolding.specs.CoreView.{core_tree_of}
use Rattle.obstacle_regression.specs.Candidates.{given_for, with_candidates}
use Rattle.obstacle_regression.specs.Views.{rule_of, search_of}
use Rattle.obstacle_regression.proofs.search.Search.offer_rules.Given as goal

abbrev pub invariant-rules : goal.invariant-rules
invariant-rules l = record {
  rest : with_candidates l.fn.self.beside (search_of l.self) (given_for (map rule_of (drop l.rule-index l.rules)) (core_tree_of l.core) (core_tree_of l.part))
      ≡ with_candidates l.fn.self.beside (search_of l.fn.self) (given_for (map rule_of l.rules) (core_tree_of l.core) (core_tree_of l.part));
  beside : l.self.beside ≡ l.fn.self.beside;
}
