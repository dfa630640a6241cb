use Rattle.std.proofs.Common.{◌≡◌, map, drop}
use Rattle.std.specs.Prelude.{flat_map}
use Rattle.bound_unfolding.specs.CoreView.{core_tree_of}
use Rattle.obstacle_regression.specs.Candidates.{given_for, given_by, with_candidates}
use Rattle.obstacle_regression.specs.Views.{rule_of, search_of, part_cores}
use Rattle.obstacle_regression.proofs.search.Search.offer_parts.Given as goal

abbrev pub invariant-parts : goal.invariant-parts
invariant-parts l = record {
  rest : with_candidates l.fn.self.beside (search_of l.self) (flat_map (given_for (map rule_of l.rules) (core_tree_of l.core)) (part_cores (drop l.part-index l.parts)))
      ≡ with_candidates l.fn.self.beside (search_of l.fn.self) (given_by (map rule_of l.rules) (core_tree_of l.core));
  beside : l.self.beside ≡ l.fn.self.beside;
}
