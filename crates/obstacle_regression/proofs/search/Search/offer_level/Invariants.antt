use Rattle.std.proofs.Common.{◌≡◌, ◌<◌, ◌≤◌, ℕ, drop, map, length, get_or}
use Rattle.std.specs.Prelude.{flat_map}
use Rattle.bound_unfolding.specs.CoreForm.{CoreForm}
use Rattle.obstacle_regression.specs.Candidates.{given_by, with_candidates}
use Rattle.obstacle_regression.specs.Views.{rule_of, search_of}
use Rattle.obstacle_regression.proofs.search.Search.offer_level.Given as goal

abbrev pub invariant-level : goal.invariant-level
invariant-level l = record {
  rest : with_candidates l.fn.self.beside (search_of l.self) (flat_map (given_by (map rule_of l.rules)) (drop l.place (search_of l.fn.self).list))
      ≡ with_candidates l.fn.self.beside (search_of l.fn.self) (flat_map (given_by (map rule_of l.rules)) (drop l.from (search_of l.fn.self).list));
  beside : l.self.beside ≡ l.fn.self.beside;
  longer : length (search_of l.fn.self).list ≤ length (search_of l.self).list;
  front : (k : ℕ) (d : CoreForm) → k < length (search_of l.fn.self).list → get_or (search_of l.self).list k d ≡ get_or (search_of l.fn.self).list k d;
}
