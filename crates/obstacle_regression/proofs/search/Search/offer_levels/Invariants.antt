use Rattle.std.proofs.Common.{◌≡◌, ◌-◌, map}
use Rattle.obstacle_regression.specs.Candidates.{with_levels}
use Rattle.obstacle_regression.specs.Views.{rule_of, search_of}
use Rattle.obstacle_regression.proofs.search.Search.offer_levels.Given as goal

abbrev pub invariant-levels : goal.invariant-levels
invariant-levels l = record {
  rest : with_levels (record { rules = map rule_of l.rules; beside = l.fn.self.beside }) (l.depth - l._level) l.from (search_of l.self)
      ≡ with_levels (record { rules = map rule_of l.rules; beside = l.fn.self.beside }) l.depth 0 (search_of l.fn.self);
  beside : l.self.beside ≡ l.fn.self.beside;
}
