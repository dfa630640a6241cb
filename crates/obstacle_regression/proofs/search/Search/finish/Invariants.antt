use Rattle.std.proofs.Common.{◌≡◌, map, ◌++◌, length}
use Rattle.std.specs.Vec.Iter.{into_iter_items, into_iter_len}
use Rattle.bound_unfolding.specs.CoreView.{core_tree_of}
use Rattle.obstacle_regression.specs.Views.{candidate_core}
use Rattle.obstacle_regression.proofs.search.Search.finish.Given as goal

abbrev pub invariant-candidates : goal.invariant-candidates
invariant-candidates l = record {
  rest : map core_tree_of l.list.items ++ map candidate_core (into_iter_items l.candidate-iterator) ≡ map candidate_core l.fn.self.candidates.items;
  left : into_iter_len l.candidate-iterator ≡ length (into_iter_items l.candidate-iterator);
  more : l.more ≡ l.fn.self.more;
}
