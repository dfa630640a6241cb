use Rattle.std.proofs.Common.{◌≡◌, map, take}
use Rattle.bound_unfolding.specs.CoreView.{core_tree_of}
use Rattle.tableau_rules.specs.BegunQueries.{cores_so_far, IsBegun}
use Rattle.tableau_rules.proofs.query.Query.new.Given as goal

abbrev pub invariant-cores : goal.invariant-cores
invariant-cores l = record {
  begun : IsBegun l.begun;
  so_far : cores_so_far l.begun ≡ map core_tree_of (take l.core-index l.core-items);
}
