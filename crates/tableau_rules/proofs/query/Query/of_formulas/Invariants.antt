use Rattle.std.proofs.Common.{◌≡◌, map, take}
use Rattle.state_space.specs.Spaces.{sizes}
use Rattle.temporal_logic.specs.Trees.{tree_of}
use Rattle.bound_unfolding.specs.CoreLists.{cores_of}
use Rattle.tableau_rules.specs.BegunQueries.{cores_so_far, IsBegun}
use Rattle.tableau_rules.proofs.query.Query.of_formulas.Given as goal

abbrev pub invariant-formulas : goal.invariant-formulas
invariant-formulas l = record {
  begun : IsBegun l.begun;
  so_far : cores_so_far l.begun ≡ cores_of (sizes l.space) (map tree_of (take l.formula-index l.list));
}
