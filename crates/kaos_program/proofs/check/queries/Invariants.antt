use Rattle.std.proofs.Common.{◌≡◌, map, take}
use Rattle.std.specs.Prelude.{All}
use Rattle.tableau_rules.specs.Queries.{IsOver}
use Rattle.tableau_rules.specs.QueryView.{cores_in}
use Rattle.goal_model.specs.Models.{sizes_of}
use Rattle.goal_model.specs.ModelViews.{model_of}
use Rattle.kaos_program.specs.Asking.{demands_in, query_asked}
use Rattle.kaos_program.proofs.check.queries.Given as goal

abbrev pub invariant-asked : goal.invariant-asked
invariant-asked l = record {
  cores : map cores_in l.queries.items ≡ map (query_asked (model_of l.model)) (demands_in (take l.one-index l.fn.asked));
  over : All (λ q. All (IsOver (sizes_of (model_of l.model))) (cores_in q)) l.queries.items;
}
