use Rattle.std.proofs.Common.{ap, ◌∙◌}
use Rattle.state_space.specs.Spaces.{sizes}
use Rattle.tableau_rules.specs.Turns.{sets_of}
use Rattle.tableau_rules.specs.QueryView.{cores_in}
use Rattle.tableau_rules.proofs.QueryNodes.{root_of_query_by}
use Rattle.tableau_rules.proofs.tableau.root.Goals as goal

pub returns-clause-of_query : goal.returns-clause-of_query
returns-clause-of_query c =
    root_of_query_by (sizes c.args.space.now) (cores_in c.args.query.now) _ _ _ (c.in_ok-todo.ensures ∙ c.start.ensures) (ap sets_of c.in_ok-now.ensures.items ∙ c.full.ensures.full) c.new-next.ensures
