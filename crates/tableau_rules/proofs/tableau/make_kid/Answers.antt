use Rattle.std.proofs.lemmas.Result.{on_ok_weaker}
use Rattle.state_space.specs.Spaces.{sizes}
use Rattle.tableau_rules.specs.NodeView.{node_of}
use Rattle.tableau_rules.specs.QueryView.{cores_in}
use Rattle.tableau_rules.proofs.QueryNodes.{kid_of_query_by}
use Rattle.tableau_rules.proofs.tableau.make_kid.Goals as goal

pub returns-clause-of_query : goal.returns-clause-of_query
returns-clause-of_query c q =
    on_ok_weaker c.make_kid_of.result (λ h. kid_of_query_by (sizes c.args.space.now) (cores_in c.args.query.now) _ _ (node_of c.args.node.now) (node_of c.make_kid_of.new.kid) c.args.which c.formulas.ensures c.full.ensures.full q h) c.make_kid_of.ensures.kid
