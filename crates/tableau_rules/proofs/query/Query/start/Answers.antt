use Rattle.std.proofs.Common.{ap, ◌∙◌, []}
use Rattle.tableau_rules.specs.Nodes.{with_numbers_of}
use Rattle.tableau_rules.specs.QueryView.{cores_in}
use Rattle.tableau_rules.proofs.QueryClosures.{closure_is}
use Rattle.tableau_rules.proofs.query.Query.start.Goals as goal

pub returns : goal.returns
returns c =
    let q = c.args.self.now in
    q.started ∙ ap (λ cl. with_numbers_of cl (cores_in q) []) (closure_is q)
