use Rattle.std.proofs.Common.{ap, ◌∙◌, length}
use Rattle.tableau_rules.proofs.QueryClosures.{closure_is}
use Rattle.tableau_rules.proofs.query.Query.len.Goals as goal

pub returns : goal.returns
returns c = c.len.ensures.length ∙ ap length (closure_is c.args.self.now)
