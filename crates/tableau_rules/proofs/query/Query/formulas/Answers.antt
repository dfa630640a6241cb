use Rattle.tableau_rules.proofs.QueryClosures.{closure_is}
use Rattle.tableau_rules.proofs.query.Query.formulas.Goals as goal

pub returns : goal.returns
returns c = closure_is c.args.self.now
