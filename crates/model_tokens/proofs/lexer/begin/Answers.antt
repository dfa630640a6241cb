use Rattle.model_tokens.proofs.Steps.{fresh_seen}
use Rattle.model_tokens.proofs.lexer.begin.Goals as goal

pub returns-clause-state : goal.returns-clause-state
returns-clause-state c = rw c.fresh_state.ensures (fresh_seen c.args.text.now c.args.at c.requires)
