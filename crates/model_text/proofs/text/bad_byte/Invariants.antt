use Rattle.std.proofs.Common.{◌≡◌, drop}
use Rattle.model_tokens.specs.Tokens.{all_placed}
use Rattle.model_text.specs.Readability.{first_bad}
use Rattle.model_text.proofs.text.bad_byte.Given as goal

abbrev pub invariant-loop-token : goal.invariant-loop-token
invariant-loop-token l =
    first_bad (all_placed (drop l.token-index l.tokens)) ≡ first_bad (all_placed l.tokens)
