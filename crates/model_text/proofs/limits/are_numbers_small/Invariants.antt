use Rattle.std.proofs.Common.{◌≡◌, map, drop}
use Rattle.std.specs.List.{list_all}
use Rattle.model_tokens.specs.Tokens.{form_of}
use Rattle.model_text.specs.Limits.{is_small}
use Rattle.model_text.proofs.limits.are_numbers_small.Given as goal

abbrev pub invariant-loop-token : goal.invariant-loop-token
invariant-loop-token l =
    list_all is_small (map (λ t. form_of t.kind) (drop l.token-index l.tokens)) ≡ list_all is_small (map (λ t. form_of t.kind) l.tokens)
