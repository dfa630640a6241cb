use Rattle.std.proofs.Common.{◌≡◌, ◌≤◌, max, map, drop}
use Rattle.model_tokens.specs.Tokens.{form_of}
use Rattle.model_text.specs.Limits.{most_operators}
use Rattle.model_text.proofs.limits.most_operators.Given as goal

abbrev pub invariant-loop-token : goal.invariant-loop-token
invariant-loop-token l = record {
  most : max l.most (most_operators l.count (map (λ t. form_of t.kind) (drop l.token-index l.tokens))) ≡ most_operators 0 (map (λ t. form_of t.kind) l.tokens);
  count : l.count ≤ l.token-index;
}
