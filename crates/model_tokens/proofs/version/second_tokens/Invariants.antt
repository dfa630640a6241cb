use Rattle.std.proofs.Common.{◌≡◌, ◌++◌, map, take, drop, false}
use Rattle.model_tokens.specs.Tokens.{form_of}
use Rattle.model_tokens.specs.Versions.{second_forms}
use Rattle.model_tokens.proofs.version.second_tokens.Given as goal

abbrev pub invariant-tokens : goal.invariant-tokens
invariant-tokens l = record {
  forms : map (λ t. form_of t.kind) l.second.items ++ second_forms l.behind (map (λ t. form_of t.kind) (drop l.token-index l.tokens)) ≡ second_forms false (map (λ t. form_of t.kind) l.tokens);
  places : map (λ t. t.at) l.second.items ≡ map (λ t. t.at) (take l.token-index l.tokens);
}
