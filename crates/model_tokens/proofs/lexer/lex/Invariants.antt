use Rattle.std.proofs.Common.{◌≡◌, ◌++◌, drop}
use Rattle.model_tokens.specs.Tokens.{all_placed}
use Rattle.model_tokens.specs.Lexing.{between, tokens_from}
use Rattle.model_tokens.specs.LexerView.{seen, IsWithin}
use Rattle.model_tokens.proofs.lexer.lex.Given as goal

abbrev pub invariant-loop-at : goal.invariant-loop-at
invariant-loop-at l = record {
  tokens : all_placed l.tokens.items ++ tokens_from l.at (seen l.text l.state l.at) (drop l.at l.text) ≡ tokens_from 0 between l.text;
  within : IsWithin l.state l.at;
}
