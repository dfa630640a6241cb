use Rattle.std.proofs.Common.{◌<◌, ◌+◌, subst, sym, ◌∙◌}
use Rattle.model_tokens.specs.LexerView.{IsWithin}
use Rattle.model_tokens.proofs.Steps.{word_goes_on, negative_goes_on}
use Rattle.model_tokens.proofs.lexer.step.Goals as goal

pub returns-then-is_word_byte-clause-state : goal.returns-then-is_word_byte-clause-state
returns-then-is_word_byte-clause-state c =
    let inside : c.in-Word.from < c.args.at = subst (λ s. IsWithin s c.args.at) c.in-Word.is c.requires.within in
    rw c.in-Word.is (word_goes_on c.args.text.now c.in-Word.from c.args.at inside c.requires.place (sym c.is_word_byte.ensures ∙ c.if-is_word_byte.true))

pub returns-then-is_word_byte-2-clause-state : goal.returns-then-is_word_byte-2-clause-state
returns-then-is_word_byte-2-clause-state c =
    let inside : c.in-Negative.from + 1 < c.args.at = subst (λ s. IsWithin s c.args.at) c.in-Negative.is c.requires.within in
    rw c.in-Negative.is (negative_goes_on c.args.text.now c.in-Negative.from c.args.at inside c.requires.place (sym c.is_word_byte-in-Negative.ensures ∙ c.if-is_word_byte-2.true))
