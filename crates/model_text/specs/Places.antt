-- The place of a syntax fault: that of the first token with which the tokens begin no text that is spelled. Tokens are those of the bytes,
-- before the version makes its own of them: what they begin may be of either version as long as they do not name one.
use Rattle.std.specs.Prelude.{◌≡◌, ℕ, Bool, true, false, List, [], ◌∷◌, ◌++◌, length, map}
use Rattle.model_tokens.specs.Tokens.{TokenForm, stray, bad_byte, Placed}
use Rattle.model_tokens.specs.Lexing.{tokens_of, forms_of}
use Rattle.model_text.specs.Statements.{StatementForm}
use Rattle.model_text.specs.Grammar.{Spells}

-- some text that is spelled has these tokens first
pub record BeginsText (ts : List TokenForm) : Type 0 where
  pub bytes : List ℕ
  pub statements : List StatementForm
  pub spelled : Spells bytes statements
  pub more : List TokenForm
  pub is : forms_of bytes ≡ ts ++ more

-- a keyword, a sign, a name or a number, and no place without a token
abbrev pub has_token : TokenForm → Bool
has_token stray = false
has_token bad_byte = false
has_token _ = true

-- the tokens before a place, without their places
abbrev pub forms : List Placed → List TokenForm
forms = map (λ t. t.form)

-- the first byte of the first token such that the tokens up to it and with it begin no spelled text, or the length of the text where
-- there is none
pub data IsFaultPlace (bytes : List ℕ) : ℕ → Type 0 where
  at_token : (front : List Placed) (t : Placed) (behind : List Placed) → tokens_of bytes ≡ front ++ t ∷ behind → BeginsText (forms front) → (BeginsText (forms (front ++ t ∷ [])) → ⊥) → IsFaultPlace bytes t.at
  at_the_end : BeginsText (forms (tokens_of bytes)) → IsFaultPlace bytes (length bytes)
