-- Tokens, wherever they lie in memory.
use Rattle.std.specs.Prelude.{ℕ, Bool, List, map}
use Rattle.state_space.specs.declared.keyword.Keyword.{Keyword}
use Rattle.model_tokens.specs.declared.token.Sign.{Sign}
use Rattle.model_tokens.specs.declared.token.Sign.TheVariants.{Semicolon, Colon, Comma, OpenParenthesis, CloseParenthesis, OpenBrace, CloseBrace, Equal, NotEqual, Below, AtMost, Above, AtLeast, Dots}
use Rattle.model_tokens.specs.declared.token.Further.{Further}
use Rattle.model_tokens.specs.declared.token.Further.TheVariants as furthers
use Rattle.model_tokens.specs.declared.token.TokenKind as kind
use Rattle.model_tokens.specs.declared.token.TokenKind.TheVariants as kinds
use Rattle.model_tokens.specs.declared.token.Token as code

-- what stands at a place of the text
pub data TokenForm : Type 0 where
  keyword : (word : Keyword) → TokenForm
  mark : (sign : Sign) → TokenForm
  name : (bytes : List ℕ) → TokenForm
  number : (negative : Bool) (digits : List ℕ) → TokenForm
  further : (sign : Further) → TokenForm
  stray : TokenForm
  bad_byte : TokenForm

-- a token with the place of its first byte, counted from 0
pub record Placed : Type 0 where
  pub at : ℕ
  pub form : TokenForm

-- the token that one of the code stands for, with the bytes that it borrows
abbrev pub form_of : kind.TokenKind → TokenForm
form_of (kinds.Keyword k) = keyword k
form_of (kinds.Sign m) = mark m
form_of (kinds.Name word) = name word.bytes.now
form_of (kinds.Number negative digits) = number negative digits.now
form_of (kinds.Further f) = further f
form_of kinds.Stray = stray
form_of kinds.BadByte = bad_byte

-- a token of the code with its place: bytes are counted from 0
abbrev pub placed : code.Token → Placed
placed t = record { at = t.at; form = form_of t.kind }

-- the tokens of the code with their places, in order
abbrev pub all_placed : List code.Token → List Placed
all_placed = map placed

-- the place of a sign among them, by which two are told apart
abbrev pub number_of : Sign → ℕ
number_of Semicolon = 0
number_of Colon = 1
number_of Comma = 2
number_of OpenParenthesis = 3
number_of CloseParenthesis = 4
number_of OpenBrace = 5
number_of CloseBrace = 6
number_of Equal = 7
number_of NotEqual = 8
number_of Below = 9
number_of AtMost = 10
number_of Above = 11
number_of AtLeast = 12
number_of Dots = 13

-- the same of the tokens that only version 2 has
abbrev pub further_number : Further → ℕ
further_number furthers.Entity = 0
further_number furthers.Attr = 1
further_number furthers.All = 2
further_number furthers.Some = 3
further_number furthers.OpenArgument = 4
