-- How written tokens stand in a text: a space between each two neighbours, but none before `;`, `:`, `,`, `)` and `}`, none behind `(`
-- and `{`, and none on either side of `..`.
use Rattle.std.specs.Prelude.{ℕ, Bool, true, false, ◌||◌, List, [], ◌∷◌, ◌++◌, codes, flat_map, if◌then◌else◌}
use Rattle.state_space.specs.Keywords.{spelling}
use Rattle.model_tokens.specs.declared.token.Sign.TheVariants.{Semicolon, Colon, Comma, OpenParenthesis, CloseParenthesis, OpenBrace, CloseBrace, Dots}
use Rattle.model_tokens.specs.declared.token.Further.TheVariants as furthers
use Rattle.model_tokens.specs.Tokens.{TokenForm, keyword, mark, name, number, further, stray, bad_byte}
use Rattle.model_tokens.specs.Signs.{sign_bytes, further_bytes}
use Rattle.model_text.specs.Statements.{StatementForm}
use Rattle.model_text.specs.Writing.{statement_tokens}

-- the bytes of a token: 45 is `-`
abbrev pub token_bytes : TokenForm → List ℕ
token_bytes (keyword word) = spelling word
token_bytes (mark sign) = sign_bytes sign
token_bytes (name bytes) = bytes
token_bytes (number negative digits) = if negative then 45 ∷ digits else digits
token_bytes (further sign) = further_bytes sign
token_bytes stray = []
token_bytes bad_byte = []

-- no space stands before it
abbrev pub closes_up : TokenForm → Bool
closes_up (mark Semicolon) = true
closes_up (mark Colon) = true
closes_up (mark Comma) = true
closes_up (mark CloseParenthesis) = true
closes_up (mark CloseBrace) = true
closes_up (mark Dots) = true
closes_up _ = false

-- no space stands behind it
abbrev pub holds_on : TokenForm → Bool
holds_on (mark OpenParenthesis) = true
holds_on (mark OpenBrace) = true
holds_on (mark Dots) = true
holds_on (further furthers.OpenArgument) = true
holds_on _ = false

-- the space before a token, behind one that no space stands behind or another
abbrev pub gap : Bool → TokenForm → List ℕ
gap held t = if held || closes_up t then [] else codes " "

-- the bytes of tokens, behind one that no space stands behind or another
abbrev pub laid : Bool → List TokenForm → List ℕ
laid held [] = []
laid held (t ∷ ts) = gap held t ++ token_bytes t ++ laid (holds_on t) ts

-- a statement with its semicolon, on a line of its own
abbrev pub written_statement : StatementForm → List ℕ
written_statement s = laid true (statement_tokens s ++ mark Semicolon ∷ []) ++ codes "\n"

-- the written form of a list of statements
abbrev pub written_text : List StatementForm → List ℕ
written_text = flat_map written_statement
