-- How signs are written, and the tokens that only version 2 has.
use Rattle.std.specs.Prelude.{ℕ, List, codes}
use Rattle.model_tokens.specs.declared.token.Sign.{Sign}
use Rattle.model_tokens.specs.declared.token.Sign.TheVariants.{Semicolon, Colon, Comma, OpenParenthesis, CloseParenthesis, OpenBrace, CloseBrace, Equal, NotEqual, Below, AtMost, Above, AtLeast, Dots}
use Rattle.model_tokens.specs.declared.token.Further.{Further}
use Rattle.model_tokens.specs.declared.token.Further.TheVariants as furthers

-- how a sign is written
abbrev pub sign_bytes : Sign → List ℕ
sign_bytes Semicolon = codes ";"
sign_bytes Colon = codes ":"
sign_bytes Comma = codes ","
sign_bytes OpenParenthesis = codes "("
sign_bytes CloseParenthesis = codes ")"
sign_bytes OpenBrace = codes "{"
sign_bytes CloseBrace = codes "}"
sign_bytes Equal = codes "="
sign_bytes NotEqual = codes "!="
sign_bytes Below = codes "<"
sign_bytes AtMost = codes "<="
sign_bytes Above = codes ">"
sign_bytes AtLeast = codes ">="
sign_bytes Dots = codes ".."

-- how a token is written that only version 2 has
abbrev pub further_bytes : Further → List ℕ
further_bytes furthers.Entity = codes "entity"
further_bytes furthers.Attr = codes "attr"
further_bytes furthers.All = codes "all"
further_bytes furthers.Some = codes "some"
further_bytes furthers.OpenArgument = codes "("
