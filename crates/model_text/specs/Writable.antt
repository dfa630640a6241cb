-- Which tokens a text of a version can have, and what those of version 2 are in version 1.
use Rattle.std.specs.Prelude.{◌≡◌, ◌<◌, Bool, true, List, [], ◌∷◌, length, codes, None}
use Rattle.std.specs.List.{list_all}
use Rattle.std.specs.Char.{is_ascii_digit}
use Rattle.state_space.specs.Keywords.{keyword_of}
use Rattle.state_space.specs.Names.{has_name_form}
use Rattle.model_tokens.specs.declared.token.Sign.TheVariants.{OpenParenthesis}
use Rattle.model_tokens.specs.declared.token.Further.TheVariants as furthers
use Rattle.model_tokens.specs.Tokens.{TokenForm, keyword, mark, name, number, further, stray, bad_byte}
use Rattle.model_tokens.specs.Versions.{further_word}

-- a keyword, a sign, a name that is no keyword, or a number of a digit or more; in version 2 also the tokens that only it has, which no name is
abbrev pub IsWritable : (second : Bool) → TokenForm → Type 0
IsWritable second (keyword word) = Unit {0}
IsWritable second (mark sign) = Unit {0}
IsWritable second (name bytes) = (has_name_form bytes ≡ true) × (keyword_of bytes ≡ None) × (second ≡ true → further_word bytes ≡ None)
IsWritable second (number negative digits) = (0 < length digits) × (list_all is_ascii_digit digits ≡ true)
IsWritable second (further sign) = second ≡ true
IsWritable second stray = ⊥
IsWritable second bad_byte = ⊥

-- each token can stand in a text
abbrev pub AreWritable : (second : Bool) → List TokenForm → Type 0
AreWritable second [] = Unit {0}
AreWritable second (t ∷ ts) = IsWritable second t × AreWritable second ts

-- the token as which version 1 has it
abbrev pub plain : TokenForm → TokenForm
plain (further furthers.Entity) = name (codes "entity")
plain (further furthers.Attr) = name (codes "attr")
plain (further furthers.All) = name (codes "all")
plain (further furthers.Some) = name (codes "some")
plain (further furthers.OpenArgument) = mark OpenParenthesis
plain t = t
