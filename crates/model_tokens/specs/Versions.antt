-- The tokens of a text by its version. A text is of version 2 where its first two tokens are `kaos` and a number of value 2. It has four
-- keywords more, which are names in version 1, and a sign of its own for a `(` directly behind a name.
use Rattle.std.specs.Prelude.{ℕ, Bool, true, false, List, [], ◌∷◌, codes, Option, Some, None, bytes_eq, ◌==◌, if◌then◌else◌}
use Rattle.state_space.specs.declared.keyword.Keyword.TheVariants as keywords
use Rattle.model_tokens.specs.declared.token.Sign.TheVariants.{OpenParenthesis}
use Rattle.model_tokens.specs.declared.token.Further.{Further}
use Rattle.model_tokens.specs.declared.token.Further.TheVariants as furthers
use Rattle.model_tokens.specs.Tokens.{TokenForm, keyword, mark, name, number, further}
use Rattle.model_tokens.specs.Lexing.{forms_of}
use Rattle.model_tokens.specs.Values.{magnitude}

-- the keyword of version 2 that a word is
unfoldable pub further_word : List ℕ → Option Further
further_word word =
    if bytes_eq word (codes "entity") then Some furthers.Entity else
    if bytes_eq word (codes "attr") then Some furthers.Attr else
    if bytes_eq word (codes "all") then Some furthers.All else
    if bytes_eq word (codes "some") then Some furthers.Some else
    None

-- a word in version 2: one of its four further keywords, or a name
abbrev pub word_or_name : Option Further → List ℕ → TokenForm
word_or_name (Some f) word = further f
word_or_name None word = name word

-- a token as version 2 has it, behind a name or behind none
abbrev pub second_form : (behind : Bool) → TokenForm → TokenForm
second_form behind (name word) = word_or_name (further_word word) word
second_form true (mark OpenParenthesis) = further furthers.OpenArgument
second_form behind t = t

-- a token behind which a `(` opens an argument
abbrev pub is_name : TokenForm → Bool
is_name (name word) = true
is_name _ = false

-- the tokens as version 2 has them, where the first stands behind a name or behind none
abbrev pub second_forms : (behind : Bool) → List TokenForm → List TokenForm
second_forms behind [] = []
second_forms behind (t ∷ ts) = second_form behind t ∷ second_forms (is_name (second_form behind t)) ts

-- the version that a number names, where there is such a one
abbrev pub version_named : Bool → List ℕ → Option ℕ
version_named negative digits =
    if negative then None else
    if magnitude digits == 1 then Some 1 else
    if magnitude digits == 2 then Some 2 else
    None

-- a number of value 2
abbrev pub is_second_number : Bool → List ℕ → Bool
is_second_number negative digits = if negative then false else magnitude digits == 2

-- the tokens begin with `kaos` and a number of value 2
abbrev pub is_second : List TokenForm → Bool
is_second (keyword keywords.Kaos ∷ number negative digits ∷ ts) = is_second_number negative digits
is_second _ = false

-- the tokens as their own first two say that they are to be read
abbrev pub version_forms : List TokenForm → List TokenForm
version_forms ts = if is_second ts then second_forms false ts else ts

-- the tokens of a text, as its version has them
abbrev pub text_forms : List ℕ → List TokenForm
text_forms bytes = version_forms (forms_of bytes)
