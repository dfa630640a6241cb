-- From bytes to tokens, one byte at a time: a word is as long as it can be, and so is a sign of two bytes.
use Rattle.std.specs.Prelude.{ℕ, ◌+◌, Bool, true, false, ◌&&◌, ◌||◌, List, [], ◌∷◌, ◌++◌, map, Option, Some, None, ◌==◌, if◌then◌else◌}
use Rattle.std.specs.Char.{is_ascii_digit}
use Rattle.std.specs.List.{list_all}
use Rattle.state_space.specs.declared.keyword.Keyword.{Keyword}
use Rattle.state_space.specs.Keywords.{keyword_of}
use Rattle.state_space.specs.Names.{is_word_byte, has_name_form}
use Rattle.model_tokens.specs.declared.token.Sign.{Sign}
use Rattle.model_tokens.specs.declared.token.Sign.TheVariants.{Semicolon, Colon, Comma, OpenParenthesis, CloseParenthesis, OpenBrace, CloseBrace, Equal, NotEqual, Below, AtMost, Above, AtLeast, Dots}
use Rattle.model_tokens.specs.Tokens.{TokenForm, keyword, mark, name, number, stray, bad_byte, Placed}

-- what stands directly before a byte: nothing that it could go on with, a comment, a word (with `-` before it or not), or a sign that may have a second byte
pub data Before : Type 0 where
  between : Before
  comment : Before
  within : (from : ℕ) (negative : Bool) (word : List ℕ) → Before
  behind : (from byte : ℕ) → Before

-- a single token, by the place of its first byte
abbrev one : ℕ → TokenForm → List Placed
one at form = record { at = at; form = form } ∷ []

-- a word that is no keyword: a name, else a number, else no token
abbrev pub plain_word : List ℕ → TokenForm
plain_word word =
    if has_name_form word then name word else
    if list_all is_ascii_digit word then number false word else
    stray

-- the token of a word: the keyword that it is, if it is one
abbrev pub word_form : Option Keyword → List ℕ → TokenForm
word_form (Some k) word = keyword k
word_form None word = plain_word word

-- the token that a word is
unfoldable pub word_token : List ℕ → TokenForm
word_token word = word_form (keyword_of word) word

-- a word behind a `-`: a negative number, or a stray `-` and the word
unfoldable pub negative_word : ℕ → List ℕ → List Placed
negative_word from word =
    if list_all is_ascii_digit word then one from (number true word) else
    one from stray ++ one (from + 1) (word_token word)

-- a sign that may have a second byte, where none comes: 60 and 62 are `<` and `>`
abbrev pub lone_form : ℕ → TokenForm
lone_form byte = if byte == 60 then mark Below else if byte == 62 then mark Above else stray

-- the tokens that end with what stands before
abbrev pub ended : Before → List Placed
ended between = []
ended comment = []
ended (within from false word) = one from (word_token word)
ended (within from true word) = negative_word from word
ended (behind from byte) = one from (lone_form byte)

-- the sign of two bytes: `!=`, `<=`, `>=` and `..`
abbrev pub pair_of : ℕ → ℕ → Option Sign
pair_of first second =
    if first == 33 && second == 61 then Some NotEqual else
    if first == 60 && second == 61 then Some AtMost else
    if first == 62 && second == 61 then Some AtLeast else
    if first == 46 && second == 46 then Some Dots else
    None

-- a byte of blank space: space, tab, carriage return or line feed
abbrev pub is_blank : ℕ → Bool
is_blank byte = byte == 32 || byte == 9 || byte == 13 || byte == 10

-- `!`, `<`, `>`, `.` and `-` may have a second byte
abbrev pub may_go_on : ℕ → Bool
may_go_on byte = byte == 33 || byte == 60 || byte == 62 || byte == 46 || byte == 45

-- the sign that a byte is by itself
abbrev pub single_of : ℕ → Option Sign
single_of byte =
    if byte == 59 then Some Semicolon else
    if byte == 58 then Some Colon else
    if byte == 44 then Some Comma else
    if byte == 40 then Some OpenParenthesis else
    if byte == 41 then Some CloseParenthesis else
    if byte == 123 then Some OpenBrace else
    if byte == 125 then Some CloseBrace else
    if byte == 61 then Some Equal else
    None

-- the token that a byte is by itself, at a place where nothing goes on: none where it is blank or begins a comment, a word or a longer sign
abbrev pub alone_form : Option Sign → ℕ → List TokenForm
alone_form (Some m) byte = mark m ∷ []
alone_form None byte =
    if is_blank byte || byte == 35 || is_word_byte byte || may_go_on byte then [] else bad_byte ∷ []

-- the same token, by the place of the byte
unfoldable pub alone : ℕ → ℕ → List Placed
alone at byte = map (λ form. record { at = at; form = form }) (alone_form (single_of byte) byte)

-- what stands before the byte behind one that begins anew: 35 is `#`
unfoldable pub fresh : ℕ → ℕ → Before
fresh at byte =
    if is_word_byte byte then within at false (byte ∷ []) else
    if may_go_on byte then behind at byte else
    if byte == 35 then comment else
    between

-- what stands before the next byte, where a byte stood before this one that may have a second: a whole sign, a `-` before a word, or this byte anew
abbrev pub behind_next : Option Sign → ℕ → ℕ → ℕ → ℕ → Before
behind_next (Some m) from first at byte = between
behind_next None from first at byte =
    if first == 45 && is_word_byte byte then within from true (byte ∷ []) else fresh at byte

-- the tokens that end here, where such a byte stood before: none while a `-` may still begin a number
abbrev pub behind_emitted : Option Sign → ℕ → ℕ → ℕ → ℕ → List Placed
behind_emitted (Some m) from first at byte = one from (mark m)
behind_emitted None from first at byte =
    if first == 45 && is_word_byte byte then [] else one from (lone_form first) ++ alone at byte

-- what stands before the next byte: a comment ends with its line
abbrev pub next : ℕ → Before → ℕ → Before
next at between byte = fresh at byte
next at comment byte = if byte == 10 then between else comment
next at (within from negative word) byte =
    if is_word_byte byte then within from negative (word ++ byte ∷ []) else fresh at byte
next at (behind from first) byte = behind_next (pair_of first byte) from first at byte

-- the tokens that end before this byte, or with it
abbrev pub emitted : ℕ → Before → ℕ → List Placed
emitted at between byte = alone at byte
emitted at comment byte = []
emitted at (within from negative word) byte =
    if is_word_byte byte then [] else ended (within from negative word) ++ alone at byte
emitted at (behind from first) byte = behind_emitted (pair_of first byte) from first at byte

-- the tokens of the bytes from a place on
abbrev pub tokens_from : ℕ → Before → List ℕ → List Placed
tokens_from at before [] = ended before
tokens_from at before (byte ∷ bytes) = emitted at before byte ++ tokens_from (at + 1) (next at before byte) bytes

-- the tokens of a text
unfoldable pub tokens_of : List ℕ → List Placed
tokens_of text = tokens_from 0 between text

-- the tokens of a text without their places
abbrev pub forms_of : List ℕ → List TokenForm
forms_of text = map (λ t. t.form) (tokens_of text)
