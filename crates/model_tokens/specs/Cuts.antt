-- How a text is cut into tokens, as a reader sees it: gaps and tokens in turn. A gap is blanks and comments. A word is as long as it can
-- be, and so is a sign; a `-` directly before a word of digits belongs to it.
use Rattle.std.specs.Prelude.{◌≡◌, ◌≢◌, ℕ, ◌+◌, ◌<◌, true, false, List, [], ◌∷◌, ◌++◌, length, codes, IsTrue, IsFalse, All, Contains}
use Rattle.std.specs.Char.{is_ascii_digit}
use Rattle.std.specs.List.{list_all}
use Rattle.state_space.specs.declared.keyword.Keyword.{Keyword}
use Rattle.state_space.specs.Keywords.{spelling}
use Rattle.state_space.specs.Names.{is_word_byte, has_name_form}
use Rattle.model_tokens.specs.declared.token.Sign.{Sign}
use Rattle.model_tokens.specs.Tokens.{TokenForm, keyword, mark, name, number, stray, bad_byte, Placed}
use Rattle.model_tokens.specs.Signs.{sign_bytes}

-- a line without its end: 10 is the line feed
abbrev pub IsLine : List ℕ → Type 0
IsLine bytes = All (λ b. b ≢ 10) bytes

-- blanks, and comments with the line feed that ends each: 35 is `#`
pub data IsGap : List ℕ → Type 0 where
  nothing : IsGap []
  a_blank : (blank : ℕ) (gap : List ℕ) → Contains (codes " \t\r\n") blank → IsGap gap → IsGap (blank ∷ gap)
  a_comment : (line gap : List ℕ) → IsLine line → IsGap gap → IsGap (35 ∷ line ++ 10 ∷ gap)

-- what stands behind the last token: a gap, whose last comment may end with the text
pub data IsLastGap : List ℕ → Type 0 where
  a_gap : (gap : List ℕ) → IsGap gap → IsLastGap gap
  a_last_comment : (gap line : List ℕ) → IsGap gap → IsLine line → IsLastGap (gap ++ 35 ∷ line)

-- some letters, digits and `_`
abbrev pub IsWord : List ℕ → Type 0
IsWord word = (0 < length word) × IsTrue (list_all is_word_byte word)

-- some digits
abbrev pub AreDigits : List ℕ → Type 0
AreDigits word = (0 < length word) × IsTrue (list_all is_ascii_digit word)

-- what a word is: a keyword, another word that begins with a letter, digits alone, or no token
pub data WordIs (word : List ℕ) : TokenForm → Type 0 where
  a_keyword : (k : Keyword) → word ≡ spelling k → WordIs word (keyword k)
  a_name : IsTrue (has_name_form word) → ((k : Keyword) → word ≢ spelling k) → WordIs word (name word)
  a_number : AreDigits word → WordIs word (number false word)
  no_token : IsFalse (has_name_form word) → ¬ (AreDigits word) → WordIs word stray

-- a word does not go on with these bytes
abbrev pub EndsWord : List ℕ → Type 0
EndsWord [] = Unit {0}
EndsWord (byte ∷ bytes) = IsFalse (is_word_byte byte)

-- no sign is these bytes and the one behind them
abbrev pub EndsSign : (bytes behind : List ℕ) → Type 0
EndsSign bytes [] = Unit {0}
EndsSign bytes (byte ∷ behind) = (sign : Sign) → sign_bytes sign ≢ bytes ++ byte ∷ []

-- these bytes begin with a word of digits
abbrev pub BeginsNumber : List ℕ → Type 0
BeginsNumber bytes = (digits : List ℕ) × (behind : List ℕ) × (bytes ≡ digits ++ behind) × AreDigits digits × EndsWord behind

-- neither blank, nor part of a word or a sign, nor the beginning of a comment
abbrev pub IsBadByte : ℕ → Type 0
IsBadByte byte = IsFalse (is_word_byte byte) × ¬ (Contains (codes " \t\r\n#;:,(){}=!<>.-") byte)

-- the token that stands at the front of bytes: what it is, its own bytes, and those behind it
pub data Stands : TokenForm → (own behind : List ℕ) → Type 0 where
  a_word : (form : TokenForm) (word behind : List ℕ) → IsWord word → EndsWord behind → WordIs word form → Stands form word behind
  a_negative_number : (digits behind : List ℕ) → AreDigits digits → EndsWord behind → Stands (number true digits) (45 ∷ digits) behind
  a_sign : (sign : Sign) (behind : List ℕ) → EndsSign (sign_bytes sign) behind → Stands (mark sign) (sign_bytes sign) behind
  a_lone_sign : (byte : ℕ) (behind : List ℕ) → Contains (codes "!.") byte → EndsSign (byte ∷ []) behind → Stands stray (byte ∷ []) behind
  a_lone_dash : (behind : List ℕ) → ¬ (BeginsNumber behind) → Stands stray (codes "-") behind
  a_byte_of_none : (byte : ℕ) (behind : List ℕ) → IsBadByte byte → Stands bad_byte (byte ∷ []) behind

-- bytes from a place on are cut into these tokens: the place of each is the number of bytes before it
pub data AreCut : (at : ℕ) → List ℕ → List Placed → Type 0 where
  no_more : (at : ℕ) (gap : List ℕ) → IsLastGap gap → AreCut at gap []
  one_more : (at : ℕ) (gap own behind : List ℕ) (form : TokenForm) (tokens : List Placed) → IsGap gap → Stands form own behind
      → AreCut (at + length gap + length own) behind tokens → AreCut at (gap ++ own ++ behind) ((record { at = at + length gap; form = form }) ∷ tokens)
