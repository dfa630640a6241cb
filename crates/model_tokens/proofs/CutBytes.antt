-- Bytes and words as the walk tests them and as a reader sees them.
use Rattle.std.proofs.Common.{◌≡◌, ℕ, zero, suc, ◌<◌, ◌≤◌, ◌⊎◌, inl, inr, Bool, true, false, List, [], ◌∷◌, length, slice_index_or, All, Contains, Option, Some, None, refl, sym, ap, ◌∙◌, arith, ne_eqb, eqb-true}
use Rattle.std.specs.Prelude.{◌==◌, ◌&&◌, ◌||◌, map, if◌then◌else◌}
use Rattle.std.specs.List.{list_all}
use Rattle.std.specs.Char.{is_ascii_digit, is_ascii_alphabetic}
use Rattle.std.proofs.lemmas.Bool.{cases_eq, and_parts, and_from}
use Rattle.std.proofs.lemmas.Bool.Decides.{nat_tests}
use Rattle.state_space.specs.declared.keyword.Keyword.{Keyword}
use Rattle.state_space.specs.declared.keyword.Keyword.TheVariants as keys
use Rattle.state_space.specs.Keywords.{spelling, keyword_of}
use Rattle.state_space.specs.Names.{is_word_byte, has_name_form}
use Rattle.state_space.proofs.Spellings.{keyword_of_spelling, spelling_of_keyword}
use Rattle.model_tokens.specs.declared.token.Sign.{Sign}
use Rattle.model_tokens.specs.declared.token.Sign.TheVariants.{Semicolon, Colon, Comma, OpenParenthesis, CloseParenthesis, OpenBrace, CloseBrace, Equal, NotEqual, Below, AtMost, Above, AtLeast, Dots}
use Rattle.model_tokens.specs.Signs.{sign_bytes}
use Rattle.model_tokens.specs.Tokens.{TokenForm, keyword, name, number, stray, bad_byte, Placed}
use Rattle.model_tokens.specs.Cuts.{AreDigits, WordIs, a_keyword, a_name, a_number, no_token}
use Rattle.model_tokens.specs.Lexing.{single_of, alone_form, alone, fresh, within, is_blank, may_go_on, pair_of, plain_word, word_form, word_token}

-- ---- bytes of a list

-- a byte is among some, or is not
pub among_or_not : (bytes : List ℕ) (byte : ℕ) → Contains bytes byte ⊎ (Contains bytes byte → ⊥)
among_or_not [] byte = inr (λ c. let l = c.1 in absurd (omega arith))
among_or_not (b ∷ bytes) byte = by_first (cases_eq b byte) (among_or_not bytes byte)
  where
    later : (b ≡ byte → ⊥) → (Contains bytes byte → ⊥) → (k : ℕ) → k < length (b ∷ bytes) → slice_index_or (b ∷ bytes) k byte ≡ byte → ⊥
    later first others zero l e = first e
    later first others (suc k) l e = others (k, omega arith, e)

    by_first : (b ≡ byte) ⊎ (b ≡ byte → ⊥) → Contains bytes byte ⊎ (Contains bytes byte → ⊥) → Contains (b ∷ bytes) byte ⊎ (Contains (b ∷ bytes) byte → ⊥)
    by_first (inl e) others = inl (0, omega arith, e)
    by_first (inr first) (inl c) = inl (suc c.0, (let l = c.1 in omega arith), c.2)
    by_first (inr first) (inr others) = inr (λ c. later first others c.0 c.1 c.2)

-- a byte that is not among some is none of them
pub differs_from_all : (bytes : List ℕ) (byte : ℕ) → (Contains bytes byte → ⊥) → All (λ n. (byte == n) ≡ false) bytes
differs_from_all bytes byte out k d l = ne_eqb byte (slice_index_or bytes k d) (λ e. out (k, l, at_place bytes k l (sym e)))
  where
    at_place : (ns : List ℕ) (i : ℕ) → i < length ns → slice_index_or ns i d ≡ byte → slice_index_or ns i byte ≡ byte
    at_place [] i l e = absurd (omega arith)
    at_place (n ∷ ns) zero l e = e
    at_place (n ∷ ns) (suc i) l e = at_place ns i (omega arith) e

-- ---- word bytes

-- a byte of a word differs from each byte that is none
word_byte_differs : (b n : ℕ) → is_word_byte b ≡ true → is_word_byte n ≡ false → (b == n) ≡ false
word_byte_differs b n w e = ne_eqb b n (λ is. let no : true ≡ false = sym w ∙ ap is_word_byte is ∙ e in absurd cc)

-- no byte of a word is a sign
single_of-word_byte : (b : ℕ) → is_word_byte b ≡ true → single_of b ≡ None
single_of-word_byte b w = rw (word_byte_differs b 59 w refl, word_byte_differs b 58 w refl, word_byte_differs b 44 w refl, word_byte_differs b 40 w refl, word_byte_differs b 41 w refl, word_byte_differs b 123 w refl, word_byte_differs b 125 w refl, word_byte_differs b 61 w refl) refl

-- one of four holds where the third does
third_holds : (a b c d : Bool) → c ≡ true → (a || b || c || d) ≡ true
third_holds true true true d e = refl
third_holds true false true d e = refl
third_holds false true true d e = refl
third_holds false false true d e = refl
third_holds a b false d e = absurd cc

-- a byte of a word is no token by itself
pub alone-word_byte : (at b : ℕ) → is_word_byte b ≡ true → alone at b ≡ []
unfolding alone
alone-word_byte at b w = by_sign (single_of b) (single_of-word_byte b w)
  where
    by_test : (t : Bool) → t ≡ true → map {B = Placed} (λ (form : TokenForm). record { at = at; form = form }) (if t then [] else bad_byte ∷ []) ≡ []
    by_test true e = refl
    by_test false e = absurd cc

    by_sign : (o : Option Sign) → o ≡ None → map {B = Placed} (λ (form : TokenForm). record { at = at; form = form }) (alone_form o b) ≡ []
    by_sign None e = by_test _ (third_holds (is_blank b) (b == 35) (is_word_byte b) (may_go_on b) w)
    by_sign (Some m) e = absurd cc

-- a byte of a word begins a word
pub fresh-word_byte : (at b : ℕ) → is_word_byte b ≡ true → fresh at b ≡ within at false (b ∷ [])
unfolding fresh
fresh-word_byte at b w = rw w refl

-- ---- words

-- a digit is a byte of a word
digit_is_word_byte : (b : ℕ) → is_ascii_digit b ≡ true → is_word_byte b ≡ true
digit_is_word_byte b e = rw e refl

-- digits are a word
pub digits_are_word_bytes : (digits : List ℕ) → list_all is_ascii_digit digits ≡ true → list_all is_word_byte digits ≡ true
digits_are_word_bytes [] e = refl
digits_are_word_bytes (d ∷ digits) e =
    let parts = and_parts (is_ascii_digit d) (list_all is_ascii_digit digits) e in
    and_from (is_word_byte d) (list_all is_word_byte digits) (digit_is_word_byte d parts.0) (digits_are_word_bytes digits parts.1)

-- a digit is no letter
digit_is_no_letter : (b : ℕ) → is_ascii_digit b ≡ true → is_ascii_alphabetic b ≡ false
digit_is_no_letter b e = grind (arith, nat_tests)

-- digits are no name
digits_are_no_name : (word : List ℕ) → AreDigits word → has_name_form word ≡ false
digits_are_no_name [] d = let l = d.0 in absurd (omega arith)
digits_are_no_name (b ∷ bs) d = rw (digit_is_no_letter b (and_parts (is_ascii_digit b) (list_all is_ascii_digit bs) d.1).0) refl

-- each keyword has the form of a name
has_name_form-spelling : (k : Keyword) → has_name_form (spelling k) ≡ true
has_name_form-spelling keys.Kaos = refl
has_name_form-spelling keys.Var = refl
has_name_form-spelling keys.Domain = refl
has_name_form-spelling keys.Rule = refl
has_name_form-spelling keys.Goal = refl
has_name_form-spelling keys.Obstacle = refl
has_name_form-spelling keys.Refine = refl
has_name_form-spelling keys.Obstruct = refl
has_name_form-spelling keys.Conflict = refl
has_name_form-spelling keys.Agent = refl
has_name_form-spelling keys.Assign = refl
has_name_form-spelling keys.Expect = refl
has_name_form-spelling keys.Operation = refl
has_name_form-spelling keys.Require = refl
has_name_form-spelling keys.Operationalise = refl
has_name_form-spelling keys.Trace = refl
has_name_form-spelling keys.Bool = refl
has_name_form-spelling keys.By = refl
has_name_form-spelling keys.Using = refl
has_name_form-spelling keys.Boundary = refl
has_name_form-spelling keys.Monitors = refl
has_name_form-spelling keys.Controls = refl
has_name_form-spelling keys.To = refl
has_name_form-spelling keys.Of = refl
has_name_form-spelling keys.Dompre = refl
has_name_form-spelling keys.Dompost = refl
has_name_form-spelling keys.On = refl
has_name_form-spelling keys.Pre = refl
has_name_form-spelling keys.Trig = refl
has_name_form-spelling keys.Post = refl
has_name_form-spelling keys.Exact = refl
has_name_form-spelling keys.Loop = refl
has_name_form-spelling keys.Entails = refl
has_name_form-spelling keys.Iff = refl
has_name_form-spelling keys.Implies = refl
has_name_form-spelling keys.Or = refl
has_name_form-spelling keys.And = refl
has_name_form-spelling keys.Until = refl
has_name_form-spelling keys.Unless = refl
has_name_form-spelling keys.Release = refl
has_name_form-spelling keys.Within = refl
has_name_form-spelling keys.Not = refl
has_name_form-spelling keys.Next = refl
has_name_form-spelling keys.Eventually = refl
has_name_form-spelling keys.Always = refl
has_name_form-spelling keys.In = refl
has_name_form-spelling keys.True = refl
has_name_form-spelling keys.False = refl

-- a word of no spelling is no keyword
no_spelling : (word : List ℕ) (o : Option Keyword) → keyword_of word ≡ o → ((k : Keyword) → word ≡ spelling k → ⊥) → o ≡ None
no_spelling word None e never = refl
no_spelling word (Some k) e never = absurd (never k (spelling_of_keyword word k e))

-- a word without the form of a name is no keyword
no_name_no_keyword : (word : List ℕ) → has_name_form word ≡ false → keyword_of word ≡ None
no_name_no_keyword word f = no_spelling word (keyword_of word) refl (λ k e. let no : true ≡ false = sym (has_name_form-spelling k) ∙ ap has_name_form (sym e) ∙ f in absurd cc)

-- the token of a word that is no keyword
word_token-plain : (word : List ℕ) (form : TokenForm) → keyword_of word ≡ None → plain_word word ≡ form → word_token word ≡ form
unfolding word_token
word_token-plain word form e p = ap (λ (o : Option Keyword). word_form o word) e ∙ p

-- the token of a keyword
word_token-keyword : (word : List ℕ) (k : Keyword) → word ≡ spelling k → word_token word ≡ keyword k
unfolding word_token
word_token-keyword word k e = ap (λ (o : Option Keyword). word_form o word) (ap keyword_of e ∙ keyword_of_spelling k)

-- a word that is no number is not of digits
pub no_digits : (word : List ℕ) → (AreDigits word → ⊥) → 0 < length word → list_all is_ascii_digit word ≡ false
no_digits word never l = by_test (list_all is_ascii_digit word) refl
  where
    by_test : (t : Bool) → list_all is_ascii_digit word ≡ t → t ≡ false
    by_test false e = refl
    by_test true e = absurd (never (l, e))

-- what a word is, is its token
pub word_token-is : (word : List ℕ) (form : TokenForm) → 0 < length word → WordIs word form → word_token word ≡ form
word_token-is word form l (a_keyword k e) = word_token-keyword word k e
word_token-is word form l (a_name n never) = word_token-plain word (name word) (no_spelling word (keyword_of word) refl never) (rw n refl)
word_token-is word form l (a_number d) =
    let no = digits_are_no_name word d in
    word_token-plain word (number false word) (no_name_no_keyword word no) (rw (no, d.1) refl)
word_token-is word form l (no_token n never) = word_token-plain word stray (no_name_no_keyword word n) (rw (n, no_digits word never l) refl)

-- each word is something
pub some_word : (word : List ℕ) → (form : TokenForm) × WordIs word form
some_word word = by_keyword (keyword_of word) refl
  where
    by_digits : (t : Bool) → has_name_form word ≡ false → list_all is_ascii_digit word ≡ t → 0 < length word → (form : TokenForm) × WordIs word form
    by_digits true f e l = (number false word, a_number (l, e))
    by_digits false f e l = (stray, no_token f (λ d. let no = d.1 in absurd cc))

    by_length : has_name_form word ≡ false → (0 ≡ length word) ⊎ (0 ≡ length word → ⊥) → (form : TokenForm) × WordIs word form
    by_length f (inl none) = (stray, no_token f (λ d. let l = d.0 in absurd (omega arith)))
    by_length f (inr some) = by_digits (list_all is_ascii_digit word) f refl (omega arith)

    by_name : (t : Bool) → keyword_of word ≡ None → has_name_form word ≡ t → (form : TokenForm) × WordIs word form
    by_name true e n = (name word, a_name n (λ k is. let no : Some k ≡ None = sym (keyword_of_spelling k) ∙ ap keyword_of (sym is) ∙ e in absurd cc))
    by_name false e n = by_length n (cases_eq 0 (length word))

    by_keyword : (o : Option Keyword) → keyword_of word ≡ o → (form : TokenForm) × WordIs word form
    by_keyword (Some k) e = (keyword k, a_keyword k (spelling_of_keyword word k e))
    by_keyword None e = by_name (has_name_form word) e refl

-- ---- signs

-- a sign has one byte or two
pub length-sign_bytes : (sign : Sign) → length (sign_bytes sign) ≤ 2
length-sign_bytes Semicolon = omega arith
length-sign_bytes Colon = omega arith
length-sign_bytes Comma = omega arith
length-sign_bytes OpenParenthesis = omega arith
length-sign_bytes CloseParenthesis = omega arith
length-sign_bytes OpenBrace = omega arith
length-sign_bytes CloseBrace = omega arith
length-sign_bytes Equal = omega arith
length-sign_bytes NotEqual = omega arith
length-sign_bytes Below = omega arith
length-sign_bytes AtMost = omega arith
length-sign_bytes Above = omega arith
length-sign_bytes AtLeast = omega arith
length-sign_bytes Dots = omega arith

-- the sign of two bytes is the one that is written so
pub pair_of-sign_bytes : (sign : Sign) (first byte : ℕ) → sign_bytes sign ≡ first ∷ byte ∷ [] → pair_of first byte ≡ Some sign
pair_of-sign_bytes Semicolon first byte e = absurd cc
pair_of-sign_bytes Colon first byte e = absurd cc
pair_of-sign_bytes Comma first byte e = absurd cc
pair_of-sign_bytes OpenParenthesis first byte e = absurd cc
pair_of-sign_bytes CloseParenthesis first byte e = absurd cc
pair_of-sign_bytes OpenBrace first byte e = absurd cc
pair_of-sign_bytes CloseBrace first byte e = absurd cc
pair_of-sign_bytes Equal first byte e = absurd cc
pair_of-sign_bytes NotEqual first byte e = let f : 33 ≡ first = cc in let b : 61 ≡ byte = cc in rw (← f, ← b) refl
pair_of-sign_bytes Below first byte e = absurd cc
pair_of-sign_bytes AtMost first byte e = let f : 60 ≡ first = cc in let b : 61 ≡ byte = cc in rw (← f, ← b) refl
pair_of-sign_bytes Above first byte e = absurd cc
pair_of-sign_bytes AtLeast first byte e = let f : 62 ≡ first = cc in let b : 61 ≡ byte = cc in rw (← f, ← b) refl
pair_of-sign_bytes Dots first byte e = let f : 46 ≡ first = cc in let b : 46 ≡ byte = cc in rw (← f, ← b) refl

-- one line of the table: a test for a sign's two bytes, and the lines after it
written_by : (a b : Bool) (first byte f s : ℕ) (here sign : Sign) (later : Option Sign) → (a ≡ true → first ≡ f) → (b ≡ true → byte ≡ s) → sign_bytes here ≡ f ∷ s ∷ [] → (later ≡ Some sign → sign_bytes sign ≡ first ∷ byte ∷ []) → (if a && b then Some here else later) ≡ Some sign → sign_bytes sign ≡ first ∷ byte ∷ []
written_by true true first byte f s here sign later is_first is_byte written others e =
    let same : sign ≡ here = cc in
    let p : first ≡ f = is_first refl in
    let q : byte ≡ s = is_byte refl in
    rw (same, p, q) written
written_by true false first byte f s here sign later is_first is_byte written others e = others e
written_by false b first byte f s here sign later is_first is_byte written others e = others e

-- two bytes are written as their sign
pub pair_of-is : (sign : Sign) (first byte : ℕ) → pair_of first byte ≡ Some sign → sign_bytes sign ≡ first ∷ byte ∷ []
pair_of-is sign first byte =
    written_by _ _ first byte 33 61 NotEqual sign _ (eqb-true first 33) (eqb-true byte 61) refl (
    written_by _ _ first byte 60 61 AtMost sign _ (eqb-true first 60) (eqb-true byte 61) refl (
    written_by _ _ first byte 62 61 AtLeast sign _ (eqb-true first 62) (eqb-true byte 61) refl (
    written_by _ _ first byte 46 46 Dots sign _ (eqb-true first 46) (eqb-true byte 46) refl (
    λ e. cc))))
