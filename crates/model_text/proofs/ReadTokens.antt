-- The tokens of bytes have names that are no keywords, and numbers of a digit or more.
use Rattle.std.proofs.Common.{◌≡◌, ℕ, ◌+◌, ◌<◌, Bool, true, false, List, [], ◌∷◌, ◌++◌, length, Option, Some, None, refl, length-append, arith}
use Rattle.std.specs.Prelude.{◌==◌, ◌&&◌, ◌||◌, map, if◌then◌else◌}
use Rattle.std.specs.List.{list_all}
use Rattle.std.specs.Char.{is_ascii_digit}
use Rattle.state_space.specs.declared.keyword.Keyword.{Keyword}
use Rattle.state_space.specs.Keywords.{keyword_of}
use Rattle.state_space.specs.Names.{is_word_byte, has_name_form}
use Rattle.model_tokens.specs.declared.token.Sign.{Sign}
use Rattle.model_tokens.specs.declared.token.Sign.TheVariants.{OpenParenthesis, Below, Above}
use Rattle.model_tokens.specs.declared.token.Further.{Further}
use Rattle.model_tokens.specs.Versions.{further_word, word_or_name, second_form, is_name, second_forms, is_second, text_forms}
use Rattle.model_tokens.specs.Tokens.{TokenForm, keyword, mark, name, number, further, stray, bad_byte, Placed}
use Rattle.model_tokens.specs.Lexing.{Before, between, comment, within, behind, word_form, word_token, negative_word, lone_form, ended, single_of, alone_form, alone, fresh, is_blank, may_go_on, next, pair_of, behind_next, behind_emitted, emitted, tokens_from, tokens_of, forms_of}

-- each token of a list has a property
abbrev pub AllOf : (TokenForm → Type 0) → List TokenForm → Type 0
AllOf P [] = Unit {0}
AllOf P (t ∷ ts) = P t × AllOf P ts

pub all_front : (P : TokenForm → Type 0) (ts us : List TokenForm) → AllOf P (ts ++ us) → AllOf P ts
all_front P [] us w = tt
all_front P (t ∷ ts) us w = (w.0, all_front P ts us w.1)

pub all_back : (P : TokenForm → Type 0) (ts us : List TokenForm) → AllOf P (ts ++ us) → AllOf P us
all_back P [] us w = w
all_back P (t ∷ ts) us w = all_back P ts us w.1

pub all_joined : (P : TokenForm → Type 0) (ts us : List TokenForm) → AllOf P ts → AllOf P us → AllOf P (ts ++ us)
all_joined P [] us a b = b
all_joined P (t ∷ ts) us a b = (a.0, all_joined P ts us a.1 b)

-- a name has the form of one and is no keyword, and a number has digits
abbrev pub IsLexed : TokenForm → Type 0
IsLexed (name x) = (has_name_form x ≡ true) × (keyword_of x ≡ None)
IsLexed (keyword k) = Unit {0}
IsLexed (mark m) = Unit {0}
IsLexed (number s d) = (0 < length d) × (list_all is_ascii_digit d ≡ true)
IsLexed (further f) = ⊥
IsLexed stray = Unit {0}
IsLexed bad_byte = Unit {0}

-- and in version 2 none of that either
abbrev pub IsRead : (second : Bool) → TokenForm → Type 0
IsRead second (name x) = (has_name_form x ≡ true) × (keyword_of x ≡ None) × (second ≡ true → further_word x ≡ None)
IsRead second (keyword k) = Unit {0}
IsRead second (mark m) = Unit {0}
IsRead second (number s d) = (0 < length d) × (list_all is_ascii_digit d ≡ true)
IsRead second (further f) = second ≡ true
IsRead second stray = Unit {0}
IsRead second bad_byte = Unit {0}

abbrev AreRead : List Placed → Type 0
AreRead [] = Unit {0}
AreRead (p ∷ ps) = IsLexed p.form × AreRead ps

joined : (ps qs : List Placed) → AreRead ps → AreRead qs → AreRead (ps ++ qs)
joined [] qs a b = b
joined (p ∷ ps) qs a b = (a.0, joined ps qs a.1 b)

forms_read : (ps : List Placed) → AreRead ps → AllOf IsLexed (map (λ (p : Placed). p.form) ps)
forms_read [] a = tt
forms_read (p ∷ ps) a = (a.0, forms_read ps a.1)

word_read : (word : List ℕ) → 0 < length word → IsLexed (word_token word)
unfolding word_token
word_read word some = by_keyword (keyword_of word) refl
  where
    by_digits : (b : Bool) → list_all is_ascii_digit word ≡ b → IsLexed (if b then number false word else stray)
    by_digits true e = (some, e)
    by_digits false e = tt

    by_form : (b : Bool) → has_name_form word ≡ b → keyword_of word ≡ None → IsLexed (if b then name word else (if list_all is_ascii_digit word then number false word else stray))
    by_form true e free = (e, free)
    by_form false e free = by_digits (list_all is_ascii_digit word) refl

    by_keyword : (o : Option Keyword) → keyword_of word ≡ o → IsLexed (word_form o word)
    by_keyword (Some k) e = tt
    by_keyword None e = by_form (has_name_form word) refl e

negative_read : (from : ℕ) (word : List ℕ) → 0 < length word → AreRead (negative_word from word)
unfolding negative_word
negative_read from word some = by_digits (list_all is_ascii_digit word) refl
  where
    by_digits : (b : Bool) → list_all is_ascii_digit word ≡ b → AreRead (if b then (record { at = from; form = number true word }) ∷ [] else ((record { at = from; form = stray }) ∷ []) ++ ((record { at = from + 1; form = word_token word }) ∷ []))
    by_digits true e = ((some, e), tt)
    by_digits false e = (tt, (word_read word some, tt))

lone_read : (byte : ℕ) → IsLexed (lone_form byte)
lone_read byte = by_below (byte == 60)
  where
    by_above : (b : Bool) → IsLexed (if b then mark Above else stray)
    by_above true = tt
    by_above false = tt

    by_below : (b : Bool) → IsLexed (if b then mark Below else (if byte == 62 then mark Above else stray))
    by_below true = tt
    by_below false = by_above (byte == 62)

-- a word that stands before a byte has a byte
abbrev HasWord : Before → Type 0
HasWord (within from negative word) = 0 < length word
HasWord between = Unit {0}
HasWord comment = Unit {0}
HasWord (behind from byte) = Unit {0}

ended_read : (before : Before) → HasWord before → AreRead (ended before)
ended_read between some = tt
ended_read comment some = tt
ended_read (within from false word) some = (word_read word some, tt)
ended_read (within from true word) some = negative_read from word some
ended_read (behind from byte) some = (lone_read byte, tt)

alone_read : (at byte : ℕ) → AreRead (alone at byte)
unfolding alone
alone_read at byte = by_sign (single_of byte)
  where
    by_test : (b : Bool) → AreRead (map {B = Placed} (λ (form : TokenForm). record { at = at; form = form }) (if b then [] else bad_byte ∷ []))
    by_test true = tt
    by_test false = (tt, tt)

    by_sign : (o : Option Sign) → AreRead (map {B = Placed} (λ (form : TokenForm). record { at = at; form = form }) (alone_form o byte))
    by_sign (Some m) = (tt, tt)
    by_sign None = by_test (is_blank byte || byte == 35 || is_word_byte byte || may_go_on byte)

either_read : (b : Bool) (ps : List Placed) → AreRead ps → AreRead (if b then [] else ps)
either_read true ps a = tt
either_read false ps a = a

behind_read : (o : Option Sign) (from first at byte : ℕ) → AreRead (behind_emitted o from first at byte)
behind_read (Some m) from first at byte = (tt, tt)
behind_read None from first at byte = either_read (first == 45 && is_word_byte byte) _ (joined ((record { at = from; form = lone_form first }) ∷ []) (alone at byte) (lone_read first, tt) (alone_read at byte))

emitted_read : (at : ℕ) (before : Before) (byte : ℕ) → HasWord before → AreRead (emitted at before byte)
emitted_read at between byte some = alone_read at byte
emitted_read at comment byte some = tt
emitted_read at (within from negative word) byte some = either_read (is_word_byte byte) _ (joined (ended (within from negative word)) (alone at byte) (ended_read (within from negative word) some) (alone_read at byte))
emitted_read at (behind from first) byte some = behind_read (pair_of first byte) from first at byte

either_word : (b : Bool) (x y : Before) → HasWord x → HasWord y → HasWord (if b then x else y)
either_word true x y h k = h
either_word false x y h k = k

fresh_word : (at byte : ℕ) → HasWord (fresh at byte)
unfolding fresh
fresh_word at byte =
    let one : HasWord (within at false (byte ∷ [])) = omega arith in
    either_word (is_word_byte byte) _ _ one (either_word (may_go_on byte) _ _ tt (either_word (byte == 35) comment between tt tt))

behind_word : (o : Option Sign) (from first at byte : ℕ) → HasWord (behind_next o from first at byte)
behind_word (Some m) from first at byte = tt
behind_word None from first at byte =
    let one : HasWord (within from true (byte ∷ [])) = omega arith in
    either_word (first == 45 && is_word_byte byte) _ _ one (fresh_word at byte)

next_word : (at : ℕ) (before : Before) (byte : ℕ) → HasWord before → HasWord (next at before byte)
next_word at between byte some = fresh_word at byte
next_word at comment byte some = either_word (byte == 10) between comment tt tt
next_word at (within from negative word) byte some =
    let longer : HasWord (within from negative (word ++ byte ∷ [])) = omega (arith, length-append word (byte ∷ [])) in
    either_word (is_word_byte byte) _ _ longer (fresh_word at byte)
next_word at (behind from first) byte some = behind_word (pair_of first byte) from first at byte

tokens_read : (at : ℕ) (before : Before) (bytes : List ℕ) → HasWord before → AreRead (tokens_from at before bytes)
tokens_read at before [] some = ended_read before some
tokens_read at before (byte ∷ bytes) some =
    joined (emitted at before byte) (tokens_from (at + 1) (next at before byte) bytes) (emitted_read at before byte some) (tokens_read (at + 1) (next at before byte) bytes (next_word at before byte some))

pub forms_are_lexed : (bytes : List ℕ) → AllOf IsLexed (forms_of bytes)
unfolding tokens_of
forms_are_lexed bytes = forms_read (tokens_from 0 between bytes) (tokens_read 0 between bytes tt)

-- ---- as the version has them

read_first : (t : TokenForm) → IsLexed t → IsRead false t
read_first (name x) p = (p.0, p.1, λ e. absurd cc)
read_first (keyword k) p = tt
read_first (mark m) p = tt
read_first (number s d) p = p
read_first (further f) p = absurd p
read_first stray p = tt
read_first bad_byte p = tt

all_first : (ts : List TokenForm) → AllOf IsLexed ts → AllOf (IsRead false) ts
all_first [] a = tt
all_first (t ∷ ts) a = (read_first t a.0, all_first ts a.1)

read_word : (x : List ℕ) (o : Option Further) → further_word x ≡ o → has_name_form x ≡ true → keyword_of x ≡ None → IsRead true (word_or_name o x)
read_word x (Some f) e form free = refl
read_word x None e form free = (form, free, λ _. e)

read_second : (b : Bool) (t : TokenForm) → IsLexed t → IsRead true (second_form b t)
read_second b (name x) p = read_word x (further_word x) refl p.0 p.1
read_second b (keyword k) p = tt
read_second true (mark OpenParenthesis) p = refl
read_second b (mark m) p = tt
read_second b (number s d) p = p
read_second b (further f) p = absurd p
read_second b stray p = tt
read_second b bad_byte p = tt

all_second : (b : Bool) (ts : List TokenForm) → AllOf IsLexed ts → AllOf (IsRead true) (second_forms b ts)
all_second b [] a = tt
all_second b (t ∷ ts) a = (read_second b t a.0, all_second (is_name (second_form b t)) ts a.1)

version_read : (second : Bool) (ts : List TokenForm) → AllOf IsLexed ts → AllOf (IsRead second) (if second then second_forms false ts else ts)
version_read true ts a = all_second false ts a
version_read false ts a = all_first ts a

-- the tokens of a text have names that are no keywords of its version
pub text_is_read : (bytes : List ℕ) → AllOf (IsRead (is_second (forms_of bytes))) (text_forms bytes)
text_is_read bytes = version_read (is_second (forms_of bytes)) (forms_of bytes) (forms_are_lexed bytes)
