-- Tokens that are laid on a line are read as these tokens, and so are lines one behind another.
use Rattle.std.proofs.Common.{◌≡◌, ◌≢◌, ℕ, ◌+◌, ◌<◌, Bool, true, false, List, [], ◌∷◌, ◌++◌, length, Some, None, refl, sym, ap, subst, ◌∙◌, append_assoc, arith}
use Rattle.std.specs.Prelude.{◌==◌, ◌&&◌, ◌||◌, map, flat_map, codes, if◌then◌else◌}
use Rattle.std.specs.List.{list_all}
use Rattle.std.specs.Char.{is_ascii_alphabetic}
use Rattle.std.specs.Int.{is_in_range}
use Rattle.std.proofs.lemmas.List.{append-nil, map-append}
use Rattle.state_space.specs.declared.keyword.Keyword.{Keyword}
use Rattle.state_space.specs.declared.keyword.Keyword.TheVariants as keys
use Rattle.state_space.specs.Keywords.{spelling, statement_word, part_word, operator_word, keyword_of}
use Rattle.state_space.specs.Names.{is_word_byte, has_name_form}
use Rattle.state_space.proofs.Spellings.{keyword_of_spelling}
use Rattle.model_tokens.specs.declared.token.Sign.TheVariants.{Semicolon, Colon, Comma, OpenParenthesis, CloseParenthesis, OpenBrace, CloseBrace, Equal, NotEqual, Below, AtMost, Above, AtLeast, Dots}
use Rattle.model_tokens.specs.declared.token.Further.TheVariants as furthers
use Rattle.model_tokens.specs.Tokens.{TokenForm, keyword, mark, name, number, further, stray, bad_byte, Placed}
use Rattle.model_text.specs.Statements.{StatementForm}
use Rattle.model_tokens.specs.Lexing.{Before, between, alone, fresh, pair_of, tokens_from, tokens_of, forms_of}
use Rattle.model_tokens.specs.Signs.{sign_bytes}
use Rattle.model_tokens.specs.Cuts.{EndsWord, EndsSign, WordIs, a_keyword, a_name, a_number, Stands, a_word, a_negative_number, a_sign}
use Rattle.model_tokens.proofs.CutBytes.{digits_are_word_bytes, pair_of-sign_bytes}
use Rattle.model_tokens.proofs.CutTokens.{tokens_from-token}
use Rattle.model_text.specs.Layout.{token_bytes, closes_up, holds_on, gap, laid, written_statement, written_text}
use Rattle.model_text.specs.Lines.{ended_tokens}
use Rattle.model_text.specs.Writable.{IsWritable, AreWritable, plain}
use Rattle.model_text.proofs.FormulaTokens.{both_left, both_right}

abbrev forms_from : ℕ → Before → List ℕ → List TokenForm
forms_from at before bytes = map (λ (p : Placed). p.form) (tokens_from at before bytes)

-- from a place where nothing goes on, bytes are read as tokens and what is left, wherever the place is
abbrev Reads : List ℕ → List TokenForm → List ℕ → Type 0
Reads bytes ts rest = (at : ℕ) → (on : ℕ) × (forms_from at between bytes ≡ ts ++ forms_from on between rest)

-- a word or a sign of one byte ends before these bytes
abbrev Ends : List ℕ → Type 0
Ends [] = Unit {0}
Ends (b ∷ bytes) = (is_word_byte b ≡ false) × ((b == 61) ≡ false)

abbrev Follows : Bool → List ℕ → Type 0
Follows true bytes = Unit {0}
Follows false bytes = Ends bytes

reads_both : (a b c : List ℕ) (ts us : List TokenForm) → Reads a ts b → Reads b us c → Reads a (ts ++ us) c
reads_both a b c ts us r s at =
    let first = r at in
    let second = s first.0 in
    (second.0, first.1 ∙ ap (λ (vs : List TokenForm). ts ++ vs) second.1 ∙ sym (append_assoc ts us (forms_from second.0 between c)))

-- ---- words

-- a token that stands before these bytes is read there
stands_reads : (form : TokenForm) (own rest : List ℕ) → Stands form own rest → Reads (own ++ rest) (form ∷ []) rest
stands_reads form own rest stands at = (at + length own, ap (map (λ (p : Placed). p.form)) (tokens_from-token at form own rest stands))

ends_word : (rest : List ℕ) → Ends rest → EndsWord rest
ends_word [] e = tt
ends_word (b ∷ bytes) e = e.0

word_reads : (form : TokenForm) (word rest : List ℕ) → WordIs word form → 0 < length word → list_all is_word_byte word ≡ true → Ends rest → Reads (word ++ rest) (form ∷ []) rest
word_reads form word rest is some all e = stands_reads form word rest (a_word form word rest (some, all) (ends_word rest e) is)

-- ---- words that are keywords, names and numbers

spelling_is_word : (k : Keyword) → list_all is_word_byte (spelling k) ≡ true
spelling_is_word keys.Kaos = refl
spelling_is_word keys.Var = refl
spelling_is_word keys.Domain = refl
spelling_is_word keys.Rule = refl
spelling_is_word keys.Goal = refl
spelling_is_word keys.Obstacle = refl
spelling_is_word keys.Refine = refl
spelling_is_word keys.Obstruct = refl
spelling_is_word keys.Conflict = refl
spelling_is_word keys.Agent = refl
spelling_is_word keys.Assign = refl
spelling_is_word keys.Expect = refl
spelling_is_word keys.Operation = refl
spelling_is_word keys.Require = refl
spelling_is_word keys.Operationalise = refl
spelling_is_word keys.Trace = refl
spelling_is_word keys.Bool = refl
spelling_is_word keys.By = refl
spelling_is_word keys.Using = refl
spelling_is_word keys.Boundary = refl
spelling_is_word keys.Monitors = refl
spelling_is_word keys.Controls = refl
spelling_is_word keys.To = refl
spelling_is_word keys.Of = refl
spelling_is_word keys.Dompre = refl
spelling_is_word keys.Dompost = refl
spelling_is_word keys.On = refl
spelling_is_word keys.Pre = refl
spelling_is_word keys.Trig = refl
spelling_is_word keys.Post = refl
spelling_is_word keys.Exact = refl
spelling_is_word keys.Loop = refl
spelling_is_word keys.Entails = refl
spelling_is_word keys.Iff = refl
spelling_is_word keys.Implies = refl
spelling_is_word keys.Or = refl
spelling_is_word keys.And = refl
spelling_is_word keys.Until = refl
spelling_is_word keys.Unless = refl
spelling_is_word keys.Release = refl
spelling_is_word keys.Within = refl
spelling_is_word keys.Not = refl
spelling_is_word keys.Next = refl
spelling_is_word keys.Eventually = refl
spelling_is_word keys.Always = refl
spelling_is_word keys.In = refl
spelling_is_word keys.True = refl
spelling_is_word keys.False = refl

some_spelling : (k : Keyword) → 0 < length (spelling k)
unfolding statement_word part_word operator_word
some_spelling k = by_word (spelling k) (keyword_of_spelling k)
  where
    by_word : (word : List ℕ) → keyword_of word ≡ Some k → 0 < length word
    by_word [] e = absurd cc
    by_word (b ∷ bs) e = omega arith

letter_in_word : (digit upper lower line : Bool) → (upper || lower) ≡ true → (((digit || upper) || lower) || line) ≡ true
letter_in_word true upper lower line e = refl
letter_in_word false true lower line e = refl
letter_in_word false false true line e = refl
letter_in_word false false false line e = absurd cc

name_is_word : (x : List ℕ) → has_name_form x ≡ true → list_all is_word_byte x ≡ true
name_is_word [] e = absurd cc
name_is_word (b ∷ bs) e =
    let letter = letter_in_word (is_in_range 48 57 b) (is_in_range 65 90 b) (is_in_range 97 122 b) (b == 95) (both_left (is_ascii_alphabetic b) (list_all is_word_byte bs) e) in
    ap (λ (t : Bool). t && list_all is_word_byte bs) letter ∙ both_right (is_ascii_alphabetic b) (list_all is_word_byte bs) e

name_not_empty : (x : List ℕ) → has_name_form x ≡ true → 0 < length x
name_not_empty [] e = absurd cc
name_not_empty (b ∷ bs) e = omega arith

-- a word that is no keyword has the spelling of none
no_spelling : (x : List ℕ) → keyword_of x ≡ None → (k : Keyword) → x ≢ spelling k
no_spelling x free k is = let no : Some k ≡ None = sym (keyword_of_spelling k) ∙ ap keyword_of (sym is) ∙ free in absurd cc

name_reads : (x rest : List ℕ) → has_name_form x ≡ true → keyword_of x ≡ None → Ends rest → Reads (x ++ rest) (name x ∷ []) rest
name_reads x rest form free e = word_reads (name x) x rest (a_name form (no_spelling x free)) (name_not_empty x form) (name_is_word x form) e

-- ---- tokens

-- a sign that no second byte goes on with ends before these bytes
ends_sign : (first : ℕ) (rest : List ℕ) → ((b : ℕ) → (b == 61) ≡ false → pair_of first b ≡ None) → Ends rest → EndsSign (first ∷ []) rest
ends_sign first [] alone_so e = tt
ends_sign first (b ∷ bytes) alone_so e = λ sign is. let no : Some sign ≡ None = sym (pair_of-sign_bytes sign first b is) ∙ alone_so b e.1 in absurd cc

below_alone : (b : ℕ) → (b == 61) ≡ false → pair_of 60 b ≡ None
below_alone b e = rw e refl

above_alone : (b : ℕ) → (b == 61) ≡ false → pair_of 62 b ≡ None
above_alone b e = rw e refl

free_entity : keyword_of (codes "entity") ≡ None
unfolding statement_word part_word operator_word
free_entity = refl

free_attr : keyword_of (codes "attr") ≡ None
unfolding statement_word part_word operator_word
free_attr = refl

free_all : keyword_of (codes "all") ≡ None
unfolding statement_word part_word operator_word
free_all = refl

free_some : keyword_of (codes "some") ≡ None
unfolding statement_word part_word operator_word
free_some = refl

token_reads : (second : Bool) (t : TokenForm) → IsWritable second t → (rest : List ℕ) → Follows (holds_on t) rest → Reads (token_bytes t ++ rest) (plain t ∷ []) rest
unfolding alone fresh
token_reads second (further furthers.Entity) w rest e = name_reads (codes "entity") rest refl free_entity e
token_reads second (further furthers.Attr) w rest e = name_reads (codes "attr") rest refl free_attr e
token_reads second (further furthers.All) w rest e = name_reads (codes "all") rest refl free_all e
token_reads second (further furthers.Some) w rest e = name_reads (codes "some") rest refl free_some e
token_reads second (further furthers.OpenArgument) w rest e = λ at. (at + 1, refl)
token_reads second (keyword k) w rest e = word_reads (keyword k) (spelling k) rest (a_keyword k refl) (some_spelling k) (spelling_is_word k) e
token_reads second (name x) w rest e = name_reads x rest w.0 w.1 e
token_reads second (number false d) w rest e = word_reads (number false d) d rest (a_number (w.0, w.1)) w.0 (digits_are_word_bytes d w.1) e
token_reads second (number true d) w rest e = stands_reads (number true d) (45 ∷ d) rest (a_negative_number d rest (w.0, w.1) (ends_word rest e))
token_reads second (mark Semicolon) w rest e = λ at. (at + 1, refl)
token_reads second (mark Colon) w rest e = λ at. (at + 1, refl)
token_reads second (mark Comma) w rest e = λ at. (at + 1, refl)
token_reads second (mark OpenParenthesis) w rest e = λ at. (at + 1, refl)
token_reads second (mark CloseParenthesis) w rest e = λ at. (at + 1, refl)
token_reads second (mark OpenBrace) w rest e = λ at. (at + 1, refl)
token_reads second (mark CloseBrace) w rest e = λ at. (at + 1, refl)
token_reads second (mark Equal) w rest e = λ at. (at + 1, refl)
token_reads second (mark NotEqual) w rest e = λ at. (at + 1 + 1, refl)
token_reads second (mark Below) w rest e = stands_reads (mark Below) (sign_bytes Below) rest (a_sign Below rest (ends_sign 60 rest below_alone e))
token_reads second (mark AtMost) w rest e = λ at. (at + 1 + 1, refl)
token_reads second (mark Above) w rest e = stands_reads (mark Above) (sign_bytes Above) rest (a_sign Above rest (ends_sign 62 rest above_alone e))
token_reads second (mark AtLeast) w rest e = λ at. (at + 1 + 1, refl)
token_reads second (mark Dots) w rest e = λ at. (at + 1 + 1, refl)
token_reads second stray w rest e = absurd w
token_reads second bad_byte w rest e = absurd w

gap_reads : (held : Bool) (t : TokenForm) (rest : List ℕ) → Reads (gap held t ++ rest) [] rest
unfolding alone fresh
gap_reads held t rest = by_test (held || closes_up t)
  where
    by_test : (b : Bool) → Reads ((if b then [] else codes " ") ++ rest) [] rest
    by_test true at = (at, refl)
    by_test false at = (at + 1, refl)

laid_ends : (second : Bool) (ts : List TokenForm) (rest : List ℕ) → AreWritable second ts → Ends rest → Ends (laid false ts ++ rest)
laid_ends second [] rest w e = e
laid_ends second (keyword k ∷ ts) rest w e = (refl, refl)
laid_ends second (name x ∷ ts) rest w e = (refl, refl)
laid_ends second (number s d ∷ ts) rest w e = (refl, refl)
laid_ends second (mark Semicolon ∷ ts) rest w e = (refl, refl)
laid_ends second (mark Colon ∷ ts) rest w e = (refl, refl)
laid_ends second (mark Comma ∷ ts) rest w e = (refl, refl)
laid_ends second (mark OpenParenthesis ∷ ts) rest w e = (refl, refl)
laid_ends second (mark CloseParenthesis ∷ ts) rest w e = (refl, refl)
laid_ends second (mark OpenBrace ∷ ts) rest w e = (refl, refl)
laid_ends second (mark CloseBrace ∷ ts) rest w e = (refl, refl)
laid_ends second (mark Equal ∷ ts) rest w e = (refl, refl)
laid_ends second (mark NotEqual ∷ ts) rest w e = (refl, refl)
laid_ends second (mark Below ∷ ts) rest w e = (refl, refl)
laid_ends second (mark AtMost ∷ ts) rest w e = (refl, refl)
laid_ends second (mark Above ∷ ts) rest w e = (refl, refl)
laid_ends second (mark AtLeast ∷ ts) rest w e = (refl, refl)
laid_ends second (mark Dots ∷ ts) rest w e = (refl, refl)
laid_ends second (further furthers.Entity ∷ ts) rest w e = (refl, refl)
laid_ends second (further furthers.Attr ∷ ts) rest w e = (refl, refl)
laid_ends second (further furthers.All ∷ ts) rest w e = (refl, refl)
laid_ends second (further furthers.Some ∷ ts) rest w e = (refl, refl)
laid_ends second (further furthers.OpenArgument ∷ ts) rest w e = (refl, refl)
laid_ends second (stray ∷ ts) rest w e = (refl, refl)
laid_ends second (bad_byte ∷ ts) rest w e = (refl, refl)

laid_follows : (second : Bool) (held : Bool) (ts : List TokenForm) (rest : List ℕ) → AreWritable second ts → Ends rest → Follows held (laid held ts ++ rest)
laid_follows second true ts rest w e = tt
laid_follows second false ts rest w e = laid_ends second ts rest w e

-- ---- lines

pub laid_reads : (second : Bool) (held : Bool) (ts : List TokenForm) → AreWritable second ts → (rest : List ℕ) → Ends rest → Reads (laid held ts ++ rest) (map plain ts) rest
laid_reads second held [] w rest e = λ at. (at, refl)
laid_reads second held (t ∷ ts) w rest e =
    let others = laid (holds_on t) ts in
    let here = token_bytes t ++ (others ++ rest) in
    let same : laid held (t ∷ ts) ++ rest ≡ gap held t ++ (token_bytes t ++ (others ++ rest)) = simp append_assoc in
    let token = token_reads second t w.0 (others ++ rest) (laid_follows second (holds_on t) ts rest w.1 e) in
    let more = reads_both here (others ++ rest) rest (plain t ∷ []) (map plain ts) token (laid_reads second (holds_on t) ts w.1 rest e) in
    subst (λ (bytes : List ℕ). Reads bytes (map plain (t ∷ ts)) rest) (sym same) (reads_both (gap held t ++ here) here rest [] (map plain (t ∷ ts)) (gap_reads held t here) more)

line_feed_reads : (rest : List ℕ) → Reads (10 ∷ rest) [] rest
unfolding alone fresh
line_feed_reads rest at = (at + 1, refl)

statement_reads : (second : Bool) (s : StatementForm) → AreWritable second (ended_tokens s) → (rest : List ℕ) → Reads (written_statement s ++ rest) (map plain (ended_tokens s)) rest
statement_reads second s w rest =
    let line = laid true (ended_tokens s) in
    let read = reads_both (line ++ 10 ∷ rest) (10 ∷ rest) rest (map plain (ended_tokens s)) [] (laid_reads second true (ended_tokens s) w (10 ∷ rest) (refl, refl)) (line_feed_reads rest) in
    subst (λ (bytes : List ℕ). Reads bytes (map plain (ended_tokens s)) rest) (sym (append_assoc line (10 ∷ []) rest))
    (subst (λ (ts : List TokenForm). Reads (line ++ 10 ∷ rest) ts rest) (append-nil (map plain (ended_tokens s))) read)

writable_front : (second : Bool) (ts us : List TokenForm) → AreWritable second (ts ++ us) → AreWritable second ts
writable_front second [] us w = tt
writable_front second (t ∷ ts) us w = (w.0, writable_front second ts us w.1)

writable_back : (second : Bool) (ts us : List TokenForm) → AreWritable second (ts ++ us) → AreWritable second us
writable_back second [] us w = w
writable_back second (t ∷ ts) us w = writable_back second ts us w.1

text_reads : (second : Bool) (ss : List StatementForm) → AreWritable second (flat_map ended_tokens ss) → Reads (written_text ss) (map plain (flat_map ended_tokens ss)) []
text_reads second [] w = λ at. (at, refl)
text_reads second (s ∷ ss) w =
    subst (λ (ts : List TokenForm). Reads (written_text (s ∷ ss)) ts []) (sym (map-append plain (ended_tokens s) (flat_map ended_tokens ss)))
    (reads_both (written_text (s ∷ ss)) (written_text ss) [] (map plain (ended_tokens s)) (map plain (flat_map ended_tokens ss))
    (statement_reads second s (writable_front second (ended_tokens s) (flat_map ended_tokens ss) w) (written_text ss))
    (text_reads second ss (writable_back second (ended_tokens s) (flat_map ended_tokens ss) w)))

-- the written text of statements is read as their tokens, as version 1 has them
pub written_forms : (second : Bool) (ss : List StatementForm) → AreWritable second (flat_map ended_tokens ss) → forms_of (written_text ss) ≡ map plain (flat_map ended_tokens ss)
unfolding tokens_of
written_forms second ss w = let read = text_reads second ss w 0 in read.1 ∙ append-nil (map plain (flat_map ended_tokens ss))
