-- The walk finds the token that stands at the front of bytes, and goes on behind it.
use Rattle.std.proofs.Common.{◌≡◌, ℕ, ◌+◌, Bool, true, false, List, [], ◌∷◌, ◌++◌, length, All, Contains, codes, Option, Some, None, refl, sym, ap, ◌∙◌, append_assoc, arith, lit<}
use Rattle.std.specs.Prelude.{◌==◌}
use Rattle.std.specs.List.{list_all}
use Rattle.std.specs.Char.{is_ascii_digit}
use Rattle.std.proofs.lemmas.List.{append-nil}
use Rattle.std.proofs.lemmas.Bool.{and_parts}
use Rattle.std.proofs.lemmas.List.Elements.{All-from_recursion, All-contains}
use Rattle.state_space.specs.Names.{is_word_byte}
use Rattle.model_tokens.specs.declared.token.Sign.{Sign}
use Rattle.model_tokens.specs.declared.token.Sign.TheVariants.{Semicolon, Colon, Comma, OpenParenthesis, CloseParenthesis, OpenBrace, CloseBrace, Equal, NotEqual, Below, AtMost, Above, AtLeast, Dots}
use Rattle.model_tokens.specs.Signs.{sign_bytes}
use Rattle.model_tokens.specs.Tokens.{TokenForm, mark, number, stray, bad_byte, Placed}
use Rattle.model_tokens.specs.Cuts.{IsWord, AreDigits, EndsWord, EndsSign, BeginsNumber, IsBadByte, Stands, a_word, a_negative_number, a_sign, a_lone_sign, a_lone_dash, a_byte_of_none}
use Rattle.model_tokens.specs.Lexing.{between, within, behind, word_token, negative_word, lone_form, ended, pair_of, alone, fresh, behind_emitted, behind_next, tokens_from}
use Rattle.model_tokens.proofs.CutBytes.{differs_from_all, alone-word_byte, fresh-word_byte, digits_are_word_bytes, word_token-is, no_digits, pair_of-is}
use Rattle.model_tokens.proofs.CutGaps.{tokens_from-place, tokens_from-bytes}
use Rattle.model_tokens.proofs.CutRuns.{word_run}

-- ---- words

-- the walk begins a word
tokens_from-word_byte : (at b : ℕ) (bytes : List ℕ) → is_word_byte b ≡ true → tokens_from at between (b ∷ bytes) ≡ tokens_from (at + 1) (within at false (b ∷ [])) bytes
tokens_from-word_byte at b bytes w = rw (alone-word_byte at b w, fresh-word_byte at b w) refl

-- the walk begins a word behind a `-`
tokens_from-dash_word : (at b : ℕ) (bytes : List ℕ) → is_word_byte b ≡ true → tokens_from at between (45 ∷ b ∷ bytes) ≡ tokens_from (at + 1 + 1) (within at true (b ∷ [])) bytes
unfolding alone fresh
tokens_from-dash_word at b bytes w = rw w refl

-- the walk goes on with a word
tokens_from-within : (at from : ℕ) (negative : Bool) (word more rest : List ℕ) → list_all is_word_byte more ≡ true → tokens_from at (within from negative word) (more ++ rest) ≡ tokens_from (at + length more) (within from negative (word ++ more)) rest
tokens_from-within at from negative word [] rest w =
    tokens_from-place at (at + 0) (within from negative word) rest (omega arith) ∙ ap (λ (seen : List ℕ). tokens_from (at + 0) (within from negative seen) rest) (sym (append-nil word))
tokens_from-within at from negative word (b ∷ more) rest w =
    let parts = and_parts (is_word_byte b) (list_all is_word_byte more) w in
    let is_word = parts.0 in
    let step : tokens_from at (within from negative word) (b ∷ (more ++ rest)) ≡ tokens_from (at + 1) (within from negative (word ++ b ∷ [])) (more ++ rest) = rw is_word refl in
    step
    ∙ tokens_from-within (at + 1) from negative (word ++ b ∷ []) more rest parts.1
    ∙ ap (λ (seen : List ℕ). tokens_from (at + 1 + length more) (within from negative seen) rest) (append_assoc word (b ∷ []) more)
    ∙ tokens_from-place (at + 1 + length more) (at + length (b ∷ more)) (within from negative (word ++ b ∷ more)) rest (omega arith)

-- the walk ends a word
tokens_from-word_end : (at from : ℕ) (negative : Bool) (word rest : List ℕ) → EndsWord rest → tokens_from at (within from negative word) rest ≡ ended (within from negative word) ++ tokens_from at between rest
tokens_from-word_end at from negative word [] e = sym (append-nil (ended (within from negative word)))
tokens_from-word_end at from negative word (b ∷ rest) e = rw e (append_assoc (ended (within from negative word)) (alone at b) (tokens_from (at + 1) (fresh at b) rest))

-- the walk takes a word
tokens_from-word : (at : ℕ) (word rest : List ℕ) → IsWord word → EndsWord rest → tokens_from at between (word ++ rest) ≡ (record { at = at; form = word_token word }) ∷ tokens_from (at + length word) between rest
tokens_from-word at [] rest w e = let l = w.0 in absurd (omega arith)
tokens_from-word at (b ∷ more) rest w e =
    let parts = and_parts (is_word_byte b) (list_all is_word_byte more) w.1 in
    tokens_from-word_byte at b (more ++ rest) parts.0
    ∙ tokens_from-within (at + 1) at false (b ∷ []) more rest parts.1
    ∙ tokens_from-word_end (at + 1 + length more) at false (b ∷ more) rest e
    ∙ ap (λ (ts : List Placed). (record { at = at; form = word_token (b ∷ more) }) ∷ ts) (tokens_from-place (at + 1 + length more) (at + length (b ∷ more)) between rest (omega arith))

-- the walk takes a `-` and the word behind it
tokens_from-dash_and_word : (at : ℕ) (word rest : List ℕ) → IsWord word → EndsWord rest → tokens_from at between (45 ∷ (word ++ rest)) ≡ negative_word at word ++ tokens_from (at + 1 + length word) between rest
tokens_from-dash_and_word at [] rest w e = let l = w.0 in absurd (omega arith)
tokens_from-dash_and_word at (b ∷ more) rest w e =
    let parts = and_parts (is_word_byte b) (list_all is_word_byte more) w.1 in
    tokens_from-dash_word at b (more ++ rest) parts.0
    ∙ tokens_from-within (at + 1 + 1) at true (b ∷ []) more rest parts.1
    ∙ tokens_from-word_end (at + 1 + 1 + length more) at true (b ∷ more) rest e
    ∙ ap (λ (ts : List Placed). negative_word at (b ∷ more) ++ ts) (tokens_from-place (at + 1 + 1 + length more) (at + 1 + length (b ∷ more)) between rest (omega arith))

-- digits behind a `-` are a negative number
negative_word-digits : (from : ℕ) (word : List ℕ) → list_all is_ascii_digit word ≡ true → negative_word from word ≡ (record { at = from; form = number true word }) ∷ []
unfolding negative_word
negative_word-digits from word d = rw d refl

-- another word behind a `-` is a word
negative_word-other : (from : ℕ) (word : List ℕ) → list_all is_ascii_digit word ≡ false → negative_word from word ≡ (record { at = from; form = stray }) ∷ (record { at = from + 1; form = word_token word }) ∷ []
unfolding negative_word
negative_word-other from word d = rw d refl

-- the walk takes a negative number
tokens_from-negative : (at : ℕ) (digits rest : List ℕ) → AreDigits digits → EndsWord rest → tokens_from at between (45 ∷ (digits ++ rest)) ≡ (record { at = at; form = number true digits }) ∷ tokens_from (at + (1 + length digits)) between rest
tokens_from-negative at digits rest d e =
    tokens_from-dash_and_word at digits rest (d.0, digits_are_word_bytes digits d.1) e
    ∙ ap (λ (ts : List Placed). ts ++ tokens_from (at + 1 + length digits) between rest) (negative_word-digits at digits d.1)
    ∙ ap (λ (ts : List Placed). (record { at = at; form = number true digits }) ∷ ts) (tokens_from-place (at + 1 + length digits) (at + (1 + length digits)) between rest (omega arith))

-- the walk takes a `-` before a word that is no number
tokens_from-dash_run : (at : ℕ) (bytes word rest : List ℕ) → bytes ≡ word ++ rest → IsWord word → EndsWord rest → (AreDigits word → ⊥) → tokens_from at between (45 ∷ bytes) ≡ (record { at = at; form = stray }) ∷ tokens_from (at + 1) between bytes
tokens_from-dash_run at bytes word rest is w e other =
    tokens_from-bytes at between (45 ∷ bytes) (45 ∷ (word ++ rest)) (ap (λ (ns : List ℕ). 45 ∷ ns) is)
    ∙ tokens_from-dash_and_word at word rest w e
    ∙ ap (λ (ts : List Placed). ts ++ tokens_from (at + 1 + length word) between rest) (negative_word-other at word (no_digits word other w.0))
    ∙ ap (λ (ts : List Placed). (record { at = at; form = stray }) ∷ ts) (sym (tokens_from-word (at + 1) word rest w e) ∙ tokens_from-bytes (at + 1) between (word ++ rest) bytes (sym is))

-- the walk takes a `-` before no word
tokens_from-dash_byte : (at b : ℕ) (bytes : List ℕ) → is_word_byte b ≡ false → tokens_from at between (45 ∷ b ∷ bytes) ≡ (record { at = at; form = stray }) ∷ tokens_from (at + 1) between (b ∷ bytes)
unfolding alone fresh
tokens_from-dash_byte at b bytes w = rw w refl

-- the walk takes a `-` at the end
tokens_from-dash_end : (at : ℕ) → tokens_from at between (45 ∷ []) ≡ (record { at = at; form = stray }) ∷ []
unfolding alone fresh
tokens_from-dash_end at = refl

-- the walk takes a `-` that belongs to no number
tokens_from-lone_dash : (at : ℕ) (bytes : List ℕ) → (BeginsNumber bytes → ⊥) → tokens_from at between (45 ∷ bytes) ≡ (record { at = at; form = stray }) ∷ tokens_from (at + 1) between bytes
tokens_from-lone_dash at [] other = tokens_from-dash_end at
tokens_from-lone_dash at (b ∷ bytes) other = by_byte (is_word_byte b) refl
  where
    by_byte : (t : Bool) → is_word_byte b ≡ t → tokens_from at between (45 ∷ b ∷ bytes) ≡ (record { at = at; form = stray }) ∷ tokens_from (at + 1) between (b ∷ bytes)
    by_byte false w = tokens_from-dash_byte at b bytes w
    by_byte true w =
        let r = word_run bytes in
        let is : b ∷ bytes ≡ (b ∷ r.run) ++ r.rest = ap (λ (ns : List ℕ). b ∷ ns) r.is in
        let word : IsWord (b ∷ r.run) = (omega arith, rw (w, r.all) refl) in
        tokens_from-dash_run at (b ∷ bytes) (b ∷ r.run) r.rest is word r.ends (λ d. other (b ∷ r.run, r.rest, is, d, r.ends))

-- ---- signs

-- the walk ends a sign of which no second byte came
tokens_from-sign_end : (at from first : ℕ) (rest : List ℕ) → (first == 45) ≡ false → EndsSign (first ∷ []) rest → tokens_from at (behind from first) rest ≡ (record { at = from; form = lone_form first }) ∷ tokens_from at between rest
tokens_from-sign_end at from first [] dash e = refl
tokens_from-sign_end at from first (b ∷ rest) dash e =
    ap (λ (o : Option Sign). behind_emitted o from first at b ++ tokens_from (at + 1) (behind_next o from first at b) rest) (by_pair (pair_of first b) refl) ∙ no_pair
  where
    by_pair : (o : Option Sign) → pair_of first b ≡ o → pair_of first b ≡ None
    by_pair None p = p
    by_pair (Some sign) p = absurd (e sign (pair_of-is sign first b p))

    no_pair : behind_emitted None from first at b ++ tokens_from (at + 1) (behind_next None from first at b) rest ≡ (record { at = from; form = lone_form first }) ∷ tokens_from at between (b ∷ rest)
    no_pair = rw dash refl

-- the walk takes a sign
tokens_from-sign : (at : ℕ) (sign : Sign) (rest : List ℕ) → EndsSign (sign_bytes sign) rest → tokens_from at between (sign_bytes sign ++ rest) ≡ (record { at = at; form = mark sign }) ∷ tokens_from (at + length (sign_bytes sign)) between rest
unfolding alone fresh
tokens_from-sign at Semicolon rest e = refl
tokens_from-sign at Colon rest e = refl
tokens_from-sign at Comma rest e = refl
tokens_from-sign at OpenParenthesis rest e = refl
tokens_from-sign at CloseParenthesis rest e = refl
tokens_from-sign at OpenBrace rest e = refl
tokens_from-sign at CloseBrace rest e = refl
tokens_from-sign at Equal rest e = refl
tokens_from-sign at NotEqual rest e = ap (λ (ts : List Placed). (record { at = at; form = mark NotEqual }) ∷ ts) (tokens_from-place (at + 1 + 1) (at + 2) between rest (omega arith))
tokens_from-sign at Below rest e = tokens_from-sign_end (at + 1) at 60 rest refl e
tokens_from-sign at AtMost rest e = ap (λ (ts : List Placed). (record { at = at; form = mark AtMost }) ∷ ts) (tokens_from-place (at + 1 + 1) (at + 2) between rest (omega arith))
tokens_from-sign at Above rest e = tokens_from-sign_end (at + 1) at 62 rest refl e
tokens_from-sign at AtLeast rest e = ap (λ (ts : List Placed). (record { at = at; form = mark AtLeast }) ∷ ts) (tokens_from-place (at + 1 + 1) (at + 2) between rest (omega arith))
tokens_from-sign at Dots rest e = ap (λ (ts : List Placed). (record { at = at; form = mark Dots }) ∷ ts) (tokens_from-place (at + 1 + 1) (at + 2) between rest (omega arith))

-- the walk takes the first byte of a sign alone
tokens_from-lone_sign : (at byte : ℕ) (rest : List ℕ) → Contains (codes "!.") byte → EndsSign (byte ∷ []) rest → tokens_from at between (byte ∷ rest) ≡ (record { at = at; form = stray }) ∷ tokens_from (at + 1) between rest
unfolding alone fresh
tokens_from-lone_sign at byte rest c = All-contains IsTaken (codes "!.") byte all c
  where
    IsTaken : ℕ → Type 0
    IsTaken b = EndsSign (b ∷ []) rest → tokens_from at between (b ∷ rest) ≡ (record { at = at; form = stray }) ∷ tokens_from (at + 1) between rest

    all : All IsTaken (codes "!.")
    all = All-from_recursion IsTaken (codes "!.") ((λ e. tokens_from-sign_end (at + 1) at 33 rest refl e), ((λ e. tokens_from-sign_end (at + 1) at 46 rest refl e), tt))

-- the walk takes a byte that is in no token
tokens_from-bad_byte : (at byte : ℕ) (rest : List ℕ) → IsBadByte byte → tokens_from at between (byte ∷ rest) ≡ (record { at = at; form = bad_byte }) ∷ tokens_from (at + 1) between rest
unfolding alone fresh
tokens_from-bad_byte at byte rest bad =
    let w = bad.0 in
    let other = differs_from_all (codes " \t\r\n#;:,(){}=!<>.-") byte bad.1 in
    let n32 : (byte == 32) ≡ false = other 0 0 (lit< tt) in
    let n9 : (byte == 9) ≡ false = other 1 0 (lit< tt) in
    let n13 : (byte == 13) ≡ false = other 2 0 (lit< tt) in
    let n10 : (byte == 10) ≡ false = other 3 0 (lit< tt) in
    let n35 : (byte == 35) ≡ false = other 4 0 (lit< tt) in
    let n59 : (byte == 59) ≡ false = other 5 0 (lit< tt) in
    let n58 : (byte == 58) ≡ false = other 6 0 (lit< tt) in
    let n44 : (byte == 44) ≡ false = other 7 0 (lit< tt) in
    let n40 : (byte == 40) ≡ false = other 8 0 (lit< tt) in
    let n41 : (byte == 41) ≡ false = other 9 0 (lit< tt) in
    let n123 : (byte == 123) ≡ false = other 10 0 (lit< tt) in
    let n125 : (byte == 125) ≡ false = other 11 0 (lit< tt) in
    let n61 : (byte == 61) ≡ false = other 12 0 (lit< tt) in
    let n33 : (byte == 33) ≡ false = other 13 0 (lit< tt) in
    let n60 : (byte == 60) ≡ false = other 14 0 (lit< tt) in
    let n62 : (byte == 62) ≡ false = other 15 0 (lit< tt) in
    let n46 : (byte == 46) ≡ false = other 16 0 (lit< tt) in
    let n45 : (byte == 45) ≡ false = other 17 0 (lit< tt) in
    rw (n59, n58, n44, n40, n41, n123, n125, n61, n32, n9, n13, n10, n35, w, n33, n60, n62, n46, n45) refl

-- the walk takes the token that stands at the front
pub tokens_from-token : (at : ℕ) (form : TokenForm) (own rest : List ℕ) → Stands form own rest → tokens_from at between (own ++ rest) ≡ (record { at = at; form = form }) ∷ tokens_from (at + length own) between rest
tokens_from-token at form own rest (a_word f word bytes w e is) =
    tokens_from-word at word bytes w e ∙ ap (λ (t : TokenForm). (record { at = at; form = t }) ∷ tokens_from (at + length word) between bytes) (word_token-is word f w.0 is)
tokens_from-token at form own rest (a_negative_number digits bytes d e) =
    tokens_from-negative at digits bytes d e ∙ ap (λ (ts : List Placed). (record { at = at; form = number true digits }) ∷ ts) (tokens_from-place (at + (1 + length digits)) (at + length (45 ∷ digits)) between bytes (omega arith))
tokens_from-token at form own rest (a_sign sign bytes e) = tokens_from-sign at sign bytes e
tokens_from-token at form own rest (a_lone_sign byte bytes c e) = tokens_from-lone_sign at byte bytes c e
tokens_from-token at form own rest (a_lone_dash bytes other) = tokens_from-lone_dash at bytes other
tokens_from-token at form own rest (a_byte_of_none byte bytes bad) = tokens_from-bad_byte at byte bytes bad
