-- Each text is cut into tokens, and only as the walk cuts it.
use Rattle.std.proofs.Common.{◌≡◌, ◌≢◌, ℕ, zero, suc, ◌+◌, ◌<◌, ◌⊎◌, inl, inr, Bool, true, false, List, [], ◌∷◌, ◌++◌, length, All, Contains, codes, Option, Some, None, refl, sym, ap, subst, ◌∙◌, append_assoc, length-append, arith, lit<}
use Rattle.std.specs.List.{list_all}
use Rattle.std.specs.Char.{is_ascii_digit}
use Rattle.std.proofs.lemmas.Bool.{and_from}
use Rattle.std.proofs.lemmas.List.Elements.{All-append, All-weaker, All-contains_itself, All-from_recursion, All-contains}
use Rattle.state_space.specs.Names.{is_word_byte}
use Rattle.model_tokens.specs.declared.token.Sign.{Sign}
use Rattle.model_tokens.specs.declared.token.Sign.TheVariants.{Semicolon, Colon, Comma, OpenParenthesis, CloseParenthesis, OpenBrace, CloseBrace, Equal, Below, Above}
use Rattle.model_tokens.specs.Signs.{sign_bytes}
use Rattle.model_tokens.specs.Tokens.{TokenForm, mark, number, stray, bad_byte, Placed}
use Rattle.model_tokens.specs.Cuts.{IsLastGap, AreDigits, EndsSign, BeginsNumber, Stands, a_word, a_negative_number, a_sign, a_lone_sign, a_lone_dash, a_byte_of_none, AreCut, no_more, one_more}
use Rattle.model_tokens.specs.Lexing.{between, pair_of, tokens_from, tokens_of}
use Rattle.model_tokens.proofs.CutBytes.{among_or_not, some_word, digits_are_word_bytes, length-sign_bytes, pair_of-sign_bytes, pair_of-is}
use Rattle.model_tokens.proofs.CutRuns.{word_run, same_run}
use Rattle.model_tokens.proofs.CutGaps.{BehindGap, tokens_from-bytes, tokens_from-gap, tokens_from-last_gap, last_gap_or_more}
use Rattle.model_tokens.proofs.CutTokens.{tokens_from-token}

-- ---- only as the walk cuts it

-- bytes are cut only into the tokens that the walk finds in them
cut_only : (at : ℕ) (bytes : List ℕ) (tokens : List Placed) → AreCut at bytes tokens → tokens ≡ tokens_from at between bytes
cut_only at bytes tokens (no_more place gap g) = sym (tokens_from-last_gap place gap g)
cut_only at bytes tokens (one_more place gap own rest form more g stands cut) =
    ap (λ (ts : List Placed). (record { at = place + length gap; form = form }) ∷ ts) (cut_only (place + length gap + length own) rest more cut)
    ∙ sym (tokens_from-token (place + length gap) form own rest stands)
    ∙ sym (tokens_from-gap place gap (own ++ rest) g)
    ∙ tokens_from-bytes place between (gap ++ (own ++ rest)) (gap ++ own ++ rest) (sym (append_assoc gap own rest))

-- a text is cut in no other way
pub tokens_of-only : (text : List ℕ) (tokens : List Placed) → AreCut 0 text tokens → tokens ≡ tokens_of text
unfolding tokens_of
tokens_of-only text tokens cut = cut_only 0 text tokens cut

-- ---- each text is cut

-- bytes by the token that they begin with
record BehindToken (bytes : List ℕ) : Type 0 where
  form : TokenForm
  own : List ℕ
  rest : List ℕ
  is : bytes ≡ own ++ rest
  stands : Stands form own rest
  some : 0 < length own

-- a sign of two bytes ends whatever is behind it
ends_two : (sign : Sign) (first byte : ℕ) (rest : List ℕ) → sign_bytes sign ≡ first ∷ byte ∷ [] → EndsSign (sign_bytes sign) rest
ends_two sign first byte [] is = tt
ends_two sign first byte (third ∷ rest) is = λ other e.
    let short = length-sign_bytes other in
    let long : length (sign_bytes other) ≡ 3 = ap length e ∙ ap (λ (ns : List ℕ). length (ns ++ third ∷ [])) is in
    omega arith

-- bytes that begin with the first byte of a sign: the sign of it and the next one, or what it is alone
sign_first : (first : ℕ) (rest : List ℕ) (form : TokenForm) → (EndsSign (first ∷ []) rest → Stands form (first ∷ []) rest) → BehindToken (first ∷ rest)
sign_first first [] form stands = record { form = form; own = first ∷ []; rest = []; is = refl; stands = stands tt; some = lit< tt }
sign_first first (byte ∷ rest) form stands = by_pair (pair_of first byte) refl
  where
    by_pair : (o : Option Sign) → pair_of first byte ≡ o → BehindToken (first ∷ byte ∷ rest)
    by_pair None e = record {
      form = form;
      own = first ∷ [];
      rest = byte ∷ rest;
      is = refl;
      stands = stands (λ sign is. let never : None ≡ Some sign = sym e ∙ pair_of-sign_bytes sign first byte is in absurd cc);
      some = lit< tt;
    }
    by_pair (Some sign) e =
        let is = pair_of-is sign first byte e in
        record {
          form = mark sign;
          own = sign_bytes sign;
          rest = rest;
          is = ap (λ (ns : List ℕ). ns ++ rest) (sym is);
          stands = a_sign sign rest (ends_two sign first byte rest is);
          some = omega (arith, ap length is);
        }

-- bytes that begin with a byte of a word
word_first : (byte : ℕ) (rest : List ℕ) → is_word_byte byte ≡ true → BehindToken (byte ∷ rest)
word_first byte rest w =
    let r = word_run rest in
    let word = some_word (byte ∷ r.run) in
    record {
      form = word.0;
      own = byte ∷ r.run;
      rest = r.rest;
      is = ap (λ (ns : List ℕ). byte ∷ ns) r.is;
      stands = a_word word.0 (byte ∷ r.run) r.rest (omega arith, and_from (is_word_byte byte) (list_all is_word_byte r.run) w r.all) r.ends word.1;
      some = omega arith;
    }

-- a word is of digits, or is not
digits_or_not : (word : List ℕ) → AreDigits word ⊎ (AreDigits word → ⊥)
digits_or_not [] = inr (λ d. let l = d.0 in omega arith)
digits_or_not (b ∷ word) = by_test (list_all is_ascii_digit (b ∷ word)) refl
  where
    by_test : (t : Bool) → list_all is_ascii_digit (b ∷ word) ≡ t → AreDigits (b ∷ word) ⊎ (AreDigits (b ∷ word) → ⊥)
    by_test true e = inl (omega arith, e)
    by_test false e = inr (λ d. let never : false ≡ true = sym e ∙ d.1 in absurd cc)

-- bytes that begin with a `-`
dash_first : (rest : List ℕ) → BehindToken (45 ∷ rest)
dash_first rest = by_digits (digits_or_not (word_run rest).run)
  where
    by_digits : AreDigits (word_run rest).run ⊎ (AreDigits (word_run rest).run → ⊥) → BehindToken (45 ∷ rest)
    by_digits (inl d) =
        let r = word_run rest in
        record {
          form = number true r.run;
          own = 45 ∷ r.run;
          rest = r.rest;
          is = ap (λ (ns : List ℕ). 45 ∷ ns) r.is;
          stands = a_negative_number r.run r.rest d r.ends;
          some = omega arith;
        }
    by_digits (inr other) =
        let r = word_run rest in
        let alone = λ (b : BeginsNumber rest). other (subst AreDigits (same_run b.0 b.1 r.run r.rest (sym b.2 ∙ r.is) (digits_are_word_bytes b.0 b.3.1) r.all b.4 r.ends) b.3) in
        record { form = stray; own = 45 ∷ []; rest = rest; is = refl; stands = a_lone_dash rest alone; some = lit< tt }

-- a byte that begins a token, whatever is behind it
abbrev Begins : ℕ → Type 0
Begins byte = (rest : List ℕ) → (Contains (codes " \t\r\n") byte → ⊥) → byte ≢ 35 → BehindToken (byte ∷ rest)

-- a sign of one byte begins a token
a_mark : (sign : Sign) (byte : ℕ) → sign_bytes sign ≡ byte ∷ [] → Begins byte
a_mark sign byte is rest a b = sign_first byte rest (mark sign) (λ e. subst (λ (own : List ℕ). Stands (mark sign) own rest) is (a_sign sign rest (subst (λ (own : List ℕ). EndsSign own rest) (sym is) e)))

-- a blank or `#` is excluded
gap_bytes_begin : All Begins (codes " \t\r\n#")
gap_bytes_begin = All-append Begins (codes " \t\r\n") (codes "#") (All-weaker (Contains (codes " \t\r\n")) Begins (λ byte c rest a b. absurd (a c)) (codes " \t\r\n") (All-contains_itself (codes " \t\r\n"))) (All-from_recursion Begins (codes "#") ((λ rest a b. absurd (b refl)), tt))

-- a byte that is a sign begins it, or a longer one
marks_begin : All Begins (codes ";:,(){}=")
marks_begin = All-from_recursion Begins (codes ";:,(){}=") (a_mark Semicolon 59 refl, (a_mark Colon 58 refl, (a_mark Comma 44 refl, (a_mark OpenParenthesis 40 refl, (a_mark CloseParenthesis 41 refl, (a_mark OpenBrace 123 refl, (a_mark CloseBrace 125 refl, (a_mark Equal 61 refl, tt))))))))

-- a byte that may go on begins a sign, or stands alone
signs_begin : All Begins (codes "!<>.-")
signs_begin = All-from_recursion Begins (codes "!<>.-") (bang, (a_mark Below 60 refl, (a_mark Above 62 refl, (dot, (dash, tt)))))
  where
    bang : Begins 33
    bang rest a b = sign_first 33 rest stray (a_lone_sign 33 rest (0, lit< tt, refl))

    dot : Begins 46
    dot rest a b = sign_first 46 rest stray (a_lone_sign 46 rest (1, lit< tt, refl))

    dash : Begins 45
    dash rest a b = dash_first rest

-- a byte of a gap or a sign begins a token, where it begins no gap
all_begin : All Begins (codes " \t\r\n#;:,(){}=!<>.-")
all_begin = All-append Begins (codes " \t\r\n#") (codes ";:,(){}=!<>.-") gap_bytes_begin (All-append Begins (codes ";:,(){}=") (codes "!<>.-") marks_begin signs_begin)

-- bytes that begin with no blank and no comment begin with a token
token_first : (byte : ℕ) → Begins byte
token_first byte rest not_blank not_comment = by_word (is_word_byte byte) refl (among_or_not (codes " \t\r\n#;:,(){}=!<>.-") byte)
  where
    by_word : (t : Bool) → is_word_byte byte ≡ t → Contains (codes " \t\r\n#;:,(){}=!<>.-") byte ⊎ (Contains (codes " \t\r\n#;:,(){}=!<>.-") byte → ⊥) → BehindToken (byte ∷ rest)
    by_word true w among = word_first byte rest w
    by_word false w (inl c) = All-contains Begins (codes " \t\r\n#;:,(){}=!<>.-") byte all_begin c rest not_blank not_comment
    by_word false w (inr out) = record { form = bad_byte; own = byte ∷ []; rest = rest; is = refl; stands = a_byte_of_none byte rest (w, out); some = lit< tt }

-- bytes that are a gap and a token, and then are cut, are cut
cut_more : (at : ℕ) (bytes : List ℕ) (b : BehindGap bytes) (t : BehindToken (b.byte ∷ b.rest)) → (tokens : List Placed) × AreCut (at + length b.gap + length t.own) t.rest tokens → (tokens : List Placed) × AreCut at bytes tokens
cut_more at bytes b t more =
    let is : bytes ≡ b.gap ++ t.own ++ t.rest = b.is ∙ ap (λ (ns : List ℕ). b.gap ++ ns) t.is ∙ sym (append_assoc b.gap t.own t.rest) in
    let tokens : List Placed = (record { at = at + length b.gap; form = t.form }) ∷ more.0 in
    (tokens, subst (λ (ns : List ℕ). AreCut at ns tokens) (sym is) (one_more at b.gap t.own t.rest t.form more.0 b.is_gap t.stands more.1))

-- what is behind a gap and a token is shorter
rest_shorter : (bytes : List ℕ) (b : BehindGap bytes) (t : BehindToken (b.byte ∷ b.rest)) → length t.rest < length bytes
rest_shorter bytes b t =
    let whole = ap length b.is ∙ length-append b.gap (b.byte ∷ b.rest) in
    let front = ap length t.is ∙ length-append t.own t.rest in
    let some = t.some in
    omega arith

-- fewer bytes than some number are cut
cut_within : (most at : ℕ) (bytes : List ℕ) → length bytes < most → (tokens : List Placed) × AreCut at bytes tokens
cut_within zero at bytes l = absurd (omega arith)
cut_within (suc most) at bytes l = by_gap (last_gap_or_more bytes) (cut_within most)
  where
    by_gap : IsLastGap bytes ⊎ BehindGap bytes → ((place : ℕ) (ns : List ℕ) → length ns < most → (tokens : List Placed) × AreCut place ns tokens) → (tokens : List Placed) × AreCut at bytes tokens
    by_gap (inl g) others = ([], no_more at bytes g)
    by_gap (inr b) others =
        let t = token_first b.byte b.rest b.not_blank b.not_comment in
        let shorter = rest_shorter bytes b t in
        cut_more at bytes b t (others (at + length b.gap + length t.own) t.rest (omega arith))

-- a text is cut into the tokens of the walk
pub tokens_of-cut : (text : List ℕ) → AreCut 0 text (tokens_of text)
tokens_of-cut text =
    let made = cut_within (length text + 1) 0 text (omega arith) in
    subst (λ (tokens : List Placed). AreCut 0 text tokens) (tokens_of-only text made.0 made.1) made.1
