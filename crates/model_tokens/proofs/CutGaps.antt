-- The walk passes over gaps: behind one it goes on as if nothing stood there, and after the last one no token is left.
use Rattle.std.proofs.Common.{◌≡◌, ◌≢◌, ℕ, ◌+◌, ◌⊎◌, inl, inr, List, [], ◌∷◌, ◌++◌, length, All, Contains, codes, refl, sym, ap, subst, ◌∙◌, append_assoc, length-append, arith, ne_eqb}
use Rattle.std.proofs.lemmas.List.{append-nil}
use Rattle.std.proofs.lemmas.Bool.{cases_eq}
use Rattle.std.proofs.lemmas.List.Elements.{All-nil, All-cons, All-head, All-tail, All-from_recursion, All-contains}
use Rattle.model_tokens.specs.Cuts.{IsLine, IsGap, nothing, a_blank, a_comment, IsLastGap, a_gap, a_last_comment}
use Rattle.model_tokens.specs.Lexing.{Before, between, comment, alone, fresh, tokens_from}
use Rattle.model_tokens.proofs.CutBytes.{among_or_not}

-- equal places serve alike
pub tokens_from-place : (here there : ℕ) (before : Before) (bytes : List ℕ) → here ≡ there → tokens_from here before bytes ≡ tokens_from there before bytes
tokens_from-place here there before bytes e = ap (λ (k : ℕ). tokens_from k before bytes) e

-- equal bytes serve alike
pub tokens_from-bytes : (at : ℕ) (before : Before) (some same : List ℕ) → some ≡ same → tokens_from at before some ≡ tokens_from at before same
tokens_from-bytes at before some same e = ap (λ (bytes : List ℕ). tokens_from at before bytes) e

-- the walk passes over a blank
tokens_from-blank : (at blank : ℕ) (rest : List ℕ) → Contains (codes " \t\r\n") blank → tokens_from at between (blank ∷ rest) ≡ tokens_from (at + 1) between rest
unfolding alone fresh
tokens_from-blank at blank rest c = All-contains Passes (codes " \t\r\n") blank all c
  where
    Passes : ℕ → Type 0
    Passes b = tokens_from at between (b ∷ rest) ≡ tokens_from (at + 1) between rest

    all : All Passes (codes " \t\r\n")
    all = All-from_recursion Passes (codes " \t\r\n") (refl, (refl, (refl, (refl, tt))))

-- the walk passes over a line of a comment
tokens_from-line : (at : ℕ) (line rest : List ℕ) → IsLine line → tokens_from at comment (line ++ rest) ≡ tokens_from (at + length line) comment rest
tokens_from-line at [] rest l = tokens_from-place at (at + 0) comment rest (omega arith)
tokens_from-line at (b ∷ line) rest l =
    let other = ne_eqb b 10 (All-head (λ (n : ℕ). n ≢ 10) b line l) in
    let step : tokens_from at comment (b ∷ (line ++ rest)) ≡ tokens_from (at + 1) comment (line ++ rest) = rw other refl in
    step ∙ tokens_from-line (at + 1) line rest (All-tail (λ (n : ℕ). n ≢ 10) b line l) ∙ tokens_from-place (at + 1 + length line) (at + length (b ∷ line)) comment rest (omega arith)

-- a comment begins at `#`
tokens_from-comment : (at : ℕ) (bytes : List ℕ) → tokens_from at between (35 ∷ bytes) ≡ tokens_from (at + 1) comment bytes
unfolding alone fresh
tokens_from-comment at bytes = refl

-- the walk passes over a gap
pub tokens_from-gap : (at : ℕ) (gap rest : List ℕ) → IsGap gap → tokens_from at between (gap ++ rest) ≡ tokens_from (at + length gap) between rest
tokens_from-gap at gap rest nothing = tokens_from-place at (at + 0) between rest (omega arith)
tokens_from-gap at gap rest (a_blank blank more c g) =
    tokens_from-blank at blank (more ++ rest) c
    ∙ tokens_from-gap (at + 1) more rest g
    ∙ tokens_from-place (at + 1 + length more) (at + length (blank ∷ more)) between rest (omega arith)
tokens_from-gap at gap rest (a_comment line more l g) =
    tokens_from-bytes at between ((35 ∷ line ++ 10 ∷ more) ++ rest) (35 ∷ line ++ 10 ∷ (more ++ rest)) (ap (λ (bytes : List ℕ). 35 ∷ bytes) (append_assoc line (10 ∷ more) rest))
    ∙ tokens_from-comment at (line ++ 10 ∷ (more ++ rest))
    ∙ tokens_from-line (at + 1) line (10 ∷ (more ++ rest)) l
    ∙ tokens_from-gap (at + 1 + length line + 1) more rest g
    ∙ tokens_from-place (at + 1 + length line + 1 + length more) (at + length (35 ∷ line ++ 10 ∷ more)) between rest (omega (arith, length-append line (10 ∷ more)))

-- the walk finds no token in the last gap
pub tokens_from-last_gap : (at : ℕ) (gap : List ℕ) → IsLastGap gap → tokens_from at between gap ≡ []
tokens_from-last_gap at bytes (a_gap gap g) = tokens_from-bytes at between gap (gap ++ []) (sym (append-nil gap)) ∙ tokens_from-gap at gap [] g
tokens_from-last_gap at bytes (a_last_comment gap line g l) =
    tokens_from-gap at gap (35 ∷ line) g
    ∙ tokens_from-comment (at + length gap) line
    ∙ tokens_from-bytes (at + length gap + 1) comment line (line ++ []) (sym (append-nil line))
    ∙ tokens_from-line (at + length gap + 1) line [] l

-- ---- bytes begin with a gap

-- a first byte that is neither blank nor `#`, behind a gap
pub record BehindGap (bytes : List ℕ) : Type 0 where
  pub gap : List ℕ
  pub byte : ℕ
  pub rest : List ℕ
  pub is : bytes ≡ gap ++ byte ∷ rest
  pub is_gap : IsGap gap
  pub not_blank : Contains (codes " \t\r\n") byte → ⊥
  pub not_comment : byte ≢ 35

-- bytes behind a `#`: the last line, or a line, its end and what is behind them
data BehindLine (bytes : List ℕ) : Type 0 where
  last_line : IsLine bytes → BehindLine bytes
  first_line : (line rest : List ℕ) → bytes ≡ line ++ 10 ∷ rest → IsLine line → IsLastGap rest ⊎ BehindGap rest → BehindLine bytes

-- a blank before a gap belongs to it
blank_before : (blank : ℕ) (bytes : List ℕ) → Contains (codes " \t\r\n") blank → IsLastGap bytes ⊎ BehindGap bytes → IsLastGap (blank ∷ bytes) ⊎ BehindGap (blank ∷ bytes)
blank_before blank bytes c (inl (a_gap gap g)) = inl (a_gap (blank ∷ gap) (a_blank blank gap c g))
blank_before blank bytes c (inl (a_last_comment gap line g l)) = inl (a_last_comment (blank ∷ gap) line (a_blank blank gap c g) l)
blank_before blank bytes c (inr b) = inr (record { gap = blank ∷ b.gap; byte = b.byte; rest = b.rest; is = ap (λ (ns : List ℕ). blank ∷ ns) b.is; is_gap = a_blank blank b.gap c b.is_gap; not_blank = b.not_blank; not_comment = b.not_comment })

-- a comment before a gap belongs to it
comment_before : (line rest : List ℕ) → IsLine line → IsLastGap rest ⊎ BehindGap rest → IsLastGap (35 ∷ line ++ 10 ∷ rest) ⊎ BehindGap (35 ∷ line ++ 10 ∷ rest)
comment_before line rest l (inl (a_gap gap g)) = inl (a_gap (35 ∷ line ++ 10 ∷ gap) (a_comment line gap l g))
comment_before line rest l (inl (a_last_comment gap last g m)) =
    inl (subst IsLastGap (ap (λ (ns : List ℕ). 35 ∷ ns) (append_assoc line (10 ∷ gap) (35 ∷ last))) (a_last_comment (35 ∷ line ++ 10 ∷ gap) last (a_comment line gap l g) m))
comment_before line rest l (inr b) = inr (record {
  gap = 35 ∷ line ++ 10 ∷ b.gap;
  byte = b.byte;
  rest = b.rest;
  is = ap (λ (ns : List ℕ). 35 ∷ line ++ 10 ∷ ns) b.is ∙ ap (λ (ns : List ℕ). 35 ∷ ns) (sym (append_assoc line (10 ∷ b.gap) (b.byte ∷ b.rest)));
  is_gap = a_comment line b.gap l b.is_gap;
  not_blank = b.not_blank;
  not_comment = b.not_comment;
})

-- a `#` before a line begins a gap
behind_comment : (bytes : List ℕ) → BehindLine bytes → IsLastGap (35 ∷ bytes) ⊎ BehindGap (35 ∷ bytes)
behind_comment bytes (last_line l) = inl (a_last_comment [] bytes nothing l)
behind_comment bytes (first_line line rest e l more) = subst (λ (ns : List ℕ). IsLastGap (35 ∷ ns) ⊎ BehindGap (35 ∷ ns)) (sym e) (comment_before line rest l more)

-- a byte before a line belongs to it
one_byte_more : (byte : ℕ) (bytes : List ℕ) → byte ≢ 10 → BehindLine bytes → BehindLine (byte ∷ bytes)
one_byte_more byte bytes other (last_line l) = last_line (All-cons (λ (n : ℕ). n ≢ 10) byte bytes other l)
one_byte_more byte bytes other (first_line line rest e l more) = first_line (byte ∷ line) rest (ap (λ (ns : List ℕ). byte ∷ ns) e) (All-cons (λ (n : ℕ). n ≢ 10) byte line other l) more

-- bytes by the gap that they begin with, where they stand in no comment and where they stand in one
both_fronts : (bytes : List ℕ) → (IsLastGap bytes ⊎ BehindGap bytes) × BehindLine bytes
both_fronts [] = (inl (a_gap [] nothing), last_line (All-nil (λ (n : ℕ). n ≢ 10)))
both_fronts (b ∷ bytes) = (by_blank (among_or_not (codes " \t\r\n") b) (cases_eq b 35) (both_fronts bytes), by_end (cases_eq b 10) (both_fronts bytes))
  where
    by_blank : Contains (codes " \t\r\n") b ⊎ (Contains (codes " \t\r\n") b → ⊥) → (b ≡ 35) ⊎ (b ≡ 35 → ⊥) → (IsLastGap bytes ⊎ BehindGap bytes) × BehindLine bytes → IsLastGap (b ∷ bytes) ⊎ BehindGap (b ∷ bytes)
    by_blank (inl c) other more = blank_before b bytes c more.0
    by_blank (inr not_blank) (inl e) more = subst (λ (n : ℕ). IsLastGap (n ∷ bytes) ⊎ BehindGap (n ∷ bytes)) (sym e) (behind_comment bytes more.1)
    by_blank (inr not_blank) (inr other) more = inr (record { gap = []; byte = b; rest = bytes; is = refl; is_gap = nothing; not_blank = not_blank; not_comment = other })

    by_end : (b ≡ 10) ⊎ (b ≡ 10 → ⊥) → (IsLastGap bytes ⊎ BehindGap bytes) × BehindLine bytes → BehindLine (b ∷ bytes)
    by_end (inl e) more = first_line [] bytes (ap (λ (n : ℕ). n ∷ bytes) e) (All-nil (λ (n : ℕ). n ≢ 10)) more.0
    by_end (inr other) more = one_byte_more b bytes other more.1

-- bytes are a gap to their end, or begin with one
pub last_gap_or_more : (bytes : List ℕ) → IsLastGap bytes ⊎ BehindGap bytes
last_gap_or_more bytes = (both_fronts bytes).0
