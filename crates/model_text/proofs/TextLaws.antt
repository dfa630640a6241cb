-- Texts are read exactly as they are spelled.
use Rattle.std.proofs.Common.{◌≡◌, ℕ, zero, suc, ◌-◌, ◌≤◌, ◌⊎◌, ⊎_elim, inl, inr, Bool, true, false, ℤ, pos, List, [], ◌∷◌, ◌++◌, length, Option, Some, None, Ok, refl, sym, ap, subst, ◌∙◌, append_assoc, length-append, arith}
use Rattle.std.proofs.lemmas.List.{append-nil}
use Rattle.std.proofs.lemmas.Bool.{eqb-true, eq-eqb}
use Rattle.std.specs.Prelude.{if◌then◌else◌, neg_ℤ, ◌==◌}
use Rattle.state_space.specs.declared.keyword.Keyword.TheVariants as keywords
use Rattle.model_tokens.specs.declared.token.Sign.TheVariants.{Semicolon}
use Rattle.model_tokens.specs.Tokens.{TokenForm, keyword, mark, number}
use Rattle.model_tokens.specs.Values.{magnitude, number_value}
use Rattle.model_tokens.specs.Versions.{version_named, is_second_number}
use Rattle.model_text.specs.Statements.{StatementForm, version}
use Rattle.model_text.specs.Grammar.{SpellsStatement, SpellsStatements, no_statement, one_more, SpellsText, a_text, a_second_text}
use Rattle.model_text.specs.Reading.{and_then, keyword_at, mark_at}
use Rattle.model_text.specs.StatementReading.{statement_at, ended_statement_at, statements_at, version_or_fault, version_number_at, version_at, text_at}
use Rattle.model_text.specs.FormulaReading.{read_as}
use Rattle.model_text.proofs.FormulaTokens.{ok_parts, read_as_ok, mark_at_is}
use Rattle.model_text.proofs.TokenLaws.{and_then-ok, keyword_at-ok}
use Rattle.model_text.proofs.Turns.{statements_more, statements_done}
use Rattle.model_text.proofs.StatementLaws.{statement_at-ok, statement_read}

ended_statement_at-ok : (ts : List TokenForm) (s : StatementForm) (rest : List TokenForm) → ended_statement_at ts ≡ Ok (s, rest) → (us : List TokenForm) × SpellsStatement us s × (ts ≡ us ++ mark Semicolon ∷ rest)
unfolding ended_statement_at
ended_statement_at-ok ts s rest e =
    let x = and_then-ok (statement_at ts) (λ s us. read_as (λ _. s) (mark_at Semicolon us)) (s, rest) e in
    let m = read_as_ok (λ _. x.0.0) (mark_at Semicolon x.0.1) s rest x.2 in
    let b = statement_at-ok.found ts x.0.0 x.0.1 x.1 in
    (b.tokens, subst (SpellsStatement b.tokens) m.2 b.spelled, b.is ∙ ap (λ (vs : List TokenForm). b.tokens ++ vs) (mark_at_is Semicolon x.0.1 m.0 rest m.1))

abbrev AreStatements : List StatementForm → List StatementForm → List TokenForm → Type 0
AreStatements front ss ts = (more : List StatementForm) × (ss ≡ front ++ more) × SpellsStatements ts more

statements_at-ok : (n : ℕ) (front ss : List StatementForm) (ts rest : List TokenForm) → statements_at n front ts ≡ Ok (ss, rest) → AreStatements front ss ts
unfolding statements_at
statements_at-ok zero front ss [] rest e = let p = ok_parts front ss [] rest e in ([], sym p.0 ∙ sym (append-nil front), no_statement)
statements_at-ok (suc n) front ss [] rest e = let p = ok_parts front ss [] rest e in ([], sym p.0 ∙ sym (append-nil front), no_statement)
statements_at-ok zero front ss (t ∷ ts) rest e = absurd cc
statements_at-ok (suc n) front ss (t ∷ ts) rest e =
    let x = and_then-ok (ended_statement_at (t ∷ ts)) (λ s us. statements_at n (front ++ s ∷ []) us) (ss, rest) e in
    let first = ended_statement_at-ok (t ∷ ts) x.0.0 x.0.1 x.1 in
    let more = statements_at-ok n (front ++ x.0.0 ∷ []) ss x.0.1 rest x.2 in
    (x.0.0 ∷ more.0, more.1 ∙ append_assoc front (x.0.0 ∷ []) more.0, subst (λ (vs : List TokenForm). SpellsStatements vs (x.0.0 ∷ more.0)) (sym first.2) (one_more first.1 more.2))

ended_statement_read : {ts : List TokenForm} {s : StatementForm} → SpellsStatement ts s → (rest : List TokenForm) → ended_statement_at (ts ++ mark Semicolon ∷ rest) ≡ Ok (s, rest)
unfolding ended_statement_at
ended_statement_read s rest = rw (statement_read s rest) refl

statements_read : {ts : List TokenForm} {ss : List StatementForm} → SpellsStatements ts ss → (n : ℕ) (front : List StatementForm) → length ts ≤ n → statements_at n front ts ≡ Ok (front ++ ss, [])
statements_read no_statement n front le = statements_done n front [] refl ∙ ap (λ (l : List StatementForm). Ok (l, [])) (sym (append-nil front))
statements_read (one_more {ts = ts} {us = us} {s = s} {ss = ss} first more) n front le =
    let long = length-append ts (mark Semicolon ∷ us) in
    statements_more n front (ts ++ mark Semicolon ∷ us) (omega arith) le
    ∙ rw (ended_statement_read first us) (statements_read more (n - 1) (front ++ s ∷ []) (omega arith))
    ∙ ap (λ (l : List StatementForm). Ok (l, [])) (append_assoc front (s ∷ []) ss)

same_nat : (m n : ℕ) → ◌≡◌ {A = ℤ} (pos m) (pos n) → m ≡ n
same_nat m n e = cc

-- a version is a number of that value
abbrev Names : ℕ → Bool → List ℕ → Type 0
Names n s d = (number_value s d ≡ pos n) × ((n ≡ 1) ⊎ (n ≡ 2))

named_is : (s : Bool) (d : List ℕ) (n : ℕ) → version_named s d ≡ Some n → Names n s d
unfolding number_value
named_is true d n e = absurd cc
named_is false d n e = by_one (magnitude d == 1) (magnitude d == 2) refl refl e
  where
    by_one : (one two : Bool) → (magnitude d == 1) ≡ one → (magnitude d == 2) ≡ two → (if one then Some 1 else (if two then Some 2 else None)) ≡ Some n → Names n false d
    by_one true two is other e = let same : 1 ≡ n = cc in (ap pos (eqb-true (magnitude d) 1 is ∙ same), inl (sym same))
    by_one false true is other e = let same : 2 ≡ n = cc in (ap pos (eqb-true (magnitude d) 2 other ∙ same), inr (sym same))
    by_one false false is other e = absurd cc

not_below : (m n : ℕ) → neg_ℤ (pos m) ≡ pos (suc n) → ⊥
not_below zero n e = let no : 0 ≡ suc n = same_nat 0 (suc n) e in omega (arith, no)
not_below (suc m) n e = cc

named_one : (s : Bool) (d : List ℕ) → number_value s d ≡ pos 1 → version_named s d ≡ Some 1
unfolding number_value
named_one true d e = absurd (not_below (magnitude d) 0 e)
named_one false d e = let is = eq-eqb (magnitude d) 1 (same_nat (magnitude d) 1 e) in rw is refl

named_two : (s : Bool) (d : List ℕ) → number_value s d ≡ pos 2 → version_named s d ≡ Some 2
unfolding number_value
named_two true d e = absurd (not_below (magnitude d) 1 e)
named_two false d e =
    let same : magnitude d ≡ 2 = same_nat (magnitude d) 2 e in
    rw same refl

-- whether a number names the second version
pub number_one : (s : Bool) (d : List ℕ) → number_value s d ≡ pos 1 → is_second_number s d ≡ false
unfolding number_value
number_one true d e = refl
number_one false d e = let same : magnitude d ≡ 1 = same_nat (magnitude d) 1 e in rw same refl

pub number_two : (s : Bool) (d : List ℕ) → number_value s d ≡ pos 2 → is_second_number s d ≡ true
unfolding number_value
number_two true d e = absurd (not_below (magnitude d) 1 e)
number_two false d e = let same : magnitude d ≡ 2 = same_nat (magnitude d) 2 e in rw same refl

record FindsVersion (ts : List TokenForm) (n : ℕ) (rest : List TokenForm) : Type 0 where
  negative : Bool
  digits : List ℕ
  names : Names n negative digits
  is : ts ≡ number negative digits ∷ rest

version_number_at-ok : (ts : List TokenForm) (n : ℕ) (rest : List TokenForm) → version_number_at ts ≡ Ok (n, rest) → FindsVersion ts n rest
unfolding version_number_at
version_number_at-ok [] n rest e = absurd cc
version_number_at-ok (number s d ∷ ts) n rest e = go (version_named s d) refl e
  where
    go : (o : Option ℕ) → version_named s d ≡ o → version_or_fault o (number s d) ts ≡ Ok (n, rest) → FindsVersion (number s d ∷ ts) n rest
    go (Some m) named e =
        let p = ok_parts m n ts rest e in
        record { negative = s; digits = d; names = named_is s d n (named ∙ ap (λ (k : ℕ). Some k) p.0); is = ap (λ (vs : List TokenForm). number s d ∷ vs) p.1 }
    go None named e = absurd cc
version_number_at-ok (t ∷ ts) n rest e = absurd cc

-- the statements behind a version, with the version
spelled_with : (negative : Bool) (digits : List ℕ) (n : ℕ) {ts : List TokenForm} {ss : List StatementForm} → Names n negative digits → SpellsStatements ts ss → SpellsText (keyword keywords.Kaos ∷ number negative digits ∷ mark Semicolon ∷ ts) (version n ∷ ss)
spelled_with negative digits n {ts} {ss} names all = ⊎_elim first second names.1
  where
    first : n ≡ 1 → SpellsText (keyword keywords.Kaos ∷ number negative digits ∷ mark Semicolon ∷ ts) (version n ∷ ss)
    first e = subst (λ (k : ℕ). SpellsText (keyword keywords.Kaos ∷ number negative digits ∷ mark Semicolon ∷ ts) (version k ∷ ss)) (sym e) (a_text negative digits (names.0 ∙ ap pos e) all)

    second : n ≡ 2 → SpellsText (keyword keywords.Kaos ∷ number negative digits ∷ mark Semicolon ∷ ts) (version n ∷ ss)
    second e = subst (λ (k : ℕ). SpellsText (keyword keywords.Kaos ∷ number negative digits ∷ mark Semicolon ∷ ts) (version k ∷ ss)) (sym e) (a_second_text negative digits (names.0 ∙ ap pos e) all)

pub text_at-ok : (ts : List TokenForm) (ss : List StatementForm) (rest : List TokenForm) → text_at ts ≡ Ok (ss, rest) → SpellsText ts ss
unfolding text_at version_at
text_at-ok ts ss rest e =
    let v = and_then-ok (version_at ts) (λ n us. statements_at (length us) (version n ∷ []) us) (ss, rest) e in
    let k = and_then-ok (keyword_at keywords.Kaos ts) (λ _ us. and_then (version_number_at us) (λ n vs. read_as (λ _. n) (mark_at Semicolon vs))) v.0 v.1 in
    let o = and_then-ok (version_number_at k.0.1) (λ n vs. read_as (λ _. n) (mark_at Semicolon vs)) v.0 k.2 in
    let m = read_as_ok (λ _. o.0.0) (mark_at Semicolon o.0.1) v.0.0 v.0.1 o.2 in
    let n = version_number_at-ok k.0.1 o.0.0 o.0.1 o.1 in
    let all = statements_at-ok (length v.0.1) (version v.0.0 ∷ []) ss v.0.1 rest v.2 in
    let behind : o.0.1 ≡ mark Semicolon ∷ v.0.1 = mark_at_is Semicolon o.0.1 m.0 v.0.1 m.1 in
    let is : ts ≡ keyword keywords.Kaos ∷ number n.negative n.digits ∷ mark Semicolon ∷ v.0.1 =
    keyword_at-ok keywords.Kaos ts k.0.0 k.0.1 k.1 ∙ ap (λ (vs : List TokenForm). keyword keywords.Kaos ∷ vs) (n.is ∙ ap (λ (vs : List TokenForm). number n.negative n.digits ∷ vs) behind) in
    let names = subst (λ (j : ℕ). Names j n.negative n.digits) m.2 n.names in
    subst (SpellsText ts) (sym all.1) (subst (λ (vs : List TokenForm). SpellsText vs (version v.0.0 ∷ all.0)) (sym is) (spelled_with n.negative n.digits v.0.0 names all.2))

pub text_read : {ts : List TokenForm} {ss : List StatementForm} → SpellsText ts ss → text_at ts ≡ Ok (ss, [])
unfolding text_at version_at version_number_at
text_read (a_text s d {ts = ts} {ss = ss} one all) = rw (named_one s d one) (statements_read all (length ts) (version 1 ∷ []) (omega arith))
text_read (a_second_text s d {ts = ts} {ss = ss} two all) = rw (named_two s d two) (statements_read all (length ts) (version 2 ∷ []) (omega arith))
