-- The written text of readable statements spells the same statements.
use Rattle.std.proofs.Common.{◌≡◌, ℕ, ◌≤◌, Bool, true, false, List, [], ◌∷◌, length, Option, Some, None, refl, sym, ap, subst, ◌∙◌, arith}
use Rattle.model_text.proofs.OperatorCounts.{text_count}
use Rattle.std.specs.Prelude.{◌||◌, not, nat_lt, count_by, flat_map, map, if◌then◌else◌}
use Rattle.std.specs.List.{list_all, list_any}
use Rattle.model_text.specs.declared.limits.LimitKind.{LimitKind}
use Rattle.model_text.specs.declared.limits.LimitKind.TheVariants.{Statements, Links, Parts, NameLength, Number, Bound, Depth}
use Rattle.model_tokens.specs.declared.token.Further.TheVariants as furthers
use Rattle.model_tokens.specs.Tokens.{TokenForm, keyword, mark, name, number, further, stray, bad_byte, Placed}
use Rattle.model_tokens.specs.Lexing.{tokens_of, forms_of}
use Rattle.model_tokens.specs.Versions.{is_second, version_forms, text_forms}
use Rattle.model_text.specs.Statements.{StatementForm}
use Rattle.model_text.specs.Grammar.{SpellsText, Spells}
use Rattle.model_text.specs.Limits.{most_operators, is_short, is_small, is_link, has_many_parts, has_wide_bound, is_deep, has_formula, passed_limit}
use Rattle.model_text.specs.Readability.{is_bad, first_bad, HasNoBadByte, IsReadable}
use Rattle.model_text.specs.Writable.{IsWritable, AreWritable, plain}
use Rattle.model_text.specs.Layout.{written_text}
use Rattle.model_text.specs.Lines.{ended_tokens}
use Rattle.model_text.proofs.WrittenStatements.{written_text_spells}
use Rattle.model_text.proofs.LaidTokens.{written_forms}
use Rattle.model_text.proofs.ReadTokens.{text_is_read}
use Rattle.model_text.proofs.SecondTokens.{second_kept, version_again, same_version}
use Rattle.model_text.proofs.WritableTokens.{text_is_writable, text_is_short}
use Rattle.model_text.proofs.SmallNumbers.{text_is_small}

-- the tokens of the written text are those that its statements are written with
writable_again : (bytes : List ℕ) (ss : List StatementForm) → Spells bytes ss → AreWritable (is_second (forms_of bytes)) (flat_map ended_tokens ss)
writable_again bytes ss s = text_is_writable (is_second (forms_of bytes)) s (text_is_read bytes)

plain_forms : (bytes : List ℕ) (ss : List StatementForm) → Spells bytes ss → forms_of (written_text ss) ≡ map plain (flat_map ended_tokens ss)
plain_forms bytes ss s = written_forms (is_second (forms_of bytes)) ss (writable_again bytes ss s)

forms_again : (bytes : List ℕ) (ss : List StatementForm) → Spells bytes ss → text_forms (written_text ss) ≡ flat_map ended_tokens ss
forms_again bytes ss s =
    let written = written_text_spells s in
    ap version_forms (plain_forms bytes ss s)
    ∙ version_again (is_second (forms_of bytes)) (flat_map ended_tokens ss) ss written (same_version s written ∙ second_kept (forms_of bytes)) (writable_again bytes ss s)

pub spelled_again : (bytes : List ℕ) (ss : List StatementForm) → Spells bytes ss → Spells (written_text ss) ss
spelled_again bytes ss s = subst (λ (ts : List TokenForm). SpellsText ts ss) (sym (forms_again bytes ss s)) (written_text_spells s)

-- ---- bytes

not_bad : (second : Bool) (t : TokenForm) → IsWritable second t → is_bad (plain t) ≡ false
not_bad second (keyword k) w = refl
not_bad second (mark m) w = refl
not_bad second (name x) w = refl
not_bad second (number s d) w = refl
not_bad second (further furthers.Entity) w = refl
not_bad second (further furthers.Attr) w = refl
not_bad second (further furthers.All) w = refl
not_bad second (further furthers.Some) w = refl
not_bad second (further furthers.OpenArgument) w = refl
not_bad second stray w = absurd w
not_bad second bad_byte w = absurd w

-- the first bad byte, by the tokens alone
abbrev has_bad : List TokenForm → Bool
has_bad ts = list_any is_bad ts

none_bad : (second : Bool) (ts : List TokenForm) → AreWritable second ts → has_bad (map plain ts) ≡ false
none_bad second [] w = refl
none_bad second (t ∷ ts) w = rw (not_bad second t w.0) (none_bad second ts w.1)

no_bad : (ts : List Placed) → has_bad (map (λ (t : Placed). t.form) ts) ≡ false → first_bad ts ≡ None
no_bad [] e = refl
no_bad (t ∷ ts) e = by_test (is_bad t.form) e (no_bad ts)
  where
    by_test : (b : Bool) → (b || has_bad (map (λ (t : Placed). t.form) ts)) ≡ false → (has_bad (map (λ (t : Placed). t.form) ts) ≡ false → first_bad ts ≡ None) → (if b then Some t.at else first_bad ts) ≡ None
    by_test true e more = absurd cc
    by_test false e more = more e

good_again : (bytes : List ℕ) (ss : List StatementForm) → Spells bytes ss → HasNoBadByte (written_text ss)
good_again bytes ss s =
    no_bad (tokens_of (written_text ss)) (ap has_bad (plain_forms bytes ss s) ∙ none_bad (is_second (forms_of bytes)) (flat_map ended_tokens ss) (writable_again bytes ss s))

-- ---- limits

-- the first limit that is passed, by the tests in their order
abbrev first_passed : (statements links parts short small wide deep : Bool) → Option LimitKind
first_passed statements links parts short small wide deep =
    if statements then Some Statements else
    if links then Some Links else
    if parts then Some Parts else
    if not short then Some NameLength else
    if not small then Some Number else
    if wide then Some Bound else
    if deep then Some Depth else
    None

-- no limit is passed where the numbers are small if they were, and the names are short
none_passed : (statements links parts short small wide deep shorter smaller : Bool) → first_passed statements links parts short small wide deep ≡ None
    → shorter ≡ true → (small ≡ true → smaller ≡ true) → first_passed statements links parts shorter smaller wide deep ≡ None
none_passed false false false true true false false shorter smaller e s m = rw (s, m refl) refl
none_passed true links parts short small wide deep shorter smaller e s m = absurd cc
none_passed false true parts short small wide deep shorter smaller e s m = absurd cc
none_passed false false true short small wide deep shorter smaller e s m = absurd cc
none_passed false false false false small wide deep shorter smaller e s m = absurd cc
none_passed false false false true false wide deep shorter smaller e s m = absurd cc
none_passed false false false true true true deep shorter smaller e s m = absurd cc
none_passed false false false true true false true shorter smaller e s m = absurd cc

passed_again : (ts us : List TokenForm) (ss : List StatementForm) → passed_limit ts ss ≡ None → list_all is_short us ≡ true → (list_all is_small ts ≡ true → list_all is_small us ≡ true)
    → passed_limit us ss ≡ None
passed_again ts us ss e s m =
    none_passed (nat_lt 2000 (length ss)) (nat_lt 512 (count_by is_link ss)) (list_any has_many_parts ss) (list_all is_short ts) (list_all is_small ts)
    (list_any (has_formula has_wide_bound) ss) (list_any (has_formula is_deep) ss) (list_all is_short us) (list_all is_small us) e s m

within_again : (bytes : List ℕ) (ss : List StatementForm) → Spells bytes ss → passed_limit (text_forms bytes) ss ≡ None → passed_limit (text_forms (written_text ss)) ss ≡ None
within_again bytes ss s e =
    ap (λ (ts : List TokenForm). passed_limit ts ss) (forms_again bytes ss s)
    ∙ passed_again (text_forms bytes) (flat_map ended_tokens ss) ss e (text_is_short (is_second (forms_of bytes)) s (text_is_read bytes)) (text_is_small s)

-- what was readable is readable as it is written
pub readable_again : (bytes : List ℕ) (ss : List StatementForm) → IsReadable bytes ss → IsReadable (written_text ss) ss
readable_again bytes ss r = record {
  no_bad_byte = good_again bytes ss r.spelled;
  spelled = spelled_again bytes ss r.spelled;
  few_operators =
      let few = text_count r.spelled in
      let limit = r.few_operators in
      subst (λ (ts : List TokenForm). most_operators 0 ts ≤ 500) (sym (forms_again bytes ss r.spelled)) (omega arith);
  within_limits = within_again bytes ss r.spelled r.within_limits;
}
