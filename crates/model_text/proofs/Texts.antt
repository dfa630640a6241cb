-- From what the tokens spell to what the bytes spell.
use Rattle.std.specs.Prelude.{slice_index_or}
use Rattle.std.proofs.Common.{◌≡◌, ℕ, suc, ◌+◌, ◌*◌, ◌-◌, ◌<◌, ◌≤◌, Bool, true, false, if◌then◌else◌, length, List, [], ◌∷◌, map, Option, Some, None, Ok, Err, refl, sym, ap, subst, ◌∙◌, arith}
use Rattle.std.proofs.lemmas.List.{length-map}
use Rattle.model_text.proofs.TokenCounts.{few_tokens}
use Rattle.model_tokens.specs.declared.token.Token as code
use Rattle.model_tokens.specs.Tokens.{TokenForm, Placed, form_of, all_placed}
use Rattle.model_tokens.specs.Lexing.{tokens_of, forms_of}
use Rattle.model_tokens.specs.Versions.{second_form, is_name, second_forms, is_second, version_forms, text_forms}
use Rattle.model_text.specs.Statements.{StatementForm}
use Rattle.model_text.specs.declared.limits.LimitKind.{LimitKind}
use Rattle.model_text.specs.declared.limits.LimitKind.TheVariants.{Operators}
use Rattle.model_text.specs.declared.text.TextRefusal.{TextRefusal}
use Rattle.model_text.specs.declared.text.TextRefusal.TheVariants.{Limit, Syntax}
use Rattle.model_text.specs.Grammar.{SpellsText, Spells}
use Rattle.model_text.specs.Limits.{most_operators, passed_limit}
use Rattle.model_text.specs.Places.{IsFaultPlace}
use Rattle.model_text.specs.Readability.{first_bad, HasNoBadByte, IsReadable, Refuses, a_bad_byte, many_operators, no_statements, a_limit}
use Rattle.model_text.specs.StatementReading.{text_at}
use Rattle.model_text.proofs.FormulaTokens.{ok_parts}
use Rattle.model_text.proofs.TextLaws.{text_at-ok, text_read}
use Rattle.model_text.proofs.TextJudged.{fault_place}
use Rattle.std.proofs.lemmas.Option.{none-some}

forms_placed : (ts : List code.Token) → map (λ p. p.form) (all_placed ts) ≡ map (λ t. form_of t.kind) ts
forms_placed [] = refl
forms_placed (t ∷ ts) = ap (λ (fs : List TokenForm). form_of t.kind ∷ fs) (forms_placed ts)

-- the tokens that the code made, without their places, are those of the bytes
pub forms_made : (bytes : List ℕ) (ts : List code.Token) → all_placed ts ≡ tokens_of bytes → map (λ t. form_of t.kind) ts ≡ forms_of bytes
forms_made bytes ts e = sym (forms_placed ts) ∙ ap (map (λ (p : Placed). p.form)) e

-- and as their version has them, those of the text
pub version_made : (bytes : List ℕ) (ts us : List code.Token) → all_placed ts ≡ tokens_of bytes → map (λ t. form_of t.kind) us ≡ version_forms (map (λ t. form_of t.kind) ts) → map (λ t. form_of t.kind) us ≡ text_forms bytes
version_made bytes ts us e is = is ∙ ap version_forms (forms_made bytes ts e)

as_many_second : (behind : Bool) (ts : List TokenForm) → length (second_forms behind ts) ≡ length ts
as_many_second behind [] = refl
as_many_second behind (t ∷ ts) = ap suc (as_many_second (is_name (second_form behind t)) ts)

as_many : (ts : List TokenForm) → length (version_forms ts) ≡ length ts
as_many ts = by_version (is_second ts)
  where
    by_version : (b : Bool) → length (if b then second_forms false ts else ts) ≡ length ts
    by_version true = as_many_second false ts
    by_version false = refl

pub few_forms : (bytes : List ℕ) (fs : List TokenForm) → fs ≡ text_forms bytes → length fs ≤ 3 * length bytes + 2
few_forms bytes fs e =
    let few = few_tokens bytes in
    let same : length fs ≡ length (tokens_of bytes) = ap length e ∙ as_many (forms_of bytes) ∙ length-map (tokens_of bytes) (λ (p : Placed). p.form) in
    omega arith

-- the places of the tokens are those of the text
pub places_made : (bytes : List ℕ) (ts us : List code.Token) → all_placed ts ≡ tokens_of bytes → map (λ t. t.at) us ≡ map (λ t. t.at) ts → map (λ t. t.at) us ≡ map (λ (p : Placed). p.at) (tokens_of bytes)
places_made bytes ts us e is = is ∙ places_placed ts ∙ ap (map (λ (p : Placed). p.at)) e
  where
    places_placed : (ts : List code.Token) → map (λ t. t.at) ts ≡ map (λ (p : Placed). p.at) (all_placed ts)
    places_placed [] = refl
    places_placed (t ∷ ts) = ap (λ (ns : List ℕ). t.at ∷ ns) (places_placed ts)

-- the first bad byte of the tokens that the code made is that of the bytes
pub first_made : (bytes : List ℕ) (ts : List code.Token) (found : Option ℕ) → all_placed ts ≡ tokens_of bytes → found ≡ first_bad (all_placed ts) → first_bad (tokens_of bytes) ≡ found
first_made bytes ts found is e = ap first_bad (sym is) ∙ sym e

pub readable : (bytes : List ℕ) (fs : List TokenForm) (ss : List StatementForm) (rest : List TokenForm) → HasNoBadByte bytes → fs ≡ text_forms bytes → text_at fs ≡ Ok (ss, rest)
    → most_operators 0 fs ≤ 500 → passed_limit fs ss ≡ None → IsReadable bytes ss
readable bytes fs ss rest good is read few within = record {
  no_bad_byte = good;
  spelled = subst (λ (ts : List TokenForm). SpellsText ts ss) is (text_at-ok fs ss rest read);
  few_operators = subst (λ (ts : List TokenForm). most_operators 0 ts ≤ 500) is few;
  within_limits = ap (λ (ts : List TokenForm). passed_limit ts ss) (sym is) ∙ within;
}

pub readable_read : (bytes : List ℕ) (fs : List TokenForm) (ss : List StatementForm) → fs ≡ text_forms bytes → IsReadable bytes ss → text_at fs ≡ Ok (ss, [])
readable_read bytes fs ss is r = ap text_at is ∙ text_read r.spelled

pub only_reading : (bytes : List ℕ) (fs : List TokenForm) (ss rs : List StatementForm) (rest : List TokenForm) → fs ≡ text_forms bytes → text_at fs ≡ Ok (ss, rest) → IsReadable bytes rs → ss ≡ rs
only_reading bytes fs ss rs rest is read r = (ok_parts ss rs rest [] (sym read ∙ readable_read bytes fs rs is r)).0

pub spelled_once : (bytes : List ℕ) (ss rs : List StatementForm) → Spells bytes ss → Spells bytes rs → ss ≡ rs
spelled_once bytes ss rs s r = (ok_parts ss rs [] [] (sym (text_read s) ∙ text_read r)).0

-- ---- refusals

-- the place that the code reads off is that of the fault
pub fault_made : (bytes : List ℕ) (ts : List code.Token) (places : List ℕ) (fs rest : List TokenForm) (left at : ℕ) → places ≡ map (λ (p : Placed). p.at) (tokens_of bytes) → length ts ≡ length places → fs ≡ text_forms bytes → text_at fs ≡ Err rest
    → length rest ≡ left → at ≡ slice_index_or places (length ts - left) (length bytes) → IsFaultPlace bytes at
fault_made bytes ts places fs rest left at is many forms fault count place =
    let same : length places ≡ length (tokens_of bytes) = ap length is ∙ length-map (tokens_of bytes) (λ (p : Placed). p.at) in
    subst (IsFaultPlace bytes) (ap (λ (ns : List ℕ). slice_index_or ns (length ts - left) (length bytes)) (sym is) ∙ sym place)
    (fault_place bytes rest (length ts - left) (ap text_at (sym forms) ∙ fault) (omega (arith, same, many, count)))

pub refused_by_operators : (bytes : List ℕ) (fs : List TokenForm) → HasNoBadByte bytes → fs ≡ text_forms bytes → 500 < most_operators 0 fs → Refuses bytes (Limit Operators)
refused_by_operators bytes fs good is many = many_operators good (subst (λ (ts : List TokenForm). 500 < most_operators 0 ts) is many)

pub refused_by_syntax : (bytes : List ℕ) (fs rest : List TokenForm) (at : ℕ) → HasNoBadByte bytes → fs ≡ text_forms bytes → most_operators 0 fs ≤ 500 → text_at fs ≡ Err rest
    → IsFaultPlace bytes at → Refuses bytes (Syntax at)
refused_by_syntax bytes fs rest at good is few fault place = no_statements at good (subst (λ (ts : List TokenForm). most_operators 0 ts ≤ 500) is few) not_spelled place
  where
    not_spelled : (ss : List StatementForm) → Spells bytes ss → ⊥
    not_spelled ss s = let read : text_at fs ≡ Ok (ss, []) = ap text_at is ∙ text_read s in cc

pub refused_by_limit : (bytes : List ℕ) (fs rest : List TokenForm) (ss : List StatementForm) (kind : LimitKind) → HasNoBadByte bytes → fs ≡ text_forms bytes → most_operators 0 fs ≤ 500
    → text_at fs ≡ Ok (ss, rest) → passed_limit fs ss ≡ Some kind → Refuses bytes (Limit kind)
refused_by_limit bytes fs rest ss kind good is few read passed =
    a_limit ss kind good (subst (λ (ts : List TokenForm). most_operators 0 ts ≤ 500) is few) (subst (λ (ts : List TokenForm). SpellsText ts ss) is (text_at-ok fs ss rest read))
    (ap (λ (ts : List TokenForm). passed_limit ts ss) (sym is) ∙ passed)

pub never_both : (bytes : List ℕ) (e : TextRefusal) (ss : List StatementForm) → Refuses bytes e → IsReadable bytes ss → ⊥
never_both bytes e ss (a_bad_byte at bad) r = none-some at (sym r.no_bad_byte ∙ bad)
never_both bytes e ss (many_operators good many) r = let few = r.few_operators in omega arith
never_both bytes e ss (no_statements at good few none place) r = none ss r.spelled
never_both bytes e ss (a_limit rs kind good few s passed) r =
    let same = spelled_once bytes ss rs r.spelled s in
    none-some kind (sym r.within_limits ∙ ap (passed_limit (text_forms bytes)) same ∙ passed)
