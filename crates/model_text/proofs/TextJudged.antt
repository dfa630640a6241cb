-- How texts go on, and where they stop.
use Rattle.std.proofs.Common.{◌≡◌, ℕ, zero, suc, ◌-◌, ◌<◌, ◌≤◌, Bool, true, false, List, [], ◌∷◌, ◌++◌, length, map, Option, Some, None, Ok, Err, refl, sym, ap, subst, ◌∙◌, append_assoc, length-append, arith, inl, inr}
use Rattle.std.specs.Prelude.{slice_index_or}
use Rattle.std.specs.List.{list_all}
use Rattle.std.proofs.lemmas.List.{append-nil, length-map, map-append}
use Rattle.state_space.specs.declared.keyword.Keyword.TheVariants as keywords
use Rattle.model_tokens.specs.declared.token.Sign.TheVariants.{Semicolon}
use Rattle.model_tokens.specs.declared.token.Further.TheVariants as furthers
use Rattle.model_tokens.specs.Tokens.{TokenForm, keyword, mark, name, number, further, stray, bad_byte, Placed}
use Rattle.model_tokens.specs.Lexing.{tokens_of, forms_of}
use Rattle.model_tokens.specs.Versions.{version_named, is_second, version_forms, text_forms}
use Rattle.model_tokens.specs.Values.{magnitude}
use Rattle.model_text.specs.Writable.{AreWritable, plain}
use Rattle.model_text.specs.Layout.{laid}
use Rattle.model_text.specs.Statements.{StatementForm, version}
use Rattle.model_text.specs.Grammar.{SpellsText, a_text, a_second_text}
use Rattle.model_text.specs.Places.{BeginsText, forms, has_token, IsFaultPlace, at_token, at_the_end}
use Rattle.model_text.specs.Reading.{Reading, keyword_at, mark_at}
use Rattle.model_text.specs.Readers.{Reader, after, counted, nowhere}
use Rattle.model_text.specs.StatementReading.{statement_at, ended_statement_at, statements_at, version_or_fault, version_number_at, version_at, text_at}
use Rattle.model_text.proofs.FormulaTokens.{ok_parts}
use Rattle.model_text.proofs.FormulaFuel.{same_then}
use Rattle.model_text.proofs.ReadTokens.{AllOf, all_front, IsRead, forms_are_lexed, text_is_read}
use Rattle.model_text.proofs.SecondTokens.{second_kept, version_again}
use Rattle.model_text.proofs.PlainTokens.{plain_version, second_same, version_start}
use Rattle.model_text.proofs.LaidTokens.{laid_reads}
use Rattle.model_text.proofs.TextLaws.{text_at-ok, text_read}
use Rattle.model_text.proofs.ReaderLaws.{Ends, anything, SameHead, Follows, IsPlain, IsIn, Few, GoesOn, ReadSo, FailsSo, Law, law_as, law_of_none, after_law, then_law, counted_law, after_deeper, lead_by, writable_joined}
use Rattle.model_text.proofs.TokenJudged.{keyword_law, mark_law, one_token, given, token_law, few_second, Shrinks, shrinks_by}
use Rattle.model_text.proofs.FormulaJudged.{some_number}
use Rattle.model_text.proofs.StatementJudged.{some_statement, statement_law}

-- ---- the version

abbrev taken_version : TokenForm → Option ℕ
taken_version (number negative digits) = version_named negative digits
taken_version _ = None

version_number_law : {v : Bool} {n : ℕ} {e : Ends} → Law v n e (some_number ∷ []) version_number_at
unfolding version_number_at magnitude
version_number_law = token_law taken_version some_number 1 ((omega arith, refl), tt) refl refl refl by_token
  where
    by_version : (o : Option ℕ) (t : TokenForm) (ts : List TokenForm) → version_or_fault o t ts ≡ lead_by (given o) nowhere t ts
    by_version None t ts = refl
    by_version (Some n) t ts = refl

    by_token : (ts : List TokenForm) → version_number_at ts ≡ one_token taken_version ts
    by_token [] = refl
    by_token (keyword k ∷ ts) = refl
    by_token (mark m ∷ ts) = refl
    by_token (name x ∷ ts) = refl
    by_token (number s d ∷ ts) = by_version (version_named s d) (number s d) ts
    by_token (further f ∷ ts) = refl
    by_token (stray ∷ ts) = refl
    by_token (bad_byte ∷ ts) = refl

abbrev some_version : List TokenForm
some_version = keyword keywords.Kaos ∷ some_number ∷ mark Semicolon ∷ []

version_law : {v : Bool} {n : ℕ} {e : Ends} → Law v n e some_version version_at
unfolding version_at after counted
version_law =
    law_as {same = after (keyword_at keywords.Kaos) (λ _. after version_number_at (λ n. counted (λ _. n) (mark_at Semicolon)))} (λ ts. refl)
    (then_law (keyword_law keywords.Kaos) (λ _. then_law version_number_law (λ n. counted_law (λ _. n) (mark_law Semicolon))))

-- ---- statements to the end

ended_statement_law : {v : Bool} {n : ℕ} {e : Ends} → Law v n e (some_statement ++ mark Semicolon ∷ []) ended_statement_at
unfolding ended_statement_at after counted
ended_statement_law =
    law_as {same = after statement_at (λ s. counted (λ _. s) (mark_at Semicolon))} (λ ts. refl)
    (after_law statement_law (λ s. counted_law (λ _. s) (mark_law Semicolon)) (λ us h. refl))

abbrev at_end : Ends
at_end [] = true
at_end (t ∷ ts) = false

abbrev to_end : {A : Type 0} → A → Reader A → Reader A
to_end x go [] = Ok (x, [])
to_end x go (t ∷ ts) = go (t ∷ ts)

to_end_law : {v : Bool} {A : Type 0} {n : ℕ} {u : TokenForm} {s : List TokenForm} (x : A) (go : Reader A) → Law v n at_end (u ∷ s) go → Law v n at_end [] (to_end x go)
to_end_law {v} {A} {n} {u} {s} x go law = record { value = x; writable = tt; begins = begins; judged = record { reads = reads; fails = fails } }
  where
    begins : (us : List TokenForm) → at_end us ≡ true → to_end x go us ≡ Ok (x, us)
    begins [] h = refl
    begins (t ∷ us) h = absurd cc

    passed : (front us : List TokenForm) → (front ≡ [] → u ∷ s ≡ []) → to_end x go (front ++ us) ≡ go (front ++ us)
    passed [] us h = let e = h refl in absurd cc
    passed (t ∷ front) us h = refl

    at_none : (y : A) (rest us : List TokenForm) → ◌≡◌ {A = Reading A} (Ok (x, [])) (Ok (y, rest)) → Follows at_end rest us → to_end x go us ≡ Ok (y, us)
    at_none y rest [] e (inr h) = let p = ok_parts x y [] rest e in ap (λ (z : A). Ok (z, [])) p.0
    at_none y rest (t ∷ us) e (inr h) = absurd cc
    at_none y [] us e (inl h) = absurd h
    at_none y (r ∷ rest) us e (inl h) = let p = ok_parts x y [] (r ∷ rest) e in let q = p.1 in absurd cc

    reads : (ts : List TokenForm) (y : A) (rest : List TokenForm) → Few v n ts → to_end x go ts ≡ Ok (y, rest) → ReadSo at_end [] (to_end x go) ts y rest
    reads [] y rest le e = record { front = []; is = (ok_parts x y [] rest e).1; plain = tt; takes = λ h. refl; again = λ us h. at_none y rest us e h }
    reads (t ∷ ts) y rest le e =
        let a = law.judged.reads (t ∷ ts) y rest le e in
        record { front = a.front; is = a.is; plain = a.plain; takes = λ h. refl; again = λ us h. passed a.front us a.takes ∙ a.again us h }

    followed : (rest front us : List TokenForm) → SameHead rest us → to_end x go (front ++ us) ≡ go (front ++ us)
    followed rest (t ∷ front) us h = refl
    followed rest [] (v ∷ us) h = refl
    followed [] [] [] h = absurd h
    followed (r ∷ rest) [] [] h = absurd h

    by_front : (front : List TokenForm) → GoesOn v at_end go front → GoesOn v at_end (to_end x go) front
    by_front [] c = tt
    by_front (t ∷ front) c = record { more = c.more; value = c.value; writable = c.writable; whole = λ us h. c.whole us h }

    fails : (ts rest : List TokenForm) → Few v n ts → to_end x go ts ≡ Err rest → FailsSo v at_end (to_end x go) ts rest
    fails [] rest le e = absurd cc
    fails (t ∷ ts) rest le e =
        let a = law.judged.fails (t ∷ ts) rest le e in
        record { front = a.front; is = a.is; plain = a.plain; again = λ us h. followed rest a.front us h ∙ a.again us h; goes_on = by_front a.front a.goes_on }

ended_statement_shrinks : Shrinks ended_statement_at
ended_statement_shrinks = shrinks_by (λ n. ended_statement_law {e = anything})

statement_shorter : (ts : List TokenForm) (s : StatementForm) (rest : List TokenForm) → ended_statement_at ts ≡ Ok (s, rest) → length rest < length ts
statement_shorter ts s rest e =
    let a = (ended_statement_law {v = true} {n = suc (length ts)} {e = anything}).judged.reads ts s rest (few_second ts) e in
    let some = takes_some a.front a.takes in
    omega (arith, ap length a.is, length-append a.front rest)
  where
    takes_some : (front : List TokenForm) → (front ≡ [] → some_statement ++ mark Semicolon ∷ [] ≡ []) → 0 < length front
    takes_some [] h = let e = h refl in absurd cc
    takes_some (t ∷ front) h = omega arith

statements_fuel : (n m : ℕ) (front : List StatementForm) (ts : List TokenForm) → length ts ≤ n → length ts ≤ m → statements_at n front ts ≡ statements_at m front ts
unfolding statements_at
statements_fuel zero zero front ts a b = refl
statements_fuel zero (suc m) front [] a b = refl
statements_fuel (suc n) zero front [] a b = refl
statements_fuel (suc n) (suc m) front [] a b = refl
statements_fuel zero (suc m) front (t ∷ ts) a b = absurd (omega arith)
statements_fuel (suc n) zero front (t ∷ ts) a b = absurd (omega arith)
statements_fuel (suc n) (suc m) front (t ∷ ts) a b =
    same_then (ended_statement_at (t ∷ ts)) (λ s rest. statements_at n (front ++ s ∷ []) rest) (λ s rest. statements_at m (front ++ s ∷ []) rest)
    (λ s rest e. let less = statement_shorter (t ∷ ts) s rest e in statements_fuel n m (front ++ s ∷ []) rest (omega arith) (omega arith))

abbrev all_statements : List StatementForm → Reader (List StatementForm)
all_statements front ts = statements_at (length ts) front ts

statements_next : (front : List StatementForm) (ts : List TokenForm) → all_statements front ts ≡ to_end front (after ended_statement_at (λ s. all_statements (front ++ s ∷ []))) ts
unfolding statements_at after
statements_next front [] = refl
statements_next front (t ∷ ts) =
    same_then (ended_statement_at (t ∷ ts)) (λ s rest. statements_at (length ts) (front ++ s ∷ []) rest) (λ s rest. statements_at (length rest) (front ++ s ∷ []) rest)
    (λ s rest e. let less = statement_shorter (t ∷ ts) s rest e in statements_fuel (length ts) (length rest) (front ++ s ∷ []) rest (omega arith) (omega arith))

none_left : (front : List StatementForm) (us : List TokenForm) → at_end us ≡ true → all_statements front us ≡ Ok (front, us)
unfolding statements_at
none_left front [] h = refl
none_left front (t ∷ us) h = absurd cc

statements_law : {v : Bool} (n : ℕ) (front : List StatementForm) → Law v n at_end [] (all_statements front)
statements_law zero front = law_of_none front tt (none_left front)
statements_law (suc n) front =
    law_as (statements_next front)
    (to_end_law front (after ended_statement_at (λ s. all_statements (front ++ s ∷ []))) (after_deeper (ended_statement_law {e = anything}) (λ s. statements_law n (front ++ s ∷ [])) (λ us h. refl)))

text_law : {v : Bool} (n : ℕ) → Law v n at_end some_version text_at
unfolding text_at after
text_law n = law_as {same = after version_at (λ k. all_statements (version k ∷ []))} (λ ts. refl) (then_law version_law (λ k. statements_law n (version k ∷ [])))

-- ---- from tokens to bytes

writable_so : (v : Bool) (ts : List TokenForm) → AllOf IsPlain ts → AllOf (IsRead v) ts → AreWritable v ts
writable_so v [] p r = tt
writable_so v (keyword k ∷ ts) p r = (tt, writable_so v ts p.1 r.1)
writable_so v (mark m ∷ ts) p r = (tt, writable_so v ts p.1 r.1)
writable_so v (name x ∷ ts) p r = (r.0, writable_so v ts p.1 r.1)
writable_so v (number s d ∷ ts) p r = (r.0, writable_so v ts p.1 r.1)
writable_so v (further f ∷ ts) p r = (r.0, writable_so v ts p.1 r.1)
writable_so v (stray ∷ ts) p r = absurd p.0
writable_so v (bad_byte ∷ ts) p r = absurd p.0

in_version : (v : Bool) (ts : List TokenForm) → AllOf (IsRead v) ts → AllOf (IsIn v) ts
in_version v [] r = tt
in_version v (keyword k ∷ ts) r = (tt, in_version v ts r.1)
in_version v (mark m ∷ ts) r = (tt, in_version v ts r.1)
in_version v (name x ∷ ts) r = (tt, in_version v ts r.1)
in_version v (number s d ∷ ts) r = (tt, in_version v ts r.1)
in_version v (further f ∷ ts) r = (r.0, in_version v ts r.1)
in_version v (stray ∷ ts) r = (tt, in_version v ts r.1)
in_version v (bad_byte ∷ ts) r = (tt, in_version v ts r.1)

-- tokens that can stand in a text are those of a text, as version 1 has them
laid_forms : (v : Bool) (ts : List TokenForm) → AreWritable v ts → forms_of (laid true ts ++ []) ≡ map plain ts
unfolding tokens_of
laid_forms v ts w = let read = laid_reads v true ts w [] tt 0 in read.1 ∙ append-nil (map plain ts)

-- the front of the tokens of a text of a version, as version 1 has them
whole_begins : (v : Bool) (front more : List TokenForm) (ss : List StatementForm) → text_at (front ++ more) ≡ Ok (ss, []) → is_second (front ++ more) ≡ v → AreWritable v (front ++ more) → BeginsText (map plain front)
whole_begins v front more ss read is w =
    let all = front ++ more in
    let spelled = text_at-ok all ss [] read in
    let forms_are = laid_forms v all w in
    record {
      bytes = laid true all ++ [];
      statements = ss;
      spelled = subst (λ (us : List TokenForm). SpellsText us ss) (sym (ap version_forms forms_are ∙ version_again v all ss spelled is w)) spelled;
      more = map plain more;
      is = forms_are ∙ map-append plain front more;
    }

kaos_first : {t : TokenForm} {ts : List TokenForm} {ss : List StatementForm} → SpellsText (t ∷ ts) ss → t ≡ keyword keywords.Kaos
kaos_first (a_text s d is p) = refl
kaos_first (a_second_text s d is p) = refl

text_begins : (v : Bool) (front rest : List TokenForm) → is_second (front ++ rest) ≡ v → AllOf IsPlain front → AllOf (IsRead v) front → GoesOn v at_end text_at front → BeginsText (map plain front)
unfolding magnitude
text_begins v [] rest is p r c =
    let law = text_law {v = false} 0 in
    whole_begins false [] some_version law.value (law.begins [] refl) refl law.writable
text_begins v (t ∷ []) rest is p r c =
    let law = text_law {v = false} 0 in
    let spelled = text_at-ok (t ∷ (c.more ++ [])) c.value [] (c.whole [] refl) in
    subst (λ (u : TokenForm). BeginsText (plain u ∷ [])) (sym (kaos_first spelled))
    (whole_begins false (keyword keywords.Kaos ∷ []) (some_number ∷ mark Semicolon ∷ []) law.value (law.begins [] refl) refl law.writable)
text_begins v (t ∷ u ∷ front) rest is p r c =
    let all = t ∷ u ∷ front in
    let read : text_at (all ++ c.more) ≡ Ok (c.value, []) = ap (λ (us : List TokenForm). text_at (all ++ us)) (sym (append-nil c.more)) ∙ c.whole [] refl in
    whole_begins v all c.more c.value read (second_same t u (front ++ c.more) (front ++ rest) ∙ is) (writable_joined v all c.more (writable_so v all p r) c.writable)

text_stops : (p : List TokenForm) (t : TokenForm) (q front : List TokenForm) (r : TokenForm) (rest : List TokenForm) → version_forms (p ++ t ∷ q) ≡ front ++ r ∷ rest → length p ≡ length front
    → ((us : List TokenForm) → text_at (front ++ r ∷ us) ≡ Err (r ∷ us)) → BeginsText (p ++ t ∷ []) → ⊥
text_stops p t q front r rest e n fails b =
    let is : forms_of b.bytes ≡ p ++ t ∷ b.more = b.is ∙ append_assoc p (t ∷ []) b.more in
    let start = version_start p t q b.more front r rest e n in
    let read : text_at (front ++ r ∷ start.0) ≡ Ok (b.statements, []) = ap text_at (sym (ap version_forms is ∙ start.1)) ∙ text_read b.spelled in
    let fault = fails start.0 in cc

-- ---- places

record Split (ps : List Placed) (front rest : List TokenForm) : Type 0 where
  before : List Placed
  behind : List Placed
  is : ps ≡ before ++ behind
  front_is : forms before ≡ front
  rest_is : forms behind ≡ rest

split_at : (ps : List Placed) (front rest : List TokenForm) → forms ps ≡ front ++ rest → Split ps front rest
split_at ps [] rest e = record { before = []; behind = ps; is = refl; front_is = refl; rest_is = e }
split_at [] (t ∷ front) rest e = absurd cc
split_at (p ∷ ps) (t ∷ front) rest e =
    let more = split_at ps front rest cc in
    let first : p.form ≡ t = cc in
    record { before = p ∷ more.before; behind = more.behind; is = ap (λ (qs : List Placed). p ∷ qs) more.is; front_is = cc (first, more.front_is); rest_is = more.rest_is }

place_at : (before : List Placed) (t : Placed) (behind : List Placed) (k end : ℕ) → k ≡ length before → slice_index_or (map (λ (p : Placed). p.at) (before ++ t ∷ behind)) k end ≡ t.at
place_at [] t behind zero end e = refl
place_at [] t behind (suc k) end e = absurd (omega arith)
place_at (p ∷ before) t behind zero end e = absurd (omega arith)
place_at (p ∷ before) t behind (suc k) end e = place_at before t behind k end (omega arith)

place_end : (ps : List Placed) (k end : ℕ) → k ≡ length ps → slice_index_or (map (λ (p : Placed). p.at) ps) k end ≡ end
place_end [] zero end e = refl
place_end [] (suc k) end e = refl
place_end (p ∷ ps) zero end e = absurd (omega arith)
place_end (p ∷ ps) (suc k) end e = place_end ps k end (omega arith)

forms_joined : (ps qs : List Placed) → forms (ps ++ qs) ≡ forms ps ++ forms qs
forms_joined [] qs = refl
forms_joined (p ∷ ps) qs = ap (λ (fs : List TokenForm). p.form ∷ fs) (forms_joined ps qs)

fault_in : (bytes : List ℕ) (front rest : List TokenForm) (before behind : List Placed) (k : ℕ) → tokens_of bytes ≡ before ++ behind → forms before ≡ map plain front → forms behind ≡ map plain rest → k ≡ length before
    → text_forms bytes ≡ front ++ rest → BeginsText (map plain front) → ((us : List TokenForm) → SameHead rest us → text_at (front ++ us) ≡ Err us)
    → IsFaultPlace bytes (slice_index_or (map (λ (p : Placed). p.at) (before ++ behind)) k (length bytes))
fault_in bytes front rest before [] k is front_is rest_is at version_is begins fails =
    let all : before ++ [] ≡ before = append-nil before in
    let whole : tokens_of bytes ≡ before = is ∙ all in
    subst (IsFaultPlace bytes) (sym (ap (λ (ps : List Placed). slice_index_or (map (λ (p : Placed). p.at) ps) k (length bytes)) all ∙ place_end before k (length bytes) at))
    (at_the_end (subst BeginsText (sym front_is ∙ ap forms (sym whole)) begins))
fault_in bytes front [] before (t ∷ behind) k is front_is rest_is at version_is begins fails = absurd cc
fault_in bytes front (r ∷ rest) before (t ∷ behind) k is front_is rest_is at version_is begins fails =
    let forms_are : forms_of bytes ≡ forms before ++ t.form ∷ forms behind = ap forms is ∙ forms_joined before (t ∷ behind) in
    let many : length (forms before) ≡ length front = ap length front_is ∙ length-map front plain in
    subst (IsFaultPlace bytes) (sym (place_at before t behind k (length bytes) at))
    (at_token before t behind is (subst BeginsText (sym front_is) begins)
    (λ b. text_stops (forms before) t.form (forms behind) front r rest (ap version_forms (sym forms_are) ∙ version_is) many (λ us. fails (r ∷ us) refl) (subst BeginsText (forms_joined before (t ∷ [])) b)))

-- the place of the first token that is left at a fault
pub fault_place : (bytes : List ℕ) (rest : List TokenForm) (k : ℕ) → text_at (text_forms bytes) ≡ Err rest → k ≡ length (tokens_of bytes) - length rest
    → IsFaultPlace bytes (slice_index_or (map (λ (p : Placed). p.at) (tokens_of bytes)) k (length bytes))
fault_place bytes rest k e at =
    let fs = forms_of bytes in
    let ts = text_forms bytes in
    let v = is_second fs in
    let of_version = text_is_read bytes in
    let few : Few v (suc (length ts)) ts = record { fewer = omega arith; all_in = in_version v ts of_version } in
    let a = (text_law {v = v} (suc (length ts))).judged.fails ts rest few e in
    let plain_is : fs ≡ map plain a.front ++ map plain rest = sym (plain_version fs (forms_are_lexed bytes)) ∙ ap (map plain) a.is ∙ map-append plain a.front rest in
    let s = split_at (tokens_of bytes) (map plain a.front) (map plain rest) plain_is in
    let read = all_front (IsRead v) a.front rest (subst (AllOf (IsRead v)) a.is of_version) in
    let begins = text_begins v a.front rest (sym (ap is_second a.is) ∙ second_kept fs) a.plain read a.goes_on in
    let count : k ≡ length s.before = omega (arith, at, ap length s.is, length-append s.before s.behind, ap length s.rest_is, length-map s.behind (λ (p : Placed). p.form), length-map rest plain) in
    subst (λ (qs : List Placed). IsFaultPlace bytes (slice_index_or (map (λ (p : Placed). p.at) qs) k (length bytes))) (sym s.is)
    (fault_in bytes a.front rest s.before s.behind k s.is s.front_is s.rest_is count a.is begins a.again)

-- ---- laws of fault places

front_begins : (ts us : List TokenForm) → BeginsText (ts ++ us) → BeginsText ts
front_begins ts us b = record { bytes = b.bytes; statements = b.statements; spelled = b.spelled; more = us ++ b.more; is = b.is ∙ append_assoc ts us b.more }

-- a front of tokens that begin a text begins one; of two fronts of a list one is a front of the other
data Compares (ts us : List Placed) (t u : Placed) : Type 0 where
  same : t.at ≡ u.at → Compares ts us t u
  first_shorter : (vs : List Placed) → us ≡ (ts ++ t ∷ []) ++ vs → Compares ts us t u
  second_shorter : (vs : List Placed) → ts ≡ (us ++ u ∷ []) ++ vs → Compares ts us t u

compared : (ts us : List Placed) (t u : Placed) (behind left : List Placed) → ts ++ t ∷ behind ≡ us ++ u ∷ left → Compares ts us t u
compared [] [] t u behind left e = same (let p : t ≡ u = cc in ap (λ (p : Placed). p.at) p)
compared [] (v ∷ us) t u behind left e = first_shorter us (let p : t ≡ v = cc in ap (λ (p : Placed). p ∷ us) (sym p))
compared (v ∷ ts) [] t u behind left e = second_shorter ts (let p : v ≡ u = cc in ap (λ (p : Placed). p ∷ ts) p)
compared (v ∷ ts) (w ∷ us) t u behind left e = more (compared ts us t u behind left cc)
  where
    head : v ≡ w
    head = cc

    more : Compares ts us t u → Compares (v ∷ ts) (w ∷ us) t u
    more (same p) = same p
    more (first_shorter vs is) = first_shorter vs (ap (λ (ps : List Placed). w ∷ ps) is ∙ ap (λ (p : Placed). p ∷ ((ts ++ t ∷ []) ++ vs)) (sym head))
    more (second_shorter vs is) = second_shorter vs (ap (λ (ps : List Placed). v ∷ ps) is ∙ ap (λ (p : Placed). p ∷ ((us ++ u ∷ []) ++ vs)) head)

longer_begins : (ps qs vs : List Placed) → ps ≡ qs ++ vs → BeginsText (forms ps) → BeginsText (forms qs)
longer_begins ps qs vs is b = front_begins (forms qs) (forms vs) (subst BeginsText (ap forms is ∙ forms_joined qs vs) b)

-- a text has one place of a fault
pub one_place : (bytes : List ℕ) (m n : ℕ) → IsFaultPlace bytes m → IsFaultPlace bytes n → m ≡ n
one_place bytes m n (at_the_end b) (at_the_end c) = refl
one_place bytes m n (at_the_end b) (at_token front t behind is begins stops) = absurd (stops (longer_begins (tokens_of bytes) (front ++ t ∷ []) behind (is ∙ sym (append_assoc front (t ∷ []) behind)) b))
one_place bytes m n (at_token front t behind is begins stops) (at_the_end c) = absurd (stops (longer_begins (tokens_of bytes) (front ++ t ∷ []) behind (is ∙ sym (append_assoc front (t ∷ []) behind)) c))
one_place bytes m n (at_token front t behind is begins stops) (at_token other u left same_is begun ends) = by_order (compared front other t u behind left (sym is ∙ same_is))
  where
    by_order : Compares front other t u → t.at ≡ u.at
    by_order (same p) = p
    by_order (first_shorter vs e) = absurd (stops (longer_begins other (front ++ t ∷ []) vs e begun))
    by_order (second_shorter vs e) = absurd (ends (longer_begins front (other ++ u ∷ []) vs e begins))

spelled_plain : (ts : List TokenForm) (ss : List StatementForm) → SpellsText ts ss → AllOf IsPlain ts
spelled_plain ts ss s =
    let a = (text_law {v = true} (suc (length ts))).judged.reads ts ss [] (few_second ts) (text_read s) in
    subst (AllOf IsPlain) (sym (a.is ∙ append-nil a.front)) a.plain

-- and so are its tokens as version 1 has them
plain_token : (t : TokenForm) → IsPlain t → IsPlain (plain t)
plain_token (keyword k) p = tt
plain_token (mark m) p = tt
plain_token (name x) p = tt
plain_token (number s d) p = tt
plain_token (further furthers.Entity) p = tt
plain_token (further furthers.Attr) p = tt
plain_token (further furthers.All) p = tt
plain_token (further furthers.Some) p = tt
plain_token (further furthers.OpenArgument) p = tt
plain_token stray p = absurd p
plain_token bad_byte p = absurd p

plain_tokens : (ts : List TokenForm) → AllOf IsPlain ts → AllOf IsPlain (map plain ts)
plain_tokens [] p = tt
plain_tokens (t ∷ ts) p = (plain_token t p.0, plain_tokens ts p.1)

all_so : (ts : List TokenForm) → AllOf IsPlain ts → list_all has_token ts ≡ true
all_so [] p = refl
all_so (keyword k ∷ ts) p = all_so ts p.1
all_so (mark m ∷ ts) p = all_so ts p.1
all_so (name x ∷ ts) p = all_so ts p.1
all_so (number s d ∷ ts) p = all_so ts p.1
all_so (further f ∷ ts) p = all_so ts p.1
all_so (stray ∷ ts) p = absurd p.0
all_so (bad_byte ∷ ts) p = absurd p.0

-- what begins a spelled text has no place without a token
pub begins_with_tokens : (ts : List TokenForm) → BeginsText ts → list_all has_token ts ≡ true
begins_with_tokens ts b =
    let plain_all = plain_tokens (text_forms b.bytes) (spelled_plain (text_forms b.bytes) b.statements b.spelled) in
    all_so ts (all_front IsPlain ts b.more (subst (AllOf IsPlain) (plain_version (forms_of b.bytes) (forms_are_lexed b.bytes) ∙ b.is) plain_all))
