-- How readers of one token go on, those that one token leads, and those of parts one behind another.
use Rattle.std.proofs.Common.{◌≡◌, ℕ, zero, suc, ◌≤◌, Bool, true, false, List, [], ◌∷◌, ◌++◌, length, Option, Some, None, Ok, refl, sym, ap, subst, ◌∙◌, length-append, arith}
use Rattle.std.specs.Prelude.{◌==◌, is_none, if◌then◌else◌}
use Rattle.std.proofs.lemmas.Bool.{eq-eqb}
use Rattle.state_space.specs.declared.keyword.Keyword.{Keyword}
use Rattle.state_space.specs.Keywords.{number as keyword_number, statement_word, part_word, operator_word}
use Rattle.model_tokens.specs.declared.token.Sign.{Sign}
use Rattle.model_tokens.specs.declared.token.Sign.TheVariants.{Comma}
use Rattle.model_tokens.specs.Tokens.{TokenForm, keyword, mark, name, number, further, stray, bad_byte, number_of, further_number}
use Rattle.model_tokens.specs.declared.token.Further.{Further}
use Rattle.model_tokens.specs.Versions.{further_word}
use Rattle.model_tokens.specs.Values.{cut_name}
use Rattle.model_text.specs.Writable.{AreWritable}
use Rattle.model_text.specs.Reading.{Reading, and_then, required, behind_keyword, behind_mark, behind_further, keyword_at, mark_at, further_at, name_at}
use Rattle.model_text.specs.FormulaReading.{if_behind}
use Rattle.model_text.specs.Readers.{Reader, after, if_word, if_sign, giving, nowhere, more_at, listed_at}
use Rattle.model_text.proofs.FormulaTokens.{none_is}
use Rattle.model_text.proofs.FormulaFuel.{same_then}
use Rattle.model_text.proofs.ReadTokens.{AllOf}
use Rattle.model_text.proofs.ReaderLaws.{Ends, IsPlain, IsIn, Few, Law, law_as, law_below, law_of_none, giving_law, after_law, Passes, Picked, lead_by, lead, lead_law, lead_only}

-- ---- a token that is tested

-- the tokens behind the first, where it passes a test
abbrev pub behind_by : (TokenForm → Bool) → List TokenForm → Option (List TokenForm)
behind_by test [] = None
behind_by test (t ∷ ts) = if test t then Some ts else None

abbrev pub is_keyword : Keyword → TokenForm → Bool
is_keyword k (keyword found) = keyword_number found == keyword_number k
is_keyword k _ = false

abbrev pub is_sign : Sign → TokenForm → Bool
is_sign m (mark found) = number_of found == number_of m
is_sign m _ = false

abbrev pub is_further : Further → TokenForm → Bool
is_further f (further found) = further_number found == further_number f
is_further f _ = false

pub behind_keyword_by : (k : Keyword) (ts : List TokenForm) → behind_keyword k ts ≡ behind_by (is_keyword k) ts
behind_keyword_by k [] = refl
behind_keyword_by k (keyword found ∷ ts) = refl
behind_keyword_by k (t ∷ ts) = refl

behind_sign_by : (m : Sign) (ts : List TokenForm) → behind_mark m ts ≡ behind_by (is_sign m) ts
behind_sign_by m [] = refl
behind_sign_by m (mark found ∷ ts) = refl
behind_sign_by m (t ∷ ts) = refl

behind_further_by : (f : Further) (ts : List TokenForm) → behind_further f ts ≡ behind_by (is_further f) ts
behind_further_by f [] = refl
behind_further_by f (further found ∷ ts) = refl
behind_further_by f (t ∷ ts) = refl

pub keyword_plain : (k : Keyword) (t : TokenForm) → is_keyword k t ≡ true → IsPlain t
keyword_plain k (keyword found) e = tt
keyword_plain k (mark m) e = tt
keyword_plain k (name x) e = tt
keyword_plain k (number s d) e = tt
keyword_plain k (further f) e = tt
keyword_plain k stray e = absurd cc
keyword_plain k bad_byte e = absurd cc

sign_plain : (m : Sign) (t : TokenForm) → is_sign m t ≡ true → IsPlain t
sign_plain m (keyword found) e = tt
sign_plain m (mark found) e = tt
sign_plain m (name x) e = tt
sign_plain m (number s d) e = tt
sign_plain m (further f) e = tt
sign_plain m stray e = absurd cc
sign_plain m bad_byte e = absurd cc

-- a further token is one of version 2
further_in : (v : Bool) (f : Further) (t : TokenForm) → is_further f t ≡ true → IsIn v t → v ≡ true
further_in v f (further found) e i = i
further_in v f (keyword k) e i = absurd cc
further_in v f (mark m) e i = absurd cc
further_in v f (name x) e i = absurd cc
further_in v f (number s d) e i = absurd cc
further_in v f stray e i = absurd cc
further_in v f bad_byte e i = absurd cc

further_plain : (f : Further) (t : TokenForm) → is_further f t ≡ true → IsPlain t
further_plain f (further found) e = tt
further_plain f (keyword k) e = tt
further_plain f (mark m) e = tt
further_plain f (name x) e = tt
further_plain f (number s d) e = tt
further_plain f stray e = absurd cc
further_plain f bad_byte e = absurd cc

abbrev pick_if : {A : Type 0} → (TokenForm → Bool) → Reader A → TokenForm → Option (Reader A)
pick_if test here t = if test t then Some here else None

if_behind_lead : {A : Type 0} (test : TokenForm → Bool) (here other : Reader A) (ts : List TokenForm) → if_behind (behind_by test ts) here (other ts) ≡ lead (pick_if test here) other ts
if_behind_lead test here other [] = refl
if_behind_lead {A} test here other (t ∷ ts) = by_test (test t)
  where
    by_test : (b : Bool) → if_behind (if b then Some ts else None) here (other (t ∷ ts)) ≡ lead_by (if b then Some here else None) other t ts
    by_test true = refl
    by_test false = refl

picked_if : {v : Bool} {A : Type 0} {n : ℕ} {e : Ends} {s : List TokenForm} {here : Reader A} (test : TokenForm → Bool) → ((t : TokenForm) → test t ≡ true → IsPlain t) → Law v n e s here → (t : TokenForm) → Picked v n e t (pick_if test here t)
picked_if {v} {n = n} {e = e} {s = s} {here = here} test plain law t = by_test (test t) refl
  where
    by_test : (b : Bool) → test t ≡ b → Picked v n e t (if b then Some here else None)
    by_test true is = (plain t is, λ i. record { start = s; law = law })
    by_test false is = tt

passes_if : {A : Type 0} (test : TokenForm → Bool) (here : Reader A) (us : List TokenForm) → behind_by test us ≡ None → Passes (pick_if test here) us
passes_if test here [] e = tt
passes_if {A} test here (t ∷ us) e = by_test (test t) e
  where
    by_test : (b : Bool) → ◌≡◌ {A = Option (List TokenForm)} (if b then Some us else None) None → ◌≡◌ {A = Option (Reader A)} (if b then Some here else None) None
    by_test true is = absurd cc
    by_test false is = refl

-- one way behind a keyword, and another where it does not come
pub word_law_at : {v : Bool} {A : Type 0} {m n : ℕ} {e : Ends} {s t : List TokenForm} {here other : Reader A} (word : Keyword) → n ≤ suc m → Law v m e s here → Law v n e t other
    → ((us : List TokenForm) → e us ≡ true → is_none (behind_keyword word (t ++ us)) ≡ true) → Law v n e t (if_word word here other)
unfolding if_word
word_law_at {t = t} {here = here} {other = other} word deep first second fits =
    law_as (λ ts. ap (λ (o : Option (List TokenForm)). if_behind o here (other ts)) (behind_keyword_by word ts) ∙ if_behind_lead (is_keyword word) here other ts)
    (lead_law (pick_if (is_keyword word) here) other deep (picked_if (is_keyword word) (keyword_plain word) first) second
    (λ us h. passes_if (is_keyword word) here (t ++ us) (sym (behind_keyword_by word (t ++ us)) ∙ none_is (behind_keyword word (t ++ us)) (fits us h))))

pub sign_law_at : {v : Bool} {A : Type 0} {m n : ℕ} {e : Ends} {s t : List TokenForm} {here other : Reader A} (sign : Sign) → n ≤ suc m → Law v m e s here → Law v n e t other
    → ((us : List TokenForm) → e us ≡ true → is_none (behind_mark sign (t ++ us)) ≡ true) → Law v n e t (if_sign sign here other)
unfolding if_sign
sign_law_at {t = t} {here = here} {other = other} sign deep first second fits =
    law_as (λ ts. ap (λ (o : Option (List TokenForm)). if_behind o here (other ts)) (behind_sign_by sign ts) ∙ if_behind_lead (is_sign sign) here other ts)
    (lead_law (pick_if (is_sign sign) here) other deep (picked_if (is_sign sign) (sign_plain sign) first) second
    (λ us h. passes_if (is_sign sign) here (t ++ us) (sym (behind_sign_by sign (t ++ us)) ∙ none_is (behind_mark sign (t ++ us)) (fits us h))))

-- and one behind a further token, which only texts of version 2 have
pub further_law_at : {v : Bool} {A : Type 0} {m n : ℕ} {e : Ends} {s t : List TokenForm} {here other : Reader A} (f : Further) → n ≤ suc m → (v ≡ true → Law v m e s here) → Law v n e t other
    → ((us : List TokenForm) → e us ≡ true → is_none (behind_further f (t ++ us)) ≡ true) → Law v n e t (λ ts. if_behind (behind_further f ts) here (other ts))
further_law_at {v} {m = m} {e = e} {s = s} {t = t} {here = here} {other = other} f deep first second fits =
    law_as (λ ts. ap (λ (o : Option (List TokenForm)). if_behind o here (other ts)) (behind_further_by f ts) ∙ if_behind_lead (is_further f) here other ts)
    (lead_law (pick_if (is_further f) here) other deep picked second
    (λ us h. passes_if (is_further f) here (t ++ us) (sym (behind_further_by f (t ++ us)) ∙ none_is (behind_further f (t ++ us)) (fits us h))))
  where
    picked : (u : TokenForm) → Picked v m e u (pick_if (is_further f) here u)
    picked u = by_test (is_further f u) refl
      where
        by_test : (b : Bool) → is_further f u ≡ b → Picked v m e u (if b then Some here else None)
        by_test true is = (further_plain f u is, λ i. record { start = s; law = first (further_in v f u is i) })
        by_test false is = tt

pub word_law : {v : Bool} {A : Type 0} {n : ℕ} {e : Ends} {s t : List TokenForm} {here other : Reader A} (word : Keyword) → Law v n e s here → Law v n e t other
    → ((us : List TokenForm) → e us ≡ true → is_none (behind_keyword word (t ++ us)) ≡ true) → Law v n e t (if_word word here other)
word_law word first second fits = word_law_at word (omega arith) first second fits

pub sign_law : {v : Bool} {A : Type 0} {n : ℕ} {e : Ends} {s t : List TokenForm} {here other : Reader A} (sign : Sign) → Law v n e s here → Law v n e t other
    → ((us : List TokenForm) → e us ≡ true → is_none (behind_mark sign (t ++ us)) ≡ true) → Law v n e t (if_sign sign here other)
sign_law sign first second fits = sign_law_at sign (omega arith) first second fits

if_same : {A : Type 0} (b : Bool) (x y : A) → b ≡ true → (if b then x else y) ≡ x
if_same true x y e = refl
if_same false x y e = absurd cc

-- a keyword has to come
pub word_only : {v : Bool} {A : Type 0} {n : ℕ} {e : Ends} {s : List TokenForm} {here : Reader A} (word : Keyword) → Law v n e s here → Law v n e (keyword word ∷ s) (if_word word here nowhere)
unfolding if_word
word_only {here = here} word law =
    law_as (λ ts. ap (λ (o : Option (List TokenForm)). if_behind o here (nowhere ts)) (behind_keyword_by word ts) ∙ if_behind_lead (is_keyword word) here nowhere ts)
    (lead_only (pick_if (is_keyword word) here) here (keyword word) (omega arith) (picked_if (is_keyword word) (keyword_plain word) law) (tt, tt) (if_same (keyword_number word == keyword_number word) (Some here) None (eq-eqb (keyword_number word) (keyword_number word) refl)) law)

pub sign_only : {v : Bool} {A : Type 0} {n : ℕ} {e : Ends} {s : List TokenForm} {here : Reader A} (sign : Sign) → Law v n e s here → Law v n e (mark sign ∷ s) (if_sign sign here nowhere)
unfolding if_sign
sign_only {here = here} sign law =
    law_as (λ ts. ap (λ (o : Option (List TokenForm)). if_behind o here (nowhere ts)) (behind_sign_by sign ts) ∙ if_behind_lead (is_sign sign) here nowhere ts)
    (lead_only (pick_if (is_sign sign) here) here (mark sign) (omega arith) (picked_if (is_sign sign) (sign_plain sign) law) (tt, tt) (if_same (number_of sign == number_of sign) (Some here) None (eq-eqb (number_of sign) (number_of sign) refl)) law)

pub keyword_law : {v : Bool} {n : ℕ} {e : Ends} (word : Keyword) → Law v n e (keyword word ∷ []) (keyword_at word)
unfolding if_word
keyword_law word = law_as (λ ts. by_rest ts (behind_keyword word ts)) (word_only word (giving_law tt))
  where
    by_rest : (ts : List TokenForm) (o : Option (List TokenForm)) → required o ts ≡ if_behind o (giving tt) (nowhere ts)
    by_rest ts None = refl
    by_rest ts (Some rest) = refl

pub mark_law : {v : Bool} {n : ℕ} {e : Ends} (sign : Sign) → Law v n e (mark sign ∷ []) (mark_at sign)
unfolding if_sign
mark_law sign = law_as (λ ts. by_rest ts (behind_mark sign ts)) (sign_only sign (giving_law tt))
  where
    by_rest : (ts : List TokenForm) (o : Option (List TokenForm)) → required o ts ≡ if_behind o (giving tt) (nowhere ts)
    by_rest ts None = refl
    by_rest ts (Some rest) = refl

-- a further token has to come
pub further_law : {v : Bool} {n : ℕ} {e : Ends} (f : Further) → v ≡ true → Law v n e (further f ∷ []) (further_at f)
further_law {v} {n} {e} f second =
    law_as (λ ts. by_rest ts (behind_further f ts) ∙ ap (λ (o : Option (List TokenForm)). if_behind o (giving tt) (nowhere ts)) (behind_further_by f ts) ∙ if_behind_lead (is_further f) (giving tt) nowhere ts)
    (lead_only {m = n} (pick_if (is_further f) (giving tt)) (giving tt) (further f) (omega arith) (picked_if (is_further f) (further_plain f) (giving_law tt)) (second, tt) (if_same (further_number f == further_number f) (Some (giving tt)) None (eq-eqb (further_number f) (further_number f) refl)) (giving_law tt))
  where
    by_rest : (ts : List TokenForm) (o : Option (List TokenForm)) → required o ts ≡ if_behind o (giving tt) (nowhere ts)
    by_rest ts None = refl
    by_rest ts (Some rest) = refl

-- ---- one token

abbrev pub given : {A : Type 0} → Option A → Option (Reader A)
given (Some x) = Some (giving x)
given None = None

-- a token that counts as something
abbrev pub one_token : {A : Type 0} → (TokenForm → Option A) → Reader A
one_token take = lead (λ t. given (take t)) nowhere

taken_plain : {A : Type 0} (v : Bool) (n : ℕ) (e : Ends) (take : TokenForm → Option A) → take stray ≡ None → take bad_byte ≡ None → (t : TokenForm) → Picked v n e t (given (take t))
taken_plain {A} v n e take first second (keyword k) = by_token (take (keyword k))
  where
    by_token : (o : Option A) → Picked v n e (keyword k) (given o)
    by_token None = tt
    by_token (Some x) = (tt, λ i. record { start = []; law = giving_law x })
taken_plain {A} v n e take first second (mark m) = by_token (take (mark m))
  where
    by_token : (o : Option A) → Picked v n e (mark m) (given o)
    by_token None = tt
    by_token (Some x) = (tt, λ i. record { start = []; law = giving_law x })
taken_plain {A} v n e take first second (name x) = by_token (take (name x))
  where
    by_token : (o : Option A) → Picked v n e (name x) (given o)
    by_token None = tt
    by_token (Some y) = (tt, λ i. record { start = []; law = giving_law y })
taken_plain {A} v n e take first second (number s d) = by_token (take (number s d))
  where
    by_token : (o : Option A) → Picked v n e (number s d) (given o)
    by_token None = tt
    by_token (Some x) = (tt, λ i. record { start = []; law = giving_law x })
taken_plain {A} v n e take first second (further f) = by_token (take (further f))
  where
    by_token : (o : Option A) → Picked v n e (further f) (given o)
    by_token None = tt
    by_token (Some x) = (tt, λ i. record { start = []; law = giving_law x })
taken_plain {A} v n e take first second stray = subst (λ (o : Option A). Picked v n e stray (given o)) (sym first) tt
taken_plain {A} v n e take first second bad_byte = subst (λ (o : Option A). Picked v n e bad_byte (given o)) (sym second) tt

pub token_law : {v : Bool} {A : Type 0} {n : ℕ} {e : Ends} {read : Reader A} (take : TokenForm → Option A) (t : TokenForm) (x : A) → AreWritable v (t ∷ []) → take t ≡ Some x → take stray ≡ None → take bad_byte ≡ None
    → ((ts : List TokenForm) → read ts ≡ one_token take ts) → Law v n e (t ∷ []) read
token_law {v} {n = n} {e = e} take t x w is first second same =
    law_as {same = one_token take} same (lead_only (λ u. given (take u)) (giving x) t (omega arith) (taken_plain v n e take first second) w (ap given is) (giving_law x))

abbrev taken_name : TokenForm → Option (List ℕ)
taken_name (name x) = Some (cut_name x)
taken_name _ = None

-- a name that is none of the keywords
abbrev pub some_name : TokenForm
some_name = name (97 ∷ [])

pub name_law : {v : Bool} {n : ℕ} {e : Ends} → Law v n e (some_name ∷ []) name_at
unfolding name_at further_word statement_word part_word operator_word
name_law = token_law taken_name some_name (97 ∷ []) ((refl, refl, λ second. refl), tt) refl refl refl by_token
  where
    by_token : (ts : List TokenForm) → name_at ts ≡ one_token taken_name ts
    by_token [] = refl
    by_token (keyword k ∷ ts) = refl
    by_token (mark m ∷ ts) = refl
    by_token (name x ∷ ts) = refl
    by_token (number s d ∷ ts) = refl
    by_token (further f ∷ ts) = refl
    by_token (stray ∷ ts) = refl
    by_token (bad_byte ∷ ts) = refl

-- ---- parts one behind another

-- each behind a token that passes a test, counted up from a first value: the number bounds how many
unfoldable pub turns : {A S : Type 0} → (TokenForm → Bool) → (S → A → S) → Reader A → ℕ → S → Reader S
turns test make one zero f ts = Ok (f, ts)
turns test make one (suc n) f ts = if_behind (behind_by test ts) (λ us. and_then (one us) (λ x rest. turns test make one n (make f x) rest)) (Ok (f, ts))

-- what is left is no longer
abbrev pub Shrinks : {A : Type 0} → Reader A → Type 0
Shrinks {A} read = (ts : List TokenForm) (x : A) (rest : List TokenForm) → read ts ≡ Ok (x, rest) → length rest ≤ length ts

-- all tokens are of version 2
all_second : (ts : List TokenForm) → AllOf (IsIn true) ts
all_second [] = tt
all_second (keyword k ∷ ts) = (tt, all_second ts)
all_second (mark m ∷ ts) = (tt, all_second ts)
all_second (name x ∷ ts) = (tt, all_second ts)
all_second (number s d ∷ ts) = (tt, all_second ts)
all_second (further f ∷ ts) = (refl, all_second ts)
all_second (stray ∷ ts) = (tt, all_second ts)
all_second (bad_byte ∷ ts) = (tt, all_second ts)

pub few_second : (ts : List TokenForm) → Few true (suc (length ts)) ts
few_second ts = record { fewer = omega arith; all_in = all_second ts }

pub shrinks_by : {A : Type 0} {e : Ends} {s : List TokenForm} {read : Reader A} → ((n : ℕ) → Law true n e s read) → Shrinks read
shrinks_by law ts x rest r = let a = (law (suc (length ts))).judged.reads ts x rest (few_second ts) r in omega (arith, ap length a.is, length-append a.front rest)

pub after_is : {A B : Type 0} (one : Reader A) (next : A → Reader B) (ts : List TokenForm) → after one next ts ≡ and_then (one ts) next
unfolding after
after_is one next ts = refl

test_same : {B : Type 0} (b : Bool) (ts : List TokenForm) (go gone : List TokenForm → B) (other : B) → go ts ≡ gone ts → if_behind (if b then Some ts else None) go other ≡ if_behind (if b then Some ts else None) gone other
test_same true ts go gone other e = e
test_same false ts go gone other e = refl

turns_fuel : {A S : Type 0} (test : TokenForm → Bool) (make : S → A → S) (one : Reader A) → Shrinks one → (n m : ℕ) (f : S) (ts : List TokenForm) → length ts ≤ n → length ts ≤ m
    → turns test make one n f ts ≡ turns test make one m f ts
unfolding turns
turns_fuel test make one shrinks zero zero f ts a b = refl
turns_fuel test make one shrinks zero (suc m) f [] a b = refl
turns_fuel test make one shrinks (suc n) zero f [] a b = refl
turns_fuel test make one shrinks (suc n) (suc m) f [] a b = refl
turns_fuel test make one shrinks zero (suc m) f (t ∷ ts) a b = absurd (omega arith)
turns_fuel test make one shrinks (suc n) zero f (t ∷ ts) a b = absurd (omega arith)
turns_fuel {A} {S} test make one shrinks (suc n) (suc m) f (t ∷ ts) a b =
    test_same (test t) ts (λ us. and_then (one us) (λ x rest. turns test make one n (make f x) rest)) (λ us. and_then (one us) (λ x rest. turns test make one m (make f x) rest)) (Ok (f, t ∷ ts))
    (same_then (one ts) (λ x rest. turns test make one n (make f x) rest) (λ x rest. turns test make one m (make f x) rest)
    (λ x rest e. let less = shrinks ts x rest e in turns_fuel test make one shrinks n m (make f x) rest (omega arith) (omega arith)))

-- with a number that is enough
abbrev pub all_turns : {A S : Type 0} → (TokenForm → Bool) → (S → A → S) → Reader A → S → Reader S
all_turns test make one f ts = turns test make one (length ts) f ts

turns_next : {A S : Type 0} (test : TokenForm → Bool) (make : S → A → S) (one : Reader A) → Shrinks one → (f : S) (ts : List TokenForm)
    → all_turns test make one f ts ≡ if_behind (behind_by test ts) (after one (λ x. all_turns test make one (make f x))) (giving f ts)
unfolding turns after
turns_next test make one shrinks f [] = refl
turns_next {A} {S} test make one shrinks f (t ∷ ts) =
    test_same (test t) ts (λ us. and_then (one us) (λ x rest. turns test make one (length ts) (make f x) rest)) (after one (λ x. all_turns test make one (make f x))) (Ok (f, t ∷ ts))
    (same_then (one ts) (λ x rest. turns test make one (length ts) (make f x) rest) (λ x rest. turns test make one (length rest) (make f x) rest)
    (λ x rest e. let less = shrinks ts x rest e in turns_fuel test make one shrinks (length ts) (length rest) (make f x) rest (omega arith) (omega arith)))

turns_done : {A S : Type 0} (test : TokenForm → Bool) (make : S → A → S) (one : Reader A) (f : S) (ts : List TokenForm) → behind_by test ts ≡ None → all_turns test make one f ts ≡ Ok (f, ts)
unfolding turns
turns_done test make one f [] e = refl
turns_done test make one f (t ∷ ts) e = rw e refl

pub turns_law : {v : Bool} {A S : Type 0} {e f : Ends} {s : List TokenForm} {one : Reader A} (test : TokenForm → Bool) (make : S → A → S) → ((t : TokenForm) → test t ≡ true → IsPlain t) → Shrinks one
    → ((us : List TokenForm) → f us ≡ true → e us ≡ true) → ((us : List TokenForm) → f us ≡ true → behind_by test us ≡ None) → (n : ℕ) → Law v n e s one → (x : S) → Law v n f [] (all_turns test make one x)
turns_law {one = one} test make plain shrinks fits ends zero law x = law_of_none x tt (λ us h. turns_done test make one x us (ends us h))
turns_law {one = one} test make plain shrinks fits ends (suc n) law x =
    let part = after_law (law_below (omega arith) law) (λ y. turns_law test make plain shrinks fits ends n (law_below (omega arith) law) (make x y)) fits in
    law_as (λ ts. turns_next test make one shrinks x ts ∙ if_behind_lead test (after one (λ y. all_turns test make one (make x y))) (giving x) ts)
    (lead_law (pick_if test (after one (λ y. all_turns test make one (make x y)))) (giving x) (omega arith) (picked_if test plain part) (giving_law x)
    (λ us h. passes_if test (after one (λ y. all_turns test make one (make x y))) us (ends us h)))

-- ---- parts behind signs

abbrev add : {A : Type 0} → List A → A → List A
add front x = front ++ x ∷ []

pub by_sign_same : {A B : Type 0} (test : TokenForm → Bool) (one : Reader A) (next following : A → Reader B) (other : Reading B) (ts : List TokenForm) → ((x : A) (rest : List TokenForm) → next x rest ≡ following x rest)
    → if_behind (behind_by test ts) (λ us. and_then (one us) next) other ≡ if_behind (behind_by test ts) (λ us. and_then (one us) following) other
by_sign_same test one next following other [] e = refl
by_sign_same test one next following other (t ∷ ts) e = test_same (test t) ts (λ us. and_then (one us) next) (λ us. and_then (one us) following) other (same_then (one ts) next following (λ x rest is. e x rest))

more_turns : {A : Type 0} (sign : Sign) (one : Reader A) (n : ℕ) (front : List A) (ts : List TokenForm) → more_at sign one n front ts ≡ turns (is_sign sign) add one n front ts
unfolding more_at turns
more_turns sign one zero front ts = refl
more_turns {A} sign one (suc n) front ts =
    ap (λ (o : Option (List TokenForm)). if_behind o (λ us. and_then (one us) (λ x rest. more_at sign one n (front ++ x ∷ []) rest)) (Ok (front, ts))) (behind_sign_by sign ts)
    ∙ by_sign_same (is_sign sign) one (λ x rest. more_at sign one n (front ++ x ∷ []) rest) (λ x rest. turns (is_sign sign) add one n (front ++ x ∷ []) rest) (Ok (front, ts)) ts (λ x rest. more_turns sign one n (front ++ x ∷ []) rest)

-- no such sign comes
abbrev pub unless_sign : Sign → Ends
unless_sign sign us = is_none (behind_mark sign us)

abbrev pub unless_further : Further → Ends
unless_further f us = is_none (behind_further f us)

abbrev pub unless_word : Keyword → Ends
unless_word word us = is_none (behind_keyword word us)

-- all parts behind those that were read
abbrev pub all_more : {A : Type 0} → Sign → Reader A → List A → Reader (List A)
all_more sign one front ts = more_at sign one (length ts) front ts

pub more_law : {v : Bool} {A : Type 0} {n : ℕ} {e : Ends} {s : List TokenForm} {one : Reader A} (sign : Sign) → Shrinks one → ((us : List TokenForm) → unless_sign sign us ≡ true → e us ≡ true) → Law v n e s one → (front : List A)
    → Law v n (unless_sign sign) [] (all_more sign one front)
more_law {n = n} {one = one} sign shrinks fits law front =
    law_as (λ ts. more_turns sign one (length ts) front ts)
    (turns_law (is_sign sign) add (sign_plain sign) shrinks fits (λ us h. sym (behind_sign_by sign us) ∙ none_is (behind_mark sign us) h) n law front)

pub more_next : {A : Type 0} (sign : Sign) (one : Reader A) → Shrinks one → (front : List A) (ts : List TokenForm)
    → all_more sign one front ts ≡ if_sign sign (after one (λ x. all_more sign one (front ++ x ∷ []))) (giving front) ts
unfolding if_sign after
more_next {A} sign one shrinks front ts =
    more_turns sign one (length ts) front ts ∙ turns_next (is_sign sign) add one shrinks front ts
    ∙ by_sign_same (is_sign sign) one (λ x. all_turns (is_sign sign) add one (front ++ x ∷ [])) (λ x. all_more sign one (front ++ x ∷ [])) (giving front ts) ts (λ x rest. sym (more_turns sign one (length rest) (front ++ x ∷ []) rest))
    ∙ sym (ap (λ (o : Option (List TokenForm)). if_behind o (after one (λ x. all_more sign one (front ++ x ∷ []))) (giving front ts)) (behind_sign_by sign ts))

-- parts with commas between them
pub listed_law : {v : Bool} {A : Type 0} {n : ℕ} {e : Ends} {s : List TokenForm} {one : Reader A} → Shrinks one → ((us : List TokenForm) → unless_sign Comma us ≡ true → e us ≡ true) → Law v n e s one
    → Law v n (unless_sign Comma) (s ++ []) (listed_at one)
unfolding listed_at after
listed_law {one = one} shrinks fits law = law_as {same = after one (λ x. all_more Comma one (x ∷ []))} (λ ts. refl) (after_law law (λ x. more_law Comma shrinks fits law (x ∷ [])) fits)
