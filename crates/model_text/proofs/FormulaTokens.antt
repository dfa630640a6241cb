-- What stands before the tokens behind a keyword, a sign or a number.
use Rattle.std.proofs.Common.{◌≡◌, ℕ, Bool, true, false, List, [], ◌∷◌, get_or, Option, Some, None, Ok, Err, refl, sym, ap, ◌∙◌, inl, inr}
use Rattle.std.specs.Prelude.{◌⊎◌, ◌==◌, ◌&&◌, if◌then◌else◌, is_none}
use Rattle.std.proofs.lemmas.Bool.{eqb-true}
use Rattle.state_space.specs.declared.keyword.Keyword.{Keyword}
use Rattle.state_space.specs.declared.keyword.Keyword.TheVariants as keys
use Rattle.state_space.specs.Keywords.{number as keyword_number}
use Rattle.model_tokens.specs.declared.token.Sign.{Sign}
use Rattle.model_tokens.specs.declared.token.Sign.TheVariants as signs
use Rattle.model_tokens.specs.declared.token.Further.{Further}
use Rattle.model_tokens.specs.declared.token.Further.TheVariants as furthers
use Rattle.model_tokens.specs.Tokens.{TokenForm, keyword, mark, further, number_of, further_number}
use Rattle.model_text.specs.Reading.{Reading, and_then, behind_keyword, behind_mark, behind_further, required, mark_at, further_at}
use Rattle.model_text.specs.FormulaReading.{if_behind, read_as}

-- the keywords and the signs in the order of their places
keyword_list : List Keyword
keyword_list = keys.Kaos ∷ keys.Var ∷ keys.Domain ∷ keys.Rule ∷ keys.Goal ∷ keys.Obstacle ∷ keys.Refine ∷ keys.Obstruct ∷ keys.Conflict ∷ keys.Agent ∷ keys.Assign ∷ keys.Expect ∷ keys.Operation ∷ keys.Require ∷ keys.Operationalise ∷ keys.Trace ∷ keys.Bool ∷ keys.By ∷ keys.Using ∷ keys.Boundary ∷ keys.Monitors ∷ keys.Controls ∷ keys.To ∷ keys.Of ∷ keys.Dompre ∷ keys.Dompost ∷ keys.On ∷ keys.Pre ∷ keys.Trig ∷ keys.Post ∷ keys.Exact ∷ keys.Loop ∷ keys.Entails ∷ keys.Iff ∷ keys.Implies ∷ keys.Or ∷ keys.And ∷ keys.Until ∷ keys.Unless ∷ keys.Release ∷ keys.Within ∷ keys.Not ∷ keys.Next ∷ keys.Eventually ∷ keys.Always ∷ keys.In ∷ keys.True ∷ keys.False ∷ []

mark_list : List Sign
mark_list = signs.Semicolon ∷ signs.Colon ∷ signs.Comma ∷ signs.OpenParenthesis ∷ signs.CloseParenthesis ∷ signs.OpenBrace ∷ signs.CloseBrace ∷ signs.Equal ∷ signs.NotEqual ∷ signs.Below ∷ signs.AtMost ∷ signs.Above ∷ signs.AtLeast ∷ signs.Dots ∷ []

keyword_back : (k : Keyword) → get_or keyword_list (keyword_number k) keys.Kaos ≡ k
unfolding keyword_list
keyword_back keys.Kaos = refl
keyword_back keys.Var = refl
keyword_back keys.Domain = refl
keyword_back keys.Rule = refl
keyword_back keys.Goal = refl
keyword_back keys.Obstacle = refl
keyword_back keys.Refine = refl
keyword_back keys.Obstruct = refl
keyword_back keys.Conflict = refl
keyword_back keys.Agent = refl
keyword_back keys.Assign = refl
keyword_back keys.Expect = refl
keyword_back keys.Operation = refl
keyword_back keys.Require = refl
keyword_back keys.Operationalise = refl
keyword_back keys.Trace = refl
keyword_back keys.Bool = refl
keyword_back keys.By = refl
keyword_back keys.Using = refl
keyword_back keys.Boundary = refl
keyword_back keys.Monitors = refl
keyword_back keys.Controls = refl
keyword_back keys.To = refl
keyword_back keys.Of = refl
keyword_back keys.Dompre = refl
keyword_back keys.Dompost = refl
keyword_back keys.On = refl
keyword_back keys.Pre = refl
keyword_back keys.Trig = refl
keyword_back keys.Post = refl
keyword_back keys.Exact = refl
keyword_back keys.Loop = refl
keyword_back keys.Entails = refl
keyword_back keys.Iff = refl
keyword_back keys.Implies = refl
keyword_back keys.Or = refl
keyword_back keys.And = refl
keyword_back keys.Until = refl
keyword_back keys.Unless = refl
keyword_back keys.Release = refl
keyword_back keys.Within = refl
keyword_back keys.Not = refl
keyword_back keys.Next = refl
keyword_back keys.Eventually = refl
keyword_back keys.Always = refl
keyword_back keys.In = refl
keyword_back keys.True = refl
keyword_back keys.False = refl

mark_back : (m : Sign) → get_or mark_list (number_of m) signs.Semicolon ≡ m
unfolding mark_list
mark_back signs.Semicolon = refl
mark_back signs.Colon = refl
mark_back signs.Comma = refl
mark_back signs.OpenParenthesis = refl
mark_back signs.CloseParenthesis = refl
mark_back signs.OpenBrace = refl
mark_back signs.CloseBrace = refl
mark_back signs.Equal = refl
mark_back signs.NotEqual = refl
mark_back signs.Below = refl
mark_back signs.AtMost = refl
mark_back signs.Above = refl
mark_back signs.AtLeast = refl
mark_back signs.Dots = refl

further_list : List Further
further_list = furthers.Entity ∷ furthers.Attr ∷ furthers.All ∷ furthers.Some ∷ furthers.OpenArgument ∷ []

further_back : (f : Further) → get_or further_list (further_number f) furthers.Entity ≡ f
unfolding further_list
further_back furthers.Entity = refl
further_back furthers.Attr = refl
further_back furthers.All = refl
further_back furthers.Some = refl
further_back furthers.OpenArgument = refl

same_further : (a b : Further) → further_number a ≡ further_number b → a ≡ b
same_further a b e = sym (further_back a) ∙ ap (λ (n : ℕ). get_or further_list n furthers.Entity) e ∙ further_back b

same_keyword : (a b : Keyword) → keyword_number a ≡ keyword_number b → a ≡ b
same_keyword a b e = sym (keyword_back a) ∙ ap (λ (n : ℕ). get_or keyword_list n keys.Kaos) e ∙ keyword_back b

same_mark : (a b : Sign) → number_of a ≡ number_of b → a ≡ b
same_mark a b e = sym (mark_back a) ∙ ap (λ (n : ℕ). get_or mark_list n signs.Semicolon) e ∙ mark_back b

some_if : (b : Bool) (ts rest : List TokenForm) → (if b then Some ts else None) ≡ Some rest → (b ≡ true) × (ts ≡ rest)
some_if true ts rest e = (refl, cc)
some_if false ts rest e = absurd cc

pub keyword_is : (wanted : Keyword) (ts rest : List TokenForm) → behind_keyword wanted ts ≡ Some rest → ts ≡ keyword wanted ∷ rest
keyword_is wanted [] rest e = absurd cc
keyword_is wanted (keyword found ∷ ts) rest e =
    let p = some_if (keyword_number found == keyword_number wanted) ts rest e in
    let same = same_keyword found wanted (eqb-true (keyword_number found) (keyword_number wanted) p.0) in
    ap (λ (k : Keyword). keyword k ∷ ts) same ∙ ap (λ (us : List TokenForm). keyword wanted ∷ us) p.1
keyword_is wanted (t ∷ ts) rest e = absurd cc

pub mark_is : (wanted : Sign) (ts rest : List TokenForm) → behind_mark wanted ts ≡ Some rest → ts ≡ mark wanted ∷ rest
mark_is wanted [] rest e = absurd cc
mark_is wanted (mark found ∷ ts) rest e =
    let p = some_if (number_of found == number_of wanted) ts rest e in
    let same = same_mark found wanted (eqb-true (number_of found) (number_of wanted) p.0) in
    ap (λ (m : Sign). mark m ∷ ts) same ∙ ap (λ (us : List TokenForm). mark wanted ∷ us) p.1
mark_is wanted (t ∷ ts) rest e = absurd cc

pub further_is : (wanted : Further) (ts rest : List TokenForm) → behind_further wanted ts ≡ Some rest → ts ≡ further wanted ∷ rest
further_is wanted [] rest e = absurd cc
further_is wanted (further found ∷ ts) rest e =
    let p = some_if (further_number found == further_number wanted) ts rest e in
    let same = same_further found wanted (eqb-true (further_number found) (further_number wanted) p.0) in
    ap (λ (f : Further). further f ∷ ts) same ∙ ap (λ (us : List TokenForm). further wanted ∷ us) p.1
further_is wanted (t ∷ ts) rest e = absurd cc

-- ---- the parts of what was read

pub ok_parts : {A : Type 0} (a b : A) (ts us : List TokenForm) → ◌≡◌ {A = Reading A} (Ok (a, ts)) (Ok (b, us)) → (a ≡ b) × (ts ≡ us)
ok_parts {A} a b ts us e = (ap (λ (r : Reading A). part_or a r) e, ap (λ (r : Reading A). rest_or ts r) e)
  where
    part_or : {A : Type 0} → A → Reading A → A
    part_or a (Ok x) = x.0
    part_or a (Err x) = a

    rest_or : {A : Type 0} → List TokenForm → Reading A → List TokenForm
    rest_or ts (Ok x) = x.1
    rest_or ts (Err x) = ts

pub and_then_ok : {A B : Type 0} (o : Reading A) (k : A → List TokenForm → Reading B) (y : B) (rest : List TokenForm)
    → ◌≡◌ {A = Reading B} (and_then o k) (Ok (y, rest)) → (x : A) × (more : List TokenForm) × (o ≡ Ok (x, more)) × (k x more ≡ Ok (y, rest))
and_then_ok (Err d) k y rest e = absurd cc
and_then_ok (Ok x) k y rest e = (x.0, x.1, refl, e)

pub read_as_ok : {A B : Type 0} (make : A → B) (o : Reading A) (y : B) (rest : List TokenForm)
    → ◌≡◌ {A = Reading B} (read_as make o) (Ok (y, rest)) → (x : A) × (o ≡ Ok (x, rest)) × (make x ≡ y)
read_as_ok make (Err d) y rest e = absurd cc
read_as_ok {A} make (Ok x) y rest e = let p = ok_parts (make x.0) y x.1 rest e in (x.0, ap (λ (us : List TokenForm). ok_with x.0 us) p.1, p.0)
  where
    ok_with : {A : Type 0} → A → List TokenForm → Reading A
    ok_with a us = Ok (a, us)

-- which way was taken
pub if_behind_cases : {B : Type 0} (o : Option (List TokenForm)) (go : List TokenForm → B) (otherwise y : B)
    → if_behind o go otherwise ≡ y → ((rest : List TokenForm) × (o ≡ Some rest) × (go rest ≡ y)) ⊎ ((o ≡ None) × (otherwise ≡ y))
if_behind_cases (Some rest) go otherwise y e = inl (rest, refl, e)
if_behind_cases None go otherwise y e = inr (refl, e)

pub mark_at_is : (wanted : Sign) (ts : List TokenForm) (x : Unit {0}) (rest : List TokenForm) → mark_at wanted ts ≡ Ok (x, rest) → ts ≡ mark wanted ∷ rest
mark_at_is wanted ts x rest e = required_is (behind_mark wanted ts) refl e
  where
    required_is : (o : Option (List TokenForm)) → behind_mark wanted ts ≡ o → required o ts ≡ Ok (x, rest) → ts ≡ mark wanted ∷ rest
    required_is None is e = absurd cc
    required_is (Some more) is e = mark_is wanted ts more is ∙ ap (λ (us : List TokenForm). mark wanted ∷ us) (ok_parts tt x more rest e).1

pub further_at_is : (wanted : Further) (ts : List TokenForm) (x : Unit {0}) (rest : List TokenForm) → further_at wanted ts ≡ Ok (x, rest) → ts ≡ further wanted ∷ rest
further_at_is wanted ts x rest e = required_is (behind_further wanted ts) refl e
  where
    required_is : (o : Option (List TokenForm)) → behind_further wanted ts ≡ o → required o ts ≡ Ok (x, rest) → ts ≡ further wanted ∷ rest
    required_is None is e = absurd cc
    required_is (Some more) is e = further_is wanted ts more is ∙ ap (λ (us : List TokenForm). further wanted ∷ us) (ok_parts tt x more rest e).1

-- ---- tests

pub both_left : (a b : Bool) → (a && b) ≡ true → a ≡ true
both_left true b e = refl
both_left false b e = e

pub both_right : (a b : Bool) → (a && b) ≡ true → b ≡ true
both_right true b e = e
both_right false b e = absurd cc

pub none_is : {A : Type 0} (o : Option A) → is_none o ≡ true → o ≡ None
none_is None e = refl
none_is (Some x) e = absurd cc
