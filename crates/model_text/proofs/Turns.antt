-- Reading, a turn at a time.
use Rattle.std.proofs.Common.{◌≡◌, ℕ, zero, suc, ◌-◌, ◌<◌, ◌≤◌, List, [], ◌∷◌, ◌++◌, length, Some, None, Ok, Err, refl, ap, arith}
use Rattle.model_text.specs.declared.cursor.Fault.{Fault}
use Rattle.model_text.specs.declared.cursor.Fault.TheVariants.{Syntax, Memory}
use Rattle.model_tokens.specs.declared.token.Sign.{Sign}
use Rattle.model_tokens.specs.Tokens.{TokenForm}
use Rattle.model_text.specs.Statements.{StatementForm}
use Rattle.model_text.specs.Reading.{Reading, and_then, behind_mark, Gives}
use Rattle.model_text.specs.FormulaReading.{read_as}
use Rattle.model_text.specs.Readers.{Reader, more_at}
use Rattle.model_text.specs.StatementReading.{ended_statement_at, statements_at}

-- a fault of a part is one of the whole
pub fails_so : {A B C D : Type 0} (see : A → C) (sight : B → D) (e : Fault) (rest : List TokenForm) (part : Reading C) (whole : Reading D)
    → Gives see (Err e) rest part → (part ≡ Err rest → whole ≡ Err rest) → Gives sight (Err e) rest whole
fails_so see sight Memory rest part whole h k = tt
fails_so see sight Syntax rest part whole h k = k h

-- a fault of a part that counts as something else is one of the part
pub read_as_fails : {A B : Type 0} (make : A → B) (o : Reading A) (rest : List TokenForm) → read_as make o ≡ Err rest → o ≡ Err rest
read_as_fails make (Ok x) rest e = absurd cc
read_as_fails {B = B} make (Err r) rest e = ap (λ (us : List TokenForm). Err us) (same r rest e)
  where
    same : (r s : List TokenForm) → ◌≡◌ {A = Reading B} (Err r) (Err s) → r ≡ s
    same r s e = cc

pub more_more : {A : Type 0} (sign : Sign) (one : Reader A) (n : ℕ) (front : List A) (ts us : List TokenForm)
    → 0 < n → behind_mark sign ts ≡ Some us → more_at sign one n front ts ≡ and_then (one us) (λ x rest. more_at sign one (n - 1) (front ++ x ∷ []) rest)
unfolding more_at
more_more sign one zero front ts us h e = let never : ⊥ = omega arith in absurd never
more_more {A} sign one (suc n) front ts us h e = let k : n ≡ suc n - 1 = omega arith in rw e (ap (λ (m : ℕ). and_then (one us) (λ x rest. more_at sign one m (front ++ x ∷ []) rest)) k)

pub more_done : {A : Type 0} (sign : Sign) (one : Reader A) (n : ℕ) (front : List A) (ts : List TokenForm) → behind_mark sign ts ≡ None → more_at sign one n front ts ≡ Ok (front, ts)
unfolding more_at
more_done sign one zero front ts e = refl
more_done sign one (suc n) front ts e = rw e refl

pub statements_more : (n : ℕ) (front : List StatementForm) (ts : List TokenForm) → 0 < length ts → length ts ≤ n → statements_at n front ts ≡ and_then (ended_statement_at ts) (λ s rest. statements_at (n - 1) (front ++ s ∷ []) rest)
unfolding statements_at
statements_more n front [] h le = let never : ⊥ = omega arith in absurd never
statements_more zero front (t ∷ ts) h le = let never : ⊥ = omega arith in absurd never
statements_more (suc n) front (t ∷ ts) h le = let k : n ≡ suc n - 1 = omega arith in ap (λ (m : ℕ). and_then (ended_statement_at (t ∷ ts)) (λ s rest. statements_at m (front ++ s ∷ []) rest)) k

pub statements_done : (n : ℕ) (front : List StatementForm) (ts : List TokenForm) → length ts ≡ 0 → statements_at n front ts ≡ Ok (front, ts)
unfolding statements_at
statements_done zero front [] e = refl
statements_done (suc n) front [] e = refl
statements_done n front (t ∷ ts) e = let never : ⊥ = omega arith in absurd never
