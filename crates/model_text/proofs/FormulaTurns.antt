-- Reading a formula, a turn at a time.
use Rattle.std.proofs.Common.{◌≡◌, ℕ, zero, suc, ◌-◌, ◌<◌, ◌≤◌, List, [], ◌∷◌, ◌++◌, length, Option, Some, None, Ok, Err, refl, ap, arith}
use Rattle.state_space.specs.declared.keyword.Keyword.TheVariants as keywords
use Rattle.model_tokens.specs.declared.token.Sign.TheVariants.{Comma}
use Rattle.model_tokens.specs.Tokens.{TokenForm, keyword, mark, name, number, further, stray, bad_byte}
use Rattle.model_text.specs.RawTrees.{WrittenValue, a_word, RawTree}
use Rattle.model_text.specs.Reading.{and_then, behind_keyword, behind_mark, name_at}
use Rattle.model_text.specs.FormulaReading.{Reads, read_as, number_behind, value_at, more_values_at, opening_at, atom_at, primary_with, simple_with, prefix_with, chain, or_with, implies_from, prefix_at, whole_at}

-- a level of constructs down
pub prefix_step : (depth : ℕ) (ts : List TokenForm) → length ts ≤ depth → prefix_at depth ts ≡ prefix_with (prefix_at (depth - 1)) (whole_at (depth - 1)) ts
unfolding prefix_at whole_at prefix_with opening_at simple_with primary_with atom_at name_at
prefix_step zero [] h = refl
prefix_step zero (t ∷ ts) h = let never : ⊥ = omega arith in absurd never
prefix_step (suc d) ts h = let e : d ≡ suc d - 1 = omega arith in ap (λ (k : ℕ). prefix_with (prefix_at k) (whole_at k) ts) e

pub chain_more : (behind : List TokenForm → Option (List TokenForm)) (make : RawTree → RawTree → RawTree) (operand : Reads) (n : ℕ) (f : RawTree) (ts rest : List TokenForm)
    → 0 < n → behind ts ≡ Some rest → chain behind make operand n f ts ≡ and_then (operand rest) (λ g more. chain behind make operand (n - 1) (make f g) more)
unfolding chain
chain_more behind make operand zero f ts rest h e = let never : ⊥ = omega arith in absurd never
chain_more behind make operand (suc n) f ts rest h e =
    let k : n ≡ suc n - 1 = omega arith in
    rw e (ap (λ (m : ℕ). and_then (operand rest) (λ g more. chain behind make operand m (make f g) more)) k)

pub chain_done : (behind : List TokenForm → Option (List TokenForm)) (make : RawTree → RawTree → RawTree) (operand : Reads) (n : ℕ) (f : RawTree) (ts : List TokenForm)
    → behind ts ≡ None → chain behind make operand n f ts ≡ Ok (f, ts)
unfolding chain
chain_done behind make operand zero f ts e = refl
chain_done behind make operand (suc n) f ts e = rw e refl

pub values_more : (n : ℕ) (front : List WrittenValue) (ts rest : List TokenForm)
    → 0 < n → behind_mark Comma ts ≡ Some rest → more_values_at n front ts ≡ and_then (value_at rest) (λ v more. more_values_at (n - 1) (front ++ v ∷ []) more)
unfolding more_values_at
values_more zero front ts rest h e = let never : ⊥ = omega arith in absurd never
values_more (suc n) front ts rest h e =
    let k : n ≡ suc n - 1 = omega arith in
    rw e (ap (λ (m : ℕ). and_then (value_at rest) (λ v more. more_values_at m (front ++ v ∷ []) more)) k)

pub values_done : (n : ℕ) (front : List WrittenValue) (ts : List TokenForm) → behind_mark Comma ts ≡ None → more_values_at n front ts ≡ Ok (front, ts)
unfolding more_values_at
values_done zero front ts e = refl
values_done (suc n) front ts e = rw e refl

-- a value that is no truth value and no number is a name
pub value_by_name : (ts : List TokenForm) → behind_keyword keywords.True ts ≡ None → behind_keyword keywords.False ts ≡ None → number_behind ts ≡ None → value_at ts ≡ read_as (λ x. a_word x) (name_at ts)
unfolding value_at name_at
value_by_name [] t f n = refl
value_by_name (keyword keywords.True ∷ ts) t f n = absurd cc
value_by_name (keyword keywords.False ∷ ts) t f n = absurd cc
value_by_name (keyword k ∷ ts) t f n = refl
value_by_name (mark m ∷ ts) t f n = refl
value_by_name (name x ∷ ts) t f n = refl
value_by_name (number s d ∷ ts) t f n = absurd cc
value_by_name (further f ∷ ts) t e n = refl
value_by_name (stray ∷ ts) t f n = refl
value_by_name (bad_byte ∷ ts) t f n = refl

pub implies_fails : (prefix : Reads) (n : ℕ) (ts rest : List TokenForm) → or_with prefix ts ≡ Err rest → implies_from prefix n ts ≡ Err rest
unfolding implies_from
implies_fails prefix zero ts rest e = e
implies_fails prefix (suc n) ts rest e = rw e refl
