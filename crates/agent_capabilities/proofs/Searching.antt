-- The first variable that is in a set, or that is not, and what it tells of coverage.
use Rattle.std.proofs.Common.{◌≡◌, ℕ, zero, suc, ◌<◌, Bool, true, false, List, [], ◌∷◌, ◌++◌, Option, None, Some, is_some, refl, ap, ◌∙◌, sym, arith}
use Rattle.std.specs.Prelude.{option_map, not, find, max, bit_or, cond, ◌==◌, ◌||◌}
use Rattle.std.specs.Int.{bit_at}
use Rattle.std.specs.List.{list_any}
use Rattle.std.proofs.lemmas.Bool.{false≢true}
use Rattle.std.proofs.lemmas.Nat.Bits.{bit_at_or, bit_at-lt}
use Rattle.std.specs.Option.{option_or}
use Rattle.std.proofs.lemmas.List.Folds.{find-append}
use Rattle.state_space.specs.declared.values.VarId.{VarId}
use Rattle.goal_model.specs.Models.{AgentForm}
use Rattle.agent_capabilities.specs.Coverage.{is_in, is_seen, is_controlled, covered, not_controlled, first_without, some_controlled, first_with}

pub first_append : (set : ℕ) (inside : Bool) (xs ys : List ℕ) → first_with set inside (xs ++ ys) ≡ option_or (first_with set inside xs) (first_with set inside ys)
first_append set true xs ys = find-append (is_in set) xs ys
first_append set false xs ys = find-append (λ x. not (is_in set x)) xs ys

pub number_or : (x y : Option VarId) → option_map (λ v. v.0) (option_or x y) ≡ option_or (option_map (λ v. v.0) x) (option_map (λ v. v.0) y)
number_or (Some x) y = refl
number_or None y = refl

-- of the one, or else of the other
pub first_or : (set : ℕ) (inside : Bool) (xs ys : List ℕ) (x y : Option VarId) → option_map (λ v. v.0) x ≡ first_with set inside xs → option_map (λ v. v.0) y ≡ first_with set inside ys
    → option_map (λ v. v.0) (option_or x y) ≡ first_with set inside (xs ++ ys)
first_or set inside xs ys x y a b = number_or x y ∙ ap (λ o. option_or o (option_map (λ v. v.0) y)) a ∙ ap (option_or (first_with set inside xs)) b ∙ sym (first_append set inside xs ys)

-- ---- what an agent sees

greater_bit : (a b : ℕ) → a < 2 → b < 2 → (max a b == 1) ≡ ((a == 1) || (b == 1))
greater_bit zero zero l k = refl
greater_bit zero (suc zero) l k = refl
greater_bit (suc zero) zero l k = refl
greater_bit (suc zero) (suc zero) l k = refl
greater_bit zero (suc (suc b)) l k = absurd (omega (arith, k))
greater_bit (suc zero) (suc (suc b)) l k = absurd (omega (arith, k))
greater_bit (suc (suc a)) b l k = absurd (omega (arith, l))

-- a variable is seen where it is in one of the two sets
seen_in_both : (agent : AgentForm) (x : ℕ) → is_in (bit_or agent.monitors agent.controls) x ≡ is_seen agent x
seen_in_both agent x =
    ap (λ n. n == 1) (bit_at_or agent.monitors agent.controls x) ∙ greater_bit (bit_at agent.monitors x) (bit_at agent.controls x) (bit_at-lt agent.monitors x) (bit_at-lt agent.controls x)

-- the first that is in neither set is the first that is not seen
pub first_unseen : (agent : AgentForm) (set : ℕ) (variables : List ℕ) → set ≡ bit_or agent.monitors agent.controls → first_with set false variables ≡ first_without (is_seen agent) variables
first_unseen agent set variables is =
    ap (λ n. first_with n false variables) is ∙ ap (λ (test : ℕ → Bool). first_without test variables) (λ i x. seen_in_both agent x i)

-- ---- what an agent controls

any_found : (test : ℕ → Bool) (xs : List ℕ) → is_some (find test xs) ≡ list_any test xs
any_found test [] = refl
any_found test (x ∷ xs) = by (test x) (any_found test xs)
  where
    by : (b : Bool) → is_some (find test xs) ≡ list_any test xs → is_some (cond b (Some x) (find test xs)) ≡ (b || list_any test xs)
    by true rest = refl
    by false rest = rest

-- one that is controlled covers the others
pub some_found : (agent : AgentForm) (variables : List ℕ) → is_some (first_with agent.controls true variables) ≡ true → some_controlled agent variables ≡ covered
some_found agent [] some = refl
some_found agent (x ∷ xs) some = ap (λ b. cond b covered (not_controlled x)) (sym (any_found (is_controlled agent) (x ∷ xs)) ∙ some)

-- where none is controlled, the first of all decides
pub none_found : (agent : AgentForm) (variables : List ℕ) (x : ℕ) → is_some (first_with agent.controls true variables) ≡ false → first_with agent.controls false variables ≡ Some x → some_controlled agent variables ≡ not_controlled x
none_found agent [] x none first = absurd cc
none_found agent (y ∷ ys) x none first =
    ap (λ b. cond b covered (not_controlled y)) (sym (any_found (is_controlled agent) (y ∷ ys)) ∙ none) ∙ by (is_controlled agent y) none first
  where
    by : (b : Bool) → is_some (cond b (Some y) (find (is_controlled agent) ys)) ≡ false → cond (not b) (Some y) (first_without (is_controlled agent) ys) ≡ Some x → not_controlled y ≡ not_controlled x
    by true none first = absurd (false≢true (sym none))
    by false none first = ap (λ n. not_controlled n) (some_is first)
      where
        some_is : Some y ≡ Some x → y ≡ x
        some_is e = cc

-- a variable is there where its number is
pub number_there : (x : Option VarId) → is_some (option_map (λ v. v.0) x) ≡ is_some x
number_there (Some x) = refl
number_there None = refl
