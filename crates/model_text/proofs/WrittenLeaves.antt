-- Names, numbers, bounds and values are written so that they count as the same.
use Rattle.std.proofs.Common.{◌≡◌, ℕ, zero, suc, ◌<◌, ◌≤◌, Bool, true, false, List, length, take, Some, refl, sym, ap, ◌∙◌, arith}
use Rattle.std.specs.Prelude.{◌^◌, ◌==◌, ◌&&◌, not, min, pos, neg_ℤ, decimal, if◌then◌else◌}
use Rattle.std.proofs.lemmas.List.{take_all, length-take}
use Rattle.source_sink.proofs.DigitValues.{decimal_value}
use Rattle.state_space.specs.declared.keyword.Keyword.TheVariants as keywords
use Rattle.temporal_logic.specs.Ltl.{Relation, is_same, is_other, is_below, is_at_most, is_above, is_at_least}
use Rattle.model_tokens.specs.Tokens.{TokenForm, keyword, name, number}
use Rattle.model_text.specs.RawTrees.{WrittenValue, a_word, a_number, a_truth, an_attribute}
use Rattle.model_tokens.specs.Values.{cut_name, magnitude, number_value, bound_value}
use Rattle.model_text.specs.Leaves.{relation_of, value_of}
use Rattle.model_text.specs.Writing.{number_token, value_token, sign_of}

-- a name that was cut is cut no further
pub cut_again : (x : List ℕ) → cut_name (cut_name x) ≡ cut_name x
cut_again x = let short : length (take 40 x) ≤ 40 = omega (arith, length-take 40 x) in take_all 40 (take 40 x) short

pub magnitude_again : (n : ℕ) → n ≤ 1000000001 → magnitude (decimal n) ≡ n
unfolding magnitude
magnitude_again n h = let small : n < 2 ^ 64 = omega arith in omega (arith, decimal_value n small)

pub magnitude_bounded : (digits : List ℕ) → magnitude digits ≤ 1000000001
unfolding magnitude
magnitude_bounded digits = omega arith

-- a number is written as one that counts as it
pub number_again : (s : Bool) (d : List ℕ) → (t : Bool) × (e : List ℕ) × (number_token (number_value s d) ≡ number t e) × (number_value t e ≡ number_value s d)
unfolding number_value
number_again false d = (false, decimal (magnitude d), refl, ap pos (magnitude_again (magnitude d) (magnitude_bounded d)))
number_again true d = negative (magnitude d) (magnitude_bounded d)
  where
    negative : (n : ℕ) → n ≤ 1000000001 → (t : Bool) × (e : List ℕ) × (number_token (neg_ℤ (pos n)) ≡ number t e) × (number_value t e ≡ neg_ℤ (pos n))
    negative zero h = (false, decimal 0, refl, ap pos (magnitude_again 0 h))
    negative (suc n) h = (true, decimal (suc n), refl, ap (λ (k : ℕ). neg_ℤ (pos k)) (magnitude_again (suc n) h))

pub bound_bounded : (s : Bool) (d : List ℕ) → bound_value s d ≤ 101
unfolding bound_value
bound_bounded s d = bounded (s && not (magnitude d == 0)) (magnitude d)
  where
    bounded : (b : Bool) (n : ℕ) → (if b then 101 else min n 101) ≤ 101
    bounded true n = omega arith
    bounded false n = omega arith

-- a bound is written as one that counts as it
pub bound_again : (s : Bool) (d : List ℕ) → bound_value false (decimal (bound_value s d)) ≡ bound_value s d
unfolding bound_value
bound_again s d = again (bound_value s d) (bound_bounded s d)
  where
    again : (n : ℕ) → n ≤ 101 → bound_value false (decimal n) ≡ n
    again n h = let small : n ≤ 1000000001 = omega arith in omega (arith, magnitude_again n small)

pub sign_again : (r : Relation) → relation_of (sign_of r) ≡ Some r
sign_again is_same = refl
sign_again is_other = refl
sign_again is_below = refl
sign_again is_at_most = refl
sign_again is_above = refl
sign_again is_at_least = refl

-- a value is written as a token that has it
pub value_again : (t : TokenForm) (v : WrittenValue) → value_of t ≡ Some v → value_of (value_token v) ≡ Some v
value_again (name x) (a_word y) e = let is : cut_name x ≡ y = cc in ap (λ z. Some (a_word z)) (ap cut_name (sym is) ∙ cut_again x ∙ is)
value_again (name x) (a_number n) e = absurd cc
value_again (name x) (a_truth b) e = absurd cc
value_again (name x) (an_attribute f y) e = absurd cc
value_again (number s d) (a_word y) e = absurd cc
value_again (number s d) (a_number n) e =
    let is : number_value s d ≡ n = cc in
    let again = number_again s d in
    ap value_of (ap number_token (sym is) ∙ again.2) ∙ ap (λ z. Some (a_number z)) (again.3 ∙ is)
value_again (number s d) (a_truth b) e = absurd cc
value_again (number s d) (an_attribute f y) e = absurd cc
value_again t (a_truth true) e = refl
value_again t (a_truth false) e = refl
value_again (keyword keywords.True) (a_word y) e = absurd cc
value_again (keyword keywords.True) (a_number n) e = absurd cc
value_again (keyword keywords.True) (an_attribute f y) e = absurd cc
value_again (keyword keywords.False) (a_word y) e = absurd cc
value_again (keyword keywords.False) (a_number n) e = absurd cc
value_again (keyword keywords.False) (an_attribute f y) e = absurd cc
value_again t v e = absurd cc

pub one_again : number_value false (decimal 1) ≡ pos 1
unfolding number_value
one_again = ap pos (magnitude_again 1 (omega arith))

pub two_again : number_value false (decimal 2) ≡ pos 2
unfolding number_value
two_again = ap pos (magnitude_again 2 (omega arith))
