-- The place of a name in a list of names.
use Rattle.std.proofs.Common.{◌≡◌, ℕ, ◌<◌, ◌≤◌, List, length, get_or, Some, None, sym, ap, ◌∙◌, arith, bytes_eq, position, slice_get, Contains, ⊎_elim}
use Rattle.std.specs.List.{position_or_len}
use Rattle.std.proofs.lemmas.Bool.{cond-true, lt-ltb, cases_lt, false≢true}
use Rattle.std.proofs.lemmas.List.Quantifiers.{position-Some}
use Rattle.std.proofs.lemmas.List.Sums.{fails_before_first}
use Rattle.std.proofs.lemmas.Option.{slice_get-get_or, none-some}
use Rattle.std.proofs.lemmas.Slice.Eq.{bytes_eq-Decides}

pub found_at : (names : List (List ℕ)) (name : List ℕ) (k : ℕ) → position (λ n. bytes_eq n name) names ≡ Some k → slice_get names k ≡ Some name
found_at names name k e =
    let s = position-Some (λ n. bytes_eq n name) names k name e in
    slice_get-get_or names k name s.0 ∙ ap Some ((bytes_eq-Decides (get_or names k name) name).0 s.1)

pub among_found : (names : List (List ℕ)) (name : List ℕ) (k : ℕ) → position (λ n. bytes_eq n name) names ≡ Some k → Contains names name
among_found names name k e =
    let s = position-Some (λ n. bytes_eq n name) names k name e in
    (k, s.0, (bytes_eq-Decides (get_or names k name) name).0 s.1)

pub none_among : (names : List (List ℕ)) (name : List ℕ) → position (λ n. bytes_eq n name) names ≡ None → ¬ (Contains names name)
none_among names name e has = ⊎_elim here past (cases_lt (position_or_len (λ n. bytes_eq n name) names) (length names))
  where
    here : position_or_len (λ n. bytes_eq n name) names < length names → ⊥
    here l = none-some (position_or_len (λ n. bytes_eq n name) names) (sym e ∙ cond-true _ _ _ (lt-ltb _ _ l))

    past : length names ≤ position_or_len (λ n. bytes_eq n name) names → ⊥
    past g =
        let fails = fails_before_first (λ n. bytes_eq n name) names has.0 name (omega (arith, has.1)) in
        false≢true (sym fails ∙ (bytes_eq-Decides (get_or names has.0 name) name).1 has.2)
