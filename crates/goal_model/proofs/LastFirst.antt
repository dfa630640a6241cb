-- A search for an element that passes a test, the last element first.
use Rattle.std.proofs.Common.{◌≡◌, ℕ, ◌-◌, ◌<◌, ◌≤◌, ◌⊎◌, ⊎_elim, Bool, true, false, List, map, length, get_or, sym, ap, ◌∙◌, arith}
use Rattle.std.specs.List.{list_any}
use Rattle.std.proofs.lemmas.Bool.{cases_eq}
use Rattle.std.proofs.lemmas.List.{length-map, get_or-map}
use Rattle.std.proofs.lemmas.List.Folds.{list_any_at, list_any_none}

module _ {A B : Type 0} (f : A → B) (test : B → Bool) (xs : List A) where
  -- no element from a place on passes
  abbrev pub FailFrom : ℕ → Type 0
  FailFrom place = (k : ℕ) (d : B) → place ≤ k → k < length (map f xs) → test (get_or (map f xs) k d) ≡ false

  pub fail_start : FailFrom (length xs)
  fail_start k d behind inside = absurd (omega (arith, behind, inside, length-map xs f))

  at : (place : ℕ) (x : A) (d : B) → 0 < place → place ≤ length xs → x ≡ get_or xs (place - 1) x → get_or (map f xs) (place - 1) d ≡ f x
  at place x d some inside is = get_or-map f xs (place - 1) x d (omega (arith, some, inside)) ∙ ap f (sym is)

  pub fail_before : (place : ℕ) (x : A) → 0 < place → place ≤ length xs → x ≡ get_or xs (place - 1) x → test (f x) ≡ false → FailFrom place → FailFrom (place - 1)
  fail_before place x some inside is fails rest k d behind within =
      ⊎_elim (λ e. ap test (ap (λ n. get_or (map f xs) n d) e ∙ at place x d some inside is) ∙ fails)
      (λ other. rest k d (omega (arith, behind, other, some)) within) (cases_eq k (place - 1))

  pub passes_at : (place : ℕ) (x : A) → 0 < place → place ≤ length xs → x ≡ get_or xs (place - 1) x → test (f x) ≡ true → list_any test (map f xs) ≡ true
  passes_at place x some inside is passes =
      list_any_at test (map f xs) (place - 1) (f x) (omega (arith, some, inside, length-map xs f)) (ap test (at place x (f x) some inside is) ∙ passes)

  pub all_fail : (place : ℕ) → place ≤ 0 → FailFrom place → list_any test (map f xs) ≡ false
  all_fail place none fail = list_any_none test (map f xs) (λ k d l. fail k d (omega (arith, none)) l)
