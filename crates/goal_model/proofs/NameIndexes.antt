-- The entry of a name, by its place among the entries' names.
use Rattle.std.proofs.Common.{◌≡◌, ℕ, suc, ◌+◌, ◌-◌, ◌<◌, ◌≤◌, Bool, true, false, cond, List, [], ◌∷◌, length, map, get_or, Option, Some, None, refl, sym, ap, ◌∙◌, arith, bytes_eq, position}
use Rattle.std.specs.Prelude.{find}
use Rattle.std.specs.List.{position_from}
use Rattle.std.proofs.lemmas.Iterator.Adapters.{position_from-zero}
use Rattle.goal_model.specs.declared.namespace.Declared.{Declared}

abbrev pub names : List Declared → List (List ℕ)
names ds = map (λ d. d.name) ds

find_from : (x : List ℕ) (ds : List Declared) (i k : ℕ) (d : Declared) → position_from (λ n. bytes_eq n x) i (names ds) ≡ Some k → (i ≤ k) × (k < i + length ds) × (find (λ e. bytes_eq e.name x) ds ≡ Some (get_or ds (k - i) d))
find_from x [] i k d h = absurd cc
find_from x (e ∷ es) i k d h = by (bytes_eq e.name x) h (find_from x es (i + 1) k d)
  where
    rest : Option ℕ
    rest = position_from (λ n. bytes_eq n x) (i + 1) (names es)

    by : (b : Bool) → cond b (Some i) rest ≡ Some k → (rest ≡ Some k → (i + 1 ≤ k) × (k < i + 1 + length es) × (find (λ e. bytes_eq e.name x) es ≡ Some (get_or es (k - (i + 1)) d)))
        → (i ≤ k) × (k < i + length (e ∷ es)) × (cond b (Some e) (find (λ e. bytes_eq e.name x) es) ≡ Some (get_or (e ∷ es) (k - i) d))
    by true here later =
        let same : i ≡ k = cc in
        let none : 0 ≡ k - i = omega (arith, same) in
        (omega (arith, same), omega (arith, same), ap (λ n. Some (get_or (e ∷ es) n d)) none)
    by false here later =
        let r = later here in
        let step : suc (k - (i + 1)) ≡ k - i = omega (arith, r.0) in
        (omega (arith, r.0), omega (arith, r.1), r.2 ∙ ap (λ n. Some (get_or (e ∷ es) n d)) step)

-- the entry at the place that is found
pub find_at : (x : List ℕ) (ds : List Declared) (k : ℕ) (d : Declared) → position (λ n. bytes_eq n x) (names ds) ≡ Some k → (k < length ds) × (find (λ e. bytes_eq e.name x) ds ≡ Some (get_or ds k d))
find_at x ds k d h =
    let r = find_from x ds 0 k d (sym (position_from-zero (λ n. bytes_eq n x) (names ds)) ∙ h) in
    let whole : k - 0 ≡ k = omega arith in
    (omega (arith, r.1), r.2 ∙ ap (λ n. Some (get_or ds n d)) whole)

none_from : (x : List ℕ) (ds : List Declared) (i : ℕ) → position_from (λ n. bytes_eq n x) i (names ds) ≡ None → find (λ e. bytes_eq e.name x) ds ≡ None
none_from x [] i h = refl
none_from x (e ∷ es) i h = by (bytes_eq e.name x) h (none_from x es (i + 1))
  where
    by : (b : Bool) → cond b (Some i) (position_from (λ n. bytes_eq n x) (i + 1) (names es)) ≡ None → (position_from (λ n. bytes_eq n x) (i + 1) (names es) ≡ None → find (λ e. bytes_eq e.name x) es ≡ None) → cond b (Some e) (find (λ e. bytes_eq e.name x) es) ≡ None
    by true here later = absurd cc
    by false here later = later here

-- no entry has a name that is not found
pub find_none : (x : List ℕ) (ds : List Declared) → position (λ n. bytes_eq n x) (names ds) ≡ None → find (λ e. bytes_eq e.name x) ds ≡ None
find_none x ds h = none_from x ds 0 (sym (position_from-zero (λ n. bytes_eq n x) (names ds)) ∙ h)
