-- The members of a set in order, and their texts with commas between.
use Rattle.std.proofs.Common.{◌≡◌, ℕ, ◌+◌, List, [], ◌∷◌, ◌++◌, length, map, sym, ap, ◌∙◌, append-nil, append_assoc, add-one, arith, Bool, false}
use Rattle.std.specs.Prelude.{codes, if◌then◌else◌, ◌==◌}
use Rattle.std.specs.List.{flat_map}
use Rattle.std.specs.Int.{bit_at}
use Rattle.std.proofs.lemmas.Bool.{cond-true, cond-false, eq-eqb, ne_eqb}
use Rattle.std.proofs.lemmas.List.{map_push, flat_map_more, length-map}
use Rattle.state_space.specs.ValueTexts.{members, listed}

listed_push : (xs : List (List ℕ)) (y : List ℕ) → listed (xs ++ y ∷ []) ≡ listed xs ++ (if length xs == 0 then y else codes ", " ++ y)
listed_push [] y = append-nil y
listed_push (x ∷ xs) y =
    sym (flat_map_more (λ z. codes ", " ++ z) x xs y)
    ∙ ap (λ zs. (x ++ flat_map (λ z. codes ", " ++ z) xs) ++ zs) (sym (cond-false (length (x ∷ xs) == 0) y (codes ", " ++ y) (ne_eqb (length (x ∷ xs)) 0 (λ e. omega arith))))

pub members_with : (set n : ℕ) → bit_at set n ≡ 1 → members set (n + 1) ≡ members set n ++ n ∷ []
members_with set n e = rw add-one (cond-true (bit_at set n == 1) _ _ (eq-eqb (bit_at set n) 1 e))

pub members_without : (set n : ℕ) → ¬ (bit_at set n ≡ 1) → members set n ≡ members set (n + 1)
members_without set n e = rw add-one (sym (cond-false (bit_at set n == 1) _ _ (ne_eqb (bit_at set n) 1 e)))

pub listed_more : (f : ℕ → List ℕ) (set n : ℕ) (before now : List ℕ) (first : Bool) → bit_at set n ≡ 1 → now ≡ before ++ listed (map f (members set n)) → first ≡ (length (members set n) == 0) → now ++ (if first then f n else codes ", " ++ f n) ≡ before ++ listed (map f (members set (n + 1)))
listed_more f set n before now first e h g =
    let xs = members set n in
    let push : listed (map f (members set (n + 1))) ≡ listed (map f xs) ++ (if length (map f xs) == 0 then f n else codes ", " ++ f n) = ap (λ ys. listed (map f ys)) (members_with set n e) ∙ ap listed (map_push f xs n) ∙ listed_push (map f xs) (f n) in
    let count : (length (map f xs) == 0) ≡ first = ap (λ k. k == 0) (length-map xs f) ∙ sym g in
    ap (λ ys. ys ++ (if first then f n else codes ", " ++ f n)) h ∙ append_assoc before (listed (map f xs)) (if first then f n else codes ", " ++ f n) ∙ sym (ap (λ ys. before ++ ys) (push ∙ ap (λ b. listed (map f xs) ++ (if b then f n else codes ", " ++ f n)) count))

pub not_first : (set n : ℕ) → bit_at set n ≡ 1 → false ≡ (length (members set (n + 1)) == 0)
not_first set n e =
    rw (members_with set n e) (sym (ne_eqb (length (members set n ++ n ∷ [])) 0 (λ z. some (members set n) n z)))
  where
    some : (xs : List ℕ) (x : ℕ) → length (xs ++ x ∷ []) ≡ 0 → ⊥
    some [] x z = omega (arith, z)
    some (y ∷ ys) x z = omega (arith, z)
