-- What holds of each element of lists that are put together of others, as equivalences.
use Rattle.std.proofs.Common.{◌↔◌, List, [], ◌∷◌, ◌++◌, map}
use Rattle.std.specs.Prelude.{All}
use Rattle.std.proofs.lemmas.List.Elements.{All-nil, All-cons, All-head, All-tail, All-append}

module _ {X : Type 0} (P : X → Type 0) where
  -- one element
  pub one_iff : (x : X) → All P (x ∷ []) ↔ P x
  one_iff x = (λ h. All-head P x [] h, λ h. All-cons P x [] h (All-nil P))

  parts : (xs ys : List X) → All P (xs ++ ys) → All P xs × All P ys
  parts [] ys h = (All-nil P, h)
  parts (x ∷ xs) ys h =
      let rest = parts xs ys (All-tail P x (xs ++ ys) h) in
      (All-cons P x xs (All-head P x (xs ++ ys) h) rest.0, rest.1)

  -- one list behind another
  pub append_iff : (xs ys : List X) → All P (xs ++ ys) ↔ (All P xs × All P ys)
  append_iff xs ys = (parts xs ys, λ h. All-append P xs ys h.0 h.1)

  -- images, which have P exactly where the elements have Q
  pub map_iff : {Y : Type 0} (Q : Y → Type 0) (f : Y → X) → ((y : Y) → P (f y) ↔ Q y) → (ys : List Y) → All P (map f ys) ↔ All Q ys
  map_iff Q f e [] = (λ h. All-nil Q, λ h. All-nil P)
  map_iff Q f e (y ∷ ys) =
      let rest = map_iff Q f e ys in (
        λ h. All-cons Q y ys ((e y).0 (All-head P (f y) (map f ys) h)) (rest.0 (All-tail P (f y) (map f ys) h)),
        λ h. All-cons P (f y) (map f ys) ((e y).1 (All-head Q y ys h)) (rest.1 (All-tail Q y ys h)),
      )
