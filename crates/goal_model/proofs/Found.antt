-- What names that are found stand for: a variable of the scope, or a place below the count of its kind.
use Rattle.std.proofs.Common.{◌≡◌, ℕ, suc, ◌<◌, Bool, true, false, cond, if◌then◌else◌, List, [], ◌∷◌, ◌++◌, length, Option, Some, None, Ok, Err, refl, ap, subst, ◌∙◌, arith, bytes_eq}
use Rattle.std.specs.Prelude.{All, find, not, eqb, slice_index}
use Rattle.std.proofs.lemmas.Bool.{eqb-true}
use Rattle.std.proofs.lemmas.List.Elements.{All-push}
use Rattle.std.proofs.lemmas.List.Quantifiers.{position-Some}
use Rattle.std.proofs.lemmas.Option.{same_Some}
use Rattle.goal_model.specs.declared.refusal.RefusalKind.{RefusalKind}
use Rattle.goal_model.specs.declared.refusal.RefusalKind.TheVariants.{DuplicateName, WrongKind}
use Rattle.goal_model.specs.declared.refusal.Fault.{Fault}
use Rattle.goal_model.specs.declared.namespace.Kind.{Kind}
use Rattle.goal_model.specs.declared.namespace.Declared.{Declared}
use Rattle.goal_model.specs.Names.{place_of, is_among}
use Rattle.goal_model.specs.Refusals.{Resolved, and_then, fault, refused, holds, wanted}
use Rattle.goal_model.specs.Scopes.{number_of, ScopeForm, either_of, as_variable, as_kind, variable_in, used, listed_from}

-- the parts of what was resolved
pub then_ok : {A B : Type 0} (o : Resolved A) (next : A → Resolved B) (y : B) → and_then o next ≡ Ok y → (x : A) × (o ≡ Ok x) × (next x ≡ Ok y)
then_ok (Ok x) next y e = (x, refl, e)
then_ok (Err f) next y e = absurd cc

pub held : (b : Bool) (kind : RefusalKind) (x : List ℕ) (y : Unit {0}) → holds b kind x ≡ Ok y → b ≡ true
held true kind x y e = refl
held false kind x y e = absurd cc

abbrev pub resolved : {A : Type 0} → A → Resolved A
resolved x = Ok x

pub same_ok : {A : Type 0} (x y : A) → resolved x ≡ resolved y → x ≡ y
same_ok x y e = cc

-- a choice that gave a value
pub picked : {A : Type 0} (b : Bool) (x y : A) (kind : RefusalKind) (name : List ℕ) → (if b then Ok x else refused kind name) ≡ Ok y → (b ≡ true) × (x ≡ y)
picked true x y kind name e = (refl, cc)
picked false x y kind name e = absurd cc

pub was_there : {A : Type 0} (o : Option A) (kind : RefusalKind) (name : List ℕ) (x : A) → wanted o kind name ≡ Ok x → o ≡ Some x
was_there (Some a) kind name x e = let same : a ≡ x = cc in ap Some same
was_there None kind name x e = absurd cc

pub place_inside : (x : List ℕ) (names : List (List ℕ)) (k : ℕ) → place_of x names ≡ Some k → k < length names
place_inside x names k e = (position-Some (λ n. bytes_eq n x) names k x e).0

-- what is found has what all have
pub find_has : (P : Declared → Type 0) (test : Declared → Bool) (xs : List Declared) (x : Declared) → All P xs → find test xs ≡ Some x → P x
find_has P test [] x all e = absurd cc
find_has P test (y ∷ ys) x all e = by (test y) (find_has P test ys x (λ k d l. all (suc k) d (omega (arith, l)))) e
  where
    by : (b : Bool) → (find test ys ≡ Some x → P x) → cond b (Some y) (find test ys) ≡ Some x → P x
    by true rest h = subst P (same_Some y x h) (all 0 y (omega arith))
    by false rest h = rest h

-- a variable of the scope
pub variable_inside : (s : ScopeForm) (x : List ℕ) (k : ℕ) → variable_in s x ≡ Ok k → k < length s.names
variable_inside s x k e = by (place_of x s.names) (find (λ d. bytes_eq d.name x) s.others) refl e
  where
    by : (o : Option ℕ) (d : Option Declared) → place_of x s.names ≡ o → as_variable x (either_of o d) ≡ Ok k → k < length s.names
    by (Some j) d is h = let same : j ≡ k = cc in (position-Some (λ n. bytes_eq n x) s.names k x (is ∙ ap Some same)).0
    by None (Some d) is h = absurd cc
    by None None is h = absurd cc

-- a place of a kind
of_kind : (P : (number place : ℕ) → Type 0) (kind : Kind) (p : ℕ) (d : Declared) (b : Bool) (refusal : Resolved ℕ) (f : Fault) → refusal ≡ Err f → eqb (number_of d.kind) (number_of kind) ≡ b → P (number_of d.kind) d.place
    → cond b (Ok d.place) refusal ≡ Ok p → P (number_of kind) p
of_kind P kind p d true refusal f failed same has h =
    let place : d.place ≡ p = cc in
    subst (P (number_of kind)) place (subst (λ k. P k d.place) (eqb-true (number_of d.kind) (number_of kind) same) has)
of_kind P kind p d false refusal f failed same has h = absurd cc

-- the place of a used name has what the places of all declared names have
pub used_has : (P : (number place : ℕ) → Type 0) (s : ScopeForm) (kind : Kind) (x : List ℕ) (p : ℕ) → All (λ e. P (number_of e.kind) e.place) s.others → used s kind x ≡ Ok p → P (number_of kind) p
used_has P s kind x p places e = by (place_of x s.names) (find (λ d. bytes_eq d.name x) s.others) refl e
  where
    by : (o : Option ℕ) (d : Option Declared) → find (λ d. bytes_eq d.name x) s.others ≡ d → as_kind kind x (either_of o d) ≡ Ok p → P (number_of kind) p
    by (Some j) d is h = absurd cc
    by None None is h = absurd cc
    by None (Some d) is h =
        of_kind P kind p d (eqb (number_of d.kind) (number_of kind)) (Err (fault WrongKind x)) (fault WrongKind x) refl refl (find_has (λ e. P (number_of e.kind) e.place) (λ d. bytes_eq d.name x) s.others d places is) h

pub used_inside : (s : ScopeForm) (counts : List ℕ) (kind : Kind) (x : List ℕ) (p : ℕ) → All (λ e. e.place < slice_index counts (number_of e.kind)) s.others → used s kind x ≡ Ok p → p < slice_index counts (number_of kind)
used_inside s counts kind x p places e = used_has (λ number place. place < slice_index counts number) s kind x p places e

-- the places of a list
pub listed_inside : (P : ℕ → Type 0) (place : List ℕ → Resolved ℕ) → ((x : List ℕ) (p : ℕ) → place x ≡ Ok p → P p) → (front : List (List ℕ)) (places : List ℕ) (xs : List (List ℕ)) (all : List ℕ) → All P places → listed_from place front places xs ≡ Ok all → All P all
unfolding listed_from
listed_inside P place found front places [] all before e = let same : places ≡ all = cc in subst (All P) same before
listed_inside P place found front places (x ∷ xs) all before e =
    let s = then_ok (place x) (λ p. and_then (holds (not (is_among x front)) DuplicateName x) (λ _. listed_from place (front ++ x ∷ []) (places ++ p ∷ []) xs)) all e in
    let t = then_ok (holds (not (is_among x front)) DuplicateName x) (λ _. listed_from place (front ++ x ∷ []) (places ++ s.0 ∷ []) xs) all s.2 in
    listed_inside P place found (front ++ x ∷ []) (places ++ s.0 ∷ []) xs all (All-push P places s.0 before (found x s.0 s.1)) t.2
