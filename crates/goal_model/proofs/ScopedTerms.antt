-- Terms of a scope: the variables that they name are there, and have the range of their term; so are those of lists.
use Rattle.std.proofs.Common.{◌≡◌, ℕ, suc, ◌+◌, ◌<◌, List, [], ◌∷◌, ◌++◌, length, map, get_or, Option, Some, None, Ok, refl, sym, ap, subst, ◌∙◌, arith, bytes_eq, slice_get, slice_index}
use Rattle.std.specs.Prelude.{All, find, not, ◌==◌}
use Rattle.std.proofs.lemmas.Bool.{eqb-true}
use Rattle.std.proofs.lemmas.Option.{slice_get-get_or, slice_get_within}
use Rattle.std.proofs.lemmas.List.{length-map, get_or-map}
use Rattle.std.proofs.lemmas.List.Elements.{All-nil, All-cons, All-push, All-append}
use Rattle.std.proofs.lemmas.List.Quantifiers.{position-Some}
use Rattle.state_space.specs.Ranges.{truth_values, IsGoodRange}
use Rattle.entity_types.specs.WrittenTrees.{TermForm, plain, of_member, of_bound}
use Rattle.entity_types.specs.Rows.{count_of}
use Rattle.entity_types.specs.Fits.{TermIsThere}
use Rattle.entity_types.specs.WrittenTruth.{named_by}
use Rattle.entity_types.specs.View.{AttributeForm}
use Rattle.goal_model.specs.declared.refusal.RefusalKind.TheVariants.{DuplicateName, UnknownName, WrongKind}
use Rattle.goal_model.specs.declared.namespace.Kind.TheVariants.{EntityType, Attribute}
use Rattle.goal_model.specs.declared.namespace.Declared.{Declared}
use Rattle.goal_model.specs.Names.{place_of}
use Rattle.goal_model.specs.Refusals.{and_then, holds, wanted}
use Rattle.goal_model.specs.Scopes.{number_of, ScopeForm, rows_in, range_at, either_of, used, level_of}
use Rattle.goal_model.specs.VariableLists.{numbers_from, row_of, as_row, row_in, do_meet, variables_from, variables_in}
use Rattle.goal_model.specs.Terms.{entity_of, members_at, bound_type, bracketed, term_in, first_of, range_of}
use Rattle.goal_model.specs.Models.{AttributeIsOf}
use Rattle.goal_model.specs.WholeScopes.{PlaceIsOf, IsScope}
use Rattle.goal_model.proofs.Found.{then_ok, same_ok, picked, was_there, place_inside, find_has, used_has}

-- ---- attributes

abbrev no_attribute : AttributeForm
no_attribute = record { name = []; entity = 0; first = 0 }

-- the attribute of a number
abbrev attribute_at : ScopeForm → ℕ → AttributeForm
attribute_at s a = get_or s.attributes a no_attribute

-- the variable of an attribute's first member
abbrev first_at : ScopeForm → ℕ → ℕ
first_at s a = slice_index (rows_in s).firsts a

module _ (s : ScopeForm) (good : IsScope s) (a : ℕ) (there : a < length s.attributes) where
  owner_is : entity_of s a ≡ (attribute_at s a).entity
  owner_is = get_or-map (λ t. t.entity) s.attributes a no_attribute 0 there

  first_is : first_at s a ≡ (attribute_at s a).first
  first_is = get_or-map (λ t. t.first) s.attributes a no_attribute 0 there

  is_of : AttributeIsOf s.names s.ranges s.members (attribute_at s a)
  is_of = good.attributes a no_attribute there

  pub type_inside : entity_of s a < length s.members
  type_inside = subst (λ n. n < length s.members) (sym owner_is) is_of.entity

  of_owner : (k : ℕ) → k < length (members_at s (entity_of s a)) → k < length (members_at s (attribute_at s a).entity)
  of_owner k l = subst (λ n. k < length (members_at s n)) owner_is l

  -- the variable of a member is there
  pub member_inside : (k : ℕ) → k < length (members_at s (entity_of s a)) → first_at s a + k < length s.names
  member_inside k l =
      let xs = members_at s (attribute_at s a).entity in
      let named = is_of.named k (get_or xs k []) (slice_get-get_or xs k [] (of_owner k l)) in
      subst (λ n. n + k < length s.names) (sym first_is) (slice_get_within s.names ((attribute_at s a).first + k) _ named)

  -- its range is that of the first one
  member_range : (k : ℕ) → k < length (members_at s (entity_of s a)) → range_at s (first_at s a + k) ≡ range_at s (first_at s a)
  member_range k l = subst (λ n. range_at s (n + k) ≡ range_at s n) (sym first_is) (is_of.ranged k (of_owner k l))

  some_member : 0 < length (members_at s (entity_of s a))
  some_member = omega (arith, (good.members (entity_of s a) [] type_inside).0)

  first_inside : first_at s a < length s.names
  first_inside = omega (arith, member_inside 0 some_member)

  pub count_is : count_of (rows_in s) (entity_of s a) ≡ length (members_at s (entity_of s a))
  count_is = get_or-map length s.members (entity_of s a) [] 0 type_inside

-- ---- terms

-- the scope outside of all quantifiers
abbrev pub outside : ScopeForm → ScopeForm
outside s = record { names = s.names; ranges = s.ranges; members = s.members; attributes = s.attributes; others = s.others; bound = [] }

-- the types of the quantifiers around
abbrev pub bound_types : ScopeForm → List ℕ
bound_types s = map (λ b. b.entity) s.bound

-- under quantifiers over these types, the variable, or the attribute and its member, are there
abbrev pub TermIsOver : ScopeForm → (types : List ℕ) → TermForm → Type 0
TermIsOver s types (plain x) = x < length s.names
TermIsOver s types (of_member a m) = (a < length s.attributes) × (m < length (members_at s (entity_of s a)))
TermIsOver s types (of_bound a level) = (a < length s.attributes) × (slice_get types level ≡ Some (entity_of s a))

-- an entity type that is used is there, and so is an attribute
pub type_found : (s : ScopeForm) → IsScope s → (x : List ℕ) (e : ℕ) → used s EntityType x ≡ Ok e → e < length s.members
type_found s good x e h =
    (used_has (λ number place. (number ≡ number_of EntityType → place < length s.members) × (number ≡ number_of Attribute → place < length s.attributes)) s EntityType x e good.others h).0 refl

pub attribute_found : (s : ScopeForm) → IsScope s → (x : List ℕ) (a : ℕ) → used s Attribute x ≡ Ok a → a < length s.attributes
attribute_found s good x a h =
    (used_has (λ number place. (number ≡ number_of EntityType → place < length s.members) × (number ≡ number_of Attribute → place < length s.attributes)) s Attribute x a good.others h).1 refl

bracketed_found : (s : ScopeForm) (a : ℕ) (y : List ℕ) (o : Option ℕ) (t : TermForm) → a < length s.attributes → ((level : ℕ) → o ≡ Some level → level < length s.bound) → bracketed s a y o ≡ Ok t → TermIsOver (outside s) (bound_types s) t
bracketed_found s a y (Some level) t there inside e =
    let c = picked (bound_type s level == entity_of s a) (of_bound a level) t WrongKind y e in
    let found : slice_get (bound_types s) level ≡ Some (bound_type s level) = slice_get-get_or (bound_types s) level 0 (omega (arith, inside level refl, length-map s.bound (λ b. b.entity))) in
    subst (TermIsOver (outside s) (bound_types s)) c.1 (there, found ∙ ap Some (eqb-true (bound_type s level) (entity_of s a) c.0))
bracketed_found s a y None t there inside e =
    let m = then_ok (wanted (place_of y (members_at s (entity_of s a))) UnknownName y) (λ m. Ok (of_member a m)) t e in
    let same : of_member a m.0 ≡ t = same_ok (of_member a m.0) t m.2 in
    subst (TermIsOver (outside s) (bound_types s)) same (there, place_inside y (members_at s (entity_of s a)) m.0 (was_there (place_of y (members_at s (entity_of s a))) UnknownName y m.0 m.1))

pub term_found : (s : ScopeForm) → IsScope s → (f y : List ℕ) (t : TermForm) → term_in s f y ≡ Ok t → TermIsOver (outside s) (bound_types s) t
term_found s good f y t e =
    let u = then_ok (used s Attribute f) (λ a. bracketed s a y (level_of s y)) t e in
    bracketed_found s u.0 y (level_of s y) t (attribute_found s good f u.0 u.1) (λ level h. (position-Some (λ b. bytes_eq b.name y) s.bound level (record { name = []; entity = 0 }) h).0) u.2

-- ---- ranges

-- quantifiers have no part in a term's range
pub outer_range : (s : ScopeForm) (t : TermForm) → range_of (outside s) t ≡ range_of s t
outer_range s (plain x) = refl
outer_range s (of_member a m) = refl
outer_range s (of_bound a level) = refl

first_there : (s : ScopeForm) → IsScope s → (types : List ℕ) (t : TermForm) → TermIsOver (outside s) types t → first_of s t < length s.ranges
first_there s good types (plain x) h = omega (arith, h, good.count)
first_there s good types (of_member a m) h = omega (arith, first_inside s good a h.0, good.count)
first_there s good types (of_bound a level) h = omega (arith, first_inside s good a h.0, good.count)

pub range_good : (s : ScopeForm) → IsScope s → (types : List ℕ) (t : TermForm) → TermIsOver (outside s) types t → IsGoodRange (range_of s t)
range_good s good types t h = good.ranges (first_of s t) truth_values (first_there s good types t h)

-- the variable that a term names under a choice is there, and of the term's range
pub named_over : (s : ScopeForm) → IsScope s → (types choice : List ℕ) (t : TermForm) → TermIsOver (outside s) types t → TermIsThere (rows_in s) choice t
    → (named_by (rows_in s) choice t < length s.ranges) × (range_at s (named_by (rows_in s) choice t) ≡ range_of s t)
named_over s good types choice (plain x) h there = (omega (arith, h, good.count), refl)
named_over s good types choice (of_member a m) h there = (omega (arith, member_inside s good a h.0 m h.1, good.count), member_range s good a h.0 m h.1)
named_over s good types choice (of_bound a level) h there =
    let l : slice_index choice level < length (members_at s (entity_of s a)) = omega (arith, there.2, count_is s good a h.0) in
    (omega (arith, member_inside s good a h.0 (slice_index choice level) l, good.count), member_range s good a h.0 (slice_index choice level) l)

-- ---- lists of variables

numbers_inside : (n k : ℕ) (xs : List (List ℕ)) → ((j : ℕ) → j < length xs → k + j < n) → All (λ i. i < n) (numbers_from k xs)
numbers_inside n k [] each = All-nil (λ i. i < n)
numbers_inside n k (x ∷ xs) each = All-cons (λ i. i < n) k (numbers_from (k + 1) xs) (omega (arith, each 0 (omega arith))) (numbers_inside n (k + 1) xs (λ j l. omega (arith, each (suc j) (omega (arith, l)))))

pub row_inside : (s : ScopeForm) → IsScope s → (x : List ℕ) (row : List ℕ) → row_in s x ≡ Ok row → All (λ k. k < length s.names) row
row_inside s good x row e = by (place_of x s.names) (find (λ d. bytes_eq d.name x) s.others) refl refl e
  where
    Below : ℕ → Type 0
    Below k = k < length s.names

    by : (o : Option ℕ) (d : Option Declared) → place_of x s.names ≡ o → find (λ d. bytes_eq d.name x) s.others ≡ d → as_row s x (either_of o d) ≡ Ok row → All Below row
    by (Some k) d is found h =
        let same : k ∷ [] ≡ row = cc in
        subst (All Below) same (All-push Below [] k (All-nil Below) (place_inside x s.names k is))
    by None None is found h = absurd cc
    by None (Some d) is found h =
        let c = picked (number_of d.kind == number_of Attribute) (row_of s d.place) row WrongKind x h in
        let there = (find_has (PlaceIsOf s) (λ d. bytes_eq d.name x) s.others d good.others found).1 (eqb-true (number_of d.kind) (number_of Attribute) c.0) in
        subst (All Below) c.1 (numbers_inside (length s.names) (first_at s d.place) (members_at s (entity_of s d.place)) (λ j l. member_inside s good d.place there j l))

rows_inside : (s : ScopeForm) → IsScope s → (front : List ℕ) (xs : List (List ℕ)) (ks : List ℕ) → All (λ k. k < length s.names) front → variables_from s front xs ≡ Ok ks → All (λ k. k < length s.names) ks
unfolding variables_from
rows_inside s good front [] ks before e = let same : front ≡ ks = cc in subst (All (λ k. k < length s.names)) same before
rows_inside s good front (x ∷ xs) ks before e =
    let row = then_ok (row_in s x) (λ row. and_then (holds (not (do_meet row front)) DuplicateName x) (λ _. variables_from s (front ++ row) xs)) ks e in
    let apart = then_ok (holds (not (do_meet row.0 front)) DuplicateName x) (λ _. variables_from s (front ++ row.0) xs) ks row.2 in
    rows_inside s good (front ++ row.0) xs ks (All-append (λ k. k < length s.names) front row.0 before (row_inside s good x row.0 row.1)) apart.2

pub variables_inside : (s : ScopeForm) → IsScope s → (xs : List (List ℕ)) (ks : List ℕ) → variables_in s xs ≡ Ok ks → All (λ k. k < length s.names) ks
variables_inside s good xs ks e = rows_inside s good [] xs ks (All-nil (λ k. k < length s.names)) e
