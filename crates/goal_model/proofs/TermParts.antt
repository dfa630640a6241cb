-- Terms: the type, the members and the variables of an attribute, as the code finds them.
use Rattle.std.proofs.Common.{◌≡◌, ℕ, ◌+◌, ◌<◌, Bool, true, false, if◌then◌else◌, List, [], length, map, get_or, Option, Some, None, Ok, ◌⊎◌, ⊎_elim, eqb, refl, sym, ap, subst, ◌∙◌, arith}
use Rattle.std.specs.Prelude.{slice_index}
use Rattle.std.proofs.lemmas.Bool.{eq-eqb, ne_eqb}
use Rattle.std.proofs.lemmas.List.{get_or-map, length-map}
use Rattle.std.proofs.lemmas.Option.{slice_get-get_or, slice_get_within}
use Rattle.entity_types.specs.declared.entities.Entities.{Entities}
use Rattle.entity_types.specs.declared.entities.Attribute.{Attribute}
use Rattle.entity_types.specs.Rows.{Rows, owner_of, count_of, variable_of}
use Rattle.entity_types.specs.declared.written.Term.{Term}
use Rattle.entity_types.specs.declared.written.Term.TheVariants as terms
use Rattle.entity_types.specs.WrittenTrees.{TermForm, plain, of_member, of_bound}
use Rattle.entity_types.specs.View.{AttributeForm, attributes, rows_of, term_of}
use Rattle.entity_types.proofs.EntityFacts.{types_have_members}
use Rattle.goal_model.specs.declared.refusal.RefusalKind.TheVariants.{UnknownName, WrongKind}
use Rattle.goal_model.specs.declared.namespace.Bound.{Bound}
use Rattle.goal_model.specs.declared.namespace.Scope.{Scope}
use Rattle.goal_model.specs.Names.{place_of}
use Rattle.goal_model.specs.Refusals.{and_then, refused, wanted}
use Rattle.goal_model.specs.Scopes.{ScopeForm, rows_in, scope_of}
use Rattle.goal_model.specs.Terms.{entity_of, members_at, bound_type, bracketed, first_of}
use Rattle.goal_model.specs.Models.{AttributeIsOf}
use Rattle.goal_model.specs.WholeScopes.{IsScope, TermIsOf}
use Rattle.goal_model.proofs.EntityViews.{rows_same}

-- ---- the type of an attribute

pub owner_same : (s : Scope) (a : ℕ) → entity_of (scope_of s) a ≡ owner_of (rows_of s.entities.now) a
owner_same s a = ap (λ rows. owner_of rows a) (sym (rows_same s.entities.now))

-- what is there in a list of forms is there in the code's
pub attribute_there : (entities : Entities) (a : ℕ) → a < length (attributes entities) → a < length (rows_of entities).owners
attribute_there entities a l =
    let rows : length (attributes entities) ≡ length entities.attributes.items = length-map entities.attributes.items (λ (a : Attribute). record { name = a.name; entity = a.entity; first = a.first }) in
    omega (arith, l, rows, length-map entities.attributes.items (λ (a : Attribute). a.entity))

-- its type has members
pub members_there : (entities : Entities) (a : ℕ) → a < length (attributes entities) → 0 < count_of (rows_of entities) (owner_of (rows_of entities) a)
members_there entities a l =
    types_have_members entities (owner_of (rows_of entities) a) (entities.placed.owned a (attribute_there entities a l))

-- ---- what stands in brackets

-- the type of a bound name
pub bound_at : (bounds : List Bound) (k : ℕ) (b : Bound) → k < length bounds → slice_index (map (λ b. b.entity) bounds) k ≡ (get_or bounds k b).entity
bound_at bounds k b l = get_or-map (λ (b : Bound). b.entity) bounds k b 0 l

chosen : {A : Type 0} (b : Bool) (x y : A) → b ≡ true → (if b then x else y) ≡ x
chosen b x y e = rw e refl

not_chosen : {A : Type 0} (b : Bool) (x y : A) → b ≡ false → (if b then x else y) ≡ y
not_chosen b x y e = rw e refl

pub level_chosen : (s : ScopeForm) (a : ℕ) (y : List ℕ) (k : ℕ) → bound_type s k ≡ entity_of s a → bracketed s a y (Some k) ≡ Ok (of_bound a k)
level_chosen s a y k e = chosen (eqb (bound_type s k) (entity_of s a)) _ _ (eq-eqb (bound_type s k) (entity_of s a) e)

pub level_refused : (s : ScopeForm) (a : ℕ) (y : List ℕ) (k : ℕ) → (bound_type s k ≡ entity_of s a → ⊥) → bracketed s a y (Some k) ≡ refused WrongKind y
level_refused s a y k other = not_chosen (eqb (bound_type s k) (entity_of s a)) _ _ (ne_eqb (bound_type s k) (entity_of s a) other)

-- a member by its name
pub member_sought : (s : ScopeForm) (a : ℕ) (y : List ℕ) (entity : ℕ) (z : List ℕ) (o : Option ℕ) → entity_of s a ≡ entity → z ≡ y → o ≡ place_of z (members_at s entity)
    → bracketed s a y None ≡ and_then (wanted o UnknownName y) (λ m. Ok (of_member a m))
member_sought s a y entity z o e same is =
    let sought : place_of y (members_at s (entity_of s a)) ≡ o = ap (λ (k : ℕ). place_of y (members_at s k)) e ∙ ap (λ (x : List ℕ). place_of x (members_at s entity)) (sym same) ∙ sym is in
    ap (λ (p : Option ℕ). and_then (wanted p UnknownName y) (λ m. Ok (of_member a m))) sought

-- ---- the first variable

-- an attribute's term
abbrev pub IsTermOf : Term → ℕ → Type 0
IsTermOf t a = ((x : ℕ) × (t ≡ terms.Of a x)) ⊎ ((x : ℕ) × (t ≡ terms.Bound a x))

pub term_there : (s : ScopeForm) (t : Term) (a : ℕ) → IsTermOf t a → TermIsOf s (term_of t) → a < length s.attributes
term_there s t a is h = ⊎_elim (λ p. subst (λ (u : Term). TermIsOf s (term_of u)) p.1 h) (λ p. subst (λ (u : Term). TermIsOf s (term_of u)) p.1 h) is

pub first_found : (s : Scope) (t : Term) (a k : ℕ) → IsTermOf t a → k ≡ variable_of (rows_of s.entities.now) a 0 → k ≡ first_of (scope_of s) (term_of t)
first_found s t a k is e =
    let rows : slice_index (rows_of s.entities.now).firsts a ≡ slice_index (rows_in (scope_of s)).firsts a = ap (λ (r : Rows). slice_index r.firsts a) (rows_same s.entities.now) in
    let first : first_of (scope_of s) (term_of t) ≡ slice_index (rows_in (scope_of s)).firsts a =
    ⊎_elim (λ p. ap (λ (u : Term). first_of (scope_of s) (term_of u)) p.1) (λ p. ap (λ (u : Term). first_of (scope_of s) (term_of u)) p.1) is in
    omega (arith, e, rows, first)

-- each variable of an attribute is one of the scope
module _ (s : ScopeForm) (a : ℕ) (h : IsScope s) (l : a < length s.attributes) where
  abbrev nothing : AttributeForm
  nothing = record { name = []; entity = 0; first = 0 }

  abbrev f : AttributeForm
  f = get_or s.attributes a nothing

  is : AttributeIsOf s.names s.ranges s.members f
  is = h.attributes a nothing l

  first : slice_index (rows_in s).firsts a ≡ f.first
  first = get_or-map (λ (a : AttributeForm). a.first) s.attributes a nothing 0 l

  members_same : members_at s (entity_of s a) ≡ get_or s.members f.entity []
  members_same = ap (λ (k : ℕ). get_or s.members k []) (get_or-map (λ (a : AttributeForm). a.entity) s.attributes a nothing 0 l)

  pub some_member : 0 < length (members_at s (entity_of s a))
  some_member = omega (arith, (h.members f.entity [] is.entity).0, ap (λ (xs : List (List ℕ)). length xs) members_same)

  pub attribute_at : (k : ℕ) → k < length (members_at s (entity_of s a)) → slice_index (rows_in s).firsts a + k < length s.names
  attribute_at k b =
      let members = get_or s.members f.entity [] in
      let there : k < length members = omega (arith, b, ap (λ (xs : List (List ℕ)). length xs) members_same) in
      omega (arith, first, slice_get_within s.names (f.first + k) _ (is.named k (get_or members k []) (slice_get-get_or members k [] there)))

attribute_first : (s : ScopeForm) (a : ℕ) → IsScope s → a < length s.attributes → slice_index (rows_in s).firsts a < length s.names
attribute_first s a h l = omega (arith, attribute_at s a h l 0 (some_member s a h l))

-- so the first variable of a term is there
pub first_inside : (s : ScopeForm) (t : TermForm) → IsScope s → TermIsOf s t → first_of s t < length s.names
first_inside s (plain x) h l = l
first_inside s (of_member a m) h l = attribute_first s a h l
first_inside s (of_bound a level) h l = attribute_first s a h l
