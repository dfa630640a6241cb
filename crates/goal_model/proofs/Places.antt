-- The places of entity types and attributes, and the small numbers that the code has for them.
use Rattle.std.proofs.Common.{◌≡◌, ℕ, suc, ◌<◌, Bool, true, false, cond, List, [], ◌∷◌, length, map, Option, Some, None, Ok, Err, refl, subst, arith, bytes_eq}
use Rattle.std.specs.Prelude.{All, find, eqb}
use Rattle.std.proofs.lemmas.Bool.{eqb-true}
use Rattle.std.proofs.lemmas.List.{length-map}
use Rattle.std.proofs.lemmas.Option.{same_Some}
use Rattle.entity_types.specs.declared.entities.Entities.{Entities}
use Rattle.entity_types.specs.declared.entities.EntityType.{EntityType}
use Rattle.entity_types.specs.declared.entities.Attribute.{Attribute as AttributeRow}
use Rattle.entity_types.specs.View.{member_names, attributes}
use Rattle.goal_model.specs.declared.refusal.RefusalKind.TheVariants.{WrongKind}
use Rattle.goal_model.specs.declared.namespace.Kind.{Kind}
use Rattle.goal_model.specs.declared.namespace.Kind.TheVariants.{EntityType as EntityTypeKind, Attribute}
use Rattle.goal_model.specs.declared.namespace.Declared.{Declared}
use Rattle.goal_model.specs.Names.{place_of}
use Rattle.goal_model.specs.Refusals.{fault}
use Rattle.goal_model.specs.Scopes.{number_of, ScopeForm, either_of, as_kind, used}
use Rattle.goal_model.specs.WholeScopes.{PlaceIsOf, IsScope}

-- what is found has what all have
find_has : (P : Declared → Type 0) (test : Declared → Bool) (xs : List Declared) (x : Declared) → All P xs → find test xs ≡ Some x → P x
find_has P test [] x all e = absurd cc
find_has P test (y ∷ ys) x all e = by (test y) (find_has P test ys x (λ k d l. all (suc k) d (omega (arith, l)))) e
  where
    by : (b : Bool) → (find test ys ≡ Some x → P x) → cond b (Some y) (find test ys) ≡ Some x → P x
    by true rest h = subst P (same_Some y x h) (all 0 y (omega arith))
    by false rest h = rest h

-- the entry behind a name that is used as of a kind
entry_used : (s : ScopeForm) (kind : Kind) (x : List ℕ) (p : ℕ) → used s kind x ≡ Ok p → (d : Declared) × (find (λ d. bytes_eq d.name x) s.others ≡ Some d) × (number_of d.kind ≡ number_of kind) × (d.place ≡ p)
entry_used s kind x p e = by (place_of x s.names) (find (λ d. bytes_eq d.name x) s.others) e
  where
    of_kind : (d : Declared) (b : Bool) → eqb (number_of d.kind) (number_of kind) ≡ b → cond b (Ok d.place) (Err (fault WrongKind x)) ≡ Ok p → (number_of d.kind ≡ number_of kind) × (d.place ≡ p)
    of_kind d true same h = (eqb-true (number_of d.kind) (number_of kind) same, cc)
    of_kind d false same h = absurd cc

    by : (o : Option ℕ) (f : Option Declared) → as_kind kind x (either_of o f) ≡ Ok p → (d : Declared) × (f ≡ Some d) × (number_of d.kind ≡ number_of kind) × (d.place ≡ p)
    by (Some j) f h = absurd cc
    by None None h = absurd cc
    by None (Some d) h = let k = of_kind d (eqb (number_of d.kind) (number_of kind)) refl h in (d, refl, k.0, k.1)

pub type_inside : (s : ScopeForm) (x : List ℕ) (p : ℕ) → IsScope s → used s EntityTypeKind x ≡ Ok p → p < length s.members
type_inside s x p h e =
    let d = entry_used s EntityTypeKind x p e in
    subst (λ (k : ℕ). k < length s.members) d.3 ((find_has (PlaceIsOf s) (λ d. bytes_eq d.name x) s.others d.0 h.others d.1).0 d.2)

pub attribute_inside : (s : ScopeForm) (x : List ℕ) (p : ℕ) → IsScope s → used s Attribute x ≡ Ok p → p < length s.attributes
attribute_inside s x p h e =
    let d = entry_used s Attribute x p e in
    subst (λ (k : ℕ). k < length s.attributes) d.3 ((find_has (PlaceIsOf s) (λ d. bytes_eq d.name x) s.others d.0 h.others d.1).1 d.2)

-- entities have at most 2000 types
pub type_small : (entities : Entities) (p : ℕ) → p < length (member_names entities) → p < 65536
type_small entities p l = omega (arith, l, entities.few, length-map entities.types.items (λ (t : EntityType). t.members.items))

-- and at most 32 attributes, whose variables are among the first 64
pub attribute_small : (entities : Entities) (p : ℕ) → p < length (attributes entities) → p < 256
attribute_small entities p l =
    let rows : length (attributes entities) ≡ length entities.attributes.items = length-map entities.attributes.items (λ (a : AttributeRow). record { name = a.name; entity = a.entity; first = a.first }) in
    let there : p < length (map (λ (a : AttributeRow). a.entity) entities.attributes.items) = omega (arith, l, rows, length-map entities.attributes.items (λ (a : AttributeRow). a.entity)) in
    let inside = entities.placed.inside p there in
    let ordered = entities.placed.ordered p there in
    omega (arith, inside, ordered)
