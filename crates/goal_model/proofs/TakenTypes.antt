-- Entity types and attributes that were added, as a model under way has them.
use Rattle.std.proofs.Common.{◌≡◌, ℕ, ◌+◌, true, false, List, [], ◌∷◌, ◌++◌, length, map, Ok, refl, subst}
use Rattle.std.specs.Prelude.{nat_le}
use Rattle.std.proofs.lemmas.Bool.{le-leb}
use Rattle.state_space.specs.Ranges.{RangeForm}
use Rattle.entity_types.specs.View.{AttributeForm}
use Rattle.entity_types.specs.Joined.{joined_names}
use Rattle.entity_types.specs.Attributes.{is_some_long, TakesAttribute}
use Rattle.goal_model.specs.declared.namespace.Kind.TheVariants.{EntityType, Attribute}
use Rattle.goal_model.specs.declared.namespace.Declared.{Declared}
use Rattle.goal_model.specs.ValueIndexes.{apart_from, has_few_values}
use Rattle.goal_model.specs.Scopes.{fresh}
use Rattle.goal_model.specs.Drafts.{DraftForm, scope_of}
use Rattle.goal_model.specs.Resolution.{has_few_members, entity_type_taken, all_fresh, row_taken}

-- the draft with other names, entity types and attributes
abbrev pub renewed : DraftForm → List Declared → List (List ℕ) → List RangeForm → List (List ℕ) → List (List (List ℕ)) → List AttributeForm → DraftForm
renewed d others names ranges types members attributes =
    record d { others = others; model = record d.model { names = names; ranges = ranges; types = types; members = members; attributes = attributes } }

pub type_added : (d : DraftForm) (x : List ℕ) (ms : List (List ℕ)) (place : ℕ) (others : List Declared) (types : List (List ℕ)) (members : List (List (List ℕ))) (attributes : List AttributeForm)
    → fresh (scope_of d) x ≡ Ok tt → apart_from [] ms ≡ Ok tt → has_few_members ms ≡ true → place ≡ length d.model.members
    → others ≡ d.others ++ (record { name = x; kind = EntityType; place = place }) ∷ [] → types ≡ d.model.types ++ x ∷ [] → members ≡ d.model.members ++ ms ∷ [] → attributes ≡ d.model.attributes
    → entity_type_taken d x ms ≡ Ok (renewed d others d.model.names d.model.ranges types members attributes)
type_added d x ms place others types members attributes new apart few at o t m a = rw (new, apart, few, o, at, t, m, a) refl

pub row_added : (d : DraftForm) (f owned : List ℕ) (entity : ℕ) (ms : List (List ℕ)) (range given : RangeForm) (place : ℕ) (others : List Declared) (names : List (List ℕ)) (ranges : List RangeForm) (types : List (List ℕ)) (members : List (List (List ℕ))) (attributes : List AttributeForm)
    → owned ≡ f → given ≡ range → has_few_values range ≡ true → all_fresh (scope_of d) (joined_names f ms) ≡ Ok tt → TakesAttribute d.model.names owned ms given → place ≡ length d.model.attributes
    → others ≡ d.others ++ (record { name = f; kind = Attribute; place = place }) ∷ [] → names ≡ d.model.names ++ joined_names owned ms → ranges ≡ d.model.ranges ++ map (λ m. given) ms
    → types ≡ d.model.types → members ≡ d.model.members → attributes ≡ d.model.attributes ++ (record { name = owned; entity = entity; first = length d.model.names }) ∷ []
    → row_taken d f entity ms range ≡ Ok (renewed d others names ranges types members attributes)
row_added d f owned entity ms range given place others names ranges types members attributes name values few new takes at o n r t m a =
    let short : is_some_long f ms ≡ false = subst (λ x. is_some_long x ms ≡ false) name takes.short in
    let room : nat_le (length d.model.names + length ms) 64 ≡ true = le-leb (length d.model.names + length ms) 64 takes.room in
    rw (few, short, new, room, o, n, r, t, m, a, at, name, values) refl
