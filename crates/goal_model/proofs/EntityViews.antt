-- Entities as a model sees them: their rows are those of its members and attributes, and the variables of their attributes are among its names.
use Rattle.std.proofs.Common.{◌≡◌, ℕ, ◌+◌, ◌<◌, List, [], ◌∷◌, length, map, get_or, Some, refl, sym, ap, ap₂, subst, ◌∙◌, arith, slice_get}
use Rattle.std.specs.Prelude.{All}
use Rattle.std.proofs.lemmas.List.{length-map, get_or-map}
use Rattle.state_space.specs.Ranges.{RangeForm}
use Rattle.entity_types.specs.declared.entities.Entities.{Entities}
use Rattle.entity_types.specs.declared.entities.EntityType.{EntityType}
use Rattle.entity_types.specs.declared.entities.Attribute.{Attribute}
use Rattle.entity_types.specs.Rows.{Rows, owner_of}
use Rattle.entity_types.specs.View.{AttributeForm, type_names, member_names, attribute_names, attributes, rows_of}
use Rattle.entity_types.specs.Joined.{joined_name, members_of, AreAmong}
use Rattle.goal_model.specs.Scopes.{rows_from}
use Rattle.goal_model.specs.Models.{AttributeIsOf}

map_map : {A B C : Type 0} (f : A → B) (g : B → C) (xs : List A) → map g (map f xs) ≡ map (λ x. g (f x)) xs
map_map f g [] = refl
map_map f g (x ∷ xs) = ap (λ ys. g (f x) ∷ ys) (map_map f g xs)

abbrev form_of : Attribute → AttributeForm
form_of a = record { name = a.name; entity = a.entity; first = a.first }

abbrev rows_with : List ℕ → List ℕ → List ℕ → Rows
rows_with counts owners firsts = record { counts = counts; owners = owners; firsts = firsts }

pub rows_same : (entities : Entities) → rows_of entities ≡ rows_from (member_names entities) (attributes entities)
rows_same entities =
    let types = entities.types.items in
    let rows = entities.attributes.items in
    ap₂ (λ cs os. rows_with cs os (map (λ (a : Attribute). a.first) rows)) (sym (map_map (λ (t : EntityType). t.members.items) length types)) (sym (map_map form_of (λ a. a.entity) rows))
    ∙ ap (rows_with (map length (map (λ (t : EntityType). t.members.items) types)) (map (λ a. a.entity) (map form_of rows))) (sym (map_map form_of (λ a. a.first) rows))

-- as many types have members as have names
pub as_many_types : (entities : Entities) → length (member_names entities) ≡ length (type_names entities)
as_many_types entities = length-map entities.types.items (λ (t : EntityType). t.members.items) ∙ sym (length-map entities.types.items (λ (t : EntityType). t.name))

-- as many attributes are there as have names
pub as_many_attributes : (entities : Entities) → length (attributes entities) ≡ length (attribute_names entities)
as_many_attributes entities = length-map entities.attributes.items form_of ∙ sym (length-map entities.attributes.items (λ (a : Attribute). a.name))

-- what is seen of an attribute is seen of its form
seen_at : {X : Type 0} (g : AttributeForm → X) (rows : List Attribute) (k : ℕ) (d : AttributeForm) (e : X) → k < length rows → get_or (map (λ (a : Attribute). g (form_of a)) rows) k e ≡ g (get_or (map form_of rows) k d)
seen_at g rows k d e l =
    ap (λ xs. get_or xs k e) (sym (map_map form_of g rows)) ∙ get_or-map g (map form_of rows) k d e (omega (arith, l, length-map rows form_of))

pub named_among : (entities : Entities) (names : List (List ℕ)) (ranges : List RangeForm) → All (AttributeIsOf names ranges (member_names entities)) (attributes entities) → AreAmong entities names
named_among entities names ranges all attr member m l e =
    let rows = entities.attributes.items in
    let inside : attr < length rows = omega (arith, l, length-map rows (λ (a : Attribute). a.name)) in
    let nothing : AttributeForm = record { name = []; entity = 0; first = 0 } in
    let a = get_or (attributes entities) attr nothing in
    let is = all attr nothing (omega (arith, inside, length-map rows form_of)) in
    let owner : owner_of (rows_of entities) attr ≡ a.entity = seen_at (λ a. a.entity) rows attr nothing 0 inside in
    let first : get_or (rows_of entities).firsts attr 0 ≡ a.first = seen_at (λ a. a.first) rows attr nothing 0 inside in
    let name : get_or (attribute_names entities) attr [] ≡ a.name = seen_at (λ a. a.name) rows attr nothing [] inside in
    subst (λ n. slice_get names (n + member) ≡ Some (joined_name (get_or (attribute_names entities) attr []) m)) (sym first)
    (subst (λ x. slice_get names (a.first + member) ≡ Some (joined_name x m)) (sym name)
    (is.named member m (subst (λ n. slice_get (members_of entities n) member ≡ Some m) owner e)))
