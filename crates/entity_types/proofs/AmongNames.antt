-- The variables of all attributes stay among the names of a space, for the crates above: more variables and more types change nothing.
use Rattle.std.proofs.Common.{◌≡◌, ℕ, ◌+◌, ◌<◌, List, [], ◌∷◌, ◌++◌, length, map, get_or, Some, refl, sym, ap, ◌∙◌, subst, arith, slice_get}
use Rattle.std.proofs.lemmas.List.{length-map, get_or_append_left}
use Rattle.entity_types.specs.declared.entities.Entities.{Entities}
use Rattle.entity_types.specs.declared.entities.EntityType.{EntityType}
use Rattle.entity_types.specs.declared.entities.Attribute.{Attribute}
use Rattle.entity_types.specs.Rows.{owner_of, variable_of}
use Rattle.entity_types.specs.View.{AttributeForm, member_names, attribute_names, attributes, rows_of}
use Rattle.entity_types.specs.Joined.{joined_name, AreAmong}
use Rattle.entity_types.proofs.MoreAttributes.{slice_get_left}

-- what is seen of an attribute's form is seen of the attribute
forms_seen : {X : Type 0} (g : AttributeForm → X) (rows : List Attribute) → map (λ (a : Attribute). g (record { name = a.name; entity = a.entity; first = a.first })) rows ≡ map g (map (λ (a : Attribute). record { name = a.name; entity = a.entity; first = a.first }) rows)
forms_seen g [] = refl
forms_seen g (a ∷ rows) = ap (λ xs. g (record { name = a.name; entity = a.entity; first = a.first }) ∷ xs) (forms_seen g rows)

-- so entities of the same attributes look the same
seen_same : {X : Type 0} (g : AttributeForm → X) (e f : Entities) → attributes f ≡ attributes e
    → map (λ (a : Attribute). g (record { name = a.name; entity = a.entity; first = a.first })) f.attributes.items ≡ map (λ (a : Attribute). g (record { name = a.name; entity = a.entity; first = a.first })) e.attributes.items
seen_same g e f same = forms_seen g f.attributes.items ∙ ap (map g) same ∙ sym (forms_seen g e.attributes.items)

-- with more names behind them
pub among_more_names : (entities : Entities) (names more : List (List ℕ)) → AreAmong entities names → AreAmong entities (names ++ more)
among_more_names entities names more among attr member m l e =
    slice_get_left names more (variable_of (rows_of entities) attr member) (joined_name (get_or (attribute_names entities) attr []) m) (among attr member m l e)

-- with one more type
pub among_more_types : (e f : Entities) (members names : List (List ℕ)) → member_names f ≡ member_names e ++ members ∷ [] → attributes f ≡ attributes e → AreAmong e names → AreAmong f names
among_more_types e f members names more same among attr member m l s =
    subst (λ (rs : List ℕ). slice_get names (get_or rs attr 0 + member) ≡ Some (joined_name (get_or (attribute_names f) attr []) m)) (sym (seen_same (λ x. x.first) e f same))
    (subst (λ (ns : List (List ℕ)). slice_get names (variable_of (rows_of e) attr member) ≡ Some (joined_name (get_or ns attr []) m)) (sym (seen_same (λ x. x.name) e f same)) (among attr member m there member_is))
  where
    there : attr < length (attribute_names e)
    there = subst (λ (ns : List (List ℕ)). attr < length ns) (seen_same (λ x. x.name) e f same) l

    -- the type was there before
    inside : owner_of (rows_of e) attr < length (member_names e)
    inside = omega (arith, e.placed.owned attr (omega (arith, there, length-map e.attributes.items (λ (a : Attribute). a.name), length-map e.attributes.items (λ (a : Attribute). a.entity))), length-map e.types.items (λ (t : EntityType). length t.members.items), length-map e.types.items (λ (t : EntityType). t.members.items))

    member_is : slice_get (get_or (member_names e) (owner_of (rows_of e) attr) []) member ≡ Some m
    member_is =
        subst (λ (ms : List (List ℕ)). slice_get ms member ≡ Some m) (get_or_append_left (member_names e) (members ∷ []) [] (owner_of (rows_of e) attr) inside)
        (subst (λ (ls : List (List (List ℕ))). slice_get (get_or ls (owner_of (rows_of e) attr) []) member ≡ Some m) more
        (subst (λ (os : List ℕ). slice_get (get_or (member_names f) (get_or os attr 0) []) member ≡ Some m) (seen_same (λ x. x.entity) e f same) s))
