-- Items are looked at in order until one is too large.
use Rattle.std.proofs.Common.{◌≡◌, ℕ, ◌+◌, ◌<◌, ◌≤◌, true, false, List, [], ◌∷◌, ◌++◌, length, map, get_or, take, drop, Bool, refl, sym, ap, ◌∙◌, append_assoc, arith}
use Rattle.std.specs.Prelude.{◌&&◌, MatchOption, Option, Some, None, is_some, is_none, slice_index_or}
use Rattle.std.specs.List.{list_all}
use Rattle.std.proofs.lemmas.List.{at_drop_more, at_drop_all, take_more, map-append}
use Rattle.std.proofs.lemmas.Bool.{false≢true}
use Rattle.temporal_logic.specs.Ltl.{Ltl}
use Rattle.temporal_logic.specs.Fits.{Fits}
use Rattle.model_text.specs.declared.statement.Role.{Role}
use Rattle.model_text.specs.declared.statement.Role.TheVariants.{Pre, Trig, Post}
use Rattle.goal_model.specs.declared.item.Part.{Part}
use Rattle.goal_model.specs.declared.item.Part.TheVariants.{Goal, Obstacle, Requirement, Boundary}
use Rattle.goal_model.specs.declared.item.Item.{Item}
use Rattle.goal_model.specs.Models.{PropertyForm, property_of, LinkForm, conflict, refine, obstruct, operationalise, assign, RequirementForm, OperationForm, ModelForm, LinkIsOf, PartsFit}
use Rattle.goal_model.specs.Items.{ItemForm, item_of, no_goal, no_obstacle, no_operation, no_requirement, no_link, compiled, boundary_of, part_formula, signed, list_of, link_items_of, items_from, is_small_item}
use Rattle.goal_model.specs.declared.contents.Property.{Property}
use Rattle.goal_model.specs.SmallLists.{is_small_list}
use Rattle.goal_model.specs.KnownParts.{PartIsOf}
use Rattle.goal_model.specs.Resolution.{made, first_property, if_small, sized, too_large}

pub sized_small : (m : ModelForm) (i : ItemForm) (is : List ItemForm) → is_small_item m i ≡ true → sized m (i ∷ is) ≡ sized m is
sized_small m i is e = rw e refl

pub sized_large : (m : ModelForm) (i : ItemForm) (is : List ItemForm) → is_small_item m i ≡ false → sized m (i ∷ is) ≡ too_large m i.label
sized_large m i is e = rw e refl

pub sized_at : (m : ModelForm) (is : List Item) (k : ℕ) (i : Item) (others : List ItemForm) → k < length is → i ≡ get_or is k i → sized m (map item_of (drop k is) ++ others) ≡ sized m (item_of i ∷ map item_of (drop (k + 1) is) ++ others)
sized_at m is k i others l e = at_drop_more (λ js. sized m (map item_of js ++ others)) is k i l ∙ ap (λ (j : Item). sized m (item_of j ∷ map item_of (drop (k + 1) is) ++ others)) (sym e)

pub sized_end : (m : ModelForm) (is : List Item) (k : ℕ) (others : List ItemForm) → length is ≤ k → sized m (map item_of (drop k is) ++ others) ≡ sized m others
sized_end m is k others l = at_drop_all (λ js. sized m (map item_of js ++ others)) is k l

pub links_at : (m : ModelForm) (links : List LinkForm) (k : ℕ) → k < length links → sized m (items_from m k (drop k links)) ≡ sized m (link_items_of m k (slice_index_or links k no_link) ++ items_from m (k + 1) (drop (k + 1) links))
links_at m links k l = at_drop_more (λ ls. sized m (items_from m k ls)) links k no_link l

pub links_end : (m : ModelForm) (links : List LinkForm) (k : ℕ) → length links ≤ k → sized m (items_from m k (drop k links)) ≡ sized m []
links_end m links k l = at_drop_all (λ ls. sized m (items_from m k ls)) links k l

-- ---- parts of a model fit it

compiled_fits : (m : ModelForm) (o : OperationForm) (r : RequirementForm) → Fits m.ranges o.dompre → Fits m.ranges o.dompost → Fits m.ranges r.formula → Fits m.ranges (compiled o r)
compiled_fits m o r pre post h = by_role r.role
  where
    by_role : (role : Role) → Fits m.ranges (compiled o (record r { role = role }))
    by_role Pre = ((pre, post), h)
    by_role Trig = ((h, pre), post)
    by_role Post = ((pre, post), h)

boundary_fits : (m : ModelForm) (link : LinkForm) → LinkIsOf m link → Fits m.ranges (boundary_of link)
boundary_fits m (refine s g xs k) h = tt
boundary_fits m (obstruct s g xs) h = tt
boundary_fits m (conflict s x xs f) h = h.1
boundary_fits m (operationalise s g xs e) h = tt
boundary_fits m (assign s g a) h = tt

pub part_fits : (m : ModelForm) → PartsFit m → (part : Part) → PartIsOf m part → Fits m.ranges (part_formula m part)
part_fits m fit (Goal g) l = fit.goals g no_goal l
part_fits m fit (Obstacle o) l = fit.obstacles o no_obstacle l
part_fits m fit (Requirement r) l =
    let requirement = slice_index_or m.requirements r no_requirement in
    let known = fit.requirements r no_requirement l in
    let operation = fit.operations requirement.operation no_operation known.0 in
    compiled_fits m (slice_index_or m.operations requirement.operation no_operation) requirement operation.1 operation.2 known.1
part_fits m fit (Boundary k) l = boundary_fits m (slice_index_or m.links k no_link) (fit.links k no_link l)

-- ---- domain properties and parts

pub list_more : (m : ModelForm) (parts : List (Part × Bool)) (i : ℕ) (d : Part × Bool) → i < length parts → list_of m (take i parts) ++ signed (get_or parts i d).1 (part_formula m (get_or parts i d).0) ∷ [] ≡ list_of m (take (i + 1) parts)
list_more m parts i d l =
    append_assoc (map (λ (p : PropertyForm). p.formula) m.domains) (map formula (take i parts)) (formula (get_or parts i d) ∷ [])
    ∙ ap (λ fs. map (λ (p : PropertyForm). p.formula) m.domains ++ fs) (sym (map-append formula (take i parts) (get_or parts i d ∷ [])) ∙ ap (map formula) (sym (take_more parts i d l)))
  where
    formula : Part × Bool → Ltl
    formula p = signed p.1 (part_formula m p.0)

-- a list that is too large has a formula
pub some_domain : (sizes : List ℕ) (ps : List Property) → is_small_list sizes (map (λ (p : PropertyForm). p.formula) (map property_of ps)) ≡ false → 0 < length ps
some_domain sizes [] e = absurd (false≢true (sym e))
some_domain sizes (p ∷ ps) e = omega arith

pub first_blamed : (ps : List Property) (p : Property) → 0 < length ps → p ≡ get_or ps 0 p → first_property (map property_of ps) ≡ (p.statement, p.name)
first_blamed [] p l e = absurd (omega (arith, l))
first_blamed (q ∷ ps) p l e = ap (λ (x : Property). (x.statement, x.name)) (sym e)

pub asked : {X : Type 0} (o : Option X) → true ≡ is_some o → is_none o ≡ false
asked (Some x) e = refl
asked None e = absurd (false≢true (sym e))

-- ---- all items of a model are small

pub if_none : {A : Type 0} (o : Option A) (P : Type 0) (Q : A → Type 0) → o ≡ None → MatchOption o P Q → P
if_none None P Q is h = h
if_none (Some a) P Q is h = absurd cc

pub small_if_made : (m n : ModelForm) (is : List ItemForm) → sized m is ≡ made n → list_all (is_small_item m) is ≡ true
small_if_made m n [] e = refl
small_if_made m n (i ∷ is) e = by_size (is_small_item m i) (small_if_made m n is) e
  where
    by_size : (b : Bool) → (sized m is ≡ made n → list_all (is_small_item m) is ≡ true) → if_small b (sized m is) (too_large m i.label) ≡ made n → (b && list_all (is_small_item m) is) ≡ true
    by_size true rest e = rest e
    by_size false rest e = absurd cc
