-- The lists that items ask of are of the model's space, and small.
use Rattle.std.proofs.Common.{◌≡◌, ℕ, zero, suc, ◌+◌, ◌<◌, Bool, true, false, List, [], ◌∷◌, ◌++◌, map, length, refl, sym, ap, ap₂, ◌∙◌, subst, arith}
use Rattle.std.specs.Prelude.{All, ◌||◌, Option, Some, None, is_none, slice_index_or}
use Rattle.std.specs.List.{list_all}
use Rattle.std.proofs.lemmas.Bool.{and_parts}
use Rattle.std.proofs.lemmas.List.{append-nil}
use Rattle.std.proofs.lemmas.List.Folds.{list_all-append}
use Rattle.std.proofs.lemmas.List.Elements.{All-nil, All-append, All-map, All-weaker}
use Rattle.temporal_logic.specs.Ltl.{Ltl}
use Rattle.temporal_logic.specs.Fits.{Fits}
use Rattle.temporal_logic.specs.Trees.{tree_of}
use Rattle.goal_model.specs.declared.item.Item.{Item}
use Rattle.goal_model.specs.declared.item.Part.{Part}
use Rattle.goal_model.specs.declared.item.Wanted.{Wanted}
use Rattle.goal_model.specs.declared.item.Wanted.TheVariants.{SomeTrace}
use Rattle.goal_model.specs.declared.demand.Demand.{Demand}
use Rattle.goal_model.specs.Models.{PropertyForm, LinkForm, ModelForm, sizes_of, PartsFit}
use Rattle.goal_model.specs.SmallLists.{is_small_list}
use Rattle.goal_model.specs.KnownParts.{PartIsOf}
use Rattle.goal_model.specs.Items.{LabelForm, ItemForm, label_of, item_of, domain_item, part_formula, signed, list_of, no_link, link_items_of, items_from, items_of, is_small_item}
use Rattle.goal_model.specs.Demands.{demand_of, demands_of, IsAnswerable}
use Rattle.goal_model.proofs.SizedItems.{part_fits}
use Rattle.goal_model.proofs.MeasuredLists.{small_tested}

-- ---- formulas of a model's parts

signed_fits : (m : ModelForm) (positive : Bool) (f : Ltl) → Fits m.ranges f → Fits m.ranges (signed positive f)
signed_fits m true f fits = fits
signed_fits m false f fits = fits

-- a list of parts of the model is of its space
list_fits : (m : ModelForm) → PartsFit m → (parts : List (Part × Bool)) → All (λ p. PartIsOf m p.0) parts → All (Fits m.ranges) (list_of m parts)
list_fits m fit parts known =
    let F = Fits m.ranges in
    let formula = λ (p : Part × Bool). signed p.1 (part_formula m p.0) in
    All-append F (map (λ (p : PropertyForm). p.formula) m.domains) (map formula parts) (All-map F (λ (p : PropertyForm). p.formula) m.domains fit.domains)
    (All-map F formula parts (All-weaker (λ (p : Part × Bool). PartIsOf m p.0) (λ (p : Part × Bool). F (formula p)) (λ p is. signed_fits m p.1 (part_formula m p.0) (part_fits m fit p.0 is)) parts known))

-- the list of an item that asks something of traces can be answered
pub item_answerable : (m : ModelForm) → PartsFit m → (i : ItemForm) (w : Wanted) → i.wanted ≡ Some w → All (λ p. PartIsOf m p.0) i.parts → is_small_item m i ≡ true → IsAnswerable m (list_of m i.parts)
item_answerable m fit i w asks known small = record {
  fit = list_fits m fit i.parts known;
  small = (small_tested (sizes_of m) (list_of m i.parts)).0 (subst (λ (o : Option Wanted). (is_none o || is_small_list (sizes_of m) (list_of m i.parts)) ≡ true) asks small);
}

-- the domain properties can be answered
pub domain_answerable : (m : ModelForm) → PartsFit m → list_all (is_small_item m) (items_of m) ≡ true → IsAnswerable m (map (λ (p : PropertyForm). p.formula) m.domains)
domain_answerable m fit small =
    subst (IsAnswerable m) (append-nil (map (λ (p : PropertyForm). p.formula) m.domains))
    (item_answerable m fit domain_item SomeTrace refl (All-nil (λ p. PartIsOf m p.0)) (and_parts (is_small_item m domain_item) (list_all (is_small_item m) (items_from m 0 m.links)) small).0)

-- ---- the items of a link

small_from : (m : ModelForm) (first : ℕ) (links : List LinkForm) (k : ℕ) → k < length links → list_all (is_small_item m) (items_from m first links) ≡ true
    → list_all (is_small_item m) (link_items_of m (first + k) (slice_index_or links k no_link)) ≡ true
small_from m first [] k inside e = absurd (omega (arith, inside))
small_from m first (link ∷ links) zero inside e =
    let split = and_parts (list_all (is_small_item m) (link_items_of m first link)) (list_all (is_small_item m) (items_from m (first + 1) links)) (sym (list_all-append (is_small_item m) (link_items_of m first link) (items_from m (first + 1) links)) ∙ e) in
    subst (λ (n : ℕ). list_all (is_small_item m) (link_items_of m n link) ≡ true) (omega arith) split.0
small_from m first (link ∷ links) (suc k) inside e =
    let split = and_parts (list_all (is_small_item m) (link_items_of m first link)) (list_all (is_small_item m) (items_from m (first + 1) links)) (sym (list_all-append (is_small_item m) (link_items_of m first link) (items_from m (first + 1) links)) ∙ e) in
    subst (λ (n : ℕ). list_all (is_small_item m) (link_items_of m n (slice_index_or links k no_link)) ≡ true) (omega arith) (small_from m (first + 1) links k (omega (arith, inside)) split.1)

-- each item of a link of a small model is small
pub link_small : (m : ModelForm) → list_all (is_small_item m) (items_of m) ≡ true → (k : ℕ) → k < length m.links → list_all (is_small_item m) (link_items_of m k (slice_index_or m.links k no_link)) ≡ true
link_small m small k inside =
    subst (λ (n : ℕ). list_all (is_small_item m) (link_items_of m n (slice_index_or m.links k no_link)) ≡ true) (omega arith)
    (small_from m 0 m.links k inside (and_parts (is_small_item m domain_item) (list_all (is_small_item m) (items_from m 0 m.links)) small).1)

-- ---- demands, one more at a time

-- an item that asks nothing of traces adds no demand
pub no_demand : (m : ModelForm) (i : ItemForm) (is : List ItemForm) → i.wanted ≡ None → demands_of m (i ∷ is) ≡ demands_of m is
no_demand m i is e = rw e refl

-- an item that asks something of traces adds the demand with its list
one_demand : (m : ModelForm) (i : ItemForm) (is : List ItemForm) (w : Wanted) → i.wanted ≡ Some w → demands_of m (i ∷ is) ≡ record { label = i.label; list = list_of m i.parts; wanted = w } ∷ demands_of m is
one_demand m i is w e = rw e refl

-- the same of the demand of the code, behind others
pub demand_more : (m : ModelForm) (i : Item) (d : Demand) (ds : List Demand) (is : List ItemForm) → i.wanted ≡ Some d.wanted → label_of d.label ≡ label_of i.label → map tree_of d.list.items ≡ list_of m i.parts.items
    → map demand_of (ds ++ d ∷ []) ++ demands_of m is ≡ map demand_of ds ++ demands_of m (item_of i ∷ is)
demand_more m i d [] is asks label list = ap₂ (λ (l : LabelForm) (fs : List Ltl). record { label = l; list = fs; wanted = d.wanted } ∷ demands_of m is) label list ∙ sym (one_demand m (item_of i) is d.wanted asks)
demand_more m i d (e ∷ ds) is asks label list = ap (λ es. demand_of e ∷ es) (demand_more m i d ds is asks label list)
