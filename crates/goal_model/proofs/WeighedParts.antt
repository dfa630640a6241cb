-- The weights of a model's parts tell of lists that they are small.
use Rattle.std.proofs.Common.{◌≡◌, ℕ, zero, suc, ◌+◌, ◌<◌, ◌≤◌, Bool, true, false, cond, ⊎_elim, List, [], ◌∷◌, ◌++◌, length, map, take, get_or, min, refl, sym, ap, ap₂, subst, ◌∙◌, arith}
use Rattle.std.specs.Prelude.{All, slice_index_or, nat_le}
use Rattle.std.proofs.lemmas.Bool.{cond-true, cases_lt, le-leb, lt-leb}
use Rattle.std.proofs.lemmas.List.{take_more, map-append}
use Rattle.temporal_logic.specs.Ltl.{Ltl}
use Rattle.bound_unfolding.specs.CoreForm.{CoreForm, nodes, levels}
use Rattle.bound_unfolding.specs.CoreTree.{core_tree}
use Rattle.bound_unfolding.proofs.Weighing.{levels_within}
use Rattle.goal_model.specs.declared.item.Part.{Part}
use Rattle.goal_model.specs.declared.item.Part.TheVariants.{Goal, Obstacle, Requirement, Boundary}
use Rattle.goal_model.specs.declared.list_size.Weight.{Weight}
use Rattle.goal_model.specs.declared.part_weight.PartWeights.{PartWeights}
use Rattle.goal_model.specs.Models.{ModelForm, GoalForm, ObstacleForm, RequirementForm, LinkForm}
use Rattle.goal_model.specs.Items.{no_goal, no_obstacle, no_requirement, no_link, requirement_formula, boundary_of, part_formula, list_of}
use Rattle.goal_model.specs.KnownParts.{PartIsOf}
use Rattle.goal_model.specs.SmallLists.{is_small_list}
use Rattle.goal_model.specs.Sizes.{weight, both_weights, both_of, IsBounded}
use Rattle.goal_model.specs.PartWeights.{weights_in, too_heavy, of_sign, weights_at, AreWeights}
use Rattle.goal_model.proofs.MeasuredLists.{within_more, small_tested}
use Rattle.goal_model.proofs.SizedItems.{list_more}

-- what a function gives at a place of a list
at_map : {X A : Type 0} (h : X → A) (xs : List X) (k : ℕ) (d : A) (e : X) → k < length xs → slice_index_or (map h xs) k d ≡ h (slice_index_or xs k e)
at_map h [] k d e l = absurd (omega (arith, l))
at_map h (x ∷ xs) zero d e l = refl
at_map h (x ∷ xs) (suc k) d e l = at_map h xs k d e (omega (arith, l))

-- a formula's weight is its nodes where these are few: there are no more levels
pub light_weight : (sizes : List ℕ) (positive : Bool) (f : Ltl) (n : ℕ) → n ≡ min (nodes (core_tree sizes positive f)) 4097 → n ≤ 1000 → n ≡ weight sizes positive f
light_weight sizes positive f n is few =
    let core = core_tree sizes positive f in
    is ∙ sym (cond-true (nat_le (levels core) 1000) (min (nodes core) 4097) 4097 (le-leb (levels core) 1000 (omega (arith, levels_within core, is, few))))

-- the weight as it is counted
pub counted_weight : (sizes : List ℕ) (positive : Bool) (f : Ltl) (n d : ℕ) → n ≡ min (nodes (core_tree sizes positive f)) 4097 → d ≡ min (levels (core_tree sizes positive f)) 1001 → cond (nat_le d 1000) n 4097 ≡ weight sizes positive f
counted_weight sizes positive f n d nodes_are levels_are = ap₂ (λ b k. cond b k 4097) (⊎_elim deep shallow (cases_lt 1000 (levels core))) nodes_are
  where
    core : CoreForm
    core = core_tree sizes positive f

    deep : 1000 < levels core → nat_le d 1000 ≡ nat_le (levels core) 1000
    deep l = lt-leb d 1000 (omega (arith, l, levels_are)) ∙ sym (lt-leb (levels core) 1000 l)

    shallow : levels core ≤ 1000 → nat_le d 1000 ≡ nat_le (levels core) 1000
    shallow l = le-leb d 1000 (omega (arith, l, levels_are)) ∙ sym (le-leb (levels core) 1000 l)

sign_of_both : (sizes : List ℕ) (positive : Bool) (f : Ltl) → of_sign positive (both_weights sizes f) ≡ weight sizes positive f
sign_of_both sizes true f = refl
sign_of_both sizes false f = refl

-- the weight of a part is that of its formula
pub part_weighed : (sizes : List ℕ) (m : ModelForm) (w : PartWeights) (positive : Bool) (part : Part) → AreWeights sizes m w → PartIsOf m part → of_sign positive (weights_at w part) ≡ weight sizes positive (part_formula m part)
part_weighed sizes m w positive (Goal g) are l =
    ap (λ ws. of_sign positive (slice_index_or ws g too_heavy)) are.goals ∙ ap (of_sign positive) (at_map (λ (x : GoalForm). both_weights sizes x.formula) m.goals g too_heavy no_goal l)
    ∙ sign_of_both sizes positive (part_formula m (Goal g))
part_weighed sizes m w positive (Obstacle o) are l =
    ap (λ ws. of_sign positive (slice_index_or ws o too_heavy)) are.obstacles ∙ ap (of_sign positive) (at_map (λ (x : ObstacleForm). both_weights sizes x.formula) m.obstacles o too_heavy no_obstacle l)
    ∙ sign_of_both sizes positive (part_formula m (Obstacle o))
part_weighed sizes m w positive (Requirement r) are l =
    ap (λ ws. of_sign positive (slice_index_or ws r too_heavy)) are.requirements ∙ ap (of_sign positive) (at_map (λ (x : RequirementForm). both_weights sizes (requirement_formula m x)) m.requirements r too_heavy no_requirement l)
    ∙ sign_of_both sizes positive (part_formula m (Requirement r))
part_weighed sizes m w positive (Boundary k) are l =
    ap (λ ws. of_sign positive (slice_index_or ws k too_heavy)) are.boundaries ∙ ap (of_sign positive) (at_map (λ (x : LinkForm). both_weights sizes (boundary_of x)) m.links k too_heavy no_link l)
    ∙ sign_of_both sizes positive (part_formula m (Boundary k))

-- one formula more of a list
pub weighed_more : {X Y : Type 0} (form : X → Y) (weights : Y → ℕ × ℕ) (ws : List Weight) (xs : List X) (i : ℕ) (x : X) (w : Weight) → i < length xs → x ≡ get_or xs i x → both_of w ≡ weights (form x)
    → weights_in ws ≡ map weights (map form (take i xs)) → weights_in (ws ++ w ∷ []) ≡ map weights (map form (take (i + 1) xs))
weighed_more form weights ws xs i x w inside is one before =
    map-append both_of ws (w ∷ []) ∙ ap₂ (λ vs v. vs ++ v ∷ []) before one
    ∙ sym (ap (λ ys. map weights (map form ys)) (take_more xs i x inside ∙ ap (λ y. take i xs ++ y ∷ []) (sym is)) ∙ ap (map weights) (map-append form (take i xs) (x ∷ [])) ∙ map-append weights (map form (take i xs)) (form x ∷ []))

-- one part more
pub total_more : (sizes : List ℕ) (m : ModelForm) (w : PartWeights) (parts : List (Part × Bool)) (i : ℕ) (d : Part × Bool) (total added : ℕ) → AreWeights sizes m w → All (λ p. PartIsOf m p.0) parts → i < length parts
    → added ≡ of_sign (get_or parts i d).1 (weights_at w (get_or parts i d).0) → IsBounded sizes (list_of m (take i parts)) total → IsBounded sizes (list_of m (take (i + 1) parts)) (min (total + added) 4097)
total_more sizes m w parts i d total added are known l is within =
    let part = get_or parts i d in
    subst (λ (n : ℕ). IsBounded sizes (list_of m (take (i + 1) parts)) (min (total + n) 4097)) (sym (is ∙ part_weighed sizes m w part.1 part.0 are (known i d l)))
    (subst (λ (list : List Ltl). IsBounded sizes list (min (total + weight_of part) 4097)) (list_more m parts i d l) (within_more sizes (list_of m (take i parts)) part.1 (part_formula m part.0) total within))
  where
    weight_of : Part × Bool → ℕ
    weight_of p = weight sizes p.1 (part_formula m p.0)

-- a list of a total of at most 4,096 is small
pub within_small : (sizes : List ℕ) (list : List Ltl) (total : ℕ) → IsBounded sizes list total → total ≤ 4096 → is_small_list sizes list ≡ true
within_small sizes list total within l =
    let parts = within l in
    let few = parts.0 in
    (small_tested sizes list).1 (record { formulas = omega (arith, few, l); levels = parts.1 })
