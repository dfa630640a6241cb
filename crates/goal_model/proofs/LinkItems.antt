-- The items of a link are of its model.
use Rattle.std.proofs.Common.{ℕ, ◌<◌, Bool, true, false, List, [], ◌∷◌, ◌++◌, length, map, arith}
use Rattle.std.specs.Prelude.{All, Option}
use Rattle.goal_model.specs.declared.item.LabelKind.{LabelKind}
use Rattle.goal_model.specs.declared.item.Wanted.{Wanted}
use Rattle.std.proofs.lemmas.List.Elements.{All-nil, All-cons, All-head, All-tail, All-append, All-push}
use Rattle.goal_model.specs.declared.item.Part.{Part}
use Rattle.goal_model.specs.declared.item.Part.TheVariants.{Goal, Obstacle, Requirement, Boundary}
use Rattle.goal_model.specs.Models.{LinkForm, refine, obstruct, conflict, operationalise, assign, ModelForm, LinkIsOf}
use Rattle.goal_model.specs.Items.{ItemForm, item, all_as, each_of, link_items_of, complete_item, consistent_item, minimal_item, obstructs_item, possible_item, covered_item, diverges_item, without_item, feasible_item, operation_complete_item, operation_consistent_item, hindrance_items, exact_item, exact_items, assigned_item}
use Rattle.goal_model.specs.KnownParts.{PartIsOf, IsLinkItem}

abbrev AreParts : ModelForm → List (Part × Bool) → Type 0
AreParts m ps = All (λ p. PartIsOf m p.0) ps

all_parts : (m : ModelForm) (part : ℕ → Part) (sign : Bool) (n : ℕ) (xs : List ℕ) → ((x : ℕ) → x < n → PartIsOf m (part x)) → All (λ x. x < n) xs → AreParts m (all_as part sign xs)
all_parts m part sign n [] h all = All-nil (λ p. PartIsOf m p.0)
all_parts m part sign n (x ∷ xs) h all = All-cons (λ p. PartIsOf m p.0) (part x, sign) (all_as part sign xs) (h x (All-head (λ x. x < n) x xs all)) (all_parts m part sign n xs h (All-tail (λ x. x < n) x xs all))

goals_known : (m : ModelForm) (sign : Bool) (xs : List ℕ) → All (λ g. g < length m.goals) xs → AreParts m (all_as Goal sign xs)
goals_known m sign xs all = all_parts m Goal sign (length m.goals) xs (λ x h. h) all

no_part : (m : ModelForm) → AreParts m []
no_part m = All-nil (λ p. PartIsOf m p.0)

one_part : (m : ModelForm) (part : Part) (sign : Bool) → PartIsOf m part → AreParts m ((part, sign) ∷ [])
one_part m part sign h = All-cons (λ p. PartIsOf m p.0) (part, sign) [] h (no_part m)

and_part : (m : ModelForm) (ps : List (Part × Bool)) (part : Part) (sign : Bool) → AreParts m ps → PartIsOf m part → AreParts m (ps ++ (part, sign) ∷ [])
and_part m ps part sign all h = All-push (λ p. PartIsOf m p.0) ps (part, sign) all h

then_parts : (m : ModelForm) (ps : List (Part × Bool)) (part : Part) (sign : Bool) → PartIsOf m part → AreParts m ps → AreParts m ((part, sign) ∷ ps)
then_parts m ps part sign h all = All-cons (λ p. PartIsOf m p.0) (part, sign) ps h all

known_item : {m : ModelForm} {kind : LabelKind} {s : ℕ} {x : List ℕ} {xs : List (List ℕ)} {ps : List (Part × Bool)} {w : Option Wanted} → AreParts m ps → IsLinkItem m (item kind s (x ∷ xs) ps w)
known_item all = record { parts = all; named = omega arith }

-- one item for each element of a list of places below a number
each_known : (m : ModelForm) (n : ℕ) (made : List ℕ → ℕ → List ℕ → ItemForm) (front xs : List ℕ)
    → ((before : List ℕ) (x : ℕ) (behind : List ℕ) → All (λ g. g < n) before → x < n → All (λ g. g < n) behind → IsLinkItem m (made before x behind))
    → All (λ g. g < n) front → All (λ g. g < n) xs → All (IsLinkItem m) (each_of made front xs)
each_known m n made front [] h before all = All-nil (IsLinkItem m)
each_known m n made front (x ∷ xs) h before all =
    All-cons (IsLinkItem m) (made front x xs) (each_of made (front ++ x ∷ []) xs)
    (h front x xs before (All-head (λ g. g < n) x xs all) (All-tail (λ g. g < n) x xs all))
    (each_known m n made (front ++ x ∷ []) xs h (All-push (λ g. g < n) front x before (All-head (λ g. g < n) x xs all)) (All-tail (λ g. g < n) x xs all))

hindrances_known : (m : ModelForm) (s g : ℕ) (os : List ℕ) → g < length m.goals → All (λ o. o < length m.obstacles) os → All (IsLinkItem m) (hindrance_items m s g os)
hindrances_known m s g [] l all = All-nil (IsLinkItem m)
hindrances_known m s g (o ∷ os) l all =
    All-cons (IsLinkItem m) (obstructs_item m s g o) (possible_item m s g o ∷ hindrance_items m s g os) (known_item (then_parts m ((Goal g, true) ∷ []) (Obstacle o) true (All-head (λ o. o < length m.obstacles) o os all) (one_part m (Goal g) true l)))
    (All-cons (IsLinkItem m) (possible_item m s g o) (hindrance_items m s g os) (known_item (one_part m (Obstacle o) true (All-head (λ o. o < length m.obstacles) o os all)))
    (hindrances_known m s g os l (All-tail (λ o. o < length m.obstacles) o os all)))

exact_known : (m : ModelForm) (s g : ℕ) (exact : Bool) (rs : List ℕ) → g < length m.goals → All (λ r. r < length m.requirements) rs → All (IsLinkItem m) (exact_items m s g exact rs)
exact_known m s g false rs l all = All-nil (IsLinkItem m)
exact_known m s g true [] l all = All-nil (IsLinkItem m)
exact_known m s g true (r ∷ rs) l all =
    All-cons (IsLinkItem m) (exact_item m s g r) (map (exact_item m s g) rs)
    (known_item (then_parts m ((Requirement r, false) ∷ []) (Goal g) true l (one_part m (Requirement r) false (All-head (λ r. r < length m.requirements) r rs all))))
    (exact_known m s g true rs l (All-tail (λ r. r < length m.requirements) r rs all))

pub items_known : (m : ModelForm) (place : ℕ) (link : LinkForm) → place < length m.links → LinkIsOf m link → All (IsLinkItem m) (link_items_of m place link)
items_known m place (refine s g xs k) l h =
    All-cons (IsLinkItem m) (complete_item m s g xs) (consistent_item m s g xs ∷ each_of (minimal_item m s g) [] xs) (known_item (and_part m (all_as Goal true xs) (Goal g) false (goals_known m true xs h.1) h.0))
    (All-cons (IsLinkItem m) (consistent_item m s g xs) (each_of (minimal_item m s g) [] xs) (known_item (goals_known m true xs h.1))
    (each_known m (length m.goals) (minimal_item m s g) [] xs (λ before x behind b lx c. known_item (and_part m (all_as Goal true (before ++ behind)) (Goal g) false (goals_known m true (before ++ behind) (All-append (λ g. g < length m.goals) before behind b c)) h.0)) (All-nil (λ g. g < length m.goals)) h.1))
items_known m place (obstruct s g os) l h =
    All-push (IsLinkItem m) (hindrance_items m s g os) (covered_item m s g os) (hindrances_known m s g os h.0 h.1)
    (known_item (and_part m (all_as Obstacle false os) (Goal g) false (all_parts m Obstacle false (length m.obstacles) os (λ x h. h) h.1) h.0))
items_known m place (conflict s x xs f) l h =
    All-cons (IsLinkItem m) (diverges_item place s x xs) (each_of (without_item m place s x) [] xs ++ feasible_item place s x ∷ []) (known_item (then_parts m (all_as Goal true xs) (Boundary place) true l (goals_known m true xs h.0)))
    (All-push (IsLinkItem m) (each_of (without_item m place s x) [] xs) (feasible_item place s x)
    (each_known m (length m.goals) (without_item m place s x) [] xs (λ before y behind b lx c. known_item (then_parts m (all_as Goal true (before ++ behind)) (Boundary place) true l (goals_known m true (before ++ behind) (All-append (λ g. g < length m.goals) before behind b c)))) (All-nil (λ g. g < length m.goals)) h.0)
    (known_item (one_part m (Boundary place) true l)))
items_known m place (operationalise s g rs exact) l h =
    All-cons (IsLinkItem m) (operation_complete_item m s g rs) (operation_consistent_item m s g rs ∷ exact_items m s g exact rs) (known_item (and_part m (all_as Requirement true rs) (Goal g) false requirements h.0))
    (All-cons (IsLinkItem m) (operation_consistent_item m s g rs) (exact_items m s g exact rs) (known_item (requirements))
    (exact_known m s g exact rs h.0 h.1))
  where
    requirements : AreParts m (all_as Requirement true rs)
    requirements = all_parts m Requirement true (length m.requirements) rs (λ x h. h) h.1
items_known m place (assign s g a) l h = All-cons (IsLinkItem m) (assigned_item m s g a) [] (known_item (no_part m)) (All-nil (IsLinkItem m))
