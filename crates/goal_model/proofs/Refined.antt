-- The refinements of each goal: found in one pass over the links, and followed from the last one on.
use Rattle.std.proofs.Common.{◌≡◌, ◌≢◌, ℕ, zero, suc, ◌+◌, ◌<◌, ◌≤◌, ◌⊎◌, Bool, true, false, cond, List, [], ◌∷◌, ◌++◌, map, length, drop, replicate, set, get_or, refl, sym, ap, subst, ◌∙◌, inl, inr, ⊎_elim, arith, Contains, Option, Some, None, add-one}
use Rattle.std.proofs.lemmas.Bool.{false≢true, cases_eq, cases_lt, eqb-true, false_from_ne_true, cond-true, cond-false}
use Rattle.std.specs.Prelude.{eqb}
use Rattle.std.proofs.lemmas.List.{length-set, length_push, length-replicate, get_or-replicate, get_or-map, get_or_append_left, get_or_push, drop_all, drop_more, get_or_read}
use Rattle.std.proofs.Math.Seq.{get_or-set_same, get_or-set_other}
use Rattle.goal_model.specs.Models.{LinkForm, refine, assign}
use Rattle.goal_model.specs.Reachability.{subgoals_by, refines, IsSubgoal}
use Rattle.goal_model.specs.Marking.{MarksMore, link_at, last_refinement, AreRefinementsBelow}
use Rattle.goal_model.proofs.ReachMarks.{none_contained, subgoal_left, subgoal_right, subgoal_cases, subgoal_of_one, subgoal_in_one, marks_as, marks_both, marks_as_before}

-- a link by its place, where it is read
pub link_read : {X : Type 0} (view : X → LinkForm) (links : List X) (i : ℕ) (link : X) → i < length links → link ≡ get_or links i link → link_at (map view links) i ≡ view link
link_read view links i link l is = get_or-map view links i link (assign 0 0 0) l ∙ ap view (sym is)

-- before the first link
pub none_below : (links : List LinkForm) (count : ℕ) (last before : List (Option ℕ)) → last ≡ replicate count None → before ≡ [] → AreRefinementsBelow links count 0 last before
none_below links count last before l b = record {
  goals = rw l (length-replicate count None);
  places = rw b refl;
  last_is = λ goal h. rw l (get_or-replicate count goal None None h);
  before_is = λ place goal h. absurd (omega (arith, h));
}

-- one link more
link_below : (links : List LinkForm) (count n : ℕ) (last before later : List (Option ℕ)) (next : Option ℕ) → AreRefinementsBelow links count n last before → length later ≡ count
    → ((goal : ℕ) → goal < count → get_or later goal None ≡ cond (refines goal (link_at links n)) (Some n) (get_or last goal None)) → ((goal : ℕ) → refines goal (link_at links n) ≡ true → next ≡ last_refinement goal links n)
    → AreRefinementsBelow links count (n + 1) later (before ++ next ∷ [])
link_below links count n last before later next a size now was = record {
  goals = size;
  places = omega (arith, length_push before next, a.places);
  last_is = λ goal h. now goal h ∙ ap (λ o. cond (refines goal (link_at links n)) (Some n) o) (a.last_is goal h) ∙ sym (more goal);
  before_is = λ place goal h r. ⊎_elim (λ l. get_or_append_left before (next ∷ []) None place (omega (arith, l, a.places)) ∙ a.before_is place goal l r) (λ l. here place goal (omega (arith, h, l)) r) (cases_lt place n);
}
  where
    more : (goal : ℕ) → last_refinement goal links (n + 1) ≡ cond (refines goal (link_at links n)) (Some n) (last_refinement goal links n)
    more goal = ap (last_refinement goal links) (add-one n)

    here : (place goal : ℕ) → place ≡ n → refines goal (link_at links place) ≡ true → get_or (before ++ next ∷ []) place None ≡ last_refinement goal links place
    here place goal e r = get_or_push before next None place (a.places ∙ sym e) ∙ was goal (subst (λ k. refines goal (link_at links k) ≡ true) e r) ∙ ap (last_refinement goal links) (sym e)

-- a link refines one goal at most
refines_itself : (link : LinkForm) (goal other : ℕ) → refines goal link ≡ true → refines other link ≡ true → other ≡ goal
refines_itself (refine s parent xs k) goal other e f = sym (eqb-true parent other f) ∙ eqb-true parent goal e
refines_itself link goal other e f = absurd (false≢true e)

-- one link more, which refines a goal
pub refinement_below : (links : List LinkForm) (count n : ℕ) (last before : List (Option ℕ)) (goal : ℕ) → goal < count → refines goal (link_at links n) ≡ true → AreRefinementsBelow links count n last before
    → AreRefinementsBelow links count (n + 1) (set last goal (Some n)) (before ++ get_or last goal None ∷ [])
refinement_below links count n last before goal l r a = link_below links count n last before (set last goal (Some n)) (get_or last goal None) a (length-set last goal (Some n) ∙ a.goals) (λ other h. ⊎_elim (same other) (apart other) (cases_eq other goal)) was
  where
    Now : ℕ → Type 0
    Now other = get_or (set last goal (Some n)) other None ≡ cond (refines other (link_at links n)) (Some n) (get_or last other None)

    same : (other : ℕ) → other ≡ goal → Now other
    same other e = subst Now (sym e) (get_or-set_same last goal (Some n) None (omega (arith, l, a.goals)) ∙ sym (cond-true (refines goal (link_at links n)) (Some n) (get_or last goal None) r))

    apart : (other : ℕ) → other ≢ goal → Now other
    apart other e =
        let no : refines other (link_at links n) ≡ false = false_from_ne_true (refines other (link_at links n)) (λ f. e (refines_itself (link_at links n) goal other r f)) in
        get_or-set_other last goal other (Some n) None e ∙ sym (cond-false (refines other (link_at links n)) (Some n) (get_or last other None) no)

    was : (other : ℕ) → refines other (link_at links n) ≡ true → get_or last goal None ≡ last_refinement other links n
    was other f = subst (λ g. get_or last goal None ≡ last_refinement g links n) (sym (refines_itself (link_at links n) goal other r f)) (a.last_is goal l)

-- one link more, which refines no goal
pub other_below : (links : List LinkForm) (count n : ℕ) (last before : List (Option ℕ)) → ((goal : ℕ) → refines goal (link_at links n) ≡ false) → AreRefinementsBelow links count n last before → AreRefinementsBelow links count (n + 1) last (before ++ None ∷ [])
other_below links count n last before none a = link_below links count n last before last None a a.goals now was
  where
    now : (goal : ℕ) → goal < count → get_or last goal None ≡ cond (refines goal (link_at links n)) (Some n) (get_or last goal None)
    now goal h = sym (cond-false (refines goal (link_at links n)) (Some n) (get_or last goal None) (none goal))

    was : (goal : ℕ) → refines goal (link_at links n) ≡ true → None ≡ last_refinement goal links n
    was goal f = absurd (false≢true (sym (none goal) ∙ f))

-- ---- following them

-- past a refinement: there is none from there on
abbrev pub above : Option ℕ → ℕ
above None = 0
above (Some place) = place + 1

-- a link that does not refine a goal gives it no subgoal
none_given : (link : LinkForm) (goal : ℕ) → refines goal link ≡ false → subgoals_by goal link ≡ []
none_given (refine s parent xs k) goal e = cond-false (eqb parent goal) xs [] e
none_given link goal e = refl

-- the subgoals from a link on: its own, and those behind it
given_here : (links : List LinkForm) (goal n g : ℕ) → n < length links → IsSubgoal (drop n links) goal g → Contains (subgoals_by goal (link_at links n)) g ⊎ IsSubgoal (drop (n + 1) links) goal g
given_here links goal n g l s =
    ⊎_elim (λ h. inl (subgoal_of_one (link_at links n) goal g h)) (λ h. inr h)
    (subgoal_cases (link_at links n ∷ []) (drop (n + 1) links) goal g (subst (λ ls. IsSubgoal ls goal g) (drop_more links n (assign 0 0 0) l) s))

-- the same the other way
from_here : (links : List LinkForm) (goal n g : ℕ) → n < length links → Contains (subgoals_by goal (link_at links n)) g ⊎ IsSubgoal (drop (n + 1) links) goal g → IsSubgoal (drop n links) goal g
from_here links goal n g l h =
    subst (λ ls. IsSubgoal ls goal g) (sym (drop_more links n (assign 0 0 0) l))
    (⊎_elim (λ c. subgoal_left (link_at links n ∷ []) (drop (n + 1) links) goal g (subgoal_in_one (link_at links n) goal g c)) (λ s. subgoal_right (link_at links n ∷ []) (drop (n + 1) links) goal g s) h)

-- no subgoal is given between the last refinement below a place and this place
skipped : (links : List LinkForm) (goal n g : ℕ) → n ≤ length links → IsSubgoal (drop (above (last_refinement goal links n)) links) goal g → IsSubgoal (drop n links) goal g
skipped links goal zero g l s = s
skipped links goal (suc n) g l s = by (refines goal (link_at links n)) refl (skipped links goal n g (omega arith)) s
  where
    by : (b : Bool) → b ≡ refines goal (link_at links n) → (IsSubgoal (drop (above (last_refinement goal links n)) links) goal g → IsSubgoal (drop n links) goal g) → IsSubgoal (drop (above (cond b (Some n) (last_refinement goal links n))) links) goal g
        → IsSubgoal (drop (suc n) links) goal g
    by true e below s = subst (λ k. IsSubgoal (drop k links) goal g) (add-one n) s
    by false e below s =
        ⊎_elim (λ h. absurd (none_contained g (subst (λ xs. Contains xs g) (none_given (link_at links n) goal (sym e)) h))) (λ h. subst (λ k. IsSubgoal (drop k links) goal g) (add-one n) h)
        (given_here links goal n g (omega arith) (below s))

-- the same the other way: the links from the place on are among those behind the last refinement below it
kept_behind : (links : List LinkForm) (goal n g : ℕ) → n ≤ length links → IsSubgoal (drop n links) goal g → IsSubgoal (drop (above (last_refinement goal links n)) links) goal g
kept_behind links goal zero g l s = s
kept_behind links goal (suc n) g l s = by (refines goal (link_at links n)) (kept_behind links goal n g (omega arith))
  where
    here : IsSubgoal (drop (n + 1) links) goal g
    here = subst (λ k. IsSubgoal (drop k links) goal g) (sym (add-one n)) s

    by : (b : Bool) → (IsSubgoal (drop n links) goal g → IsSubgoal (drop (above (last_refinement goal links n)) links) goal g) → IsSubgoal (drop (above (cond b (Some n) (last_refinement goal links n))) links) goal g
    by true below = here
    by false below = below (from_here links goal n g (omega arith) (inr here))

-- the last refinement below a place is below it
pub above_last : (links : List LinkForm) (goal n : ℕ) → above (last_refinement goal links n) ≤ n
above_last links goal zero = omega arith
above_last links goal (suc n) = by (refines goal (link_at links n)) (above_last links goal n)
  where
    by : (b : Bool) → above (last_refinement goal links n) ≤ n → above (cond b (Some n) (last_refinement goal links n)) ≤ suc n
    by true below = omega arith
    by false below = omega arith

-- and it refines the goal
last_refines : (links : List LinkForm) (goal n p : ℕ) → Some p ≡ last_refinement goal links n → refines goal (link_at links p) ≡ true
last_refines links goal zero p e = absurd (cc)
last_refines links goal (suc n) p e = by (refines goal (link_at links n)) refl (last_refines links goal n p) e
  where
    by : (b : Bool) → b ≡ refines goal (link_at links n) → (Some p ≡ last_refinement goal links n → refines goal (link_at links p) ≡ true) → Some p ≡ cond b (Some n) (last_refinement goal links n) → refines goal (link_at links p) ≡ true
    by true e below s = let same : p ≡ n = cc in subst (λ k. refines goal (link_at links k) ≡ true) (sym same) (sym e)
    by false e below s = below s

-- the refinements of a goal from a place on are followed, and `next` is the last one before it
pub record IsFollowed (links : List LinkForm) (goal : ℕ) (next : Option ℕ) (a : List Bool) (v : List ℕ) (b : List Bool) (w : List ℕ) : Type 0 where
  pub place : ℕ
  pub within : place ≤ length links
  pub rest : next ≡ last_refinement goal links place
  pub marked : MarksMore (IsSubgoal (drop place links) goal) a v b w

-- before the last refinement is followed
pub follow_begun : (links : List LinkForm) (goal : ℕ) (next : Option ℕ) (marks : List Bool) (waiting : List ℕ) → next ≡ last_refinement goal links (length links) → IsFollowed links goal next marks waiting marks waiting
follow_begun links goal next marks waiting e = record {
  place = length links;
  within = omega arith;
  rest = e;
  marked = marks_as_before _ marks waiting (λ g s. absurd (none_contained s.0 (subst (λ ls. Contains ls s.0) (drop_all (length links) links (omega arith)) s.1)));
}

-- the next refinement is a link that refines the goal
pub follow_link : (links : List LinkForm) (goal place : ℕ) (a : List Bool) (v : List ℕ) (b : List Bool) (w : List ℕ) → IsFollowed links goal (Some place) a v b w → (place < length links) × (refines goal (link_at links place) ≡ true)
follow_link links goal place a v b w f =
    let e : above (Some place) ≡ above (last_refinement goal links f.place) = ap above f.rest in
    (omega (arith, e, above_last links goal f.place, f.within), last_refines links goal f.place place f.rest)

-- a refinement is followed, and the one before it is next
pub follow_next : (links : List LinkForm) (goal place : ℕ) (next : Option ℕ) (a : List Bool) (u : List ℕ) (b : List Bool) (v : List ℕ) (c : List Bool) (w : List ℕ)
    → IsFollowed links goal (Some place) a u b v → next ≡ last_refinement goal links place → MarksMore (Contains (subgoals_by goal (link_at links place))) b v c w → IsFollowed links goal next a u c w
follow_next links goal place next a u b v c w f e m =
    let l : place < length links = (follow_link links goal place a u b v f).0 in
    let behind : MarksMore (IsSubgoal (drop (place + 1) links) goal) a u b v = marks_as _ _ a u b v
    (λ g s. subst (λ o. IsSubgoal (drop (above o) links) goal g) (sym f.rest) (kept_behind links goal f.place g f.within s))
    (λ g s. skipped links goal f.place g f.within (subst (λ o. IsSubgoal (drop (above o) links) goal g) f.rest s)) f.marked in
    record {
      place = place;
      within = omega arith;
      rest = e;
      marked = marks_both _ _ _ a u b v c w (λ g h. from_here links goal place g l (⊎_elim (λ s. inr s) (λ h. inl h) h)) (λ g s. ⊎_elim (λ h. inr h) (λ s. inl s) (given_here links goal place g l s)) behind m;
    }

-- where there is none before it, all are followed
pub follow_ended : (links : List LinkForm) (goal : ℕ) (a : List Bool) (v : List ℕ) (b : List Bool) (w : List ℕ) → IsFollowed links goal None a v b w → MarksMore (IsSubgoal links goal) a v b w
follow_ended links goal a v b w f = marks_as _ _ a v b w
    (λ g s. subst (λ o. IsSubgoal (drop (above o) links) goal g) (sym f.rest) (kept_behind links goal f.place g f.within s))
    (λ g s. skipped links goal f.place g f.within (subst (λ o. IsSubgoal (drop (above o) links) goal g) f.rest s)) f.marked

-- what is read of the lists is the last refinement, and the one before a refinement
pub last_read : (links : List LinkForm) (count goal : ℕ) (last before : List (Option ℕ)) (next : Option ℕ) → AreRefinementsBelow links count (length links) last before → goal < count → next ≡ get_or last goal next → next ≡ last_refinement goal links (length links)
last_read links count goal last before next a l is = get_or_read last goal next (omega (arith, l, a.goals)) is None ∙ a.last_is goal l

pub before_read : (links : List LinkForm) (count goal place : ℕ) (last before : List (Option ℕ)) (next : Option ℕ) → AreRefinementsBelow links count (length links) last before → (place < length links) × (refines goal (link_at links place) ≡ true) → next ≡ get_or before place next → next ≡ last_refinement goal links place
before_read links count goal place last before next a l is = get_or_read before place next (omega (arith, l.0, a.places)) is None ∙ a.before_is place goal l.0 l.1
