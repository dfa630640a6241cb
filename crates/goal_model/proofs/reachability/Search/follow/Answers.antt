use Rattle.std.proofs.Common.{◌≡◌, ℕ, ◌<◌, List, length, map, vec_len, Option, Some, Bool, All, arith, rules, subst, sym}
use Rattle.std.proofs.lemmas.List.{length-map}
use Rattle.goal_model.specs.Models.{LinkForm, link_of}
use Rattle.goal_model.specs.Marking.{link_at}
use Rattle.goal_model.proofs.ReachMarks.{within_at}
use Rattle.goal_model.proofs.Refined.{IsFollowed, link_read, above_last, follow_begun, follow_link, follow_next, follow_ended, last_read, before_read}
use Rattle.goal_model.proofs.reachability.Search.follow.Goals as goal

-- the place of the refinement that is followed next
inside : {X : Type 0} (view : X → LinkForm) (links : List X) (goal place : ℕ) (next : Option ℕ) (a : List Bool) (v : List ℕ) (b : List Bool) (w : List ℕ) → next ≡ Some place → IsFollowed (map view links) goal next a v b w → place < length links
inside view links goal place next a v b w e f = omega (arith, (follow_link (map view links) goal place a v b w (rw e at f)).0, length-map links view)

pub places-init : goal.places-init
places-init c = follow_begun _ c.args.goal _ _ _ (last_read _ _ c.args.goal _ _ _ c.requires.refinements c.requires.goal c.index-next.ensures)

pub offset_bounds-links-place : goal.offset_bounds-links-place
offset_bounds-links-place c = let l : c.in-Some.place < length c.args.links.now = inside link_of _ c.args.goal c.in-Some.place _ _ _ _ _ c.in-Some.is c.places.invariant in search rules

pub bounds-links-place : goal.bounds-links-place
bounds-links-place c = inside link_of _ c.args.goal c.in-Some.place _ _ _ _ _ c.in-Some.is c.places.invariant

pub reach_all-requires : goal.reach_all-requires
reach_all-requires c =
    let n = vec_len c.args.self.now.marks in
    let l = inside link_of _ c.args.goal c.in-Some.place _ _ _ _ _ c.in-Some.is c.places.invariant in
    let within = within_at link_of n c.args.links.now c.in-Some.place c.index-links-place.result l c.index-links-place.is c.requires.within c.args.goal in
    let all : All (λ g. g < n) c.subgoals_by.result.now = subst (λ (xs : List ℕ). All (λ g. g < n) xs) (sym c.subgoals_by.ensures.subgoals) within in
    record { within = λ k d l. omega (arith, all k d l, c.places.invariant.marked.size) }

pub index-next-requires-in-Some : goal.index-next-requires-in-Some
index-next-requires-in-Some c = omega (arith, follow_link _ c.args.goal c.in-Some.place _ _ _ _ (rw c.in-Some.is at c.places.invariant), c.requires.refinements.places)

pub places-smaller : goal.places-smaller
places-smaller c =
    let links : List LinkForm = map link_of c.args.links.now in
    let link = follow_link links c.args.goal c.in-Some.place _ _ _ _ (rw c.in-Some.is at c.places.invariant) in
    let next = before_read links _ c.args.goal c.in-Some.place _ _ _ c.requires.refinements link c.index-next-in-Some.ensures in
    rw (c.in-Some.is, next) (omega (arith, above_last links c.args.goal c.in-Some.place))

pub places-preserved : goal.places-preserved
places-preserved c =
    let links : List LinkForm = map link_of c.args.links.now in
    let followed = rw c.in-Some.is at c.places.invariant in
    let link = follow_link links c.args.goal c.in-Some.place _ _ _ _ followed in
    let read : link_at links c.in-Some.place ≡ link_of c.index-links-place.result =
    link_read link_of c.args.links.now c.in-Some.place c.index-links-place.result (omega (arith, link.0, length-map c.args.links.now link_of)) c.index-links-place.is in
    follow_next links c.args.goal c.in-Some.place _ _ _ _ _ _ _ followed (before_read links _ c.args.goal c.in-Some.place _ _ _ c.requires.refinements link c.index-next-in-Some.ensures)
    (rw read (rw c.subgoals_by.ensures.subgoals at c.in_ok-reach_all.ensures.marked))

pub returns : goal.returns
returns c = record { marked = follow_ended _ _ _ _ _ _ (rw c.in_default.is at c.places.invariant) }
