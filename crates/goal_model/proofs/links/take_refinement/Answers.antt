use Rattle.std.proofs.Common.{◌≡◌, ◌<◌, length, map, Ok, subst, arith}
use Rattle.std.specs.Prelude.{All}
use Rattle.std.proofs.lemmas.List.{length-map}
use Rattle.goal_model.specs.declared.namespace.Kind.TheVariants.{Goal}
use Rattle.goal_model.specs.Scopes.{ScopeForm, used, listed}
use Rattle.goal_model.specs.Models.{contents_of, goal_of, link_of}
use Rattle.goal_model.specs.Marking.{HasParentBelow}
use Rattle.goal_model.specs.Drafts.{draft_of}
use Rattle.goal_model.proofs.KeptDrafts.{place_kept, places_kept, links_below, parents_below}
use Rattle.goal_model.proofs.links.take_refinement.Goals as goal

pub closes_cycle-requires-clause-parent : goal.closes_cycle-requires-clause-parent
closes_cycle-requires-clause-parent c =
    let goals = c.args.draft.now.contents.goals.items in
    let inside : c.in_ok-goal.goal < length (map goal_of goals) =
    place_kept (draft_of c.args.draft.now) Goal c.args.parent.now c.in_ok-goal.goal c.requires (subst (λ (s : ScopeForm). used s Goal c.args.parent.now ≡ Ok c.in_ok-goal.goal) c.scope-scope.ensures.scope c.in_ok-goal.ensures) in
    omega (arith, inside, length-map goals goal_of)

pub closes_cycle-requires-clause-given : goal.closes_cycle-requires-clause-given
closes_cycle-requires-clause-given c =
    let goals = c.args.draft.now.contents.goals.items in
    let inside : All (λ p. p < length (map goal_of goals)) c.in_ok-subgoals.subgoals.items =
    places_kept (draft_of c.args.draft.now) Goal c.args.subgoals.now c.in_ok-subgoals.subgoals.items c.requires (subst (λ (s : ScopeForm). listed (used s Goal) c.args.subgoals.now ≡ Ok c.in_ok-subgoals.subgoals.items) c.scope-scope.ensures.scope c.in_ok-subgoals.ensures) in
    rw c.deref-2.ensures.value (λ k d l. omega (arith, inside k d l, length-map goals goal_of, c.len-count.ensures))

pub closes_cycle-requires-clause-within : goal.closes_cycle-requires-clause-within
closes_cycle-requires-clause-within c =
    let goals = c.args.draft.now.contents.goals.items in
    rw c.deref.ensures.value (λ k d l from i e h. omega (arith, links_below (contents_of c.args.draft.now.contents) c.requires.parts.links k d l from i e h, length-map goals goal_of, c.len-count.ensures))

pub closes_cycle-requires-clause-parents : goal.closes_cycle-requires-clause-parents
closes_cycle-requires-clause-parents c =
    let goals = c.args.draft.now.contents.goals.items in
    let count : length (map goal_of goals) ≡ c.len-count.result = omega (arith, length-map goals goal_of, c.len-count.ensures) in
    rw c.deref.ensures.value (subst (λ n. All (HasParentBelow n) (map link_of c.args.draft.now.contents.links.items)) count (parents_below (contents_of c.args.draft.now.contents) c.requires.parts.links))
