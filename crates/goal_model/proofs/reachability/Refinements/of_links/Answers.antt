use Rattle.std.proofs.Common.{◌≡◌, ℕ, ◌<◌, false, List, length, get_or, map, Vec, Global, Option, None, arith, rules, subst, ap, refl, ◌∙◌}
use Rattle.std.specs.Prelude.{All}
use Rattle.std.proofs.lemmas.Bool.{eq-eqb}
use Rattle.std.proofs.lemmas.List.{length-map, get_or_read}
use Rattle.goal_model.specs.declared.pattern.PatternKind.{PatternKind}
use Rattle.goal_model.specs.declared.contents.Link as code
use Rattle.goal_model.specs.declared.contents.Link.TheVariants as links
use Rattle.goal_model.specs.Models.{LinkForm, link_of, refine}
use Rattle.goal_model.specs.Reachability.{refines}
use Rattle.goal_model.specs.Marking.{HasParentBelow, AreRefinementsBelow, link_at}
use Rattle.goal_model.proofs.Refined.{link_read, none_below, refinement_below, other_below}
use Rattle.goal_model.proofs.reachability.Refinements.of_links.Goals as goal
use Rattle.goal_model.proofs.reachability.Refinements.of_links.Goals.{in-Refine, in_default}

-- a link that was matched as a refinement
refinement_at : (all : List code.Link) (place : ℕ) (link : code.Link) (statement parent : ℕ) (subgoals : Vec ℕ Global) (pattern : Option PatternKind) → place < length all → link ≡ get_or all place link → link ≡ links.Refine statement parent subgoals pattern
    → link_at (map link_of all) place ≡ refine statement parent subgoals.items pattern
refinement_at all place link statement parent subgoals pattern l is e = link_read link_of all place link l is ∙ ap link_of e

-- its parent is a goal
parent_below : (all : List LinkForm) (count place statement parent : ℕ) (subgoals : List ℕ) (pattern : Option PatternKind) → All (HasParentBelow count) all → place < length all → link_at all place ≡ refine statement parent subgoals pattern → parent < count
parent_below all count place statement parent subgoals pattern below l e = subst (HasParentBelow count) e (below place _ l)

-- a link that is no refinement
refines_none : (link : code.Link) → ((statement parent : ℕ) (subgoals : Vec ℕ Global) (pattern : Option PatternKind) → link ≡ links.Refine statement parent subgoals pattern → ⊥) → (goal : ℕ) → refines goal (link_of link) ≡ false
refines_none (links.Refine s p xs k) other goal = absurd (other s p xs k refl)
refines_none link other goal = refl

pub links-init : goal.links-init
links-init c = none_below _ c.args.count _ _ (search rules) (search rules)

pub index_mut-requires : goal.index_mut-requires
index_mut-requires c =
    let at = refinement_at c.args.links.now c.links.place c.index-links-place.result _ _ _ _ c.links-test.true c.index-links-place.is c.in-Refine.is in
    let below : c.in-Refine.parent < c.args.count = parent_below _ c.args.count c.links.place _ _ _ _ c.requires.parents (omega (arith, length-map c.args.links.now link_of)) at in
    omega (arith, below, c.links.invariant.goals)

pub links-preserved : goal.links-preserved
links-preserved c =
    let all : List LinkForm = map link_of c.args.links.now in
    elim c.match-link.branch [
      | in-Refine w ↦
          let at : link_at all c.links.place ≡ refine w.in-Refine.statement w.in-Refine.parent w.in-Refine.subgoals.items w.in-Refine.pattern =
          refinement_at c.args.links.now c.links.place c.index-links-place.result _ _ _ _ c.links-test.true c.index-links-place.is w.in-Refine.is in
          let below : w.in-Refine.parent < c.args.count = parent_below all c.args.count c.links.place _ _ _ _ c.requires.parents (omega (arith, length-map c.args.links.now link_of)) at in
          let read : w.index_mut.result.now ≡ get_or c.links.last.items w.in-Refine.parent None = get_or_read c.links.last.items w.in-Refine.parent w.index_mut.result.now (omega (arith, below, c.links.invariant.goals)) w.index_mut.ensures.value None in
          rw (w.last-is, w.replace.ensures.after, c.in_ok-push.ensures.items, w.push-is, w.replace.ensures.value, read)
          (refinement_below all c.args.count c.links.place _ _ w.in-Refine.parent below (ap (refines w.in-Refine.parent) at ∙ eq-eqb w.in-Refine.parent w.in-Refine.parent refl) c.links.invariant)
      | in_default w ↦
          let none = λ (goal : ℕ). ap (refines goal) (link_read link_of c.args.links.now c.links.place c.index-links-place.result c.links-test.true c.index-links-place.is) ∙ refines_none c.index-links-place.result w.in_default.not-Refine goal in
          rw (w.last-is, c.in_ok-push.ensures.items, w.push-is) (other_below all c.args.count c.links.place _ _ none c.links.invariant)
    ]

pub returns : goal.returns
returns c = subst (λ n. AreRefinementsBelow (map link_of c.args.links.now) c.args.count n c.links.last.items c.links.before.items) (omega (arith, length-map c.args.links.now link_of)) c.links.invariant
