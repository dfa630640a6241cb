use Rattle.std.proofs.Common.{◌≡◌, ℕ, zero, suc, ◌<◌, ◌↔◌, Bool, true, false, List, [], ◌∷◌, length, get_or, refl, sym, ◌∙◌, arith}
use Rattle.std.proofs.lemmas.Bool.{false≢true, false_from_ne_true}
use Rattle.goal_model.specs.Models.{LinkForm}
use Rattle.goal_model.specs.Reachability.{IsCyclic, closes_cycle}
use Rattle.goal_model.specs.Marking.{IsMarked}
use Rattle.goal_model.proofs.Cycles.{cycle_tested, cycle_test, among_is_cycle, no_subgoal, not_refined}
use Rattle.goal_model.proofs.reachability.closes_cycle.Goals as goal
use Rattle.goal_model.proofs.reachability.closes_cycle.Goals.{then-not-is_subgoal-via-then-not-is_subgoal, then-not-is_subgoal-via-else-not-is_subgoal+then-not-are_refined}

same : (marks : List Bool) (k : ℕ) (d : Bool) → k < length marks → get_or marks k d ≡ get_or marks k false
same [] k d l = absurd (omega (arith, l))
same (m ∷ ms) zero d l = refl
same (m ∷ ms) (suc k) d l = same ms k d (omega (arith, l))

tested : (links : List LinkForm) (parent : ℕ) (subgoals : List ℕ) (marks : List Bool) (b : Bool) → parent < length marks → b ≡ get_or marks parent b → IsMarked marks parent ↔ IsCyclic links parent subgoals → b ≡ closes_cycle links parent subgoals
tested links parent subgoals marks true l is h = sym (cycle_test links parent subgoals (h.0 (sym (is ∙ same marks parent true l))))
tested links parent subgoals marks false l is h = sym (false_from_ne_true (closes_cycle links parent subgoals) (λ e. false≢true (is ∙ h.1 (cycle_tested links parent subgoals e))))

pub returns : goal.returns
returns c = record { cyclic = tested _ c.args.parent c.args.subgoals.now c.in_ok-marks.marks.items c.index.result.now (omega (arith, c.requires.parent, c.in_ok-marks.ensures.size)) c.index.ensures (c.in_ok-marks.ensures.marked c.args.parent) }

pub returns-then-contains : goal.returns-then-contains
returns-then-contains c = record { cyclic = sym (among_is_cycle _ c.args.parent c.args.subgoals.now (sym c.contains.ensures.value ∙ c.if-contains.true)) }

pub returns-then-not-is_subgoal : goal.returns-then-not-is_subgoal
returns-then-not-is_subgoal c =
    let among = sym c.contains.ensures.value ∙ c.if-contains.false in
    elim c.then-not-is_subgoal.branch [
      | then-not-is_subgoal-via-then-not-is_subgoal w ↦ record { cyclic = sym (no_subgoal _ c.args.parent c.args.subgoals.now among (sym c.is_subgoal.ensures ∙ w.if-not-is_subgoal.true)) }
      | then-not-is_subgoal-via-else-not-is_subgoal+then-not-are_refined w ↦ record { cyclic = sym (not_refined _ c.args.parent c.args.subgoals.now among (sym w.are_refined.ensures ∙ w.if-not-are_refined.true)) }
    ]
