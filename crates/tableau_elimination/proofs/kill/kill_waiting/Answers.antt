use Rattle.std.proofs.Common.{sym, ◌∙◌, arith}
use Rattle.tableau_elimination.specs.Marks.{carrying_in}
use Rattle.tableau_elimination.proofs.MarkSteps.{living_most}
use Rattle.tableau_elimination.proofs.WaitSteps.{killed_skip, killed_take, waits_now}
use Rattle.tableau_elimination.proofs.kill.kill_waiting.Goals as goal
use Rattle.tableau_elimination.proofs.kill.kill_waiting.Goals.{then-is_waiting, else-is_waiting}

pub overflow_sub-rank : goal.overflow_sub-rank
overflow_sub-rank c = let h = living_most c.args.alive.now in let a = c.requires.alive in let l = c.requires.left in omega (arith, h, a, l)

pub overflow_sub-rest : goal.overflow_sub-rest
overflow_sub-rest c = (killed_take (carrying_in c.args.linked_graph.now c.args.until) c.args.until c.args.levels.now c.args.alive.now c.places.alive c.args.ranks.now c.places.ranks c.args.causes.now c.places.causes c.args.left c.places.rest c.places.place c.places.invariant
    (omega arith) (omega arith) (omega arith) (sym (waits_now (carrying_in c.args.linked_graph.now c.args.until) c.args.until c.args.levels.now c.args.alive.now c.places.alive c.args.ranks.now c.places.ranks c.args.causes.now c.places.causes c.args.left c.places.rest c.places.place c.places.invariant) ∙ sym c.if-is_waiting.ensures)).0

pub places-preserved : goal.places-preserved
places-preserved c =
    let cr = carrying_in c.args.linked_graph.now c.args.until in
    let here = waits_now cr c.args.until c.args.levels.now c.args.alive.now c.places.alive c.args.ranks.now c.places.ranks c.args.causes.now c.places.causes c.args.left c.places.rest c.places.place c.places.invariant in
    elim c.if-is_waiting.branch [
      | then-is_waiting w ↦
          let a = w.alive-is in let r = w.ranks-is in let y = w.causes-is in let l = w.rest-is in
          rw (a, r, y, l) (killed_take cr c.args.until c.args.levels.now c.args.alive.now c.places.alive c.args.ranks.now c.places.ranks c.args.causes.now c.places.causes c.args.left c.places.rest c.places.place c.places.invariant
          (omega arith) (omega arith) (omega arith) (sym here ∙ sym w.if-is_waiting.ensures)).1
      | else-is_waiting w ↦
          let a = w.alive-is in let r = w.ranks-is in let y = w.causes-is in let l = w.rest-is in
          rw (a, r, y, l) (killed_skip cr c.args.until c.args.levels.now c.args.alive.now c.places.alive c.args.ranks.now c.places.ranks c.args.causes.now c.places.causes c.args.left c.places.rest c.places.place c.places.invariant
          (sym here ∙ sym w.if-is_waiting.ensures))
    ]
