use Rattle.std.proofs.Common.{arith}
use Rattle.tableau_elimination.proofs.RightMarks.{living_one, living_none}
use Rattle.tableau_elimination.proofs.right.living.Goals as goal
use Rattle.tableau_elimination.proofs.right.living.Goals.{then-alive-place, else-alive-place}

pub places-preserved : goal.places-preserved
places-preserved c =
    let a = c.places.invariant.0 in
    let b = c.places.invariant.1 in
    elim c.if-alive-place.branch [
      | then-alive-place w ↦
          let n = w.count-is in
          let more = living_one c.args.alive.now c.places.place (omega arith) w.if-alive-place.true in
          (omega (arith, n, more, a), omega (arith, n, b))
      | else-alive-place w ↦
          let n = w.count-is in
          let same = living_none c.args.alive.now c.places.place (omega arith) w.if-alive-place.false in
          (omega (arith, n, same, a), omega (arith, n, b))
    ]
