use Rattle.std.proofs.Common.{◌≡◌, ◌-◌, sym, subst, arith}
use Rattle.tableau_rules.specs.Links.{fulfils_at}
use Rattle.tableau_rules.proofs.PlaceTests.{no_both}
use Rattle.tableau_elimination.specs.Marks.{AreCleared}
use Rattle.tableau_elimination.proofs.MarkSteps.{cleared_take, cleared_skip, has_left}
use Rattle.tableau_elimination.proofs.kill.clear.Goals as goal
use Rattle.tableau_elimination.proofs.kill.clear.Goals.{else-alive-place-via-then-alive-place+else-not-is_some_alive, else-alive-place-via-else-alive-place}

pub overflow_sub-ranks : goal.overflow_sub-ranks
overflow_sub-ranks c =
    (has_left c.args.links.now c.requires.marked.0 (fulfils_at c.args.links.now) c.places.alive c.places.ranks c.places.causes c.places.rest (c.places.place - 1)
    c.requires.in_range (omega arith) (c.places.invariant c.requires.marked.0 c.requires.marked.1).marked c.if-alive-place.true).1

pub overflow_sub-rest : goal.overflow_sub-rest
overflow_sub-rest c =
    (has_left c.args.links.now c.requires.marked.0 (fulfils_at c.args.links.now) c.places.alive c.places.ranks c.places.causes c.places.rest (c.places.place - 1)
    c.requires.in_range (omega arith) (c.places.invariant c.requires.marked.0 c.requires.marked.1).marked c.if-alive-place.true).0

pub places-preserved-then-not-is_some_alive : goal.places-preserved-then-not-is_some_alive
places-preserved-then-not-is_some_alive c = λ carrying m.
    cleared_take c.args.links.now carrying (fulfils_at c.args.links.now) c.args.alive.now c.places.alive c.places.ranks c.places.causes c.args.left c.places.rest c.places.place (c.places.place - 1)
    c.requires.in_range (omega arith) (omega arith) c.if-alive-place.true (sym c.if-not-is_some_alive.ensures) (c.places.invariant carrying m)

pub places-preserved : goal.places-preserved
places-preserved c = λ carrying m.
    cleared_skip c.args.links.now carrying (fulfils_at c.args.links.now) c.args.alive.now c.places.alive c.places.ranks c.places.causes c.args.left c.places.rest c.places.place (c.places.place - 1)
    (omega arith)
    (λ a. elim c.else-alive-place.branch [
      | else-alive-place-via-then-alive-place+else-not-is_some_alive w ↦ sym w.if-not-is_some_alive.ensures
      | else-alive-place-via-else-alive-place w ↦ absurd (no_both _ a w.if-alive-place.false)
    ])
    (c.places.invariant carrying m)

pub returns : goal.returns
returns c = λ carrying m.
    let first : c.places.place ≡ 0 = omega arith in
    subst (AreCleared c.args.links.now carrying (fulfils_at c.args.links.now) c.args.alive.now c.places.alive c.places.ranks c.places.causes c.args.left c.places.rest) first (c.places.invariant carrying m)
