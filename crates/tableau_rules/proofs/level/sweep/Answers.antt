use Rattle.std.proofs.Common.{◌-◌, sym, ◌∙◌, arith}
use Rattle.tableau_rules.specs.Links.{fulfils_at}
use Rattle.tableau_rules.proofs.Passes.{swept_take, swept_skip, has_rest}
use Rattle.tableau_rules.proofs.level.sweep.Goals as goal
use Rattle.tableau_rules.proofs.level.sweep.Goals.{else-levels-place-via-then-levels-place+else-can_take, else-levels-place-via-else-levels-place}

pub places-preserved-then-can_take : goal.places-preserved-then-can_take
places-preserved-then-can_take c =
    swept_take c.args.links.now (fulfils_at c.args.links.now c.args.until) c.args.alive.now c.places.levels c.places.rest c.args.left c.places.place (c.places.place - 1)
    c.requires.in_range (omega arith) (omega arith) (sym c.can_take.ensures ∙ c.if-can_take.true) c.places.invariant

pub places-preserved : goal.places-preserved
places-preserved c =
    swept_skip c.args.links.now (fulfils_at c.args.links.now c.args.until) c.args.alive.now c.places.levels c.places.rest c.args.left c.places.place (c.places.place - 1)
    (omega arith)
    (λ none. elim c.else-levels-place.branch [
      | else-levels-place-via-then-levels-place+else-can_take w ↦ sym w.can_take.ensures ∙ w.if-can_take.false
      | else-levels-place-via-else-levels-place w ↦ let f = w.if-levels-place.false in absurd (omega (arith, f, none))
    ])
    c.places.invariant

pub overflow_sub-levels : goal.overflow_sub-levels
overflow_sub-levels c =
    (has_rest c.args.links.now (fulfils_at c.args.links.now c.args.until) c.args.alive.now c.places.levels c.places.rest c.args.left c.places.place (c.places.place - 1)
    c.requires.in_range (omega arith) (omega arith) c.places.invariant.levelling).1

pub overflow_sub-rest : goal.overflow_sub-rest
overflow_sub-rest c =
    (has_rest c.args.links.now (fulfils_at c.args.links.now c.args.until) c.args.alive.now c.places.levels c.places.rest c.args.left c.places.place (c.places.place - 1)
    c.requires.in_range (omega arith) (omega arith) c.places.invariant.levelling).0
