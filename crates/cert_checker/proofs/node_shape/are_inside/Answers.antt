use Rattle.std.proofs.Common.{arith, sym, ◌∙◌}
use Rattle.cert_checker.proofs.Shapes.{inside_lengths, inside_step, inside_no, inside_end}
use Rattle.cert_checker.proofs.node_shape.are_inside.Goals as goal

pub returns-then-full-sets : goal.returns-then-full-sets
returns-then-full-sets c = inside_lengths c.args.full.now c.args.sets.now c.if-full-sets.true

pub returns-then-sets-place : goal.returns-then-sets-place
returns-then-sets-place c = inside_no c.args.full.now c.args.sets.now c.places.place (record { 0 = 0 }) (omega arith) c.if-full-sets.false c.if-sets-place.true ∙ c.places.invariant

pub places-preserved : goal.places-preserved
places-preserved c = inside_step c.args.full.now c.args.sets.now c.places.place (record { 0 = 0 }) (omega arith) c.if-full-sets.false c.if-sets-place.false ∙ c.places.invariant

pub returns : goal.returns
returns c = sym (inside_end c.args.full.now c.args.sets.now c.places.place (omega arith) c.if-full-sets.false) ∙ c.places.invariant
