use Rattle.std.proofs.Common.{arith, length}
use Rattle.temporal_logic.specs.Lassos.{trace_of}
use Rattle.temporal_logic.specs.Trees.{tree_of}
use Rattle.temporal_logic.specs.Truth.{Truth}
use Rattle.temporal_logic.proofs.Decided.{truth_repeats}
use Rattle.temporal_logic.proofs.Loops.{lasso_loops}
use Rattle.lasso_checker.proofs.Filling.{filled_none, filled_more, filled_all, repeats_at}
use Rattle.lasso_checker.proofs.atom_rows.atom_row.Goals as goal

pub row-init : goal.row-init
row-init c = filled_none _ _ _ _ _

pub row-preserved : goal.row-preserved
row-preserved c =
    filled_more _ _ _ _ _ _ _ _ _ _ (omega arith) (omega arith) (omega arith) c.row.invariant c.set_bit.ensures.here c.set_bit.ensures.rest c.set_bit.ensures.words c.atom_at.ensures.truth

pub returns-clause-row : goal.returns-clause-row
returns-clause-row c =
    let l = c.args.layout.now in
    let lasso = c.args.lasso.now in
    let t = trace_of lasso in
    let f = tree_of c.args.f.now in
    filled_all (Truth t f) c.args.table.now c.row.table c.args.base l.words l.start l.turn c.row.place l.turns (repeats_at (Truth t f) (length lasso.prefix.items) (length lasso.cycle.items) l.start l.turn c.requires.layout.start c.requires.layout.turn (truth_repeats t (length lasso.prefix.items) (length lasso.cycle.items) (lasso_loops lasso) f)) (omega arith) c.row.invariant

pub returns-clause-below : goal.returns-clause-below
returns-clause-below c = c.row.invariant.below
