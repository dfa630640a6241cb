use Rattle.std.proofs.Common.{◌≡◌, ◌∙◌, ap, Err}
use Rattle.state_space.specs.Spaces.{sizes}
use Rattle.temporal_logic.specs.declared.lasso.LassoRefusal.{LassoRefusal}
use Rattle.lasso_builder.proofs.states.lasso_of.Goals as goal
use Rattle.temporal_logic.proofs.RowStates.{states_of_rows}

pub unreachable-requires-in-Err-StateOutOfSpace : goal.unreachable-requires-in-Err-StateOutOfSpace
unreachable-requires-in-Err-StateOutOfSpace c =
    let answer = c.requires.1 in
    let refused : c.new.result ≡ Err LassoRefusal.StateOutOfSpace = c.in-Err-StateOutOfSpace.is ∙ ap Err c.in-Err-StateOutOfSpace.field-0-is in
    (c.new.ensures.out.0 refused).1 (states_of_rows (sizes c.args.space.now) c.args.prefix.items answer.prefix_fits, states_of_rows (sizes c.args.space.now) c.args.cycle.items answer.cycle_fits)
