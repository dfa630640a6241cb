use Rattle.std.proofs.Common.{◌<◌, length, subst, rules}
use Rattle.state_space.specs.Spaces.{sizes}
use Rattle.temporal_logic.specs.declared.lasso.Lasso.{Lasso}
use Rattle.temporal_logic.specs.Rows.{AllFit}
use Rattle.temporal_logic.proofs.Fitting.{trace_fits}
use Rattle.temporal_logic.proofs.lasso.Lasso.new.Goals as goal

pub returns-clause-fits : goal.returns-clause-fits
returns-clause-fits c =
    let turns : 0 < length c.args.cycle.items = search rules in
    let l : Lasso = record { prefix = c.args.prefix; cycle = c.args.cycle; loops = turns } in
    let sizes = sizes c.args.space.now in
    let before = subst (AllFit sizes) c.deref.ensures.value (c.all_fit.ensures.fit.0 c.if-not-all_fit.false) in
    let behind = subst (AllFit sizes) c.deref-else-not-all_fit.ensures.value (c.all_fit-else-not-all_fit.ensures.fit.0 c.if-not-all_fit-2.false) in
    trace_fits sizes l (before, behind)
