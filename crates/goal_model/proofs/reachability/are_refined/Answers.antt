use Rattle.std.proofs.Common.{sym, ◌∙◌}
use Rattle.goal_model.specs.Models.{link_of}
use Rattle.goal_model.specs.Reachability.{refines_any}
use Rattle.goal_model.proofs.LastFirst.{fail_start, fail_before, passes_at, all_fail}
use Rattle.goal_model.proofs.reachability.are_refined.Goals as goal

pub links-init : goal.links-init
links-init c = fail_start link_of (refines_any c.args.goals.now) c.args.links.now

pub returns-then-refines_any : goal.returns-then-refines_any
returns-then-refines_any c = sym (passes_at link_of (refines_any c.args.goals.now) c.args.links.now c.links.place c.index-links-place.result c.links-test.true c.links.auto.place c.index-links-place.is (sym c.refines_any.ensures ∙ c.if-refines_any.true))

pub links-preserved : goal.links-preserved
links-preserved c = fail_before link_of (refines_any c.args.goals.now) c.args.links.now c.links.place c.index-links-place.result c.links-test.true c.links.auto.place c.index-links-place.is (sym c.refines_any.ensures ∙ c.if-refines_any.false) c.links.invariant

pub returns : goal.returns
returns c = sym (all_fail link_of (refines_any c.args.goals.now) c.args.links.now c.links.place c.links-test.false c.links.invariant)
