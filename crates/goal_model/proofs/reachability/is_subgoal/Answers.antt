use Rattle.std.proofs.Common.{sym, ◌∙◌}
use Rattle.goal_model.specs.Models.{link_of}
use Rattle.goal_model.specs.Reachability.{has_subgoal}
use Rattle.goal_model.proofs.LastFirst.{fail_start, fail_before, passes_at, all_fail}
use Rattle.goal_model.proofs.reachability.is_subgoal.Goals as goal

pub links-init : goal.links-init
links-init c = fail_start link_of (has_subgoal c.args.goal) c.args.links.now

pub returns-then-has_subgoal : goal.returns-then-has_subgoal
returns-then-has_subgoal c = sym (passes_at link_of (has_subgoal c.args.goal) c.args.links.now c.links.place c.index-links-place.result c.links-test.true c.links.auto.place c.index-links-place.is (sym c.has_subgoal.ensures ∙ c.if-has_subgoal.true))

pub links-preserved : goal.links-preserved
links-preserved c = fail_before link_of (has_subgoal c.args.goal) c.args.links.now c.links.place c.index-links-place.result c.links-test.true c.links.auto.place c.index-links-place.is (sym c.has_subgoal.ensures ∙ c.if-has_subgoal.false) c.links.invariant

pub returns : goal.returns
returns c = sym (all_fail link_of (has_subgoal c.args.goal) c.args.links.now c.links.place c.links-test.false c.links.invariant)
