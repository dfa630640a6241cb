use Rattle.std.proofs.Common.{arith}
use Rattle.refinement_graph.proofs.ItemCounts.{length-refinement_items, length-obstruction_items, length-conflict_items}
use Rattle.refinement_graph.proofs.assurance.item_count.Goals as goal

pub returns-in-Refine : goal.returns-in-Refine
returns-in-Refine c = λ m place. rw c.in-Refine.is (omega (arith, c.len.ensures, c.in-Refine.subgoals.ok.0, length-refinement_items m c.in-Refine.statement c.in-Refine.parent c.in-Refine.subgoals.items))

pub returns-in-Obstruct : goal.returns-in-Obstruct
returns-in-Obstruct c = λ m place. rw c.in-Obstruct.is (omega (arith, c.len-in-Obstruct.ensures, c.in-Obstruct.obstacles.ok.0, length-obstruction_items m c.in-Obstruct.statement c.in-Obstruct.goal c.in-Obstruct.obstacles.items))

pub returns-in-Conflict : goal.returns-in-Conflict
returns-in-Conflict c = λ m place. rw c.in-Conflict.is (omega (arith, c.len-in-Conflict.ensures, c.in-Conflict.goals.ok.0, length-conflict_items m place c.in-Conflict.statement c.in-Conflict.name c.in-Conflict.goals.items))
