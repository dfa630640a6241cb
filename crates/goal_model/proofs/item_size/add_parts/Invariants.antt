use Rattle.std.proofs.Common.{take}
use Rattle.state_space.specs.Spaces.{sizes}
use Rattle.formula_table.specs.Tables.{closure_in, IsKept}
use Rattle.goal_model.specs.Models.{contents_of}
use Rattle.goal_model.specs.Items.{list_of}
use Rattle.goal_model.specs.Sizes.{Measures}
use Rattle.goal_model.proofs.item_size.add_parts.Given as goal

abbrev pub invariant-parts : goal.invariant-parts
invariant-parts l = record {
  measured : Measures (sizes l.contents.space) (list_of (contents_of l.contents) (take l.part-index l.parts)) l.measured;
  kept : IsKept (closure_in l.fn.measured.table) (closure_in l.measured.table);
}
