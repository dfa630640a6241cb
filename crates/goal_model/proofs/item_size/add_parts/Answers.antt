use Rattle.std.proofs.Common.{List, take, subst}
use Rattle.state_space.specs.Spaces.{sizes}
use Rattle.temporal_logic.specs.Ltl.{Ltl}
use Rattle.formula_table.specs.Tables.{closure_in}
use Rattle.formula_table.proofs.Cores.{kept_then}
use Rattle.goal_model.specs.Models.{contents_of}
use Rattle.goal_model.specs.Items.{list_of}
use Rattle.goal_model.specs.Sizes.{Measures}
use Rattle.goal_model.proofs.SizedItems.{list_more}
use Rattle.goal_model.proofs.item_size.add_parts.Goals as goal

pub parts-preserved : goal.parts-preserved
parts-preserved c =
    let m = contents_of c.args.contents.now in
    let parts = c.args.parts.now in
    record {
      measured = subst (λ (list : List Ltl). Measures (sizes c.args.contents.now.space) list c.add_part.new.measured) (list_more m parts c.parts.part-index _ c.parts-test.true)
          (c.in_ok-add_part.ensures.more (list_of m (take c.parts.part-index parts)) c.parts.invariant.measured);
      kept = kept_then (closure_in c.args.measured.now.table) (closure_in c.parts.measured.table) (closure_in c.add_part.new.measured.table) c.parts.invariant.kept c.in_ok-add_part.ensures.kept;
    }
