use Rattle.std.proofs.Common.{◌≡◌, ℕ, ap₂, subst, ◌∙◌}
use Rattle.std.specs.Prelude.{slice_index}
use Rattle.state_space.specs.Spaces.{sizes}
use Rattle.temporal_logic.specs.Ltl.{Relation}
use Rattle.temporal_logic.specs.Trees.{relation_of}
use Rattle.bound_unfolding.specs.CoreForm.{lit}
use Rattle.bound_unfolding.specs.CoreTree.{stand, signed, indexes}
use Rattle.formula_table.specs.CorePuts.{IsCorePut}
use Rattle.formula_table.specs.Tables.{closure_in}
use Rattle.formula_table.proofs.table.Table.put_comparison.Goals as goal

pub returns : goal.returns
returns c =
    let set : c.indexes_to-set.result.0 ≡ indexes (λ i. stand (signed c.args.positive (relation_of c.args.cmp)) i c.args.value) (slice_index (sizes c.args.space.now) c.args.x.0) =
    c.indexes_to-set.ensures ∙ ap₂ (λ (r : Relation) (n : ℕ). indexes (λ i. stand r i c.args.value) n) c.signed.ensures c.size_of.ensures.size in
    subst (λ (m : ℕ). IsCorePut (lit c.args.x.0 m) (closure_in c.args.self.now) (closure_in c.put_node.new.self) c.put_node.result) set c.put_node.ensures
