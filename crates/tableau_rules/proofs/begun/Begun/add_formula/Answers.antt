use Rattle.std.specs.Prelude.{true}
use Rattle.std.proofs.lemmas.Result.{IfOk-at_ok}
use Rattle.state_space.specs.Spaces.{sizes}
use Rattle.temporal_logic.specs.Trees.{tree_of}
use Rattle.bound_unfolding.specs.CoreTree.{core_tree}
use Rattle.tableau_rules.proofs.QueryClosures.{core_noted}
use Rattle.tableau_rules.proofs.begun.Begun.add_formula.Goals as goal

pub returns : goal.returns
returns c =
    let is = c.in_ok-id.ensures in
    let put = c.put_formula.ensures in
    let core = core_tree (sizes c.args.space.now) true (tree_of c.args.f.now) in
    let noted = core_noted c.args.self.now c.note.new.self c.requires.begun core c.in_ok-id.id c.put_formula.new.self c.note.ensures.table
    (IfOk-at_ok _ is put.put) (IfOk-at_ok _ is put.id) (IfOk-at_ok _ is put.inside) c.note.result c.note.ensures.numbers c.note.ensures.start in
    record { core = noted.0; begun = noted.1 }
