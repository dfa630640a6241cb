use Rattle.std.proofs.lemmas.Result.{IfOk-at_ok}
use Rattle.bound_unfolding.specs.CoreView.{core_tree_of}
use Rattle.tableau_rules.proofs.QueryClosures.{core_noted}
use Rattle.tableau_rules.proofs.begun.Begun.add.Goals as goal

pub returns : goal.returns
returns c =
    let is = c.in_ok-id.ensures in
    let put = c.put_core.ensures in
    let noted = core_noted c.args.self.now c.note.new.self c.requires.begun (core_tree_of c.args.core.now) c.in_ok-id.id c.put_core.new.self c.note.ensures.table
    (IfOk-at_ok _ is put.put) (IfOk-at_ok _ is put.id) (IfOk-at_ok _ is put.inside) c.note.result c.note.ensures.numbers c.note.ensures.start in
    record { core = noted.0; begun = noted.1 }
