use Rattle.std.proofs.Common.{sym, ◌∙◌, length}
use Rattle.formula_table.specs.Closures.{closure_of}
use Rattle.tableau_rules.specs.QueryView.{cores_in}
use Rattle.tableau_rules.specs.NodeView.{node_of}
use Rattle.state_space.specs.Members.{full_of}
use Rattle.state_space.specs.Spaces.{sizes}
use Rattle.cert_checker.proofs.Validity.{shaped_todo}
use Rattle.cert_checker.proofs.checking.shape_cause.Goals as goal

pub count_cause-requires : goal.count_cause-requires
count_cause-requires c = record { todo = shaped_todo (length (closure_of (cores_in c.args.query.now))) (full_of (sizes c.args.space.now)) (node_of c.args.node.now) (sym c.has_shape.ensures.shape ∙ c.if-not-has_shape.false) }
