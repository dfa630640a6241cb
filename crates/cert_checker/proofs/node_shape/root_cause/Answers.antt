use Rattle.std.proofs.Common.{sym, ◌∙◌, not, ◌==◌, arith}
use Rattle.formula_table.specs.Closures.{closure_of}
use Rattle.tableau_rules.specs.Nodes.{root_of}
use Rattle.tableau_rules.specs.NodeView.{node_of}
use Rattle.tableau_rules.specs.QueryView.{cores_in}
use Rattle.state_space.specs.Members.{full_of}
use Rattle.state_space.specs.Spaces.{sizes}
use Rattle.formula_table.proofs.Tests.{or_right}
use Rattle.cert_checker.specs.declared.why.Why.TheVariants.{NotRoot}
use Rattle.cert_checker.specs.Causes.{is_same_node}
use Rattle.cert_checker.proofs.Causes.{unless_yes, root_no, same_node_iff}
use Rattle.cert_checker.proofs.node_shape.root_cause.Goals as goal

pub returns-then-is_root : goal.returns-then-is_root
returns-then-is_root c =
    let n = node_of c.args.node.now in
    let root = root_of (closure_of (cores_in c.args.query.now)) (full_of (sizes c.args.space.now)) (cores_in c.args.query.now) in
    sym (unless_yes _ NotRoot (or_right (not (c.args.place == 0)) (is_same_node n root) (sym (same_node_iff n root c.is_root.result c.is_root.ensures.root) ∙ c.if-is_root.true)))

pub returns-else-is_root : goal.returns-else-is_root
returns-else-is_root c =
    let n = node_of c.args.node.now in
    let root = root_of (closure_of (cores_in c.args.query.now)) (full_of (sizes c.args.space.now)) (cores_in c.args.query.now) in
    root_no c.args.place (is_same_node n root) (omega arith) (sym (same_node_iff n root c.is_root.result c.is_root.ensures.root) ∙ c.if-is_root.false)
