use Rattle.std.proofs.Common.{◌≡◌, drop}
use Rattle.formula_table.specs.Closures.{closure_of}
use Rattle.tableau_rules.specs.QueryView.{cores_in}
use Rattle.tableau_rules.specs.Nodes.{kids}
use Rattle.tableau_rules.specs.NodeView.{node_of}
use Rattle.state_space.specs.Members.{full_of}
use Rattle.state_space.specs.Spaces.{sizes}
use Rattle.cert_checker.specs.Entries.{entries_of}
use Rattle.cert_checker.specs.Causes.{first_wrong}
use Rattle.cert_checker.proofs.kids.wrong_kid.Given as goal

abbrev pub invariant-loop-k : goal.invariant-loop-k
invariant-loop-k l =
    let ks = kids (closure_of (cores_in l.query)) (full_of (sizes l.space)) (node_of l.node) in
    first_wrong (entries_of l.cert) l.k (drop l.k l.places) (drop l.k ks) ≡ first_wrong (entries_of l.cert) 0 l.places ks
