use Rattle.std.proofs.Common.{◌≤◌, length}
use Rattle.state_space.specs.Spaces.{sizes}
use Rattle.tableau_rules.specs.QueryView.{cores_in}
use Rattle.tableau_rules.specs.CertView.{cert_of}
use Rattle.tableau_rules.specs.Certificates.{IsValid}
use Rattle.tableau_rules.specs.Graphs.{IsWhole}
use Rattle.tableau_rules.specs.GraphView.{graph_of}
use Rattle.tableau_rules.proofs.Sizes.{whole_size}
use Rattle.entailment.proofs.engine.EngineAnswerer.answer.Goals as goal

pub returns-in-RootGone : goal.returns-in-RootGone
returns-in-RootGone c =
    let sizes = sizes c.args.space.now in
    let cores = cores_in c.args.query.now in
    let graph = graph_of c.in-Whole.graph in
    let e : (length graph ≤ c.args.budget) × IsWhole sizes cores graph = rw c.in-Whole.is at c.in_ok-number.ensures in
    let o : IsValid sizes cores (cert_of c.in-RootGone.cert) × (length (cert_of c.in-RootGone.cert) ≤ length graph) = rw c.in-RootGone.is at c.in_ok-cert.ensures sizes e.1 in
    (length graph, whole_size sizes cores graph e.1, e.0, o.0, o.1)

pub returns : goal.returns
returns c =
    let sizes = sizes c.args.space.now in
    let cores = cores_in c.args.query.now in
    let graph = graph_of c.in-Whole.graph in
    let e : (length graph ≤ c.args.budget) × IsWhole sizes cores graph = rw c.in-Whole.is at c.in_ok-number.ensures in
    ((length graph, whole_size sizes cores graph e.1, e.0), c.in_ok-build-in-RootStays.ensures.of_space, c.in_ok-build-in-RootStays.ensures.meets)
