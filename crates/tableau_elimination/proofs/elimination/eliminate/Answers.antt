use Rattle.std.proofs.Common.{arith, ◌≡◌, ◌∙◌, sym, subst}
use Rattle.std.proofs.lemmas.List.{take_at}
use Rattle.formula_table.specs.Closures.{closure_of}
use Rattle.tableau_rules.specs.QueryView.{cores_in}
use Rattle.tableau_rules.specs.GraphView.{graph_of}
use Rattle.tableau_rules.specs.Links.{fulfils_at, carries_at, IsLinked}
use Rattle.tableau_rules.specs.Levels.{PlacesSurvive}
use Rattle.tableau_rules.specs.Surviving.{Survives}
use Rattle.tableau_rules.specs.CertView.{cert_of}
use Rattle.tableau_elimination.specs.Marks.{AreMarked, AreRight, HasEnded}
use Rattle.tableau_elimination.specs.CertNodes.{IsCertOf}
use Rattle.tableau_elimination.proofs.Places.{ready, survives}
use Rattle.tableau_elimination.proofs.Certifying.{valid_cert}
use Rattle.tableau_elimination.proofs.elimination.eliminate.Goals as goal

pub first_marks-requires : goal.first_marks-requires
first_marks-requires c =
    let linked = subst (IsLinked (cores_in c.args.query.now) (graph_of c.args.graph.now)) (sym c.deref.ensures.value) c.in_ok-links.ensures.linked in
    record { ready = ready (record { query = c.args.query; graph = c.args.graph; links = c.deref.result }) c.requires.whole.0 c.requires.few c.requires.whole.1 linked }

pub rounds-requires-clause-ready : goal.rounds-requires-clause-ready
rounds-requires-clause-ready c =
    let linked = subst (IsLinked (cores_in c.args.query.now) (graph_of c.args.graph.now)) (sym c.deref.ensures.value) c.in_ok-links.ensures.linked in
    ready (record { query = c.args.query; graph = c.args.graph; links = c.deref.result }) c.requires.whole.0 c.requires.few c.requires.whole.1 linked

pub rounds-requires-clause-marked : goal.rounds-requires-clause-marked
rounds-requires-clause-marked c =
    let links = c.deref.result.now in
    let carrying = carries_at (closure_of (cores_in c.args.query.now)) (graph_of c.args.graph.now) in
    let marks = c.in_ok-marks.marks in
    subst (λ a. AreMarked links carrying (fulfils_at links) a c.deref_mut-2.result.now c.deref_mut-3.result.now marks.left) (sym c.deref_mut.ensures.value)
    (subst (λ r. AreMarked links carrying (fulfils_at links) marks.alive.items r c.deref_mut-3.result.now marks.left) (sym c.deref_mut-2.ensures.value)
    (subst (λ w. AreMarked links carrying (fulfils_at links) marks.alive.items marks.ranks.items w marks.left) (sym c.deref_mut-3.ensures.value) c.in_ok-marks.ensures))

pub returns-then-branch : goal.returns-then-branch
returns-then-branch c = λ sizes whole.
    let cores = cores_in c.args.query.now in
    let graph = graph_of c.args.graph.now in
    let links = c.deref.result.now in
    let linked = subst (IsLinked cores graph) (sym c.deref.ensures.value) c.in_ok-links.ensures.linked in
    let s : PlacesSurvive links (carries_at (closure_of (cores_in c.args.query.now)) (graph_of c.args.graph.now)) (fulfils_at links) c.rounds.new.alive =
    subst (λ b. HasEnded b links (carries_at (closure_of (cores_in c.args.query.now)) (graph_of c.args.graph.now)) (fulfils_at links) c.rounds.new.alive c.rounds.new.ranks c.rounds.new.causes) c.if-branch.true c.in_ok-rounds.ensures in
    subst (Survives cores graph) (sym (take_at c.rounds.new.alive _ c.in_ok-marks.marks.alive.len (let z = s.size in omega (arith, z))))
    (survives sizes cores graph links whole linked c.rounds.new.alive (s.size ∙ linked.size) s)

pub returns : goal.returns
returns c = λ sizes whole.
    let cores = cores_in c.args.query.now in
    let graph = graph_of c.args.graph.now in
    let links = c.deref.result.now in
    let linked = subst (IsLinked cores graph) (sym c.deref.ensures.value) c.in_ok-links.ensures.linked in
    let right : AreRight links (carries_at (closure_of (cores_in c.args.query.now)) (graph_of c.args.graph.now)) (fulfils_at links) c.rounds.new.ranks c.rounds.new.causes =
    subst (λ b. HasEnded b links (carries_at (closure_of (cores_in c.args.query.now)) (graph_of c.args.graph.now)) (fulfils_at links) c.rounds.new.alive c.rounds.new.ranks c.rounds.new.causes) c.if-branch.false c.in_ok-rounds.ensures in
    let ranks : c.deref-else-branch.result.now ≡ c.rounds.new.ranks =
    c.deref-else-branch.ensures.value ∙ take_at c.rounds.new.ranks _ c.in_ok-marks.marks.ranks.len (let z = right.ranked in omega (arith, z)) in
    let causes : c.deref-else-branch-2.result.now ≡ c.rounds.new.causes =
    c.deref-else-branch-2.ensures.value ∙ take_at c.rounds.new.causes _ c.in_ok-marks.marks.causes.len (let z = right.caused in omega (arith, z)) in
    let cert = cert_of c.in_ok-certificate.field-0 in
    let is : IsCertOf graph c.rounds.new.ranks c.rounds.new.causes cert =
    subst (λ r. IsCertOf graph r c.rounds.new.causes cert) ranks (subst (λ w. IsCertOf graph c.deref-else-branch.result.now w cert) causes c.in_ok-certificate.ensures) in
    let size = is.size in
    (valid_cert sizes cores graph links whole linked c.rounds.new.ranks c.rounds.new.causes right cert is, omega (arith, size))
