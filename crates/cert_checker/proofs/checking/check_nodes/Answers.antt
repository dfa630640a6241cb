use Rattle.std.proofs.Common.{◌<◌, ◌≤◌, refl, arith, ap, sym, ◌∙◌, length}
use Rattle.std.specs.Option.{is_some}
use Rattle.state_space.specs.Members.{full_of}
use Rattle.state_space.specs.Spaces.{sizes}
use Rattle.formula_table.specs.Closures.{closure_of}
use Rattle.tableau_rules.specs.Nodes.{root_of}
use Rattle.tableau_rules.specs.QueryView.{cores_in}
use Rattle.tableau_rules.specs.CertView.{cert_node_of}
use Rattle.cert_checker.specs.Entries.{entries_of}
use Rattle.cert_checker.proofs.Causes.{range_step, range_end, taken, cause_some, drop_map, get_mapped}
use Rattle.cert_checker.proofs.Validity.{ascending_step}
use Rattle.cert_checker.proofs.checking.check_nodes.Goals as goal

pub places-init : goal.places-init
places-init c = (refl, λ j d f l e. absurd (omega (arith, f, l)))

pub returns-in-Some-clause-err : goal.returns-in-Some-clause-err
returns-in-Some-clause-err c =
    let full = full_of (sizes c.args.space.now) in
    let cl = closure_of (cores_in c.args.query.now) in
    let root = root_of cl full (cores_in c.args.query.now) in
    let cert = c.args.cert.now in
    let k = c.places.place in
    let d = c.index-cert-place.result in
    let l : k < length cert = omega arith in
    let m : k < c.args.to = omega arith in
    sym c.places.invariant.0
    ∙ cause_some cl full root (entries_of cert) k (cert_node_of d) _ _ c.in-Some.why (taken (entries_of cert) k c.args.to (cert_node_of d) m (drop_map cert_node_of cert k d l c.index-cert-place.is)) (sym c.in-Some.is ∙ c.cause_of.ensures.cause)

pub places-preserved : goal.places-preserved
places-preserved c =
    let full = full_of (sizes c.args.space.now) in
    let cl = closure_of (cores_in c.args.query.now) in
    let root = root_of cl full (cores_in c.args.query.now) in
    let cert = c.args.cert.now in
    let k = c.places.place in
    let d = c.index-cert-place.result in
    let l : k < length cert = omega arith in
    let m : k < c.args.to = omega arith in (
      range_step cl full root (entries_of cert) k c.args.to (cert_node_of d) m (drop_map cert_node_of cert k d l c.index-cert-place.is) (sym c.in_default.is ∙ c.cause_of.ensures.cause) ∙ c.places.invariant.0,
      ascending_step (entries_of cert) c.args.from k (cert_node_of d) (get_mapped cert_node_of cert k d l c.index-cert-place.is) (c.cause_of.ensures.ascending (ap is_some c.in_default.is)) c.places.invariant.1,
    )

pub returns-clause-ok : goal.returns-clause-ok
returns-clause-ok c =
    let full = full_of (sizes c.args.space.now) in
    let cl = closure_of (cores_in c.args.query.now) in
    let end : c.args.to ≤ c.places.place = omega arith in
    sym c.places.invariant.0 ∙ range_end cl full (root_of cl full (cores_in c.args.query.now)) (entries_of c.args.cert.now) c.places.place c.args.to end

pub returns-clause-ascending : goal.returns-clause-ascending
returns-clause-ascending c = λ j n f l e. c.places.invariant.1 j n f (omega arith) e
