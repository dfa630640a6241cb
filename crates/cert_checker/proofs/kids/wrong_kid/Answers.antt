use Rattle.std.proofs.Common.{◌<◌, ℕ, arith, sym, ◌∙◌, subst, true≢false, length, refl}
use Rattle.std.specs.Prelude.{slice_index_or}
use Rattle.cert_checker.proofs.Causes.{wrong_yes_at, wrong_no, get_mapped}
use Rattle.tableau_rules.specs.Nodes.{kids}
use Rattle.tableau_rules.specs.NodeView.{node_of}
use Rattle.state_space.specs.Members.{full_of}
use Rattle.state_space.specs.Spaces.{sizes}
use Rattle.tableau_rules.specs.CertView.{cert_node_of}
use Rattle.formula_table.specs.Closures.{closure_of}
use Rattle.tableau_rules.specs.QueryView.{cores_in}
use Rattle.cert_checker.specs.Entries.{entries_of}
use Rattle.cert_checker.proofs.kids.wrong_kid.Goals as goal

pub returns-then-not-is_kid : goal.returns-then-not-is_kid
returns-then-not-is_kid c =
    let ps = c.args.places.now in
    let ks = kids (closure_of (cores_in c.args.query.now)) (full_of (sizes c.args.space.now)) (node_of c.args.node.now) in
    let cert = c.args.cert.now in
    let k = c.loop-k.k in
    let p = slice_index_or ps k 0 in
    let d = c.index-cert-places.result in
    let l : k < length ps = omega arith in
    let in_cert : p < length cert = c.requires.places k l in
    let m : k < length ks = subst (λ (x : ℕ). k < x) c.requires.count l in
    wrong_no (entries_of cert) k k p ps ks (cert_node_of d) l m refl (get_mapped cert_node_of cert p d in_cert c.index-cert-places.is) (λ h. true≢false (sym (c.is_kid.ensures.kid.1 h) ∙ c.if-not-is_kid.true)) ∙ c.loop-k.invariant

pub loop-k-preserved : goal.loop-k-preserved
loop-k-preserved c =
    let ps = c.args.places.now in
    let ks = kids (closure_of (cores_in c.args.query.now)) (full_of (sizes c.args.space.now)) (node_of c.args.node.now) in
    let cert = c.args.cert.now in
    let k = c.loop-k.k in
    let p = slice_index_or ps k 0 in
    let d = c.index-cert-places.result in
    let l : k < length ps = omega arith in
    let in_cert : p < length cert = c.requires.places k l in
    wrong_yes_at (entries_of cert) k p ps ks (cert_node_of d) l refl (get_mapped cert_node_of cert p d in_cert c.index-cert-places.is) (c.is_kid.ensures.kid.0 c.if-not-is_kid.false) ∙ c.loop-k.invariant
