use Rattle.std.proofs.Common.{◌≡◌, ℕ, ◌<◌, ◌≤◌, Some}
use Rattle.std.specs.Prelude.{slice_get}
use Rattle.state_space.specs.Members.{full_of}
use Rattle.state_space.specs.Spaces.{sizes}
use Rattle.tableau_rules.specs.QueryView.{cores_in}
use Rattle.tableau_rules.specs.Certificates.{CertNodeForm}
use Rattle.cert_checker.specs.Entries.{entries_of, fault_in, IsAscending}
use Rattle.cert_checker.proofs.checking.check_nodes.Given as goal

abbrev pub invariant-places : goal.invariant-places
invariant-places l =
    let full = full_of (sizes l.space) in
    let cores = cores_in l.query in
    let cert = entries_of l.cert in
    (fault_in full cores cert l.place l.to ≡ fault_in full cores cert l.from l.to)
    × ((j : ℕ) (c : CertNodeForm) → l.from ≤ j → j < l.place → slice_get cert j ≡ Some c → IsAscending c.node)
