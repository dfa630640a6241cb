use Rattle.std.proofs.Common.{◌<◌, length, arith}
use Rattle.std.proofs.lemmas.Bool.Decides.{nat_tests}
use Rattle.state_space.specs.Spaces.{sizes}
use Rattle.tableau_rules.specs.Turns.{sets_of}
use Rattle.elimination_cert.proofs.Cuts.{behind_shorter}
use Rattle.elimination_cert.proofs.GuessSteps.{entries_step}
use Rattle.elimination_cert.proofs.guess.put_entries.Goals as goal

pub pieces-smaller : goal.pieces-smaller
pieces-smaller c =
    let some : 0 < length c.pieces.rest.now = grind (arith, nat_tests, c.is_empty.ensures, c.pieces-test.true) in
    let shorter = behind_shorter 44 c.pieces.rest.now some in
    rw c.cut.ensures.behind shorter

pub pieces-preserved : goal.pieces-preserved
pieces-preserved c =
    let some : 0 < length c.pieces.rest.now = grind (arith, nat_tests, c.is_empty.ensures, c.pieces-test.true) in
    entries_step (sizes c.args.space.now) c.pieces.rest.now _ _ (sets_of c.pieces.now) _ _ some c.cut.ensures.before c.cut.ensures.behind c.put_entry.ensures c.pieces.invariant
