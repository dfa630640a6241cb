use Rattle.std.proofs.Common.{◌≡◌, ◌<◌, length, map, arith}
use Rattle.std.proofs.lemmas.Bool.Decides.{nat_tests}
use Rattle.elimination_cert.specs.Guesses.{pieces, number_in, kids_in}
use Rattle.elimination_cert.proofs.Cuts.{behind_shorter}
use Rattle.elimination_cert.proofs.GuessSteps.{kids_step, kids_over, kids_full}
use Rattle.elimination_cert.proofs.guess.kids_in.Goals as goal
use Rattle.elimination_cert.proofs.guess.kids_in.Goals.{then-pieces-test+else-len-lt2, else-pieces-test}

pub pieces-smaller : goal.pieces-smaller
pieces-smaller c =
    let some : 0 < length c.pieces.rest.now = grind (arith, nat_tests, c.is_empty.ensures, c.pieces-test.true) in
    let shorter = behind_shorter 44 c.pieces.rest.now some in
    rw c.cut.ensures.behind shorter

pub pieces-preserved : goal.pieces-preserved
pieces-preserved c =
    let some : 0 < length c.pieces.rest.now = grind (arith, nat_tests, c.is_empty.ensures, c.pieces-test.true) in
    let few : length c.pieces.kids.items < 2 = omega (arith, c.len.ensures.value) in
    record {
      kids = kids_step c.pieces.rest.now _ _ c.pieces.kids.items _ _ c.number_in.result some few c.cut.ensures.before c.cut.ensures.behind c.number_in.ensures c.in_ok-push.ensures.ok c.pieces.invariant.kids;
      few = omega (arith, c.in_ok-push.ensures.len);
    }

pub returns : goal.returns
unfolding kids_in
returns c =
    elim c.pieces-test.branch [
      | then-pieces-test+else-len-lt2 w ↦
          let full : length c.pieces.kids.items ≡ 2 = omega (arith, w.len.ensures.value, w.if-len-lt2.false, c.pieces.invariant.few) in
          kids_full c.pieces.kids.items (map number_in (pieces 44 c.pieces.rest.now)) _ full c.pieces.invariant.kids
      | else-pieces-test w ↦ kids_over c.pieces.kids.items c.pieces.rest.now _ (grind (arith, nat_tests, c.is_empty.ensures, w.pieces-test.false)) c.pieces.invariant.kids
    ]
