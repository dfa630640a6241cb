use Rattle.std.proofs.Common.{◌≡◌, ◌<◌, ◌∙◌, [], length, arith, sym, ap}
use Rattle.std.proofs.lemmas.Bool.Decides.{nat_tests}
use Rattle.elimination_cert.specs.Guesses.{pieces, with_values, set_in}
use Rattle.elimination_cert.proofs.Cuts.{behind_shorter}
use Rattle.elimination_cert.proofs.GuessSteps.{is_nil, values_step}
use Rattle.elimination_cert.proofs.guess.set_in.Goals as goal

pub pieces-smaller : goal.pieces-smaller
pieces-smaller c =
    let some : 0 < length c.pieces.rest.now = grind (arith, nat_tests, c.is_empty.ensures, c.pieces-test.true) in
    let shorter = behind_shorter 43 c.pieces.rest.now some in
    rw c.cut.ensures.behind shorter

pub pieces-preserved : goal.pieces-preserved
pieces-preserved c =
    let some : 0 < length c.pieces.rest.now = grind (arith, nat_tests, c.is_empty.ensures, c.pieces-test.true) in
    values_step c.args.size c.pieces.rest.now _ _ c.pieces.set.0 _ _ some c.cut.ensures.before c.cut.ensures.behind c.with_value-set.ensures c.pieces.invariant

pub returns : goal.returns
unfolding set_in
returns c =
    let none : c.pieces.rest.now ≡ [] = is_nil c.pieces.rest.now (grind (arith, nat_tests, c.is_empty.ensures, c.pieces-test.false)) in
    ap (λ xs. with_values c.args.size (pieces 43 xs) c.pieces.set.0) (sym none) ∙ c.pieces.invariant
