use Rattle.std.proofs.Common.{◌≡◌, ◌<◌, ◌∙◌, [], length, arith, sym, ap}
use Rattle.std.proofs.lemmas.Bool.Decides.{nat_tests}
use Rattle.elimination_cert.specs.Guesses.{pieces, with_all, formulas_in}
use Rattle.elimination_cert.proofs.Cuts.{behind_shorter}
use Rattle.elimination_cert.proofs.GuessSteps.{is_nil, formulas_step}
use Rattle.elimination_cert.proofs.guess.formulas_in.Goals as goal

pub pieces-smaller : goal.pieces-smaller
pieces-smaller c =
    let some : 0 < length c.pieces.rest.now = grind (arith, nat_tests, c.is_empty.ensures, c.pieces-test.true) in
    let shorter = behind_shorter 44 c.pieces.rest.now some in
    rw c.cut.ensures.behind shorter

pub pieces-preserved : goal.pieces-preserved
pieces-preserved c =
    let some : 0 < length c.pieces.rest.now = grind (arith, nat_tests, c.is_empty.ensures, c.pieces-test.true) in
    formulas_step c.pieces.rest.now _ _ c.pieces.formulas _ _ c.small_in.result some c.cut.ensures.before c.cut.ensures.behind c.small_in.ensures c.in_ok-add.ensures.added c.pieces.invariant

pub returns : goal.returns
unfolding formulas_in
returns c =
    let none : c.pieces.rest.now ≡ [] = is_nil c.pieces.rest.now (grind (arith, nat_tests, c.is_empty.ensures, c.pieces-test.false)) in
    ap (λ xs. with_all (pieces 44 xs) c.pieces.formulas) (sym none) ∙ c.pieces.invariant
