use Rattle.std.proofs.Common.{Some, None, refl}
use Rattle.kaos_program.proofs.CutWords.{cut, in_one, in_two}
use Rattle.kaos_program.proofs.options.first_option.Goals as goal

pub returns-in_err-option_of-in-Some-clause-read : goal.returns-in_err-option_of-in-Some-clause-read
returns-in_err-option_of-in-Some-clause-read c =
    let parts = cut c.deref.result.now (Some (c.in-Some.name, c.in-Some.value)) c.in-Some.ensures.cases in
    let read = in_one _ _ _ _ c.in-Some.name.now c.in-Some.value.now c.in_ok-word.ensures.cases.0 c.deref.ensures parts in
    rw (c.from_residual-in_err-option_of-in-Some.ensures, read, ← c.option_of.ensures, c.in_err-option_of-in-Some.was) refl

pub returns-in_err-option_of-in-None-clause-read : goal.returns-in_err-option_of-in-None-clause-read
returns-in_err-option_of-in-None-clause-read c =
    let whole = cut c.deref.result.now None c.in-None.ensures.cases in
    let read = in_two _ _ _ _ c.in_ok-word.ensures.cases.0 c.deref.ensures whole in
    let unread = rw c.in_err-option_of-in-None.was at c.option_of-in-None.ensures in
    let none = rw (c.deref-in-None.ensures, c.deref-in-None-2.ensures) at unread in
    let behind = c.in_ok-value-in-None.ensures.cases.0 in
    rw (c.from_residual-in_err-option_of-in-None.ensures, read, behind, c.deref.ensures, ← none) refl

pub returns-in_ok-option_of-in-Some-clause-read : goal.returns-in_ok-option_of-in-Some-clause-read
returns-in_ok-option_of-in-Some-clause-read c =
    let parts = cut c.deref.result.now (Some (c.in-Some.name, c.in-Some.value)) c.in-Some.ensures.cases in
    let read = in_one _ _ _ _ c.in-Some.name.now c.in-Some.value.now c.in_ok-word.ensures.cases.0 c.deref.ensures parts in
    rw (read, ← c.option_of.ensures, c.in_ok-option_of-in-Some.was) refl
