use Rattle.std.proofs.Common.{Some, refl}
use Rattle.kaos_program.specs.declared.command.Command.TheVariants.{Trace}
use Rattle.kaos_program.proofs.ExactWords.{exact, trace_alone}
use Rattle.kaos_program.proofs.options.command_of.Goals as goal

pub returns-in_err-options_of-in-check : goal.returns-in_err-options_of-in-check
returns-in_err-options_of-in-check c =
    let none = rw c.in_err-options_of-in-check.was at c.options_of.ensures in
    exact c.args.words.now c.from_residual-in_err-options_of-in-check.result
    (rw (
      c.from_residual-in_err-options_of-in-check.ensures,
      c.in_ok-first.ensures.cases.0,
      ← c.as_str.ensures.value,
      c.in-check.is,
      ← none,
    ) refl)

pub returns-in_ok-options_of-in-check : goal.returns-in_ok-options_of-in-check
returns-in_ok-options_of-in-check c =
    let given = rw c.in_ok-options_of-in-check.was at c.options_of.ensures in
    exact c.args.words.now c.check.result
    (rw (c.in_ok-first.ensures.cases.0, ← c.as_str.ensures.value, c.in-check.is, ← given) c.check.ensures)

pub returns-in_err-options_of-in-regress : goal.returns-in_err-options_of-in-regress
returns-in_err-options_of-in-regress c =
    let none = rw c.in_err-options_of-in-regress.was at c.options_of-in-regress.ensures in
    exact c.args.words.now c.from_residual-in_err-options_of-in-regress.result
    (rw (
      c.from_residual-in_err-options_of-in-regress.ensures,
      c.in_ok-first.ensures.cases.0,
      ← c.as_str.ensures.value,
      c.in-regress.is,
      ← none,
    ) refl)

pub returns-in_ok-options_of-in-regress : goal.returns-in_ok-options_of-in-regress
returns-in_ok-options_of-in-regress c =
    let given = rw c.in_ok-options_of-in-regress.was at c.options_of-in-regress.ensures in
    exact c.args.words.now c.regress.result
    (rw (c.in_ok-first.ensures.cases.0, ← c.as_str.ensures.value, c.in-regress.is, ← given) c.regress.ensures)

pub returns-in-trace : goal.returns-in-trace
returns-in-trace c =
    exact c.args.words.now (Some Trace)
    (rw (c.in_ok-first.ensures.cases.0, ← c.as_str.ensures.value, c.in-trace.is)
    (trace_alone c.in_ok-first.rest.now c.if-is_empty.ensures))
