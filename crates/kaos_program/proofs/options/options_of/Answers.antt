use Rattle.std.proofs.Common.{◌<◌, map, length, string_bytes, sym, ◌∙◌, rules}
use Rattle.kaos_program.specs.Options.{options_form}
use Rattle.kaos_program.proofs.ReadOptions.{none_first, one_first}
use Rattle.kaos_program.proofs.options.options_of.Goals as goal

pub returns-in_err-given : goal.returns-in_err-given
returns-in_err-given c =
    let none = rw c.in_err-given.was at c.first_option.ensures.read in
    let some : 0 < length c.words.rest.now = search rules in
    rw c.from_residual.ensures (sym (none_first (options_form c.words.options) c.words.rest.now some none) ∙ c.words.invariant)

pub returns-in_err-options : goal.returns-in_err-options
returns-in_err-options c =
    let one = rw c.in_ok-given.was at c.first_option.ensures.read in
    let none = rw c.in_err-options.was at c.with.ensures in
    let read = one_first (options_form c.words.options) (map string_bytes c.words.rest.now) _ _ one in
    rw c.from_residual-in_err-options.ensures (rw (← none) at (sym read) ∙ c.words.invariant)

pub words-preserved : goal.words-preserved
words-preserved c =
    let one = rw c.in_ok-given.was at c.first_option.ensures.read in
    let more = rw c.in_ok-options.was at c.with.ensures in
    let read = one_first (options_form c.words.options) (map string_bytes c.words.rest.now) _ _ one in
    rw (← more) at (sym read) ∙ c.words.invariant
