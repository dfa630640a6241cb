use Rattle.std.proofs.Common.{◌≡◌, map, length, string_bytes, option_and_then}
use Rattle.kaos_program.specs.Options.{options_form, options_in, with_options, given_by}
use Rattle.kaos_program.proofs.options.options_of.Given as goal

-- what the words from here on add is what all words give
abbrev pub invariant-words : goal.invariant-words
invariant-words l =
    option_and_then (with_options (options_form l.options)) (options_in (map string_bytes l.rest)) ≡ given_by (map string_bytes l.fn.words)

abbrev pub decreases-words : goal.decreases-words
decreases-words l = length l.rest
