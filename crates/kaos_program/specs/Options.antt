-- What the reader of the words does: the option that each word begins, what options have given, and the command.
use Rattle.std.specs.Prelude.{ℕ, ◌==◌, nat_le, Bool, ◌&&◌, ◌||◌, if◌then◌else◌, List, [], ◌∷◌, length, codes, bytes_eq, Option, Some, None, is_some, unwrap_or, option_map, option_and_then}
use Rattle.std.specs.Char.{is_ascii_digit}
use Rattle.std.specs.List.{list_all, list_any, before_first, after_first}
use Rattle.source_sink.specs.Decimals.{value_behind}
use Rattle.verdict_report.specs.declared.form.Form.{Form}
use Rattle.verdict_report.specs.declared.form.Form.TheVariants.{Full, Brief, Lines}
use Rattle.kaos_program.specs.declared.command.Command.{Command}
use Rattle.kaos_program.specs.declared.command.Command.TheVariants as commands
use Rattle.kaos_program.specs.declared.options.Given.{Given}
use Rattle.kaos_program.specs.declared.options.Given.TheVariants as given
use Rattle.kaos_program.specs.declared.options.Options.{Options}
use Rattle.kaos_program.specs.Commands.{CommandForm, check, regress, trace, OptionForm, a_budget, a_form, a_goal, a_depth}

-- a command, wherever its words lie in memory
abbrev pub command_form : Command → CommandForm
command_form (commands.Check budget form) = check budget form
command_form (commands.Regress goal depth budget) = regress goal.now depth budget
command_form commands.Trace = trace

-- an option that was read, as the words spell it
abbrev pub option_form : Given → OptionForm
option_form (given.Budget nodes) = a_budget nodes
option_form (given.Form form) = a_form form
option_form (given.Goal name) = a_goal name.now
option_form (given.Depth levels) = a_depth levels

-- what options give, a value at most for each name
pub record OptionsForm : Type 0 where
  pub budget : Option ℕ
  pub form : Option Form
  pub goal : Option (List ℕ)
  pub depth : Option ℕ

abbrev pub options_form : Options → OptionsForm
options_form o = record { budget = o.budget; form = o.form; goal = option_map (λ name. name.now) o.goal; depth = o.depth }

-- 1 to 6 digits
abbrev pub is_number : List ℕ → Bool
is_number word = nat_le 1 (length word) && nat_le (length word) 6 && list_all is_ascii_digit word

-- a value from 1 to the most
abbrev pub within : (most value : ℕ) → Option ℕ
within most value = if nat_le 1 value && nat_le value most then Some value else None

-- the number that a word is, from 1 to the most
abbrev pub number_named : (most : ℕ) → List ℕ → Option ℕ
number_named most word = if is_number word then within most (value_behind 0 word) else None

-- the form that a word is
abbrev pub form_named : List ℕ → Option Form
form_named word =
    if bytes_eq word (codes "full") then Some Full else
    if bytes_eq word (codes "brief") then Some Brief else
    if bytes_eq word (codes "lines") then Some Lines else
    None

-- the option of a name with a value
abbrev pub option_of : (name value : List ℕ) → Option OptionForm
option_of name value =
    if bytes_eq name (codes "--budget") then option_map a_budget (number_named 200000 value) else
    if bytes_eq name (codes "--form") then option_map a_form (form_named value) else
    if bytes_eq name (codes "--goal") then Some (a_goal value) else
    if bytes_eq name (codes "--depth") then option_map a_depth (number_named 6 value) else
    None

-- the byte `=`
abbrev pub is_equals_sign : ℕ → Bool
is_equals_sign byte = byte == 61

-- the option of a word `--NAME=VALUE`, which is cut at its first `=`
abbrev pub option_in_one : List ℕ → Option OptionForm
option_in_one word = option_of (before_first is_equals_sign word) (after_first is_equals_sign word)

-- the option of two words, a name and its value, and the words behind them
abbrev pub option_in_two : List ℕ → List (List ℕ) → Option (OptionForm × List (List ℕ))
option_in_two name [] = None
option_in_two name (value ∷ words) = option_map (λ o. (o, words)) (option_of name value)

-- the option that words begin with, and the words behind it; a word with an `=` is one by itself
abbrev pub first_option : List (List ℕ) → Option (OptionForm × List (List ℕ))
first_option [] = None
first_option (word ∷ words) =
    if list_any is_equals_sign word then option_map (λ o. (o, words)) (option_in_one word)
    else option_in_two word words

-- an option before others, where it and they are read
abbrev pub before : Option OptionForm → Option (List OptionForm) → Option (List OptionForm)
before first rest = option_and_then (λ o. option_map (λ os. o ∷ os) rest) first

-- the options that words spell, one behind the other
abbrev pub options_in : List (List ℕ) → Option (List OptionForm)
options_in [] = Some []
options_in (word ∷ []) = if list_any is_equals_sign word then before (option_in_one word) (Some []) else None
options_in (word ∷ value ∷ words) =
    if list_any is_equals_sign word then before (option_in_one word) (options_in (value ∷ words))
    else before (option_of word value) (options_in words)

-- what options give, with one more; none where it was given before
abbrev pub with_option : OptionsForm → OptionForm → Option OptionsForm
with_option options (a_budget nodes) = if is_some options.budget then None else Some (record options { budget = Some nodes })
with_option options (a_form form) = if is_some options.form then None else Some (record options { form = Some form })
with_option options (a_goal name) = if is_some options.goal then None else Some (record options { goal = Some name })
with_option options (a_depth levels) = if is_some options.depth then None else Some (record options { depth = Some levels })

-- what options give, with all of these, one after the other
abbrev pub with_options : OptionsForm → List OptionForm → Option OptionsForm
with_options options [] = Some options
with_options options (o ∷ os) = option_and_then (λ more. with_options more os) (with_option options o)

-- before the first option
abbrev pub no_options : OptionsForm
no_options = record { budget = None; form = None; goal = None; depth = None }

-- what words give that spell options
abbrev pub given_by : List (List ℕ) → Option OptionsForm
given_by words = option_and_then (with_options no_options) (options_in words)

-- what options ask for under `check`: 20,000 nodes and the full form where none was given; no goal and no depth may be
abbrev pub check_of : OptionsForm → Option CommandForm
check_of options =
    if is_some options.goal || is_some options.depth then None else
    Some (check (unwrap_or options.budget 20000) (unwrap_or options.form Full))

-- under `regress`: a goal is given, and no form; the depth is 3 and the budget 20,000 nodes where none was given
abbrev pub regress_of : OptionsForm → Option CommandForm
regress_of options =
    if is_some options.form then None else
    option_map (λ goal. regress goal (unwrap_or options.depth 3) (unwrap_or options.budget 20000)) options.goal

-- `trace` stands alone
abbrev pub trace_of : List (List ℕ) → Option CommandForm
trace_of [] = Some trace
trace_of (word ∷ words) = None

-- the command of words
abbrev pub command_in : List (List ℕ) → Option CommandForm
command_in [] = None
command_in (word ∷ words) =
    if bytes_eq word (codes "check") then option_and_then check_of (given_by words) else
    if bytes_eq word (codes "regress") then option_and_then regress_of (given_by words) else
    if bytes_eq word (codes "trace") then trace_of words else
    None
