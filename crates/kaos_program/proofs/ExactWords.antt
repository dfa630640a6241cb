-- The reader is exact: it finds a command just where the words ask for one, and that one.
use Rattle.std.proofs.Common.{◌≡◌, refl, sym, ap, ◌∙◌, subst, ℕ, ⊎_elim, true, ◌==◌, ◌||◌, arith, if◌then◌else◌, List, [], ◌∷◌, map, length, Option, Some, None, MatchOption, option_map, option_and_then, bytes_eq, String, string_bytes}
use Rattle.std.specs.Prelude.{codes, is_some, unwrap_or}
use Rattle.std.specs.Global.{Global}
use Rattle.std.proofs.lemmas.Bool.{eqb-true}
use Rattle.std.proofs.lemmas.Slice.Eq.{bytes_eq-Decides}
use Rattle.verdict_report.specs.declared.form.Form.{Form}
use Rattle.verdict_report.specs.declared.form.Form.TheVariants.{Full}
use Rattle.kaos_program.specs.declared.command.Command.{Command}
use Rattle.kaos_program.specs.Commands.{CommandForm, check, regress, trace, OptionForm, AreOptions, as_budget, as_form, as_goal, as_depth, first_of, budget_in, form_in, depth_in, is_of_check, is_of_regress, AsksFor, to_check, to_regress, to_trace, AreWords, AreOtherWords}
use Rattle.kaos_program.specs.Options.{OptionsForm, options_in, with_options, no_options, given_by, check_of, regress_of, trace_of, command_form, command_in}
use Rattle.kaos_program.proofs.FoundValues.{value_in, chosen, mapped, chained}
use Rattle.kaos_program.proofs.SpelledOptions.{options_spelled, options_read}
use Rattle.kaos_program.proofs.DistinctOptions.{AreGiven, options_given, options_taken, all_new}
use Rattle.kaos_program.proofs.TakenOptions.{of_check, all_of_check, of_regress, all_of_regress}

-- what options that words spell have given
abbrev HasGiven : List (List ℕ) → OptionsForm → Type 0
HasGiven words options = (os : List OptionForm) × (options_in words ≡ Some os) × AreGiven no_options os options

has_given : (words : List (List ℕ)) (options : OptionsForm) → given_by words ≡ Some options → HasGiven words options
has_given words options e =
    let read = chained (with_options no_options) (options_in words) options e in
    (read.0, read.1, options_given no_options read.0 options read.2)

-- a check that options ask for
check_parts : (options : OptionsForm) (command : CommandForm) → check_of options ≡ Some command
    → (options.goal ≡ None) × (options.depth ≡ None) × (command ≡ check (unwrap_or options.budget 20000) (unwrap_or options.form Full))
check_parts options command e = by options.goal options.depth e
  where
    asked : CommandForm
    asked = check (unwrap_or options.budget 20000) (unwrap_or options.form Full)

    by : (goal : Option (List ℕ)) (depth : Option ℕ) → (if is_some goal || is_some depth then None else Some asked) ≡ Some command
        → (goal ≡ None) × (depth ≡ None) × (command ≡ asked)
    by None None e = (refl, refl, value_in command asked (sym e))
    by None (Some levels) e = cc
    by (Some name) depth e = cc

-- a regression that options ask for
regress_parts : (options : OptionsForm) (command : CommandForm) → regress_of options ≡ Some command
    → (name : List ℕ) × (options.form ≡ None) × (options.goal ≡ Some name) × (command ≡ regress name (unwrap_or options.depth 3) (unwrap_or options.budget 20000))
regress_parts options command e = by options.form e
  where
    asked : List ℕ → CommandForm
    asked name = regress name (unwrap_or options.depth 3) (unwrap_or options.budget 20000)

    by : (form : Option Form) → (if is_some form then None else option_map asked options.goal) ≡ Some command
        → (name : List ℕ) × (form ≡ None) × (options.goal ≡ Some name) × (command ≡ asked name)
    by None e =
        let goal = mapped asked options.goal command e in
        (goal.0, refl, goal.1, goal.2)
    by (Some form) e = cc

-- the words of a check that is found ask for it
check_found : (words : List (List ℕ)) (command : CommandForm)
    → option_and_then check_of (given_by words) ≡ Some command → AsksFor (codes "check" ∷ words) command
check_found words command e =
    let step = chained check_of (given_by words) command e in
    let options : OptionsForm = step.0 in
    let parts = check_parts options command step.2 in
    let found = has_given words options step.1 in
    let os : List OptionForm = found.0 in
    let given = found.2 in
    let no_goal : first_of as_goal os ≡ None = sym given.goal ∙ parts.0 in
    let no_depth : first_of as_depth os ≡ None = sym given.depth ∙ parts.1 in
    let budget : options.budget ≡ first_of as_budget os = given.budget in
    let form : options.form ≡ first_of as_form os = given.form in
    let same : check (budget_in os) (form_in os) ≡ command =
    sym (parts.2 ∙ ap (λ (b : Option ℕ). check (unwrap_or b 20000) (unwrap_or options.form Full)) budget ∙ ap (λ (f : Option Form). check (budget_in os) (unwrap_or f Full)) form) in
    let are : AreOptions is_of_check os words = record { spelled = options_spelled words os found.1; distinct = given.distinct; taken = all_of_check os no_goal no_depth } in
    subst (AsksFor (codes "check" ∷ words)) same (to_check os words are)

-- so do the words of a regression
regress_found : (words : List (List ℕ)) (command : CommandForm)
    → option_and_then regress_of (given_by words) ≡ Some command → AsksFor (codes "regress" ∷ words) command
regress_found words command e =
    let step = chained regress_of (given_by words) command e in
    let options : OptionsForm = step.0 in
    let parts = regress_parts options command step.2 in
    let name : List ℕ = parts.0 in
    let found = has_given words options step.1 in
    let os : List OptionForm = found.0 in
    let given = found.2 in
    let no_form : first_of as_form os ≡ None = sym given.form ∙ parts.1 in
    let goal : first_of as_goal os ≡ Some name = sym given.goal ∙ parts.2 in
    let budget : options.budget ≡ first_of as_budget os = given.budget in
    let depth : options.depth ≡ first_of as_depth os = given.depth in
    let same : regress name (depth_in os) (budget_in os) ≡ command =
    sym (parts.3 ∙ ap (λ (d : Option ℕ). regress name (unwrap_or d 3) (unwrap_or options.budget 20000)) depth ∙ ap (λ (b : Option ℕ). regress name (depth_in os) (unwrap_or b 20000)) budget) in
    let are : AreOptions is_of_regress os words = record { spelled = options_spelled words os found.1; distinct = given.distinct; taken = all_of_regress os no_form } in
    subst (AsksFor (codes "regress" ∷ words)) same (to_regress os words name are goal)

-- and those of a trace
trace_found : (words : List (List ℕ)) (command : CommandForm)
    → trace_of words ≡ Some command → AsksFor (codes "trace" ∷ words) command
trace_found [] command e = subst (AsksFor (codes "trace" ∷ [])) (value_in trace command e) to_trace
trace_found (word ∷ words) command e = cc

-- words of which a command is found ask for it
command_found : (words : List (List ℕ)) (command : CommandForm) → command_in words ≡ Some command → AsksFor words command
command_found [] command e = cc
command_found (word ∷ words) command e =
    ⊎_elim (λ (is, e). rw (named (codes "check") is) (check_found words command e)) (λ other.
    ⊎_elim (λ (is, e). rw (named (codes "regress") is) (regress_found words command e)) (λ other.
    ⊎_elim (λ (is, e). rw (named (codes "trace") is) (trace_found words command e)) (λ none. let never : None ≡ Some command = none.1 in cc)
    (chosen (bytes_eq word (codes "trace")) _ _ command other.1)) (chosen (bytes_eq word (codes "regress")) _ _ command other.1))
    (chosen (bytes_eq word (codes "check")) _ _ command e)
  where
    named : (name : List ℕ) → bytes_eq word name ≡ true → word ≡ name
    named name is = (bytes_eq-Decides word name).0 is

-- of words that ask for a command it is found
pub command_read : (words : List (List ℕ)) (command : CommandForm) → AsksFor words command → command_in words ≡ Some command
command_read _ _ (to_check os words are) =
    let taken = options_taken no_options os are.distinct (all_new os) in
    let given = options_given no_options os taken.0 taken.1 in
    let none = of_check os are.taken in
    let goal : taken.0.goal ≡ None = given.goal ∙ none.0 in
    let depth : taken.0.depth ≡ None = given.depth ∙ none.1 in
    let budget : taken.0.budget ≡ first_of as_budget os = given.budget in
    let form : taken.0.form ≡ first_of as_form os = given.form in
    rw (options_read os words are.spelled, taken.1, goal, depth, budget, form) refl
command_read _ _ (to_regress os words name are named) =
    let taken = options_taken no_options os are.distinct (all_new os) in
    let given = options_given no_options os taken.0 taken.1 in
    let form : taken.0.form ≡ None = given.form ∙ of_regress os are.taken in
    let goal : taken.0.goal ≡ Some name = given.goal ∙ named in
    let depth : taken.0.depth ≡ first_of as_depth os = given.depth in
    let budget : taken.0.budget ≡ first_of as_budget os = given.budget in
    rw (options_read os words are.spelled, taken.1, form, goal, depth, budget) refl
command_read _ _ to_trace = refl

-- a command is found exactly where the words ask for it
pub exact : (words : List (String Global)) (found : Option Command)
    → option_map command_form found ≡ command_in (map string_bytes words) → MatchOption found (AreOtherWords words) (λ command. AreWords words (command_form command))
exact words None e = λ command asked. let read = command_read (map string_bytes words) command asked in cc
exact words (Some command) e = command_found (map string_bytes words) (command_form command) (sym e)

-- no words ask for two commands
pub one_command : (words : List (String Global)) (first second : CommandForm)
    → AreWords words first → AreWords words second → first ≡ second
one_command words first second asked again =
    value_in first second (sym (command_read (map string_bytes words) first asked) ∙ command_read (map string_bytes words) second again)

-- no word behind `trace`
pub trace_alone : (words : List (String Global)) → true ≡ (length words == 0) → Some trace ≡ trace_of (map string_bytes words)
trace_alone [] alone = refl
trace_alone (word ∷ words) alone =
    let none : length (word ∷ words) ≡ 0 = eqb-true (length (word ∷ words)) 0 (sym alone) in
    let never : ⊥ = omega arith in
    absurd never
