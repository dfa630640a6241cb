-- The words that are accepted, and what each asks for.
use Rattle.std.specs.Prelude.{◌≡◌, ◌≢◌, ℕ, ◌≤◌, Bool, true, false, IsTrue, List, [], ◌∷◌, ◌++◌, map, length, Option, Some, None, unwrap_or, All, AllPairs, codes, String, string_bytes}
use Rattle.std.specs.Option.{option_or}
use Rattle.std.specs.List.{list_all}
use Rattle.std.specs.Global.{Global}
use Rattle.source_sink.specs.Decimals.{value_behind}
use Rattle.verdict_report.specs.declared.form.Form.{Form}
use Rattle.verdict_report.specs.declared.form.Form.TheVariants.{Full, Brief, Lines}

-- what a run is asked for
pub data CommandForm : Type 0 where
  check : (budget : ℕ) (form : Form) → CommandForm
  regress : (goal : List ℕ) (depth budget : ℕ) → CommandForm
  trace : CommandForm

-- an option, with its value
pub data OptionForm : Type 0 where
  a_budget : (nodes : ℕ) → OptionForm
  a_form : (form : Form) → OptionForm
  a_goal : (name : List ℕ) → OptionForm
  a_depth : (levels : ℕ) → OptionForm

abbrev pub name_of : OptionForm → List ℕ
name_of (a_budget nodes) = codes "budget"
name_of (a_form form) = codes "form"
name_of (a_goal name) = codes "goal"
name_of (a_depth levels) = codes "depth"

-- 1 to 6 decimal digits, of a value from 1 to the most
pub record IsNumber (most : ℕ) (word : List ℕ) (number : ℕ) : Type 0 where
  pub some : 1 ≤ length word
  pub few : length word ≤ 6
  pub digits : All (λ d. (48 ≤ d) × (d ≤ 57)) word
  pub value : value_behind 0 word ≡ number
  pub low : 1 ≤ number
  pub high : number ≤ most

abbrev pub form_word : Form → List ℕ
form_word Full = codes "full"
form_word Brief = codes "brief"
form_word Lines = codes "lines"

-- the value of an option is spelled so: a budget is from 1 to 200,000, a depth from 1 to 6, and any word may be the name of a goal
abbrev pub SpellsValue : OptionForm → List ℕ → Type 0
SpellsValue (a_budget nodes) word = IsNumber 200000 word nodes
SpellsValue (a_form form) word = word ≡ form_word form
SpellsValue (a_goal name) word = word ≡ name
SpellsValue (a_depth levels) word = IsNumber 6 word levels

-- an option is two words, `--NAME` and its value, or one, `--NAME=VALUE`
pub data SpellsOption (o : OptionForm) : List (List ℕ) → Type 0 where
  two_words : (value : List ℕ) → SpellsValue o value → SpellsOption o ((codes "--" ++ name_of o) ∷ value ∷ [])
  one_word : (value : List ℕ) → SpellsValue o value → SpellsOption o ((codes "--" ++ name_of o ++ codes "=" ++ value) ∷ [])

-- options, one behind the other
pub data SpellsOptions : List OptionForm → List (List ℕ) → Type 0 where
  no_option : SpellsOptions [] []
  an_option : (o : OptionForm) (front : List (List ℕ)) (os : List OptionForm) (rest : List (List ℕ)) → SpellsOption o front → SpellsOptions os rest → SpellsOptions (o ∷ os) (front ++ rest)

-- no option is given twice
abbrev pub AreDistinct : List OptionForm → Type 0
AreDistinct os = AllPairs (λ o p. name_of o ≢ name_of p) os

-- words spell these options, none of them twice, and the command takes each
pub record AreOptions (takes : OptionForm → Bool) (os : List OptionForm) (words : List (List ℕ)) : Type 0 where
  pub spelled : SpellsOptions os words
  pub distinct : AreDistinct os
  pub taken : IsTrue (list_all takes os)

-- the value of an option, where it is one of this name
abbrev pub as_budget : OptionForm → Option ℕ
as_budget (a_budget nodes) = Some nodes
as_budget _ = None

abbrev pub as_form : OptionForm → Option Form
as_form (a_form form) = Some form
as_form _ = None

abbrev pub as_goal : OptionForm → Option (List ℕ)
as_goal (a_goal name) = Some name
as_goal _ = None

abbrev pub as_depth : OptionForm → Option ℕ
as_depth (a_depth levels) = Some levels
as_depth _ = None

-- the first value that options give of a name
abbrev pub first_of : {A : Type 0} → (OptionForm → Option A) → List OptionForm → Option A
first_of value [] = None
first_of value (o ∷ os) = option_or (value o) (first_of value os)

-- the budget that options give, and 20,000 nodes where they give none
abbrev pub budget_in : List OptionForm → ℕ
budget_in os = unwrap_or (first_of as_budget os) 20000

-- the form that options give, and the full one where they give none
abbrev pub form_in : List OptionForm → Form
form_in os = unwrap_or (first_of as_form os) Full

-- the depth that options give, and 3 where they give none
abbrev pub depth_in : List OptionForm → ℕ
depth_in os = unwrap_or (first_of as_depth os) 3

-- the options of `check`
abbrev pub is_of_check : OptionForm → Bool
is_of_check (a_budget nodes) = true
is_of_check (a_form form) = true
is_of_check _ = false

-- the options of `regress`
abbrev pub is_of_regress : OptionForm → Bool
is_of_regress (a_budget nodes) = true
is_of_regress (a_goal name) = true
is_of_regress (a_depth levels) = true
is_of_regress _ = false

-- words ask for a command: the first is its word, and those behind it are its options, in any order; of a regression the goal is named
pub data AsksFor : List (List ℕ) → CommandForm → Type 0 where
  to_check : (os : List OptionForm) (words : List (List ℕ)) → AreOptions is_of_check os words → AsksFor (codes "check" ∷ words) (check (budget_in os) (form_in os))
  to_regress : (os : List OptionForm) (words : List (List ℕ)) (goal : List ℕ) → AreOptions is_of_regress os words → first_of as_goal os ≡ Some goal
      → AsksFor (codes "regress" ∷ words) (regress goal (depth_in os) (budget_in os))
  to_trace : AsksFor (codes "trace" ∷ []) trace

-- the words behind the program's name are those of a command
abbrev pub AreWords : List (String Global) → CommandForm → Type 0
AreWords words command = AsksFor (map string_bytes words) command

-- the words are those of no command
abbrev pub AreOtherWords : List (String Global) → Type 0
AreOtherWords words = (command : CommandForm) → AreWords words command → ⊥
