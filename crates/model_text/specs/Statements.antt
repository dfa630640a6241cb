-- Statements as they are written, as plain trees.
use Rattle.std.specs.Prelude.{ℕ, Bool, List, Option, map}
use Rattle.state_space.specs.Ranges.{RangeForm, form_of}
use Rattle.model_text.specs.declared.statement.Role.{Role}
use Rattle.model_text.specs.declared.statement.RawState.{RawState}
use Rattle.model_text.specs.declared.statement.StatementKind as kind
use Rattle.model_text.specs.declared.statement.StatementKind.TheVariants as kinds
use Rattle.model_text.specs.declared.statement.Statement as code
use Rattle.model_text.specs.declared.statement.RawModel.{RawModel}
use Rattle.model_text.specs.RawTrees.{WrittenValue, RawTree}
use Rattle.model_text.specs.RawView.{written, raw_tree}

-- a value of a variable in a state
pub record Setting : Type 0 where
  pub variable : List ℕ
  pub value : WrittenValue

-- what a statement says: names as their bytes, formulas as trees, lists in the order in which they are written
pub data StatementForm : Type 0 where
  version : (number : ℕ) → StatementForm
  variable : (x : List ℕ) (range : RangeForm) → StatementForm
  entity_type : (x : List ℕ) (members : List (List ℕ)) → StatementForm
  attribute : (x entity : List ℕ) (range : RangeForm) → StatementForm
  domain : (x : List ℕ) (body : RawTree) → StatementForm
  rule : (x : List ℕ) (cause effect : RawTree) → StatementForm
  goal : (x : List ℕ) (body : RawTree) → StatementForm
  obstacle : (x : List ℕ) (body : RawTree) → StatementForm
  refinement : (parent : List ℕ) (subgoals : List (List ℕ)) (pattern : Option (List ℕ)) → StatementForm
  obstruction : (parent : List ℕ) (obstacles : List (List ℕ)) → StatementForm
  conflict : (x : List ℕ) (goals : List (List ℕ)) (boundary : RawTree) → StatementForm
  agent : (x : List ℕ) (monitored controlled : List (List ℕ)) → StatementForm
  assignment : (x y : List ℕ) → StatementForm
  expectation : (x y : List ℕ) → StatementForm
  operation : (x y : List ℕ) (dompre dompost : RawTree) → StatementForm
  requirement : (x y : List ℕ) (role : Role) (formula : RawTree) → StatementForm
  operationalisation : (x : List ℕ) (requirements : List (List ℕ)) (exact : Bool) → StatementForm
  trace : (x : List ℕ) (prefix cycle : List (List Setting)) → StatementForm

-- the values that a state of the code sets
abbrev pub settings_of : RawState → List Setting
settings_of state = map (λ s. record { variable = s.0; value = written s.1 }) state.sets.items

-- the statement that one of the code stands for
abbrev pub statement_of : kind.StatementKind → StatementForm
statement_of (kinds.Version n) = version n
statement_of (kinds.Var x range) = variable x (form_of range)
statement_of (kinds.Entity x members) = entity_type x members.items
statement_of (kinds.Attr x entity range) = attribute x entity (form_of range)
statement_of (kinds.Domain x body) = domain x (raw_tree body)
statement_of (kinds.Rule x cause effect) = rule x (raw_tree cause) (raw_tree effect)
statement_of (kinds.Goal x body) = goal x (raw_tree body)
statement_of (kinds.Obstacle x body) = obstacle x (raw_tree body)
statement_of (kinds.Refine parent subgoals pattern) = refinement parent subgoals.items pattern
statement_of (kinds.Obstruct parent obstacles) = obstruction parent obstacles.items
statement_of (kinds.Conflict x goals boundary) = conflict x goals.items (raw_tree boundary)
statement_of (kinds.Agent x monitored controlled) = agent x monitored.items controlled.items
statement_of (kinds.Assign x y) = assignment x y
statement_of (kinds.Expect x y) = expectation x y
statement_of (kinds.Operation x y dompre dompost) = operation x y (raw_tree dompre) (raw_tree dompost)
statement_of (kinds.Require x y role formula) = requirement x y role (raw_tree formula)
statement_of (kinds.Operationalise x requirements exact) = operationalisation x requirements.items exact
statement_of (kinds.Trace x prefix cycle) = trace x (map settings_of prefix.items) (map settings_of cycle.items)

-- the statements that those of the code stand for, in order
abbrev pub all_statements : List code.Statement → List StatementForm
all_statements = map (λ s. statement_of s.kind)

-- the statements of a model that was read
abbrev pub statements_of : RawModel → List StatementForm
statements_of raw = all_statements raw.statements.items
