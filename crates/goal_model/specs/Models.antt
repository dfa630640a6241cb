-- Models, wherever their parts lie in memory.
use Rattle.std.specs.Prelude.{ℕ, ◌+◌, ◌<◌, ◌≤◌, ◌≡◌, ◌==◌, Bool, List, [], length, map, find, All, Option, Some, None, slice_get, slice_index_or}
use Rattle.state_space.specs.Ranges.{RangeForm, truth_values, size_of, IsGoodRange}
use Rattle.state_space.specs.Fitting.{ValuesFit}
use Rattle.state_space.specs.Spaces as spaces
use Rattle.temporal_logic.specs.Ltl.{Ltl}
use Rattle.temporal_logic.specs.Trees.{tree_of}
use Rattle.temporal_logic.specs.Fits.{Fits}
use Rattle.temporal_logic.specs.Rows.{rows}
use Rattle.model_text.specs.declared.statement.Role.{Role}
use Rattle.entity_types.specs.WrittenTrees.{WrittenTree}
use Rattle.entity_types.specs.Joined.{joined_name}
use Rattle.entity_types.specs.View.{AttributeForm, type_names, member_names, attributes as attributes_of, written_tree}
use Rattle.goal_model.specs.declared.pattern.PatternKind.{PatternKind}
use Rattle.goal_model.specs.declared.contents.Property.{Property}
use Rattle.goal_model.specs.declared.contents.Goal.{Goal}
use Rattle.goal_model.specs.declared.contents.Obstacle.{Obstacle}
use Rattle.goal_model.specs.declared.contents.Agent.{Agent}
use Rattle.goal_model.specs.declared.contents.Operation.{Operation}
use Rattle.goal_model.specs.declared.contents.Requirement.{Requirement}
use Rattle.goal_model.specs.declared.contents.Link as code
use Rattle.goal_model.specs.declared.contents.Link.TheVariants as links
use Rattle.goal_model.specs.declared.contents.NamedTrace.{NamedTrace}
use Rattle.goal_model.specs.declared.contents.WrittenStatement.{WrittenStatement}
use Rattle.goal_model.specs.declared.contents.Contents.{Contents}

pub record PropertyForm : Type 0 where
  pub statement : ℕ
  pub name : List ℕ
  pub formula : Ltl
  pub is_rule : Bool

pub record GoalForm : Type 0 where
  pub statement : ℕ
  pub name : List ℕ
  pub formula : Ltl
  pub is_expected : Bool

pub record ObstacleForm : Type 0 where
  pub statement : ℕ
  pub name : List ℕ
  pub formula : Ltl

-- the variables that an agent monitors, and those that it controls, as sets of their numbers
pub record AgentForm : Type 0 where
  pub name : List ℕ
  pub monitors : ℕ
  pub controls : ℕ

pub record OperationForm : Type 0 where
  pub name : List ℕ
  pub agent : ℕ
  pub dompre : Ltl
  pub dompost : Ltl

pub record RequirementForm : Type 0 where
  pub name : List ℕ
  pub operation : ℕ
  pub role : Role
  pub formula : Ltl

-- what one statement says of others, which are given by their places in the model's lists
pub data LinkForm : Type 0 where
  refine : (statement parent : ℕ) (subgoals : List ℕ) (pattern : Option PatternKind) → LinkForm
  obstruct : (statement goal : ℕ) (obstacles : List ℕ) → LinkForm
  conflict : (statement : ℕ) (name : List ℕ) (goals : List ℕ) (boundary : Ltl) → LinkForm
  operationalise : (statement goal : ℕ) (requirements : List ℕ) (exact : Bool) → LinkForm
  assign : (statement goal agent : ℕ) → LinkForm

-- a trace, by the value indexes of its variables at the positions of its prefix and of its loop
pub record TraceForm : Type 0 where
  pub name : List ℕ
  pub prefix : List (List ℕ)
  pub cycle : List (List ℕ)

-- the formulas of a statement as they are written, in text order
pub record WrittenForm : Type 0 where
  pub statement : ℕ
  pub formulas : List WrittenTree

pub record ModelForm : Type 0 where
  pub names : List (List ℕ)
  pub ranges : List RangeForm
  pub types : List (List ℕ)
  pub members : List (List (List ℕ))
  pub attributes : List AttributeForm
  pub domains : List PropertyForm
  pub goals : List GoalForm
  pub obstacles : List ObstacleForm
  pub agents : List AgentForm
  pub operations : List OperationForm
  pub requirements : List RequirementForm
  pub links : List LinkForm
  pub traces : List TraceForm
  pub written : List WrittenForm

abbrev pub property_of : Property → PropertyForm
property_of p = record { statement = p.statement; name = p.name; formula = tree_of p.formula; is_rule = p.rule }

abbrev pub goal_of : Goal → GoalForm
goal_of g = record { statement = g.statement; name = g.name; formula = tree_of g.formula; is_expected = g.expected }

abbrev pub obstacle_of : Obstacle → ObstacleForm
obstacle_of o = record { statement = o.statement; name = o.name; formula = tree_of o.formula }

abbrev pub agent_of : Agent → AgentForm
agent_of a = record { name = a.name; monitors = a.monitors.0; controls = a.controls.0 }

abbrev pub operation_of : Operation → OperationForm
operation_of o = record { name = o.name; agent = o.agent; dompre = tree_of o.dompre; dompost = tree_of o.dompost }

abbrev pub requirement_of : Requirement → RequirementForm
requirement_of r = record { name = r.name; operation = r.operation; role = r.role; formula = tree_of r.formula }

abbrev pub link_of : code.Link → LinkForm
link_of (links.Refine statement parent subgoals pattern) = refine statement parent subgoals.items pattern
link_of (links.Obstruct statement goal obstacles) = obstruct statement goal obstacles.items
link_of (links.Conflict statement name goals boundary) = conflict statement name goals.items (tree_of boundary)
link_of (links.Operationalise statement goal requirements exact) = operationalise statement goal requirements.items exact
link_of (links.Assign statement goal agent) = assign statement goal agent

abbrev pub trace_of : NamedTrace → TraceForm
trace_of t = record { name = t.name; prefix = rows t.lasso.prefix.items; cycle = rows t.lasso.cycle.items }

abbrev pub written_of : WrittenStatement → WrittenForm
written_of w = record { statement = w.statement; formulas = map written_tree w.formulas.items }

abbrev pub contents_of : Contents → ModelForm
contents_of m = record {
  names = spaces.names m.space;
  ranges = spaces.ranges m.space;
  types = type_names m.entities;
  members = member_names m.entities;
  attributes = attributes_of m.entities;
  domains = map property_of m.domains.items;
  goals = map goal_of m.goals.items;
  obstacles = map obstacle_of m.obstacles.items;
  agents = map agent_of m.agents.items;
  operations = map operation_of m.operations.items;
  requirements = map requirement_of m.requirements.items;
  links = map link_of m.links.items;
  traces = map trace_of m.traces.items;
  written = map written_of m.written.items;
}

-- the formulas of the statement of a number, as they are written; none where the text is of version 1
abbrev pub formulas_in : Option WrittenForm → List WrittenTree
formulas_in (Some w) = w.formulas
formulas_in None = []

abbrev pub formulas_at : ModelForm → ℕ → List WrittenTree
formulas_at m n = formulas_in (find (λ w. w.statement == n) m.written)

-- the sizes of the model's ranges
abbrev pub sizes_of : ModelForm → List ℕ
sizes_of m = map size_of m.ranges

-- each place that a link names is one of the model
abbrev pub LinkIsOf : ModelForm → LinkForm → Type 0
LinkIsOf m (refine statement parent subgoals pattern) = (parent < length m.goals) × All (λ g. g < length m.goals) subgoals
LinkIsOf m (obstruct statement goal obstacles) = (goal < length m.goals) × All (λ o. o < length m.obstacles) obstacles
LinkIsOf m (conflict statement name goals boundary) = All (λ g. g < length m.goals) goals × Fits m.ranges boundary
LinkIsOf m (operationalise statement goal requirements exact) = (goal < length m.goals) × All (λ r. r < length m.requirements) requirements
LinkIsOf m (assign statement goal agent) = (goal < length m.goals) × (agent < length m.agents)

-- the type of the attribute is there, and for each of its members there is a variable, in order: of the joined name, and of the range that the
-- first one has
pub record AttributeIsOf (names : List (List ℕ)) (ranges : List RangeForm) (members : List (List (List ℕ))) (a : AttributeForm) : Type 0 where
  pub entity : a.entity < length members
  pub named : (k : ℕ) (x : List ℕ) → slice_get (slice_index_or members a.entity []) k ≡ Some x → slice_get names (a.first + k) ≡ Some (joined_name a.name x)
  pub ranged : (k : ℕ) → k < length (slice_index_or members a.entity []) → slice_index_or ranges (a.first + k) truth_values ≡ slice_index_or ranges a.first truth_values

-- 2 to 8 members
abbrev pub HasMembers : List (List ℕ) → Type 0
HasMembers xs = (2 ≤ length xs) × (length xs ≤ 8)

-- each formula speaks of variables and values of the model, and each place is one of it
pub record PartsFit (m : ModelForm) : Type 0 where
  pub few : length m.names < 65
  pub count : length m.ranges ≡ length m.names
  pub ranges : All IsGoodRange m.ranges
  pub members : All HasMembers m.members
  pub attributes : All (AttributeIsOf m.names m.ranges m.members) m.attributes
  pub domains : All (λ p. Fits m.ranges p.formula) m.domains
  pub goals : All (λ g. Fits m.ranges g.formula) m.goals
  pub obstacles : All (λ o. Fits m.ranges o.formula) m.obstacles
  pub operations : All (λ o. (o.agent < length m.agents) × Fits m.ranges o.dompre × Fits m.ranges o.dompost) m.operations
  pub requirements : All (λ r. (r.operation < length m.operations) × Fits m.ranges r.formula) m.requirements
  pub links : All (LinkIsOf m) m.links

-- a trace of the sizes: its loop is not empty, and each row has an index below its size for each variable
pub record TraceIsOver (sizes : List ℕ) (t : TraceForm) : Type 0 where
  pub turns : 0 < length t.cycle
  pub prefix : All (ValuesFit sizes) t.prefix
  pub cycle : All (ValuesFit sizes) t.cycle

pub record IsWellFormed (m : ModelForm) : Type 0 where
  pub parts : PartsFit m
  pub traces : All (TraceIsOver (sizes_of m)) m.traces
