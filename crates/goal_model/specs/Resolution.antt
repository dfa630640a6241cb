-- Which model a list of statements makes, or its first refusal. Statements are taken in order, and a name may be used only after its own.
-- Within a statement the first fault from left to right is answered, and then those that a whole statement can have.
use Rattle.std.specs.Prelude.{ℕ, ◌+◌, ◌^◌, nat_lt, nat_le, Bool, true, false, not, ◌&&◌, ◌||◌, List, [], ◌∷◌, ◌++◌, length, map, bit_or, Option, Ok, Err, ◌==◌, slice_index_or}
use Rattle.std.specs.List.{list_any}
use Rattle.std.specs.Int.{bit_at}
use Rattle.state_space.specs.Ranges.{RangeForm}
use Rattle.temporal_logic.specs.Ltl.{Ltl, entails}
use Rattle.temporal_logic.specs.Shapes.{is_state_of}
use Rattle.model_text.specs.declared.statement.Role.{Role}
use Rattle.model_text.specs.RawTrees.{RawTree}
use Rattle.entity_types.specs.WrittenTrees.{WrittenTree}
use Rattle.entity_types.specs.Joined.{joined_names}
use Rattle.entity_types.specs.Attributes.{is_some_long}
use Rattle.model_text.specs.Statements.{Setting, StatementForm, version, variable, entity_type, attribute, domain, rule, goal, obstacle, refinement, obstruction, conflict, agent, assignment, expectation, operation, requirement, operationalisation, trace}
use Rattle.goal_model.specs.declared.refusal.RefusalKind.{RefusalKind}
use Rattle.goal_model.specs.declared.refusal.RefusalKind.TheVariants.{BadValue, BadRange, LongName, TooManyVars, TooWide, NotState, TwoControllers, Cycle, TooLarge}
use Rattle.goal_model.specs.declared.namespace.Kind.TheVariants.{Property, Goal, Obstacle, Agent, Operation, Requirement, Conflict, Trace, EntityType, Attribute}
use Rattle.goal_model.specs.Refusals.{Resolved, and_then, holds}
use Rattle.goal_model.specs.ValueIndexes.{apart_from, values_apart, has_few_values}
use Rattle.goal_model.specs.Scopes.{ScopeForm, fresh, used, listed}
use Rattle.goal_model.specs.Terms.{members_at}
use Rattle.goal_model.specs.VariableLists.{variables_in}
use Rattle.goal_model.specs.Formulas.{written_in, plain_of, is_narrow}
use Rattle.goal_model.specs.States.{states_in}
use Rattle.goal_model.specs.Patterns.{pattern_in}
use Rattle.goal_model.specs.Models.{PropertyForm, AgentForm, LinkForm, refine, obstruct, operationalise, assign, ModelForm}
use Rattle.goal_model.specs.Models as models
use Rattle.goal_model.specs.Reachability.{closes_cycle}
use Rattle.goal_model.specs.Items.{LabelForm, ItemForm, items_of, is_small_item}
use Rattle.goal_model.specs.Drafts.{DraftForm, no_draft, scope_of, declares, keeps, expected_at, finished}

-- ---- variables, entity types and attributes

abbrev pub with_variable : DraftForm → List ℕ → RangeForm → DraftForm
with_variable d x range = record d { model = record d.model { names = d.model.names ++ x ∷ []; ranges = d.model.ranges ++ range ∷ [] } }

abbrev pub variable_taken : DraftForm → List ℕ → RangeForm → Resolved DraftForm
variable_taken d x range =
    and_then (fresh (scope_of d) x) (λ _. and_then (values_apart range) (λ _.
    and_then (holds (has_few_values range) BadRange x) (λ _. and_then (holds (nat_lt (length d.model.names) 64) TooManyVars x) (λ _. Ok (with_variable d x range)))))

-- whether there are 2 to 8 members
abbrev pub has_few_members : List (List ℕ) → Bool
has_few_members members = nat_le 2 (length members) && nat_le (length members) 8

abbrev pub with_entity_type : DraftForm → List ℕ → List (List ℕ) → DraftForm
with_entity_type d x members =
    declares d x EntityType (length d.model.members) (record d.model { types = d.model.types ++ x ∷ []; members = d.model.members ++ members ∷ [] })

abbrev pub entity_type_taken : DraftForm → List ℕ → List (List ℕ) → Resolved DraftForm
entity_type_taken d x members =
    and_then (fresh (scope_of d) x) (λ _. and_then (apart_from [] members) (λ _. and_then (holds (has_few_members members) BadRange x) (λ _. Ok (with_entity_type d x members))))

-- the names of a list, each of which has to be new
unfoldable pub all_fresh : ScopeForm → List (List ℕ) → Resolved (Unit {0})
all_fresh s [] = Ok tt
all_fresh s (x ∷ xs) = and_then (fresh s x) (λ _. all_fresh s xs)

-- an attribute has a variable for each member of its type, under the joined name
abbrev pub with_attribute : DraftForm → List ℕ → ℕ → List (List ℕ) → RangeForm → DraftForm
with_attribute d f entity members range = declares d f Attribute (length d.model.attributes) (record d.model {
  names = d.model.names ++ joined_names f members;
  ranges = d.model.ranges ++ map (λ m. range) members;
  attributes = d.model.attributes ++ (record { name = f; entity = entity; first = length d.model.names }) ∷ [];
})

-- what is asked of an attribute's variables behind the walk
abbrev pub row_taken : DraftForm → List ℕ → ℕ → List (List ℕ) → RangeForm → Resolved DraftForm
row_taken d f entity members range =
    and_then (holds (has_few_values range) BadRange f) (λ _. and_then (holds (not (is_some_long f members)) LongName f) (λ _.
    and_then (all_fresh (scope_of d) (joined_names f members)) (λ _. and_then (holds (nat_le (length d.model.names + length members) 64) TooManyVars f) (λ _.
    Ok (with_attribute d f entity members range)))))

abbrev pub attribute_taken : DraftForm → (f entity : List ℕ) → RangeForm → Resolved DraftForm
attribute_taken d f entity range =
    and_then (fresh (scope_of d) f) (λ _. and_then (used (scope_of d) EntityType entity) (λ e. and_then (values_apart range) (λ _.
    row_taken d f e (members_at (scope_of d) e) range)))

-- ---- the formulas of a statement

-- the plain formula of a statement that declares this name; in version 2 it has to be small enough
abbrev pub plain_in : DraftForm → List ℕ → WrittenTree → Resolved Ltl
plain_in d x f = and_then (holds (not (d.version == 2) || is_narrow (scope_of d) f) TooWide x) (λ _. Ok (plain_of (scope_of d) f))

-- a statement's only formula: the draft that keeps it as it is written, and the plain formula
abbrev pub one_taken : DraftForm → ℕ → List ℕ → RawTree → Resolved (DraftForm × Ltl)
one_taken d n x body = and_then (written_in (scope_of d) body) (λ w. and_then (plain_in d x w) (λ f. Ok (keeps d n (w ∷ []), f)))

-- a statement's two formulas
abbrev pub two_taken : DraftForm → ℕ → List ℕ → RawTree → RawTree → Resolved (DraftForm × Ltl × Ltl)
two_taken d n x first second =
    and_then (written_in (scope_of d) first) (λ v. and_then (written_in (scope_of d) second) (λ w.
    and_then (plain_in d x v) (λ f. and_then (plain_in d x w) (λ g. Ok (keeps d n (v ∷ w ∷ []), f, g)))))

-- ---- domain properties, goals and obstacles

abbrev pub with_property : DraftForm → ℕ → List ℕ → Bool → Ltl → DraftForm
with_property d n x is_rule f =
    declares d x Property (length d.model.domains) (record d.model { domains = d.model.domains ++ (record { statement = n; name = x; formula = f; is_rule = is_rule }) ∷ [] })

abbrev pub domain_taken : DraftForm → ℕ → List ℕ → RawTree → Resolved DraftForm
domain_taken d n x body = and_then (fresh (scope_of d) x) (λ _. and_then (one_taken d n x body) (λ p. Ok (with_property p.0 n x false p.1)))

abbrev pub rule_taken : DraftForm → ℕ → List ℕ → RawTree → RawTree → Resolved DraftForm
rule_taken d n x cause effect =
    and_then (fresh (scope_of d) x) (λ _. and_then (two_taken d n x cause effect) (λ p. Ok (with_property p.0 n x true (entails p.1 p.2))))

abbrev pub with_goal : DraftForm → ℕ → List ℕ → Ltl → DraftForm
with_goal d n x f = declares d x Goal (length d.model.goals) (record d.model { goals = d.model.goals ++ (record { statement = n; name = x; formula = f; is_expected = false }) ∷ [] })

abbrev pub goal_taken : DraftForm → ℕ → List ℕ → RawTree → Resolved DraftForm
goal_taken d n x body = and_then (fresh (scope_of d) x) (λ _. and_then (one_taken d n x body) (λ p. Ok (with_goal p.0 n x p.1)))

abbrev pub with_obstacle : DraftForm → ℕ → List ℕ → Ltl → DraftForm
with_obstacle d n x f = declares d x Obstacle (length d.model.obstacles) (record d.model { obstacles = d.model.obstacles ++ (record { statement = n; name = x; formula = f }) ∷ [] })

abbrev pub obstacle_taken : DraftForm → ℕ → List ℕ → RawTree → Resolved DraftForm
obstacle_taken d n x body = and_then (fresh (scope_of d) x) (λ _. and_then (one_taken d n x body) (λ p. Ok (with_obstacle p.0 n x p.1)))

-- ---- agents, operations, requirements

-- the set of some numbers, and of those that are in it before
abbrev pub set_of : ℕ → List ℕ → ℕ
set_of set [] = set
set_of set (k ∷ ks) = set_of (bit_or set (2 ^ k)) ks

-- whether an agent controls a variable
abbrev pub is_controlled : List AgentForm → ℕ → Bool
is_controlled agents k = list_any (λ a. bit_at a.controls k == 1) agents

-- none of the variables is one that an agent controls; the first that is one is refused by its own name, an attribute's too
abbrev pub uncontrolled : List AgentForm → (names : List (List ℕ)) → List ℕ → Resolved (Unit {0})
uncontrolled agents names [] = Ok tt
uncontrolled agents names (k ∷ ks) = and_then (holds (not (is_controlled agents k)) TwoControllers (slice_index_or names k [])) (λ _. uncontrolled agents names ks)

abbrev pub with_agent : DraftForm → List ℕ → List ℕ → List ℕ → DraftForm
with_agent d x monitored controlled =
    declares d x Agent (length d.model.agents) (record d.model { agents = d.model.agents ++ (record { name = x; monitors = set_of 0 monitored; controls = set_of 0 controlled }) ∷ [] })

abbrev pub agent_taken : DraftForm → List ℕ → List (List ℕ) → List (List ℕ) → Resolved DraftForm
agent_taken d x monitored controlled =
    and_then (fresh (scope_of d) x) (λ _. and_then (variables_in (scope_of d) monitored) (λ ms. and_then (variables_in (scope_of d) controlled) (λ cs.
    and_then (uncontrolled d.model.agents d.model.names cs) (λ _. Ok (with_agent d x ms cs)))))

abbrev pub with_operation : DraftForm → List ℕ → ℕ → Ltl → Ltl → DraftForm
with_operation d x a pre post =
    declares d x Operation (length d.model.operations) (record d.model { operations = d.model.operations ++ (record { name = x; agent = a; dompre = pre; dompost = post }) ∷ [] })

abbrev pub operation_taken : DraftForm → ℕ → List ℕ → List ℕ → RawTree → RawTree → Resolved DraftForm
operation_taken d n x y dompre dompost =
    and_then (fresh (scope_of d) x) (λ _. and_then (used (scope_of d) Agent y) (λ a. and_then (two_taken d n x dompre dompost) (λ p.
    and_then (holds (is_state_of p.1 && is_state_of p.2) NotState x) (λ _. Ok (with_operation p.0 x a p.1 p.2)))))

abbrev pub with_requirement : DraftForm → List ℕ → ℕ → Role → Ltl → DraftForm
with_requirement d x o role f =
    declares d x Requirement (length d.model.requirements) (record d.model { requirements = d.model.requirements ++ (record { name = x; operation = o; role = role; formula = f }) ∷ [] })

abbrev pub requirement_taken : DraftForm → ℕ → List ℕ → List ℕ → Role → RawTree → Resolved DraftForm
requirement_taken d n x y role formula =
    and_then (fresh (scope_of d) x) (λ _. and_then (used (scope_of d) Operation y) (λ o. and_then (one_taken d n x formula) (λ p.
    and_then (holds (is_state_of p.1) NotState x) (λ _. Ok (with_requirement p.0 x o role p.1)))))

-- ---- links

abbrev pub with_link : DraftForm → LinkForm → DraftForm
with_link d link = record d { model = record d.model { links = d.model.links ++ link ∷ [] } }

abbrev pub refinement_taken : DraftForm → ℕ → List ℕ → List (List ℕ) → Option (List ℕ) → Resolved DraftForm
refinement_taken d n x xs pattern =
    and_then (used (scope_of d) Goal x) (λ g. and_then (listed (used (scope_of d) Goal) xs) (λ gs. and_then (pattern_in pattern) (λ kind.
    and_then (holds (not (closes_cycle d.model.links g gs)) Cycle x) (λ _. Ok (with_link d (refine n g gs kind))))))

abbrev pub obstruction_taken : DraftForm → ℕ → List ℕ → List (List ℕ) → Resolved DraftForm
obstruction_taken d n x xs = and_then (used (scope_of d) Goal x) (λ g. and_then (listed (used (scope_of d) Obstacle) xs) (λ os. Ok (with_link d (obstruct n g os))))

abbrev pub with_conflict : DraftForm → ℕ → List ℕ → List ℕ → Ltl → DraftForm
with_conflict d n x gs f = declares d x Conflict (length d.model.links) (record d.model { links = d.model.links ++ models.conflict n x gs f ∷ [] })

abbrev pub conflict_taken : DraftForm → ℕ → List ℕ → List (List ℕ) → RawTree → Resolved DraftForm
conflict_taken d n x xs boundary =
    and_then (fresh (scope_of d) x) (λ _. and_then (listed (used (scope_of d) Goal) xs) (λ gs. and_then (one_taken d n x boundary) (λ p. Ok (with_conflict p.0 n x gs p.1))))

abbrev pub operationalisation_taken : DraftForm → ℕ → List ℕ → List (List ℕ) → Bool → Resolved DraftForm
operationalisation_taken d n x xs exact = and_then (used (scope_of d) Goal x) (λ g. and_then (listed (used (scope_of d) Requirement) xs) (λ rs. Ok (with_link d (operationalise n g rs exact))))

abbrev pub assignment_taken : DraftForm → ℕ → List ℕ → List ℕ → Resolved DraftForm
assignment_taken d n x y = and_then (used (scope_of d) Goal x) (λ g. and_then (used (scope_of d) Agent y) (λ a. Ok (with_link d (assign n g a))))

-- a goal that an agent is expected to keep
abbrev pub with_expected : DraftForm → ℕ → DraftForm
with_expected d g = record d { model = record d.model { goals = expected_at g d.model.goals } }

abbrev pub expectation_taken : DraftForm → List ℕ → List ℕ → Resolved DraftForm
expectation_taken d x y = and_then (used (scope_of d) Goal x) (λ g. and_then (used (scope_of d) Agent y) (λ a. Ok (with_expected d g)))

-- ---- traces

abbrev pub with_trace : DraftForm → List ℕ → List (List ℕ) → List (List ℕ) → DraftForm
with_trace d x prefix cycle = declares d x Trace (length d.model.traces) (record d.model { traces = d.model.traces ++ (record { name = x; prefix = prefix; cycle = cycle }) ∷ [] })

-- a loop without a state, which no text spells, counts as a value that is none
abbrev pub trace_taken : DraftForm → List ℕ → List (List Setting) → List (List Setting) → Resolved DraftForm
trace_taken d x prefix cycle =
    and_then (fresh (scope_of d) x) (λ _. and_then (states_in (scope_of d) prefix) (λ before. and_then (states_in (scope_of d) cycle) (λ after.
    and_then (holds (nat_lt 0 (length after)) BadValue x) (λ _. Ok (with_trace d x before after)))))

-- ---- all statements

-- the draft with a statement of this number
abbrev pub taken : DraftForm → ℕ → StatementForm → Resolved DraftForm
taken d n (version v) = Ok (record d { version = v })
taken d n (variable x range) = variable_taken d x range
taken d n (entity_type x members) = entity_type_taken d x members
taken d n (attribute f entity range) = attribute_taken d f entity range
taken d n (domain x body) = domain_taken d n x body
taken d n (rule x cause effect) = rule_taken d n x cause effect
taken d n (goal x body) = goal_taken d n x body
taken d n (obstacle x body) = obstacle_taken d n x body
taken d n (refinement x xs pattern) = refinement_taken d n x xs pattern
taken d n (obstruction x xs) = obstruction_taken d n x xs
taken d n (conflict x xs boundary) = conflict_taken d n x xs boundary
taken d n (agent x monitored controlled) = agent_taken d x monitored controlled
taken d n (assignment x y) = assignment_taken d n x y
taken d n (expectation x y) = expectation_taken d x y
taken d n (operation x y dompre dompost) = operation_taken d n x y dompre dompost
taken d n (requirement x y role formula) = requirement_taken d n x y role formula
taken d n (operationalisation x xs exact) = operationalisation_taken d n x xs exact
taken d n (trace x prefix cycle) = trace_taken d x prefix cycle

-- a model, or why there is none: the kind of the first refusal, the number of its statement, and the name at which it stands
pub data Outcome : Type 0 where
  made : (m : ModelForm) → Outcome
  refuses : (kind : RefusalKind) (statement : ℕ) (name : List ℕ) → Outcome

-- the statement and the name that an item too large is refused with: those of its link, or of the first domain property
abbrev pub first_property : List PropertyForm → ℕ × List ℕ
first_property [] = (0, [])
first_property (p ∷ ps) = (p.statement, p.name)

abbrev pub blamed : ModelForm → ℕ → List (List ℕ) → ℕ × List ℕ
blamed m statement (x ∷ xs) = (statement, x)
blamed m statement [] = first_property m.domains

abbrev pub too_large : ModelForm → LabelForm → Outcome
too_large m label = refuses TooLarge (blamed m label.statement label.names).0 (blamed m label.statement label.names).1

abbrev pub if_small : Bool → Outcome → Outcome → Outcome
if_small true small large = small
if_small false small large = large

-- a model whose items are all small enough
abbrev pub sized : ModelForm → List ItemForm → Outcome
sized m [] = made m
sized m (i ∷ is) = if_small (is_small_item m i) (sized m is) (too_large m i.label)

abbrev pub goes_on : ℕ → Resolved DraftForm → (DraftForm → Outcome) → Outcome
goes_on n (Ok d) rest = rest d
goes_on n (Err fault) rest = refuses fault.kind n fault.name

-- what statements make, of which the first has this number
unfoldable pub outcome_from : DraftForm → ℕ → List StatementForm → Outcome
outcome_from d n [] = sized (finished d.model) (items_of (finished d.model))
outcome_from d n (s ∷ ss) = goes_on n (taken d n s) (λ next. outcome_from next (n + 1) ss)

-- what the statements of a text make, counted from 1
abbrev pub outcome_of : List StatementForm → Outcome
outcome_of ss = outcome_from no_draft 1 ss
