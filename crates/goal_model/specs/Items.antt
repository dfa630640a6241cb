-- The items of a report before their formulas are written out: the domain item, and then those of each link in statement order.
use Rattle.std.specs.Prelude.{ℕ, ◌+◌, Bool, true, false, ◌||◌, List, [], ◌∷◌, ◌++◌, map, Option, Some, None, is_none, slice_index_or}
use Rattle.temporal_logic.specs.Ltl.{Ltl, truth, neg}
use Rattle.model_text.specs.declared.statement.Role.TheVariants.{Pre}
use Rattle.goal_model.specs.declared.item.LabelKind.{LabelKind}
use Rattle.goal_model.specs.declared.item.LabelKind.TheVariants.{Domain, Complete, Consistent, Minimal, Obstructs, Possible, ObstaclesCovered, Diverges, Without, Feasible, OperationComplete, OperationConsistent, Exact, Assigned}
use Rattle.goal_model.specs.declared.item.Wanted.{Wanted}
use Rattle.goal_model.specs.declared.item.Wanted.TheVariants.{NoTrace, SomeTrace}
use Rattle.goal_model.specs.declared.item.Part.{Part}
use Rattle.goal_model.specs.declared.item.Part.TheVariants.{Goal, Obstacle, Requirement, Boundary}
use Rattle.goal_model.specs.declared.item.Label as code_label
use Rattle.goal_model.specs.declared.item.Item as code_item
use Rattle.goal_model.specs.Models.{GoalForm, ObstacleForm, OperationForm, RequirementForm, LinkForm, refine, obstruct, conflict, operationalise, assign, ModelForm, sizes_of}
use Rattle.goal_model.specs.Requirements.{requirement_tree}
use Rattle.goal_model.specs.SmallLists.{is_small_list}

pub record LabelForm : Type 0 where
  pub kind : LabelKind
  pub statement : ℕ
  pub names : List (List ℕ)

-- what is asked, with the parts of its list behind the domain properties, each as it is or negated; an assignment asks for no trace
pub record ItemForm : Type 0 where
  pub label : LabelForm
  pub parts : List (Part × Bool)
  pub wanted : Option Wanted

abbrev pub label_of : code_label.Label → LabelForm
label_of l = record { kind = l.kind; statement = l.statement; names = l.names.items }

abbrev pub item_of : code_item.Item → ItemForm
item_of i = record { label = label_of i.label; parts = i.parts.items; wanted = i.wanted }

-- ---- the table

abbrev pub item : LabelKind → ℕ → List (List ℕ) → List (Part × Bool) → Option Wanted → ItemForm
item kind statement names parts wanted = record { label = record { kind = kind; statement = statement; names = names }; parts = parts; wanted = wanted }

-- parts as they are, or negated
abbrev pub all_as : (ℕ → Part) → Bool → List ℕ → List (Part × Bool)
all_as part sign places = map (λ p. (part p, sign)) places

-- one item for each element, by those before it, itself, and those behind it; `front` stands before the whole list
abbrev pub each_of : (List ℕ → ℕ → List ℕ → ItemForm) → List ℕ → List ℕ → List ItemForm
each_of made front [] = []
each_of made front (x ∷ back) = made front x back ∷ each_of made (front ++ x ∷ []) back

abbrev pub name_of_goal : ModelForm → ℕ → List ℕ
name_of_goal m g = slice_index_or (map (λ x. x.name) m.goals) g []

abbrev pub name_of_obstacle : ModelForm → ℕ → List ℕ
name_of_obstacle m o = slice_index_or (map (λ x. x.name) m.obstacles) o []

abbrev pub name_of_requirement : ModelForm → ℕ → List ℕ
name_of_requirement m r = slice_index_or (map (λ x. x.name) m.requirements) r []

abbrev pub name_of_agent : ModelForm → ℕ → List ℕ
name_of_agent m a = slice_index_or (map (λ x. x.name) m.agents) a []

abbrev pub domain_item : ItemForm
domain_item = item Domain 0 [] [] (Some SomeTrace)

-- a goal or its obstacles; `x` is the one of the list that is left out, between those before it and those behind it
abbrev pub complete_item : ModelForm → (statement parent : ℕ) → List ℕ → ItemForm
complete_item m s g subgoals = item Complete s (name_of_goal m g ∷ []) (all_as Goal true subgoals ++ (Goal g, false) ∷ []) (Some NoTrace)

abbrev pub consistent_item : ModelForm → (statement parent : ℕ) → List ℕ → ItemForm
consistent_item m s g subgoals = item Consistent s (name_of_goal m g ∷ []) (all_as Goal true subgoals) (Some SomeTrace)

abbrev pub minimal_item : ModelForm → (statement parent : ℕ) → List ℕ → ℕ → List ℕ → ItemForm
minimal_item m s g front x back = item Minimal s (name_of_goal m g ∷ name_of_goal m x ∷ []) (all_as Goal true (front ++ back) ++ (Goal g, false) ∷ []) (Some SomeTrace)

abbrev pub obstructs_item : ModelForm → (statement goal obstacle : ℕ) → ItemForm
obstructs_item m s g o = item Obstructs s (name_of_goal m g ∷ name_of_obstacle m o ∷ []) ((Obstacle o, true) ∷ (Goal g, true) ∷ []) (Some NoTrace)

abbrev pub possible_item : ModelForm → (statement goal obstacle : ℕ) → ItemForm
possible_item m s g o = item Possible s (name_of_goal m g ∷ name_of_obstacle m o ∷ []) ((Obstacle o, true) ∷ []) (Some SomeTrace)

abbrev pub covered_item : ModelForm → (statement goal : ℕ) → List ℕ → ItemForm
covered_item m s g obstacles = item ObstaclesCovered s (name_of_goal m g ∷ []) (all_as Obstacle false obstacles ++ (Goal g, false) ∷ []) (Some NoTrace)

-- the boundary of a conflict is that at its place of the links
abbrev pub diverges_item : (place statement : ℕ) → List ℕ → List ℕ → ItemForm
diverges_item l s x goals = item Diverges s (x ∷ []) ((Boundary l, true) ∷ all_as Goal true goals) (Some NoTrace)

abbrev pub without_item : ModelForm → (place statement : ℕ) → List ℕ → List ℕ → ℕ → List ℕ → ItemForm
without_item m l s x front g back = item Without s (x ∷ name_of_goal m g ∷ []) ((Boundary l, true) ∷ all_as Goal true (front ++ back)) (Some SomeTrace)

abbrev pub feasible_item : (place statement : ℕ) → List ℕ → ItemForm
feasible_item l s x = item Feasible s (x ∷ []) ((Boundary l, true) ∷ []) (Some SomeTrace)

abbrev pub operation_complete_item : ModelForm → (statement goal : ℕ) → List ℕ → ItemForm
operation_complete_item m s g requirements = item OperationComplete s (name_of_goal m g ∷ []) (all_as Requirement true requirements ++ (Goal g, false) ∷ []) (Some NoTrace)

abbrev pub operation_consistent_item : ModelForm → (statement goal : ℕ) → List ℕ → ItemForm
operation_consistent_item m s g requirements = item OperationConsistent s (name_of_goal m g ∷ []) (all_as Requirement true requirements) (Some SomeTrace)

abbrev pub exact_item : ModelForm → (statement goal requirement : ℕ) → ItemForm
exact_item m s g r = item Exact s (name_of_goal m g ∷ name_of_requirement m r ∷ []) ((Goal g, true) ∷ (Requirement r, false) ∷ []) (Some NoTrace)

abbrev pub assigned_item : ModelForm → (statement goal agent : ℕ) → ItemForm
assigned_item m s g a = item Assigned s (name_of_goal m g ∷ name_of_agent m a ∷ []) [] None

-- ---- the items of each link

abbrev pub refinement_items : ModelForm → (statement parent : ℕ) → List ℕ → List ItemForm
refinement_items m s g subgoals = complete_item m s g subgoals ∷ consistent_item m s g subgoals ∷ each_of (minimal_item m s g) [] subgoals

abbrev pub hindrance_items : ModelForm → (statement goal : ℕ) → List ℕ → List ItemForm
hindrance_items m s g [] = []
hindrance_items m s g (o ∷ os) = obstructs_item m s g o ∷ possible_item m s g o ∷ hindrance_items m s g os

abbrev pub obstruction_items : ModelForm → (statement goal : ℕ) → List ℕ → List ItemForm
obstruction_items m s g obstacles = hindrance_items m s g obstacles ++ covered_item m s g obstacles ∷ []

abbrev pub conflict_items : ModelForm → (place statement : ℕ) → List ℕ → List ℕ → List ItemForm
conflict_items m l s x goals = diverges_item l s x goals ∷ each_of (without_item m l s x) [] goals ++ feasible_item l s x ∷ []

abbrev pub exact_items : ModelForm → (statement goal : ℕ) → Bool → List ℕ → List ItemForm
exact_items m s g false requirements = []
exact_items m s g true requirements = map (exact_item m s g) requirements

abbrev pub operation_items : ModelForm → (statement goal : ℕ) → List ℕ → Bool → List ItemForm
operation_items m s g requirements exact =
    operation_complete_item m s g requirements ∷ operation_consistent_item m s g requirements ∷ exact_items m s g exact requirements

-- the items of the link at a place
abbrev pub link_items_of : ModelForm → ℕ → LinkForm → List ItemForm
link_items_of m l (refine s g subgoals pattern) = refinement_items m s g subgoals
link_items_of m l (obstruct s g obstacles) = obstruction_items m s g obstacles
link_items_of m l (conflict s x goals boundary) = conflict_items m l s x goals
link_items_of m l (operationalise s g requirements exact) = operation_items m s g requirements exact
link_items_of m l (assign s g a) = assigned_item m s g a ∷ []

-- the items of links, of which the first has this place
abbrev pub items_from : ModelForm → ℕ → List LinkForm → List ItemForm
items_from m l [] = []
items_from m l (link ∷ links) = link_items_of m l link ++ items_from m (l + 1) links

abbrev pub items_of : ModelForm → List ItemForm
items_of m = domain_item ∷ items_from m 0 m.links

-- ---- the formulas

abbrev pub no_goal : GoalForm
no_goal = record { statement = 0; name = []; formula = truth; is_expected = false }

abbrev pub no_obstacle : ObstacleForm
no_obstacle = record { statement = 0; name = []; formula = truth }

abbrev pub no_operation : OperationForm
no_operation = record { name = []; agent = 0; dompre = truth; dompost = truth }

abbrev pub no_requirement : RequirementForm
no_requirement = record { name = []; operation = 0; role = Pre; formula = truth }

abbrev pub no_link : LinkForm
no_link = assign 0 0 0

-- the formula of a requirement, over its operation
abbrev pub compiled : OperationForm → RequirementForm → Ltl
compiled o r = requirement_tree r.role o.dompre o.dompost r.formula

abbrev pub requirement_formula : ModelForm → RequirementForm → Ltl
requirement_formula m r = compiled (slice_index_or m.operations r.operation no_operation) r

abbrev pub boundary_of : LinkForm → Ltl
boundary_of (conflict s x goals boundary) = boundary
boundary_of link = truth

abbrev pub part_formula : ModelForm → Part → Ltl
part_formula m (Goal g) = (slice_index_or m.goals g no_goal).formula
part_formula m (Obstacle o) = (slice_index_or m.obstacles o no_obstacle).formula
part_formula m (Requirement r) = requirement_formula m (slice_index_or m.requirements r no_requirement)
part_formula m (Boundary l) = boundary_of (slice_index_or m.links l no_link)

abbrev pub signed : Bool → Ltl → Ltl
signed true f = f
signed false f = neg f

-- all domain properties, and then the parts
abbrev pub list_of : ModelForm → List (Part × Bool) → List Ltl
list_of m parts = map (λ p. p.formula) m.domains ++ map (λ p. signed p.1 (part_formula m p.0)) parts

-- an item asks for no trace, or its list is small enough to be answered
abbrev pub is_small_item : ModelForm → ItemForm → Bool
is_small_item m i = is_none i.wanted || is_small_list (sizes_of m) (list_of m i.parts)
