-- What is asked of a model, and the entries that answer it.
use Rattle.std.specs.Prelude.{◌≡◌, ℕ, Bool, List, [], ◌∷◌, ◌++◌, map, drop, length, Option, Some, None}
use Rattle.std.specs.List.{AllZip, flat_map}
use Rattle.temporal_logic.specs.Trees.{tree_of}
use Rattle.bound_unfolding.specs.CoreForm.{CoreForm}
use Rattle.tableau_rules.specs.declared.answer.Answer.{Answer}
use Rattle.goal_model.specs.declared.demand.Demand.{Demand}
use Rattle.goal_model.specs.declared.item.Label as code_label
use Rattle.goal_model.specs.declared.item.Part.{Part}
use Rattle.goal_model.specs.declared.item.Wanted.{Wanted}
use Rattle.goal_model.specs.declared.pattern.PatternKind.{PatternKind}
use Rattle.goal_model.specs.Models.{LinkForm, assign, ModelForm}
use Rattle.goal_model.specs.Items.{LabelForm, label_of, list_of}
use Rattle.goal_model.specs.Demands.{IsAnswerable}
use Rattle.agent_capabilities.specs.declared.cover.Cover.{Cover}
use Rattle.agent_capabilities.specs.Coverage.{cover_of, coverage_at}
use Rattle.verdict_report.specs.declared.report.Entry.{Entry}
use Rattle.verdict_report.specs.Deciding.{formulas_of, IsDecidedBy, query_cores}
use Rattle.verdict_report.specs.Verdicts.{verdict_of, evidence_of, cover_verdict, cover_evidence}
use Rattle.verdict_report.specs.Reports.{Question, of_traces, of_agent, named_for}
use Rattle.kaos_program.specs.declared.asking.Asked.{Asked}
use Rattle.kaos_program.specs.declared.asking.Asked.TheVariants.{Demand as DemandAsked, Instance, Assignment}

-- a demand has what is asked of parts: their list, which can be answered
abbrev pub IsDemandOf : ModelForm → LabelForm → List (Part × Bool) → Wanted → Demand → Type 0
IsDemandOf m label parts wanted d = (label_of d.label ≡ label) × (map tree_of d.list.items ≡ list_of m parts) × (d.wanted ≡ wanted) × IsAnswerable m (list_of m parts)

-- a demand asks a question of traces, and has the pattern that decides it, or none; an assignment asks one of an agent, and has its answer
abbrev pub IsAsked : ModelForm → Question → Asked → Type 0
IsAsked m (of_traces label parts wanted named) (DemandAsked d) = IsDemandOf m label parts wanted d × IsDecidedBy (formulas_of m parts) named None
IsAsked m (of_traces label parts wanted named) (Instance d kind) = IsDemandOf m label parts wanted d × IsDecidedBy (formulas_of m parts) named (Some kind)
IsAsked m (of_traces label parts wanted named) (Assignment l cover) = ⊥
IsAsked m (of_agent label goal agent) (DemandAsked d) = ⊥
IsAsked m (of_agent label goal agent) (Instance d kind) = ⊥
IsAsked m (of_agent label goal agent) (Assignment l cover) = (label_of l ≡ label) × (cover_of cover ≡ coverage_at m goal agent)

-- these questions are asked behind what was asked before
abbrev pub AsksMore : ModelForm → List Question → (before after : List Asked) → Type 0
AsksMore m questions before after = (more : List Asked) × (after ≡ before ++ more) × AllZip (IsAsked m) questions more

-- a demand is asked with the pattern that decides it, or none: its formulas are those behind the domain properties
abbrev pub Poses : ModelForm → (named : Option PatternKind) → Demand → Asked → Type 0
Poses m named d (DemandAsked e) = (e ≡ d) × IsDecidedBy (drop (length m.domains) (map tree_of d.list.items)) named None
Poses m named d (Instance e kind) = (e ≡ d) × IsDecidedBy (drop (length m.domains) (map tree_of d.list.items)) named (Some kind)
Poses m named d (Assignment l cover) = ⊥

-- so are the demands of a link, behind what was asked before
abbrev pub PosesMore : ModelForm → LinkForm → List Demand → (before after : List Asked) → Type 0
PosesMore m link demands before after = (more : List Asked) × (after ≡ before ++ more) × AllZip (λ d one. Poses m (named_for link d.label.kind) d one) demands more

-- a link is the assignment of this goal to this agent
abbrev pub IsAssignmentOf : (goal agent : ℕ) → LinkForm → Type 0
IsAssignmentOf goal agent link = (statement : ℕ) × (link ≡ assign statement goal agent)

-- ---- demands among what is asked

-- the demand, if its own list decides it
abbrev pub demand_in : Asked → List Demand
demand_in (DemandAsked d) = d ∷ []
demand_in (Instance d kind) = []
demand_in (Assignment l cover) = []

abbrev pub demands_in : List Asked → List Demand
demands_in asked = flat_map demand_in asked

-- the pattern, if one decides
abbrev pub pattern_in : Asked → List PatternKind
pattern_in (DemandAsked d) = []
pattern_in (Instance d kind) = kind ∷ []
pattern_in (Assignment l cover) = []

abbrev pub patterns_in : List Asked → List PatternKind
patterns_in asked = flat_map pattern_in asked

-- the query of a demand's list
abbrev pub query_asked : ModelForm → Demand → List CoreForm
query_asked m d = query_cores m (map tree_of d.list.items)

-- ---- entries

-- the entry of a demand of which this is found, by a pattern or by none
abbrev pub demand_entry : Demand → (by : Option PatternKind) → Answer → Entry
demand_entry d by a = record { label = d.label; wanted = Some d.wanted; verdict = verdict_of d.wanted a; evidence = evidence_of by a }

-- the entry of an assignment to an agent that covers the goal so
abbrev pub cover_entry : code_label.Label → Cover → Entry
cover_entry l cover = record { label = l; wanted = None; verdict = cover_verdict cover; evidence = cover_evidence cover }

-- the entries of what is asked, by the answers to the lists of demands among it and by those to the patterns, each in order
abbrev pub entries_of : List Asked → (answers by_patterns : List Answer) → List Entry
entries_of [] answers by_patterns = []
entries_of (DemandAsked d ∷ asked) [] by_patterns = []
entries_of (DemandAsked d ∷ asked) (a ∷ answers) by_patterns = demand_entry d None a ∷ entries_of asked answers by_patterns
entries_of (Instance d kind ∷ asked) answers [] = []
entries_of (Instance d kind ∷ asked) answers (a ∷ by_patterns) = demand_entry d (Some kind) a ∷ entries_of asked answers by_patterns
entries_of (Assignment l cover ∷ asked) answers by_patterns = cover_entry l cover ∷ entries_of asked answers by_patterns
