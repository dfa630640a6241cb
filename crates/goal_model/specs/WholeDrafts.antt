-- What every model under way keeps: it is well-formed, but that a state has indexes of those variables alone that were declared before it.
use Rattle.std.specs.Prelude.{◌≢◌, ℕ, ◌<◌, ◌≤◌, List, [], ◌∷◌, ◌++◌, length, map, slice_index, All, AllPairs}
use Rattle.model_text.specs.Limits.{formulas_of, depth_of}
use Rattle.model_text.specs.Statements.{StatementForm}
use Rattle.goal_model.specs.declared.namespace.Kind.{Kind}
use Rattle.goal_model.specs.Models.{TraceForm, ModelForm, sizes_of, PartsFit}
use Rattle.goal_model.specs.Scopes.{number_of}
use Rattle.goal_model.specs.Drafts.{DraftForm}

-- how many of each kind a model has, in the order of the kinds
abbrev pub counts_of : ModelForm → List ℕ
counts_of m =
    length m.domains ∷ length m.goals ∷ length m.obstacles ∷ length m.agents ∷ length m.operations ∷ length m.requirements ∷ length m.links ∷ length m.traces
    ∷ length m.members ∷ length m.attributes ∷ []

abbrev pub count_of : ModelForm → Kind → ℕ
count_of m kind = slice_index (counts_of m) (number_of kind)

-- indexes of the first variables, each below its variable's size
abbrev pub FitFirst : List ℕ → List ℕ → Type 0
FitFirst sizes row = (length row ≤ length sizes) × ((x : ℕ) → x < length row → slice_index row x < slice_index sizes x)

pub record TraceFitsFirst (sizes : List ℕ) (t : TraceForm) : Type 0 where
  pub turns : 0 < length t.cycle
  pub prefix : All (FitFirst sizes) t.prefix
  pub cycle : All (FitFirst sizes) t.cycle

pub record IsDraft (d : DraftForm) : Type 0 where
  pub places : All (λ e. e.place < count_of d.model e.kind) d.others
  pub parts : PartsFit d.model
  pub traces : All (TraceFitsFirst (sizes_of d.model)) d.model.traces

-- the formulas of a statement have at most 100 levels
abbrev pub IsShallow : StatementForm → Type 0
IsShallow s = All (λ f. depth_of f ≤ 100) (formulas_of s)

-- all declared names
abbrev pub declared_names : DraftForm → List (List ℕ)
declared_names d = d.model.names ++ map (λ e. e.name) d.others

-- no name is declared twice
abbrev pub HasDistinctNames : DraftForm → Type 0
HasDistinctNames d = AllPairs (λ a b. a ≢ b) (declared_names d)
