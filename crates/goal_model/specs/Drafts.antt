-- A model under way: what is declared so far, and the model of it. Its states have indexes of those variables alone that were declared before
-- them.
use Rattle.std.specs.Prelude.{ℕ, ◌-◌, zero, suc, Bool, true, false, List, [], ◌∷◌, ◌++◌, length, map, replicate, ◌==◌}
use Rattle.entity_types.specs.WrittenTrees.{WrittenTree}
use Rattle.goal_model.specs.declared.namespace.Kind.{Kind}
use Rattle.goal_model.specs.declared.namespace.Declared.{Declared}
use Rattle.goal_model.specs.declared.draft.Draft.{Draft}
use Rattle.goal_model.specs.Scopes.{ScopeForm}
use Rattle.goal_model.specs.Models.{GoalForm, TraceForm, WrittenForm, ModelForm, contents_of}

-- the version of the text, 0 before its statement
pub record DraftForm : Type 0 where
  pub version : ℕ
  pub others : List Declared
  pub model : ModelForm

abbrev pub draft_of : Draft → DraftForm
draft_of d = record { version = d.version; others = d.names.entries.items; model = contents_of d.contents }

abbrev pub no_model : ModelForm
no_model = record {
  names = [];
  ranges = [];
  types = [];
  members = [];
  attributes = [];
  domains = [];
  goals = [];
  obstacles = [];
  agents = [];
  operations = [];
  requirements = [];
  links = [];
  traces = [];
  written = [];
}

abbrev pub no_draft : DraftForm
no_draft = record { version = 0; others = []; model = no_model }

-- what a formula or a state may name
abbrev pub scope_of : DraftForm → ScopeForm
scope_of d = record { names = d.model.names; ranges = d.model.ranges; members = d.model.members; attributes = d.model.attributes; others = d.others; bound = [] }

-- one declared name more, with what it names
abbrev pub declares : DraftForm → List ℕ → Kind → ℕ → ModelForm → DraftForm
declares d x kind place m = record d { others = d.others ++ (record { name = x; kind = kind; place = place }) ∷ []; model = m }

-- the formulas of a statement as they are written are kept where the text is of version 2
abbrev pub kept_if : Bool → ℕ → List WrittenTree → List WrittenForm
kept_if true n fs = (record { statement = n; formulas = fs }) ∷ []
kept_if false n fs = []

abbrev pub keeps : DraftForm → ℕ → List WrittenTree → DraftForm
keeps d n fs = record d { model = record d.model { written = d.model.written ++ kept_if (d.version == 2) n fs } }

-- the goals with one that is expected of an agent
abbrev pub expected_at : ℕ → List GoalForm → List GoalForm
expected_at k [] = []
expected_at zero (g ∷ gs) = record g { is_expected = true } ∷ gs
expected_at (suc k) (g ∷ gs) = g ∷ expected_at k gs

-- a variable that is declared behind a state has index 0 there
abbrev pub padded : ℕ → List ℕ → List ℕ
padded n row = row ++ replicate (n - length row) 0

abbrev pub padded_trace : ℕ → TraceForm → TraceForm
padded_trace n t = record t { prefix = map (padded n) t.prefix; cycle = map (padded n) t.cycle }

abbrev pub finished : ModelForm → ModelForm
finished m = record m { traces = map (padded_trace (length m.names)) m.traces }
