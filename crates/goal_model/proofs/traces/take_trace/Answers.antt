use Rattle.std.proofs.Common.{◌≡◌, List, ℕ, [], map, Ok, sym, subst, ap}
use Rattle.std.specs.Prelude.{All}
use Rattle.std.proofs.lemmas.Bool.{false≢true}
use Rattle.std.proofs.lemmas.List.Elements.{All-nil}
use Rattle.state_space.specs.Spaces.{sizes}
use Rattle.state_space.specs.Fitting.{ValuesFit}
use Rattle.state_space.proofs.SpaceFacts.{sizes_of_ranges}
use Rattle.temporal_logic.specs.Rows.{rows}
use Rattle.model_text.specs.Statements.{settings_of}
use Rattle.goal_model.specs.Scopes.{ScopeForm, fresh}
use Rattle.goal_model.specs.States.{states_in}
use Rattle.goal_model.specs.Drafts.{draft_of, scope_of}
use Rattle.goal_model.specs.Models.{sizes_of}
use Rattle.goal_model.proofs.Fitting.{states_fit}
use Rattle.goal_model.proofs.Scoped.{draft_scope}
use Rattle.goal_model.proofs.TakenTraces.{no_loop, trace_empty, refused_here}
use Rattle.goal_model.proofs.traces.take_trace.Goals as goal

pub returns-in_default : goal.returns-in_default
returns-in_default c =
    let d = draft_of c.args.draft.now in
    let ps = map settings_of c.args.prefix.now in
    let cs = map settings_of c.args.cycle.now in
    let new : fresh (scope_of d) c.args.name.now ≡ Ok tt = subst (λ (s : ScopeForm). fresh s c.args.name.now ≡ Ok tt) c.scope-scope.ensures.scope c.in_ok-fresh.ensures in
    let before : states_in (scope_of d) ps ≡ Ok (rows c.in_ok-prefix.prefix.items) = subst (λ (s : ScopeForm). states_in s ps ≡ Ok (rows c.in_ok-prefix.prefix.items)) c.scope-scope.ensures.scope c.in_ok-prefix.ensures in
    let after : states_in (scope_of d) cs ≡ Ok (rows c.in_ok-cycle.cycle.items) = subst (λ (s : ScopeForm). states_in s cs ≡ Ok (rows c.in_ok-cycle.cycle.items)) c.scope-scope.ensures.scope c.in_ok-cycle.ensures in
    let good = draft_scope d c.requires in
    let none = All-nil (ValuesFit (sizes_of d.model)) in
    let as_sizes = sym (sizes_of_ranges c.args.draft.now.contents.space) in
    let before_fit : All (ValuesFit (sizes c.args.draft.now.contents.space)) (rows c.in_ok-prefix.prefix.items) = subst (λ (n : List ℕ). All (ValuesFit n) (rows c.in_ok-prefix.prefix.items)) as_sizes (states_fit (scope_of d) good [] ps (rows c.in_ok-prefix.prefix.items) none before) in
    let after_fit : All (ValuesFit (sizes c.args.draft.now.contents.space)) (rows c.in_ok-cycle.cycle.items) = subst (λ (n : List ℕ). All (ValuesFit n) (rows c.in_ok-cycle.cycle.items)) as_sizes (states_fit (scope_of d) good [] cs (rows c.in_ok-cycle.cycle.items) none after) in
    let empty = no_loop (sizes c.args.draft.now.contents.space) c.in_ok-prefix.prefix.items c.in_ok-cycle.cycle.items c.new.result c.new.ensures.empty c.new.ensures.out (λ ok. false≢true (rw c.in_default.is at ok)) before_fit after_fit in
    refused_here _ c.refused.result _ c.args.name.now (trace_empty d c.args.name.now ps cs (rows c.in_ok-prefix.prefix.items) (rows c.in_ok-cycle.cycle.items) new before after (ap rows empty)) c.refused.ensures
