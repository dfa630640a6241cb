use Rattle.std.proofs.Common.{◌≡◌, ℕ, ◌+◌, ◌<◌, true, List, [], ◌∷◌, length, map, get_or, drop, Some, refl, sym, ap, subst, ◌∙◌, slice_get}
use Rattle.std.proofs.lemmas.List.{drop_more}
use Rattle.std.proofs.lemmas.Option.{get_or_from_slice_get}
use Rattle.state_space.specs.Spaces.{names as names_of}
use Rattle.state_space.specs.declared.values.VarId.{VarId}
use Rattle.goal_model.specs.declared.refusal.RefusalKind.TheVariants.{TwoControllers}
use Rattle.goal_model.specs.Refusals.{Resolved, refused, Gives}
use Rattle.goal_model.specs.Models.{AgentForm, agent_of}
use Rattle.goal_model.specs.Resolution.{is_controlled, uncontrolled}
use Rattle.goal_model.proofs.Walking.{refused_as}
use Rattle.goal_model.proofs.agents.uncontrolled.Goals as goal

found : (agents : List AgentForm) (names : List (List ℕ)) (vs : List VarId) (i : ℕ) (v : VarId) (x : List ℕ) → i < length vs → is_controlled agents (get_or vs i v).0 ≡ true → slice_get names (get_or vs i v).0 ≡ Some x
    → uncontrolled agents names (map (λ x. x.0) (drop i vs)) ≡ refused TwoControllers x
found agents names vs i v x l held named =
    let here : drop i vs ≡ get_or vs i v ∷ drop (i + 1) vs = drop_more vs i v l in
    let first : uncontrolled agents names (map (λ x. x.0) (drop i vs)) ≡ refused TwoControllers (get_or names (get_or vs i v).0 []) = rw (here, held) refl in
    first ∙ ap (refused TwoControllers) (get_or_from_slice_get names (get_or vs i v).0 x [] named)

pub returns-then-is_controlled : goal.returns-then-is_controlled
returns-then-is_controlled c =
    let e =
    sym c.variables.invariant
    ∙ found (map agent_of c.args.agents.now) (names_of c.args.space.now) c.args.variables.now c.variables.variable-index _ c.name_of.result.now c.variables-test.true (sym c.if-is_controlled.ensures) c.name_of.ensures.name in
    subst (λ (o : Resolved (Unit {0})). Gives (λ _. tt) c.refused.result o) (sym e) (refused_as (λ _. tt) c.refused.result TwoControllers c.name_of.result.now c.refused.ensures)
