use Rattle.std.proofs.Common.{◌≡◌, Some, true, false, is_some, ℕ, Option, ◌∙◌, sym, ap}
use Rattle.std.specs.Prelude.{option_map}
use Rattle.temporal_logic.specs.Shapes.{variables_of}
use Rattle.temporal_logic.specs.Trees.{tree_of}
use Rattle.state_space.specs.declared.values.VarId.{VarId}
use Rattle.goal_model.specs.Models.{agent_of}
use Rattle.agent_capabilities.specs.Coverage.{unseen_first, some_controlled, first_without, first_with, is_seen}
use Rattle.agent_capabilities.proofs.Searching.{first_unseen, some_found, none_found, number_there}
use Rattle.agent_capabilities.proofs.cover.other_cover.Goals as goal

pub returns-in-Some : goal.returns-in-Some
returns-in-Some c =
    let agent = agent_of c.args.agent.now in
    let variables = variables_of (tree_of c.args.goal.now) in
    let unseen : Some c.in-Some.x.0 ≡ first_without (is_seen agent) variables = ap (option_map (λ (x : VarId). x.0)) (sym c.in-Some.is) ∙ c.first.ensures ∙ first_unseen agent c.join-seen.result.0 variables c.join-seen.ensures.value in
    ap (λ (o : Option ℕ). unseen_first o (some_controlled agent variables)) unseen

pub returns-then-is_some : goal.returns-then-is_some
returns-then-is_some c =
    let agent = agent_of c.args.agent.now in
    let variables = variables_of (tree_of c.args.goal.now) in
    let seen = c.in_default.ensures ∙ first_unseen agent c.join-seen.result.0 variables c.join-seen.ensures.value in
    let some : is_some (first_with agent.controls true variables) ≡ true = ap is_some (sym c.first-2.ensures) ∙ number_there c.first-2.result ∙ sym c.if-is_some.ensures in
    sym (some_found agent variables some) ∙ ap (λ (o : Option ℕ). unseen_first o (some_controlled agent variables)) seen

pub returns-in-Some-first : goal.returns-in-Some-first
returns-in-Some-first c =
    let agent = agent_of c.args.agent.now in
    let variables = variables_of (tree_of c.args.goal.now) in
    let seen = c.in_default.ensures ∙ first_unseen agent c.join-seen.result.0 variables c.join-seen.ensures.value in
    let none : is_some (first_with agent.controls true variables) ≡ false = ap is_some (sym c.first-2.ensures) ∙ number_there c.first-2.result ∙ sym c.if-is_some.ensures in
    let first : first_with agent.controls false variables ≡ Some c.in-Some-first.x.0 = sym c.first-3.ensures ∙ ap (option_map (λ (x : VarId). x.0)) c.in-Some-first.is in
    sym (none_found agent variables c.in-Some-first.x.0 none first) ∙ ap (λ (o : Option ℕ). unseen_first o (some_controlled agent variables)) seen
