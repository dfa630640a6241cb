use Rattle.std.proofs.Common.{◌≡◌, map, drop}
use Rattle.state_space.specs.Spaces.{names}
use Rattle.goal_model.specs.Models.{agent_of}
use Rattle.goal_model.specs.Resolution.{uncontrolled}
use Rattle.goal_model.proofs.agents.uncontrolled.Given as goal

abbrev pub invariant-variables : goal.invariant-variables
invariant-variables l =
    uncontrolled (map agent_of l.agents) (names l.space) (map (λ x. x.0) (drop l.variable-index l.variables)) ≡ uncontrolled (map agent_of l.agents) (names l.space) (map (λ x. x.0) l.variables)
