use Rattle.std.proofs.Common.{List, ℕ, subst, Contains}
use Rattle.state_space.specs.Spaces.{names}
use Rattle.entity_types.proofs.JoinedNames.{next_free}
use Rattle.entity_types.proofs.joined.add_variables.Goals as goal

pub add_variable-requires-clause-free : goal.add_variable-requires-clause-free
add_variable-requires-clause-free c has =
    let free = next_free (names c.args.space.now) c.args.joined.now c.names.name-index c.name-item.result c.requires.free c.requires.distinct c.names-test.true c.name-item.is in
    free (subst (λ (ns : List (List ℕ)). Contains ns c.name-item.result) c.names.invariant.names (subst (Contains (names c.names.space)) c.in_ok-name.ensures.same has))
