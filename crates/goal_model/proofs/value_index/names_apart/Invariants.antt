use Rattle.std.proofs.Common.{◌≡◌, [], map, take, drop}
use Rattle.goal_model.specs.ValueIndexes.{apart_from}
use Rattle.goal_model.proofs.value_index.names_apart.Given as goal

abbrev pub invariant-names : goal.invariant-names
invariant-names l = (map (λ k. k.now) l.seen.keys ≡ take l.name-index l.names) × (apart_from (take l.name-index l.names) (drop l.name-index l.names) ≡ apart_from [] l.names)
