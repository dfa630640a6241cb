use Rattle.std.proofs.Common.{◌≡◌, map, drop}
use Rattle.std.specs.Prelude.{◌==◌, find}
use Rattle.goal_model.specs.Models.{written_of}
use Rattle.goal_model.proofs.model.written_at.Given as goal

abbrev pub invariant-statements : goal.invariant-statements
invariant-statements l = find (λ w. w.statement == l.statement) (map written_of (drop l.written-index l.all)) ≡ find (λ w. w.statement == l.statement) (map written_of l.all)
