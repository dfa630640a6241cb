use Rattle.std.proofs.Common.{◌≡◌, take}
use Rattle.goal_model.proofs.namespace.Scope.binding.Given as goal

abbrev pub invariant-bound : goal.invariant-bound
invariant-bound l = (l.bound-items ≡ l.self.bound.now) × (l.binding.items ≡ take l.bound-index l.self.bound.now)
