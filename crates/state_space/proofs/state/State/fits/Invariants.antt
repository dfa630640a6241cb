use Rattle.std.proofs.Common.{ℕ, ◌<◌, slice_index}
use Rattle.state_space.specs.Spaces.{sizes}
use Rattle.state_space.proofs.state.State.fits.Given as goal

abbrev pub invariant-variables : goal.invariant-variables
invariant-variables l = (x : ℕ) → x < l.id → slice_index l.self.values.items x < slice_index (sizes l.space) x
