-- Rows that fit are states that fit.
use Rattle.std.proofs.Common.{List, ℕ, length, subst}
use Rattle.std.specs.Prelude.{All}
use Rattle.std.proofs.lemmas.List.{length-map, get_or-map}
use Rattle.state_space.specs.declared.state.State.{State}
use Rattle.state_space.specs.Fitting.{ValuesFit}
use Rattle.temporal_logic.specs.Rows.{rows, AllFit}

pub states_of_rows : (sizes : List ℕ) (states : List State) → All (ValuesFit sizes) (rows states) → AllFit sizes states
states_of_rows sizes states fit k d l =
    subst (ValuesFit sizes) (get_or-map (λ (s : State). s.values.items) states k d d.values.items l) (fit k d.values.items (rw (length-map states (λ (s : State). s.values.items)) l))
