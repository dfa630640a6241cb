use Rattle.std.proofs.Common.{ℕ, ◌≡◌, ◌<◌}
use Rattle.std.specs.Prelude.{slice_index_or}
use Rattle.tableau_rules.specs.KidsView.{set_by}
use Rattle.tableau_rules.proofs.kids.is_met_by.Given as goal

abbrev pub invariant-places : goal.invariant-places
invariant-places l =
    (k : ℕ) → k < l.place → (slice_index_or l.new k (record { 0 = 0 })).0 ≡ set_by l.effect k (slice_index_or l.old k (record { 0 = 0 })).0
