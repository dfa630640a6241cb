use Rattle.std.proofs.Common.{◌≡◌, map, drop}
use Rattle.state_space.specs.Ranges.{form_of}
use Rattle.model_text.specs.RawView.{written}
use Rattle.goal_model.specs.ValueIndexes.{set_with}
use Rattle.goal_model.proofs.value_index.set_of.Given as goal

abbrev pub invariant-values : goal.invariant-values
invariant-values l = set_with l.name (form_of l.range) l.set.0 (map written (drop l.value-index l.values)) ≡ set_with l.name (form_of l.range) 0 (map written l.values)
