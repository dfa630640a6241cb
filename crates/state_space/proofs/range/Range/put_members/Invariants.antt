use Rattle.std.proofs.Common.{◌≡◌, ◌++◌, length, map}
use Rattle.std.specs.Prelude.{◌==◌}
use Rattle.state_space.specs.Ranges.{form_of}
use Rattle.state_space.specs.ValueTexts.{value_text, members, listed}
use Rattle.state_space.proofs.range.Range.put_members.Given as goal

abbrev pub invariant-values : goal.invariant-values
invariant-values l = record {
  texts : l.out.items ≡ l.fn.out.items ++ listed (map (value_text (form_of l.self)) (members l.set.0 l.index));
  none : l.first ≡ (length (members l.set.0 l.index) == 0);
}
