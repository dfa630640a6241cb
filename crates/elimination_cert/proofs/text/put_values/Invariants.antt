use Rattle.std.proofs.Common.{◌≡◌, ◌++◌, length, map}
use Rattle.std.specs.Prelude.{◌==◌}
use Rattle.std.specs.Fmt.{decimal}
use Rattle.state_space.specs.ValueTexts.{members}
use Rattle.elimination_cert.specs.CertTexts.{joined}
use Rattle.elimination_cert.proofs.text.put_values.Given as goal

abbrev pub invariant-values : goal.invariant-values
invariant-values l = record {
  texts : l.out.items ≡ l.fn.out.items ++ joined 43 (map decimal (members l.set.0 l.value));
  none : l.first ≡ (length (members l.set.0 l.value) == 0);
}
