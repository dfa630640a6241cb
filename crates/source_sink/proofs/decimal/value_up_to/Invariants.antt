use Rattle.std.proofs.Common.{◌≡◌, ◌≤◌, drop}
use Rattle.std.specs.Prelude.{min}
use Rattle.source_sink.specs.Decimals.{value_behind}
use Rattle.source_sink.proofs.decimal.value_up_to.Given as goal

abbrev pub invariant-digits : goal.invariant-digits
invariant-digits l = record {
  value : min (value_behind l.value (drop l.digit-index l.digits)) l.most ≡ min (value_behind 0 l.digits) l.most;
  bounded : l.value ≤ l.most;
}
