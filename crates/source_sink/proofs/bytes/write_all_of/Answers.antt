use Rattle.std.proofs.Common.{ℕ, ◌+◌, List, take, drop, ◌++◌, Some, None, ◌∙◌, ap, append_assoc, arith}
use Rattle.std.specs.declared.option.Option.{Option}
use Rattle.std.specs.Io.KnownBytes.{Appends}
use Rattle.std.proofs.Math.Seq.{take-add}
use Rattle.std.proofs.lemmas.List.{take_rest}
use Rattle.source_sink.proofs.bytes.write_all_of.Goals as goal

-- a front is appended, and then a front of the rest
then_more : (a b c : Option (List ℕ)) (bytes : List ℕ) (n m : ℕ) → Appends a b (take n bytes) → Appends b c (take m (drop n bytes)) → Appends a c (take (n + m) bytes)
then_more None b c bytes n m front more = tt
then_more (Some x) None c bytes n m front more = absurd front
then_more (Some x) (Some y) None bytes n m front more = absurd more
then_more (Some x) (Some y) (Some z) bytes n m front more =
    more ∙ ap (λ (w : List ℕ). w ++ take m (drop n bytes)) front ∙ append_assoc x (take n bytes) (take m (drop n bytes)) ∙ ap (λ (w : List ℕ). x ++ w) (rw take-add)

pub writes-preserved : goal.writes-preserved
writes-preserved g c = record {
  within = omega (arith, c.in_ok-written.ensures.bound);
  held = then_more _ _ _ c.args.bytes.now c.writes.written c.in_ok-written.field-0 c.writes.invariant.held (rw (take_rest c.args.bytes.now c.writes.written) at c.in_ok-written.ensures.bytes);
  later = omega (arith, c.in_ok-written.ensures.cause.later);
}
