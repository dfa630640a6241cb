use Rattle.std.proofs.Common.{◌∙◌, ◌≡◌, ◌≤◌, ◌+◌, ℕ, [], ◌∷◌, length, sym, subst, ap, arith, replicate}
use Rattle.std.specs.Prelude.{All}
use Rattle.std.proofs.lemmas.List.{length-append}
use Rattle.state_space.specs.Ranges.{truth_values}
use Rattle.state_space.specs.Spaces.{names}
use Rattle.pattern_library.proofs.Placeholders.{longest_is_new, shorter_than_next, flags_next, sized}
use Rattle.pattern_library.proofs.query.placeholder_space.Goals as goal

pub push_flag-requires : goal.push_flag-requires
push_flag-requires c = record {
  new = longest_is_new (names c.placeholders.space) c.in_ok-name.name c.placeholders.number c.placeholders.invariant.short c.in_ok-name.ensures;
  few = omega (arith, c.placeholders.invariant.count, c.placeholders-test.true, c.requires);
}

pub placeholders-preserved : goal.placeholders-preserved
placeholders-preserved c =
    let before = names c.placeholders.space in
    let pushed = c.in_ok-push_flag.ensures.names in
    record {
      short = subst (All (λ name. length name ≤ c.placeholders.number + 1)) (sym pushed) (shorter_than_next before c.in_ok-name.name c.placeholders.number c.placeholders.invariant.short c.in_ok-name.ensures);
      count = omega (arith, ap length pushed, length-append before (c.in_ok-name.name ∷ []), c.placeholders.invariant.count);
      flags = flags_next c.placeholders.number _ _ c.placeholders.invariant.flags c.in_ok-push_flag.ensures.ranges;
    }

pub returns : goal.returns
returns c =
    let whole : c.placeholders.number ≡ c.args.count = omega (arith, c.placeholders-test.false, c.placeholders.auto.number-end) in
    let flags = c.placeholders.invariant.flags ∙ ap (λ (n : ℕ). replicate n truth_values) whole in
    record { ranges = flags; sizes = sized c.placeholders.space c.args.count flags }
