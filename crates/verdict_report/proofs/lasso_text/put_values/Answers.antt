use Rattle.std.proofs.Common.{ℕ, List, ◌<◌, ◌+◌, ◌++◌, ◌∙◌, ap, sym, subst, drop, get_or, append_assoc, length, arith}
use Rattle.state_space.specs.Ranges.{form_of}
use Rattle.state_space.specs.Spaces.{names, ranges, sizes}
use Rattle.state_space.proofs.SpaceFacts.{as_many_sizes, size_at}
use Rattle.verdict_report.specs.LassoTexts.{setting_text, values_text}
use Rattle.verdict_report.proofs.ValuesTexts.{values_text-drop}
use Rattle.verdict_report.proofs.lasso_text.put_values.Goals as goal

pub put_setting-requires : goal.put_setting-requires
put_setting-requires c =
    let inside : c.values.x < length (sizes c.args.space.now) = omega (arith, as_many_sizes c.args.space.now, c.count-x-end.ensures.count, c.values-test.true) in
    subst (λ (n : ℕ). get_or c.args.values.now c.values.x 0 < n) (size_at c.args.space.now c.values.x (form_of c.range_of.result.now) c.range_of.ensures.range) (c.requires.1 c.values.x inside)

pub values-preserved : goal.values-preserved
values-preserved c =
    let inside : c.values.x < length c.args.values.now = omega (arith, as_many_sizes c.args.space.now, c.requires.0, c.count-x-end.ensures.count, c.values-test.true) in
    let next = values_text-drop (names c.args.space.now) (ranges c.args.space.now) c.args.values.now c.values.x c.name_of.result.now (form_of c.range_of.result.now) c.name_of.ensures.name c.range_of.ensures.range inside in
    let setting = setting_text c.name_of.result.now (form_of c.range_of.result.now) (get_or c.args.values.now c.values.x 0) in
    let rest = values_text (drop (c.values.x + 1) (names c.args.space.now)) (drop (c.values.x + 1) (ranges c.args.space.now)) (drop (c.values.x + 1) c.args.values.now) in
    ap (λ (t : List ℕ). t ++ rest) c.in_ok-put_setting.ensures
    ∙ append_assoc c.values.out.items setting rest
    ∙ ap (λ (t : List ℕ). c.values.out.items ++ t) (sym next)
    ∙ c.values.invariant
