use Rattle.std.proofs.Common.{ap, ◌∙◌, sym}
use Rattle.tableau_rules.specs.Words.{numbers_of}
use Rattle.tableau_rules.specs.Sets.{changed}
use Rattle.tableau_rules.proofs.WordChanges.{numbers_changed, bits_changed}
use Rattle.tableau_rules.proofs.bits.Bits.follows.Goals as goal

pub returns : goal.returns
returns c =
    let after = changed c.args.gone c.args.first c.args.second in
    let new_is = ap numbers_of c.deref-2.ensures.value ∙ c.self.view_is in
    let old_is = ap numbers_of c.deref.ensures.value ∙ c.old.view_is in (
      λ h. sym new_is ∙ (numbers_changed c.deref-2.result.now c.deref.result.now c.args.gone c.args.first c.args.second (c.is_after.ensures.0 h) ∙ ap after old_is),
      λ e. c.is_after.ensures.1 (bits_changed c.deref-2.result.now c.deref.result.now c.args.gone c.args.first c.args.second (new_is ∙ (e ∙ sym (ap after old_is)))),
    )
