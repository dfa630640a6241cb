use Rattle.std.proofs.Common.{◌≡◌, ◌⊎◌, inl, inr, ⊎_elim, ap, sym, ◌∙◌, subst}
use Rattle.bound_unfolding.specs.CoreForm.{both, either, core_until, core_release}
use Rattle.bound_unfolding.specs.CoreView.{core_tree_of}
use Rattle.obstacle_regression.specs.Replacements.{replaced}
use Rattle.obstacle_regression.specs.Extents.{IsExtentOf}
use Rattle.obstacle_regression.proofs.Exchanges.{replaced_there, two_extent}
use Rattle.obstacle_regression.proofs.extent.+extent_replaced.Goals as goal

pub returns-then-is_same : goal.returns-then-is_same
returns-then-is_same t c = record {
  of = λ k e. subst (IsExtentOf c.args.new) (sym (replaced_there (core_tree_of c.args.old.now) k (core_tree_of c.args.core.now) (sym c.is_same.ensures.same ∙ c.if-is_same.true))) e;
}

pub returns-in-And : goal.returns-in-And
returns-in-And t c =
    let l = core_tree_of c.args.old.now in
    let whole = core_tree_of c.args.core.now in
    let a = core_tree_of c.in-And.a.value in
    let b = core_tree_of c.in-And.b.value in
    let form : (whole ≡ both a b) ⊎ ((whole ≡ either a b) ⊎ ((whole ≡ core_until a b) ⊎ (whole ≡ core_release a b))) = ⊎_elim (λ s. inl (ap core_tree_of s)) (⊎_elim (λ s. inr (inl (ap core_tree_of s))) (⊎_elim (λ s. inr (inr (inl (ap core_tree_of s)))) (λ s. inr (inr (inr (ap core_tree_of s)))))) c.in-And.is in
    record {
      of = λ k e. two_extent l k a b c.over.result c.extent_replaced-in-And.result c.extent_replaced-in-And-2.result
          (subst (λ z. IsExtentOf c.extent_replaced-in-And.result (replaced l k (core_tree_of z))) c.deref-in-And.ensures (c.extent_replaced-in-And.ensures.of k e))
          (subst (λ z. IsExtentOf c.extent_replaced-in-And-2.result (replaced l k (core_tree_of z))) c.deref-in-And-2.ensures (c.extent_replaced-in-And-2.ensures.of k e))
          c.over.ensures.nodes c.over.ensures.levels whole form (sym c.is_same.ensures.same ∙ c.if-is_same.false);
    }
