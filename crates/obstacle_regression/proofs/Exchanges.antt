-- What stands in place of a core that is the old one, and of one that is not.
use Rattle.std.proofs.Common.{◌≡◌, ◌↔◌, ◌⊎◌, inl, inr, ◌+◌, Bool, true, false, IsTrue, IsFalse, refl, sym, subst, arith}
use Rattle.std.specs.Prelude.{min, max}
use Rattle.std.proofs.lemmas.Bool.{cond-true, cond-false}
use Rattle.bound_unfolding.specs.CoreForm.{CoreForm, core_true, core_false, lit, both, either, after, core_until, core_release, nodes, levels}
use Rattle.formula_table.specs.Closures.{is_same}
use Rattle.formula_table.proofs.Members.{same_eq, same_self}
use Rattle.obstacle_regression.specs.Replacements.{exchanged, replaced}
use Rattle.obstacle_regression.specs.declared.extent.Extent.{Extent}
use Rattle.obstacle_regression.specs.Extents.{IsExtentOf}

-- two tests of one fact
pub decided : (r s : Bool) (P : Type 0) → IsTrue r ↔ P → IsTrue s ↔ P → r ≡ s
decided true s P f g = sym (g.1 (f.0 refl))
decided false true P f g = f.1 (g.0 refl)
decided false false P f g = refl

pub same_decided : (r : Bool) (a b : CoreForm) → IsTrue r ↔ (a ≡ b) → r ≡ is_same a b
same_decided r a b f = decided r (is_same a b) (a ≡ b) f (same_eq a b, λ e. subst (λ z. IsTrue (is_same a z)) e (same_self a))

pub replaced_there : (l k c : CoreForm) → IsTrue (is_same c l) → replaced l k c ≡ k
replaced_there l k core_true s = cond-true _ _ _ s
replaced_there l k core_false s = cond-true _ _ _ s
replaced_there l k (lit x u) s = cond-true _ _ _ s
replaced_there l k (both a b) s = cond-true _ _ _ s
replaced_there l k (either a b) s = cond-true _ _ _ s
replaced_there l k (after a) s = cond-true _ _ _ s
replaced_there l k (core_until a b) s = cond-true _ _ _ s
replaced_there l k (core_release a b) s = cond-true _ _ _ s

-- ---- the extent of a node over two operands, in any of its four forms
module _ (l k a b : CoreForm) (e p q : Extent) (first : IsExtentOf p (replaced l k a)) (second : IsExtentOf q (replaced l k b)) (nodes_are : e.nodes ≡ min (1 + p.nodes + q.nodes) 4097) (levels_are : e.levels ≡ min (1 + max p.levels q.levels) 1001) where
  over_extent : (whole made : CoreForm) → IsFalse (is_same whole l) → nodes made ≡ 1 + nodes (replaced l k a) + nodes (replaced l k b)
      → levels made ≡ 1 + max (levels (replaced l k a)) (levels (replaced l k b)) → IsExtentOf e (exchanged l k whole made)
  over_extent whole made n en el = subst (IsExtentOf e) (sym (cond-false _ _ _ n)) (record {
    nodes_are = omega (arith, nodes_are, first.nodes_are, second.nodes_are, en);
    levels_are = omega (arith, levels_are, first.levels_are, second.levels_are, el);
  })

  pub two_extent : (whole : CoreForm) → (whole ≡ both a b) ⊎ ((whole ≡ either a b) ⊎ ((whole ≡ core_until a b) ⊎ (whole ≡ core_release a b))) → IsFalse (is_same whole l)
      → IsExtentOf e (replaced l k whole)
  two_extent whole (inl s) = subst (λ z. IsFalse (is_same z l) → IsExtentOf e (replaced l k z)) (sym s) (λ n. over_extent (both a b) (both (replaced l k a) (replaced l k b)) n refl refl)
  two_extent whole (inr (inl s)) = subst (λ z. IsFalse (is_same z l) → IsExtentOf e (replaced l k z)) (sym s) (λ n. over_extent (either a b) (either (replaced l k a) (replaced l k b)) n refl refl)
  two_extent whole (inr (inr (inl s))) = subst (λ z. IsFalse (is_same z l) → IsExtentOf e (replaced l k z)) (sym s) (λ n. over_extent (core_until a b) (core_until (replaced l k a) (replaced l k b)) n refl refl)
  two_extent whole (inr (inr (inr s))) = subst (λ z. IsFalse (is_same z l) → IsExtentOf e (replaced l k z)) (sym s) (λ n. over_extent (core_release a b) (core_release (replaced l k a) (replaced l k b)) n refl refl)
