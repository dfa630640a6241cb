-- Subformulas: where they stand, how large they are, and how large a core gets by what stands in their place.
use Rattle.std.proofs.Common.{◌≡◌, refl, ℕ, ◌+◌, ◌≤◌, ◌⊎◌, inl, inr, IsTrue, IsFalse, true≢false, sym, subst, ◌∙◌, arith}
use Rattle.std.proofs.lemmas.Bool.{leb-true, le-leb, false_from_ne_true}
use Rattle.bound_unfolding.specs.CoreForm.{CoreForm, core_true, core_false, lit, both, either, after, core_until, core_release, nodes, levels}
use Rattle.formula_table.specs.Closures.{is_same}
use Rattle.formula_table.specs.Tables.{IsSubformula}
use Rattle.formula_table.proofs.Tests.{cond_case, and_intro, and_true}
use Rattle.formula_table.proofs.Members.{same_self}
use Rattle.obstacle_regression.specs.Replacements.{exchanged, replaced}
use Rattle.obstacle_regression.specs.Candidates.{is_small}

-- a subformula of a subformula stands in the whole
pub inside_inside : (a b c : CoreForm) → IsSubformula a b → IsSubformula b c → IsSubformula a c
inside_inside a b core_true h e = subst (IsSubformula a) e h
inside_inside a b core_false h e = subst (IsSubformula a) e h
inside_inside a b (lit x s) h e = subst (IsSubformula a) e h
inside_inside a b (both c d) h (inl e) = subst (IsSubformula a) e h
inside_inside a b (both c d) h (inr (inl k)) = inr (inl (inside_inside a b c h k))
inside_inside a b (both c d) h (inr (inr k)) = inr (inr (inside_inside a b d h k))
inside_inside a b (either c d) h (inl e) = subst (IsSubformula a) e h
inside_inside a b (either c d) h (inr (inl k)) = inr (inl (inside_inside a b c h k))
inside_inside a b (either c d) h (inr (inr k)) = inr (inr (inside_inside a b d h k))
inside_inside a b (after c) h (inl e) = subst (IsSubformula a) e h
inside_inside a b (after c) h (inr k) = inr (inside_inside a b c h k)
inside_inside a b (core_until c d) h (inl e) = subst (IsSubformula a) e h
inside_inside a b (core_until c d) h (inr (inl k)) = inr (inl (inside_inside a b c h k))
inside_inside a b (core_until c d) h (inr (inr k)) = inr (inr (inside_inside a b d h k))
inside_inside a b (core_release c d) h (inl e) = subst (IsSubformula a) e h
inside_inside a b (core_release c d) h (inr (inl k)) = inr (inl (inside_inside a b c h k))
inside_inside a b (core_release c d) h (inr (inr k)) = inr (inr (inside_inside a b d h k))

pub inside_itself : (c : CoreForm) → IsSubformula c c
inside_itself core_true = refl
inside_itself core_false = refl
inside_itself (lit x s) = refl
inside_itself (both a b) = inl refl
inside_itself (either a b) = inl refl
inside_itself (after a) = inl refl
inside_itself (core_until a b) = inl refl
inside_itself (core_release a b) = inl refl

-- where the operands of a core stand in it, and how large it is by them
pub two_inside : (whole a b : CoreForm) → (whole ≡ both a b) ⊎ ((whole ≡ either a b) ⊎ ((whole ≡ core_until a b) ⊎ (whole ≡ core_release a b)))
    → IsSubformula a whole × IsSubformula b whole × (nodes whole ≡ 1 + nodes a + nodes b)
two_inside whole a b (inl e) = subst (λ z. IsSubformula a z × IsSubformula b z × (nodes z ≡ 1 + nodes a + nodes b)) (sym e) (inr (inl (inside_itself a)), inr (inr (inside_itself b)), refl)
two_inside whole a b (inr (inl e)) = subst (λ z. IsSubformula a z × IsSubformula b z × (nodes z ≡ 1 + nodes a + nodes b)) (sym e) (inr (inl (inside_itself a)), inr (inr (inside_itself b)), refl)
two_inside whole a b (inr (inr (inl e))) = subst (λ z. IsSubformula a z × IsSubformula b z × (nodes z ≡ 1 + nodes a + nodes b)) (sym e) (inr (inl (inside_itself a)), inr (inr (inside_itself b)), refl)
two_inside whole a b (inr (inr (inr e))) = subst (λ z. IsSubformula a z × IsSubformula b z × (nodes z ≡ 1 + nodes a + nodes b)) (sym e) (inr (inl (inside_itself a)), inr (inr (inside_itself b)), refl)

-- neither count of one is over that of the other
abbrev IsWithin : CoreForm → CoreForm → Type 0
IsWithin a c = (nodes a ≤ nodes c) × (levels a ≤ levels c)

within_same : (a c : CoreForm) → a ≡ c → IsWithin a c
within_same a c e = subst (IsWithin a) e (omega arith, omega arith)

below_one : (a c w : CoreForm) → nodes c ≤ nodes w → levels c ≤ levels w → IsWithin a c → IsWithin a w
below_one a c w n l h = (omega (arith, n, h.0), omega (arith, l, h.1))

inside_within : (a c : CoreForm) → IsSubformula a c → IsWithin a c
inside_within a core_true e = within_same a core_true e
inside_within a core_false e = within_same a core_false e
inside_within a (lit x s) e = within_same a (lit x s) e
inside_within a (both c d) (inl e) = within_same a (both c d) e
inside_within a (both c d) (inr (inl k)) = below_one a c (both c d) (omega arith) (omega arith) (inside_within a c k)
inside_within a (both c d) (inr (inr k)) = below_one a d (both c d) (omega arith) (omega arith) (inside_within a d k)
inside_within a (either c d) (inl e) = within_same a (either c d) e
inside_within a (either c d) (inr (inl k)) = below_one a c (either c d) (omega arith) (omega arith) (inside_within a c k)
inside_within a (either c d) (inr (inr k)) = below_one a d (either c d) (omega arith) (omega arith) (inside_within a d k)
inside_within a (after c) (inl e) = within_same a (after c) e
inside_within a (after c) (inr k) = below_one a c (after c) (omega arith) (omega arith) (inside_within a c k)
inside_within a (core_until c d) (inl e) = within_same a (core_until c d) e
inside_within a (core_until c d) (inr (inl k)) = below_one a c (core_until c d) (omega arith) (omega arith) (inside_within a c k)
inside_within a (core_until c d) (inr (inr k)) = below_one a d (core_until c d) (omega arith) (omega arith) (inside_within a d k)
inside_within a (core_release c d) (inl e) = within_same a (core_release c d) e
inside_within a (core_release c d) (inr (inl k)) = below_one a c (core_release c d) (omega arith) (omega arith) (inside_within a c k)
inside_within a (core_release c d) (inr (inr k)) = below_one a d (core_release c d) (omega arith) (omega arith) (inside_within a d k)

pub sizes_of_small : (b : ℕ) (c : CoreForm) → IsTrue (is_small b c) → (b + nodes c ≤ 4096) × (levels c ≤ 1000)
sizes_of_small b c s = let two = and_true _ _ s in (leb-true (b + nodes c) 4096 two.0, leb-true (levels c) 1000 two.1)

pub small_of_sizes : (b : ℕ) (c : CoreForm) → b + nodes c ≤ 4096 → levels c ≤ 1000 → IsTrue (is_small b c)
small_of_sizes b c n l = and_intro _ _ (le-leb (b + nodes c) 4096 n) (le-leb (levels c) 1000 l)

-- what is small with some nodes beside it, is small alone, and so is all that stands in it
pub part_is_small : (b : ℕ) (a c : CoreForm) → IsSubformula a c → IsTrue (is_small b c) → IsTrue (is_small 0 a)
part_is_small b a c inside small =
    let within = inside_within a c inside in
    let sizes = sizes_of_small b c small in
    small_of_sizes 0 a (omega (arith, within.0, sizes.0)) (omega (arith, within.1, sizes.1))

-- ---- a core with another one in place of a part of it is no smaller than that one
module _ (l k : CoreForm) where
  exchanged_larger : (c other : CoreForm) → (IsFalse (is_same c l) → IsWithin k other) → IsWithin k (exchanged l k c other)
  exchanged_larger c other f = cond_case (IsWithin k) (is_same c l) k other (λ s. (omega arith, omega arith)) f

  not_other : (c other : CoreForm) → l ≡ c → IsFalse (is_same c l) → IsWithin k other
  not_other c other e n = absurd (true≢false (sym (subst (λ z. IsTrue (is_same c z)) (sym e) (same_self c)) ∙ n))

  pub larger : (c : CoreForm) → IsSubformula l c → IsWithin k (replaced l k c)
  larger core_true e = exchanged_larger core_true core_true (not_other core_true core_true e)
  larger core_false e = exchanged_larger core_false core_false (not_other core_false core_false e)
  larger (lit x s) e = exchanged_larger (lit x s) (lit x s) (not_other (lit x s) (lit x s) e)
  larger (both a b) h = exchanged_larger (both a b) (both (replaced l k a) (replaced l k b)) (go (λ j. larger a j) (λ j. larger b j) h)
    where
      go : (IsSubformula l a → IsWithin k (replaced l k a)) → (IsSubformula l b → IsWithin k (replaced l k b)) → IsSubformula l (both a b) → IsFalse (is_same (both a b) l) → IsWithin k (both (replaced l k a) (replaced l k b))
      go f g (inl e) n = not_other (both a b) (both (replaced l k a) (replaced l k b)) e n
      go f g (inr (inl j)) n = below_one k (replaced l k a) (both (replaced l k a) (replaced l k b)) (omega arith) (omega arith) (f j)
      go f g (inr (inr j)) n = below_one k (replaced l k b) (both (replaced l k a) (replaced l k b)) (omega arith) (omega arith) (g j)
  larger (either a b) h = exchanged_larger (either a b) (either (replaced l k a) (replaced l k b)) (go (λ j. larger a j) (λ j. larger b j) h)
    where
      go : (IsSubformula l a → IsWithin k (replaced l k a)) → (IsSubformula l b → IsWithin k (replaced l k b)) → IsSubformula l (either a b) → IsFalse (is_same (either a b) l) → IsWithin k (either (replaced l k a) (replaced l k b))
      go f g (inl e) n = not_other (either a b) (either (replaced l k a) (replaced l k b)) e n
      go f g (inr (inl j)) n = below_one k (replaced l k a) (either (replaced l k a) (replaced l k b)) (omega arith) (omega arith) (f j)
      go f g (inr (inr j)) n = below_one k (replaced l k b) (either (replaced l k a) (replaced l k b)) (omega arith) (omega arith) (g j)
  larger (after a) h = exchanged_larger (after a) (after (replaced l k a)) (go (λ j. larger a j) h)
    where
      go : (IsSubformula l a → IsWithin k (replaced l k a)) → IsSubformula l (after a) → IsFalse (is_same (after a) l) → IsWithin k (after (replaced l k a))
      go f (inl e) n = not_other (after a) (after (replaced l k a)) e n
      go f (inr j) n = below_one k (replaced l k a) (after (replaced l k a)) (omega arith) (omega arith) (f j)
  larger (core_until a b) h = exchanged_larger (core_until a b) (core_until (replaced l k a) (replaced l k b)) (go (λ j. larger a j) (λ j. larger b j) h)
    where
      go : (IsSubformula l a → IsWithin k (replaced l k a)) → (IsSubformula l b → IsWithin k (replaced l k b)) → IsSubformula l (core_until a b) → IsFalse (is_same (core_until a b) l) → IsWithin k (core_until (replaced l k a) (replaced l k b))
      go f g (inl e) n = not_other (core_until a b) (core_until (replaced l k a) (replaced l k b)) e n
      go f g (inr (inl j)) n = below_one k (replaced l k a) (core_until (replaced l k a) (replaced l k b)) (omega arith) (omega arith) (f j)
      go f g (inr (inr j)) n = below_one k (replaced l k b) (core_until (replaced l k a) (replaced l k b)) (omega arith) (omega arith) (g j)
  larger (core_release a b) h = exchanged_larger (core_release a b) (core_release (replaced l k a) (replaced l k b)) (go (λ j. larger a j) (λ j. larger b j) h)
    where
      go : (IsSubformula l a → IsWithin k (replaced l k a)) → (IsSubformula l b → IsWithin k (replaced l k b)) → IsSubformula l (core_release a b) → IsFalse (is_same (core_release a b) l) → IsWithin k (core_release (replaced l k a) (replaced l k b))
      go f g (inl e) n = not_other (core_release a b) (core_release (replaced l k a) (replaced l k b)) e n
      go f g (inr (inl j)) n = below_one k (replaced l k a) (core_release (replaced l k a) (replaced l k b)) (omega arith) (omega arith) (f j)
      go f g (inr (inr j)) n = below_one k (replaced l k b) (core_release (replaced l k a) (replaced l k b)) (omega arith) (omega arith) (g j)

-- what is too large alone makes each core too large in which it takes the place of a part
pub large_in_place : (b : ℕ) (l k c : CoreForm) → IsSubformula l c → IsFalse (is_small 0 k) → IsFalse (is_small b (replaced l k c))
large_in_place b l k c inside large =
    false_from_ne_true (is_small b (replaced l k c))
    (λ s. let within = larger l k c inside in
    let sizes = sizes_of_small b (replaced l k c) s in
    true≢false (sym (small_of_sizes 0 k (omega (arith, within.0, sizes.0)) (omega (arith, within.1, sizes.1))) ∙ large))
