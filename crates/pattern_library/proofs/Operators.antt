-- Formulas by their outermost operator, and instances of those.
use Rattle.std.proofs.Common.{◌≡◌, ◌↔◌, ℕ, suc, ◌+◌, Bool, false, List, refl, sym, ap, ◌∙◌, subst}
use Rattle.std.specs.Prelude.{Option}
use Rattle.temporal_logic.specs.Ltl.{Ltl, truth, falsity, flag, compares, among, relates, neg, conj, disj, implies, iff, entails, next, eventually, always, until, unless, release, eventually_within, always_within, until_within, unless_within, release_within}
use Rattle.entity_types.specs.declared.written.Opening.{Opening}
use Rattle.entity_types.specs.declared.written.Opening.TheVariants as opening
use Rattle.entity_types.specs.declared.written.Joining.{Joining}
use Rattle.entity_types.specs.declared.written.Joining.TheVariants as joining
use Rattle.entity_types.specs.Operators.{opened, joined}
use Rattle.pattern_library.specs.Instances.{instance_of, IsOverPlaceholders}
use Rattle.pattern_library.specs.Shapes.{ShapeForm, leaf, one, two, shape_of}
use Rattle.pattern_library.specs.Slots.{Finds}
use Rattle.pattern_library.proofs.Filling.{finds_same}

-- ---- shapes
-- a formula of a shape is what its operator makes of the operands
abbrev Made : Ltl → ShapeForm → Type 0
Made f leaf = shape_of f ≡ leaf
Made f (one o a) = f ≡ opened o a
Made f (two o a b) = f ≡ joined o a b

made : (f : Ltl) → Made f (shape_of f)
made truth = refl
made falsity = refl
made (flag k) = refl
made (compares x r v) = refl
made (among x set) = refl
made (relates x r y) = refl
made (neg a) = refl
made (conj a b) = refl
made (disj a b) = refl
made (implies a b) = refl
made (iff a b) = refl
made (entails a b) = refl
made (next a) = refl
made (eventually a) = refl
made (always a) = refl
made (until a b) = refl
made (unless a b) = refl
made (release a b) = refl
made (eventually_within d a) = refl
made (always_within d a) = refl
made (until_within d a b) = refl
made (unless_within d a b) = refl
made (release_within d a b) = refl

pub made_of : (f : Ltl) (s : ShapeForm) → s ≡ shape_of f → Made f s
made_of f s e = subst (Made f) (sym e) (made f)

pub shape_opened : (o : Opening) (a : Ltl) → shape_of (opened o a) ≡ one o a
shape_opened opening.Not a = refl
shape_opened opening.Next a = refl
shape_opened opening.Eventually a = refl
shape_opened opening.Always a = refl
shape_opened (opening.EventuallyWithin d) a = refl
shape_opened (opening.AlwaysWithin d) a = refl

pub shape_joined : (o : Joining) (a b : Ltl) → shape_of (joined o a b) ≡ two o a b
shape_joined joining.And a b = refl
shape_joined joining.Or a b = refl
shape_joined joining.Implies a b = refl
shape_joined joining.Iff a b = refl
shape_joined joining.Entails a b = refl
shape_joined joining.Until a b = refl
shape_joined joining.Unless a b = refl
shape_joined joining.Release a b = refl
shape_joined (joining.UntilWithin d) a b = refl
shape_joined (joining.UnlessWithin d) a b = refl
shape_joined (joining.ReleaseWithin d) a b = refl

-- ---- instances
pub instance_opened : (formulas : List Ltl) (o : Opening) (a : Ltl) → instance_of formulas (opened o a) ≡ opened o (instance_of formulas a)
instance_opened formulas opening.Not a = refl
instance_opened formulas opening.Next a = refl
instance_opened formulas opening.Eventually a = refl
instance_opened formulas opening.Always a = refl
instance_opened formulas (opening.EventuallyWithin d) a = refl
instance_opened formulas (opening.AlwaysWithin d) a = refl

pub instance_joined : (formulas : List Ltl) (o : Joining) (a b : Ltl) → instance_of formulas (joined o a b) ≡ joined o (instance_of formulas a) (instance_of formulas b)
instance_joined formulas joining.And a b = refl
instance_joined formulas joining.Or a b = refl
instance_joined formulas joining.Implies a b = refl
instance_joined formulas joining.Iff a b = refl
instance_joined formulas joining.Entails a b = refl
instance_joined formulas joining.Until a b = refl
instance_joined formulas joining.Unless a b = refl
instance_joined formulas joining.Release a b = refl
instance_joined formulas (joining.UntilWithin d) a b = refl
instance_joined formulas (joining.UnlessWithin d) a b = refl
instance_joined formulas (joining.ReleaseWithin d) a b = refl

pub over_opened : (n : ℕ) (o : Opening) (a : Ltl) → IsOverPlaceholders n (opened o a) → IsOverPlaceholders n a
over_opened n opening.Not a over = over
over_opened n opening.Next a over = over
over_opened n opening.Eventually a over = over
over_opened n opening.Always a over = over
over_opened n (opening.EventuallyWithin d) a over = over
over_opened n (opening.AlwaysWithin d) a over = over

pub over_joined : (n : ℕ) (o : Joining) (a b : Ltl) → IsOverPlaceholders n (joined o a b) → IsOverPlaceholders n a × IsOverPlaceholders n b
over_joined n joining.And a b over = over
over_joined n joining.Or a b over = over
over_joined n joining.Implies a b over = over
over_joined n joining.Iff a b over = over
over_joined n joining.Entails a b over = over
over_joined n joining.Until a b over = over
over_joined n joining.Unless a b over = over
over_joined n joining.Release a b over = over
over_joined n (joining.UntilWithin d) a b over = over
over_joined n (joining.UnlessWithin d) a b over = over
over_joined n (joining.ReleaseWithin d) a b over = over

-- how many operators a formula has
pub operators : Ltl → ℕ
operators (neg a) = suc (operators a)
operators (next a) = suc (operators a)
operators (eventually a) = suc (operators a)
operators (always a) = suc (operators a)
operators (eventually_within d a) = suc (operators a)
operators (always_within d a) = suc (operators a)
operators (conj a b) = suc (operators a + operators b)
operators (disj a b) = suc (operators a + operators b)
operators (implies a b) = suc (operators a + operators b)
operators (iff a b) = suc (operators a + operators b)
operators (entails a b) = suc (operators a + operators b)
operators (until a b) = suc (operators a + operators b)
operators (unless a b) = suc (operators a + operators b)
operators (release a b) = suc (operators a + operators b)
operators (until_within d a b) = suc (operators a + operators b)
operators (unless_within d a b) = suc (operators a + operators b)
operators (release_within d a b) = suc (operators a + operators b)
operators f = 0

pub more_opened : (o : Opening) (a : Ltl) → operators (opened o a) ≡ suc (operators a)
unfolding operators
more_opened opening.Not a = refl
more_opened opening.Next a = refl
more_opened opening.Eventually a = refl
more_opened opening.Always a = refl
more_opened (opening.EventuallyWithin d) a = refl
more_opened (opening.AlwaysWithin d) a = refl

pub more_joined : (o : Joining) (a b : Ltl) → operators (joined o a b) ≡ suc (operators a + operators b)
unfolding operators
more_joined joining.And a b = refl
more_joined joining.Or a b = refl
more_joined joining.Implies a b = refl
more_joined joining.Iff a b = refl
more_joined joining.Entails a b = refl
more_joined joining.Until a b = refl
more_joined joining.Unless a b = refl
more_joined joining.Release a b = refl
more_joined (joining.UntilWithin d) a b = refl
more_joined (joining.UnlessWithin d) a b = refl
more_joined (joining.ReleaseWithin d) a b = refl

-- an instance of an operator's formula has that operator, and instances of the operands
pub opened_instance : (formulas : List Ltl) (o : Opening) (a : Ltl) (g : Ltl) (p : Opening) (b : Ltl) → g ≡ opened p b → instance_of formulas (opened o a) ≡ g ↔ ((o ≡ p) × (instance_of formulas a ≡ b))
opened_instance formulas o a g p b is = (
  λ e.
      let shapes : one o (instance_of formulas a) ≡ one p b = sym (shape_opened o (instance_of formulas a)) ∙ ap shape_of (sym (instance_opened formulas o a) ∙ e ∙ is) ∙ shape_opened p b in
      (cc shapes, cc shapes),
  λ both. instance_opened formulas o a ∙ ap (λ (q : Opening). opened q (instance_of formulas a)) both.0 ∙ ap (opened p) both.1 ∙ sym is,
)

pub joined_instance : (formulas : List Ltl) (o : Joining) (a b : Ltl) (g : Ltl) (p : Joining) (c d : Ltl) → g ≡ joined p c d
    → instance_of formulas (joined o a b) ≡ g ↔ ((o ≡ p) × (instance_of formulas a ≡ c) × (instance_of formulas b ≡ d))
joined_instance formulas o a b g p c d is =
    let x = instance_of formulas a in
    let y = instance_of formulas b in (
      λ e.
          let shapes : two o x y ≡ two p c d = sym (shape_joined o x y) ∙ ap shape_of (sym (instance_joined formulas o a b) ∙ e ∙ is) ∙ shape_joined p c d in
          (cc shapes, cc shapes, cc shapes),
      λ all. instance_joined formulas o a b ∙ ap (λ (q : Joining). joined q x y) all.0 ∙ ap (λ (z : Ltl). joined p z y) all.1 ∙ ap (joined p c) all.2 ∙ sym is,
    )

-- ---- steps of a matching
pub one_found : (old new : List (Option Ltl)) (o p : Opening) (a b f g : Ltl) (found : Bool) → f ≡ opened o a → g ≡ opened p b → o ≡ p
    → Finds old new (λ formulas. instance_of formulas a ≡ b) found → Finds old new (λ formulas. instance_of formulas f ≡ g) found
one_found old new o p a b f g found pattern_is formula_is same finds =
    subst (λ (x : Ltl). Finds old new (λ formulas. instance_of formulas x ≡ g) found) (sym pattern_is)
    (finds_same old new (λ formulas. instance_of formulas a ≡ b) (λ formulas. instance_of formulas (opened o a) ≡ g) found
    (λ formulas. let both = opened_instance formulas o a g p b formula_is in ((λ e. both.1 (same, e)), (λ e. (both.0 e).1))) finds)

pub two_found : (old new : List (Option Ltl)) (o p : Joining) (a b c d f g : Ltl) (found : Bool) → f ≡ joined o a b → g ≡ joined p c d → o ≡ p
    → Finds old new (λ formulas. (instance_of formulas a ≡ c) × (instance_of formulas b ≡ d)) found → Finds old new (λ formulas. instance_of formulas f ≡ g) found
two_found old new o p a b c d f g found pattern_is formula_is same finds =
    subst (λ (x : Ltl). Finds old new (λ formulas. instance_of formulas x ≡ g) found) (sym pattern_is)
    (finds_same old new (λ formulas. (instance_of formulas a ≡ c) × (instance_of formulas b ≡ d)) (λ formulas. instance_of formulas (joined o a b) ≡ g) found
    (λ formulas. let all = joined_instance formulas o a b g p c d formula_is in ((λ e. all.1 (same, e.0, e.1)), (λ e. ((all.0 e).1, (all.0 e).2)))) finds)

-- another operator stands there
pub two_apart : (slots : List (Option Ltl)) (o p : Joining) (a b c d f g : Ltl) → f ≡ joined o a b → g ≡ joined p c d → (o ≡ p → ⊥)
    → Finds slots slots (λ formulas. instance_of formulas f ≡ g) false
two_apart slots o p a b c d f g pattern_is formula_is apart = λ formulas agree e.
    let made_so : instance_of formulas (joined o a b) ≡ g = subst (λ (x : Ltl). instance_of formulas x ≡ g) pattern_is e in
    apart ((joined_instance formulas o a b g p c d formula_is).0 made_so).0
