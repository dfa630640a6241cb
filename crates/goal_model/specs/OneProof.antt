-- That a model is well-formed has one proof, so a model carries it.
use Rattle.std.specs.Prelude.{◌≡◌, ◌⊎◌, ℕ, ◌<◌, length, ℤ, List, All}
use Rattle.std.specs.Coded.{Coded, Coded-set, coded_ℕ, coded_ℤ, coded_list, coded×, coded⊎, coded_option, code_by, Π_prop, →_prop, Unit-prop, le_prop}
use mathlib.Core.Logic.{inl, inr}
use mathlib.Core.Path.{refl}
use base.Stored.{coded_unit}
use Rattle.state_space.specs.Ranges.{RangeForm, truth_values, named, span, IsGoodRange}
use Rattle.state_space.specs.OneProof.{IsGoodRange-prop}
use Rattle.state_space.specs.Fitting.{ValuesFit}
use Rattle.temporal_logic.specs.Ltl.{Ltl, truth, falsity, flag, compares, among, relates, neg, next, eventually, always, eventually_within, always_within, conj, disj, implies, iff, entails, until, unless, release, until_within, unless_within, release_within}
use Rattle.temporal_logic.specs.Fits.{Fits}
use Rattle.entity_types.specs.View.{AttributeForm}
use Rattle.goal_model.specs.Models.{LinkForm, refine, obstruct, conflict, operationalise, assign, OperationForm, RequirementForm, TraceForm, ModelForm, sizes_of, LinkIsOf, AttributeIsOf, HasMembers, PartsFit, TraceIsOver, IsWellFormed}

-- ---- ranges, to be told apart

parts_of : RangeForm → Unit {0} ⊎ (List (List ℕ) ⊎ (ℤ × ℤ))
parts_of truth_values = inl tt
parts_of (named values) = inr (inl values)
parts_of (span low high) = inr (inr (low, high))

range_from : Unit {0} ⊎ (List (List ℕ) ⊎ (ℤ × ℤ)) → RangeForm
range_from (inl _) = truth_values
range_from (inr (inl values)) = named values
range_from (inr (inr ends)) = span ends.0 ends.1

range_again : (r : RangeForm) → range_from (parts_of r) ≡ r
unfolding range_from parts_of
range_again truth_values = refl
range_again (named values) = refl
range_again (span low high) = refl

coded_range : Coded RangeForm
coded_range = code_by (Unit {0} ⊎ (List (List ℕ) ⊎ (ℤ × ℤ))) (coded⊎ coded_unit (coded⊎ (coded_list (coded_list coded_ℕ)) (coded× coded_ℤ coded_ℤ))) parts_of range_from range_again

-- ---- what is known of all elements of a list

All-prop : {X : Type 0} (P : X → Type 0) (xs : List X) → ((x : X) → IsProp (P x)) → IsProp (All P xs)
All-prop P xs one = Π_prop (λ k. Π_prop (λ d. Π_prop (λ l. one _)))

below-prop : (k n : ℕ) → IsProp (k < n)
below-prop k n = le_prop

-- ---- formulas

Fits-prop : (rs : List RangeForm) (f : Ltl) → IsProp (Fits rs f)
Fits-prop rs truth x y = Unit-prop x y
Fits-prop rs falsity x y = Unit-prop x y
Fits-prop rs (flag v) x y = Coded-set (coded_option coded_range) _ _ x y
Fits-prop rs (compares v r n) x y = λ i. (le_prop x.0 y.0 i, le_prop x.1 y.1 i)
Fits-prop rs (among v set) x y = λ i. (le_prop x.0 y.0 i, le_prop x.1 y.1 i)
Fits-prop rs (relates v r w) x y = λ i. (le_prop x.0 y.0 i, le_prop x.1 y.1 i)
Fits-prop rs (neg a) x y = Fits-prop rs a x y
Fits-prop rs (next a) x y = Fits-prop rs a x y
Fits-prop rs (eventually a) x y = Fits-prop rs a x y
Fits-prop rs (always a) x y = Fits-prop rs a x y
Fits-prop rs (eventually_within d a) x y = Fits-prop rs a x y
Fits-prop rs (always_within d a) x y = Fits-prop rs a x y
Fits-prop rs (conj a b) x y = λ i. (Fits-prop rs a x.0 y.0 i, Fits-prop rs b x.1 y.1 i)
Fits-prop rs (disj a b) x y = λ i. (Fits-prop rs a x.0 y.0 i, Fits-prop rs b x.1 y.1 i)
Fits-prop rs (implies a b) x y = λ i. (Fits-prop rs a x.0 y.0 i, Fits-prop rs b x.1 y.1 i)
Fits-prop rs (iff a b) x y = λ i. (Fits-prop rs a x.0 y.0 i, Fits-prop rs b x.1 y.1 i)
Fits-prop rs (entails a b) x y = λ i. (Fits-prop rs a x.0 y.0 i, Fits-prop rs b x.1 y.1 i)
Fits-prop rs (until a b) x y = λ i. (Fits-prop rs a x.0 y.0 i, Fits-prop rs b x.1 y.1 i)
Fits-prop rs (unless a b) x y = λ i. (Fits-prop rs a x.0 y.0 i, Fits-prop rs b x.1 y.1 i)
Fits-prop rs (release a b) x y = λ i. (Fits-prop rs a x.0 y.0 i, Fits-prop rs b x.1 y.1 i)
Fits-prop rs (until_within d a b) x y = λ i. (Fits-prop rs a x.0 y.0 i, Fits-prop rs b x.1 y.1 i)
Fits-prop rs (unless_within d a b) x y = λ i. (Fits-prop rs a x.0 y.0 i, Fits-prop rs b x.1 y.1 i)
Fits-prop rs (release_within d a b) x y = λ i. (Fits-prop rs a x.0 y.0 i, Fits-prop rs b x.1 y.1 i)

-- ---- the parts of a model

HasMembers-prop : (xs : List (List ℕ)) → IsProp (HasMembers xs)
HasMembers-prop xs x y = λ i. (le_prop x.0 y.0 i, le_prop x.1 y.1 i)

AttributeIsOf-prop : (names : List (List ℕ)) (ranges : List RangeForm) (members : List (List (List ℕ))) (a : AttributeForm) → IsProp (AttributeIsOf names ranges members a)
AttributeIsOf-prop names ranges members a x y =
    λ i. record {
      entity = le_prop x.entity y.entity i;
      named = Π_prop (λ k. Π_prop (λ m. →_prop (Coded-set (coded_option (coded_list coded_ℕ)) _ _))) x.named y.named i;
      ranged = Π_prop (λ k. →_prop (Coded-set coded_range _ _)) x.ranged y.ranged i;
    }

LinkIsOf-prop : (m : ModelForm) (l : LinkForm) → IsProp (LinkIsOf m l)
LinkIsOf-prop m (refine s g gs p) x y = λ i. (le_prop x.0 y.0 i, All-prop (λ k. k < length m.goals) gs (λ k. below-prop k (length m.goals)) x.1 y.1 i)
LinkIsOf-prop m (obstruct s g os) x y = λ i. (le_prop x.0 y.0 i, All-prop (λ k. k < length m.obstacles) os (λ k. below-prop k (length m.obstacles)) x.1 y.1 i)
LinkIsOf-prop m (conflict s n gs f) x y = λ i. (All-prop (λ k. k < length m.goals) gs (λ k. below-prop k (length m.goals)) x.0 y.0 i, Fits-prop m.ranges f x.1 y.1 i)
LinkIsOf-prop m (operationalise s g rs e) x y = λ i. (le_prop x.0 y.0 i, All-prop (λ k. k < length m.requirements) rs (λ k. below-prop k (length m.requirements)) x.1 y.1 i)
LinkIsOf-prop m (assign s g a) x y = λ i. (le_prop x.0 y.0 i, le_prop x.1 y.1 i)

OperationFits-prop : (m : ModelForm) (o : OperationForm) → IsProp ((o.agent < length m.agents) × Fits m.ranges o.dompre × Fits m.ranges o.dompost)
OperationFits-prop m o x y = λ i. (le_prop x.0 y.0 i, Fits-prop m.ranges o.dompre x.1 y.1 i, Fits-prop m.ranges o.dompost x.2 y.2 i)

RequirementFits-prop : (m : ModelForm) (r : RequirementForm) → IsProp ((r.operation < length m.operations) × Fits m.ranges r.formula)
RequirementFits-prop m r x y = λ i. (le_prop x.0 y.0 i, Fits-prop m.ranges r.formula x.1 y.1 i)

PartsFit-prop : (m : ModelForm) → IsProp (PartsFit m)
PartsFit-prop m x y =
    λ i. record {
      few = le_prop x.few y.few i;
      count = Coded-set coded_ℕ _ _ x.count y.count i;
      ranges = All-prop IsGoodRange m.ranges IsGoodRange-prop x.ranges y.ranges i;
      members = All-prop HasMembers m.members HasMembers-prop x.members y.members i;
      attributes = All-prop _ m.attributes (AttributeIsOf-prop m.names m.ranges m.members) x.attributes y.attributes i;
      domains = All-prop _ m.domains (λ p. Fits-prop m.ranges p.formula) x.domains y.domains i;
      goals = All-prop _ m.goals (λ g. Fits-prop m.ranges g.formula) x.goals y.goals i;
      obstacles = All-prop _ m.obstacles (λ o. Fits-prop m.ranges o.formula) x.obstacles y.obstacles i;
      operations = All-prop (λ o. (o.agent < length m.agents) × Fits m.ranges o.dompre × Fits m.ranges o.dompost) m.operations (OperationFits-prop m) x.operations y.operations i;
      requirements = All-prop (λ r. (r.operation < length m.operations) × Fits m.ranges r.formula) m.requirements (RequirementFits-prop m) x.requirements y.requirements i;
      links = All-prop _ m.links (LinkIsOf-prop m) x.links y.links i;
    }

ValuesFit-prop : (sizes row : List ℕ) → IsProp (ValuesFit sizes row)
ValuesFit-prop sizes row x y = λ i. (Coded-set coded_ℕ _ _ x.0 y.0 i, Π_prop (λ k. →_prop le_prop) x.1 y.1 i)

TraceIsOver-prop : (sizes : List ℕ) (t : TraceForm) → IsProp (TraceIsOver sizes t)
TraceIsOver-prop sizes t x y =
    λ i. record {
      turns = le_prop x.turns y.turns i;
      prefix = All-prop _ t.prefix (ValuesFit-prop sizes) x.prefix y.prefix i;
      cycle = All-prop _ t.cycle (ValuesFit-prop sizes) x.cycle y.cycle i;
    }

-- any two proofs that a model is well-formed are the same
pub IsWellFormed-prop : (m : ModelForm) → IsProp (IsWellFormed m)
IsWellFormed-prop m x y =
    λ i. record { parts = PartsFit-prop m x.parts y.parts i; traces = All-prop _ m.traces (TraceIsOver-prop (sizes_of m)) x.traces y.traces i }
