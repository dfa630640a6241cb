-- That a range is good has one proof, so a variable carries it.
use Rattle.std.specs.Coded.{Π_prop, →_prop, Unit-prop, le_prop}
use Rattle.state_space.specs.Ranges.{RangeForm, truth_values, named, span, HasDistinctNames, IsGoodRange}

-- any two proofs that the names of a range are distinct are the same
HasDistinctNames-prop : (range : RangeForm) → IsProp (HasDistinctNames range)
HasDistinctNames-prop truth_values = Unit-prop
HasDistinctNames-prop (named values) = Π_prop (λ i. Π_prop (λ j. Π_prop (λ d. →_prop (→_prop (→_prop (λ x y. absurd x))))))
HasDistinctNames-prop (span low high) = Unit-prop

-- any two proofs that a range is good are the same
pub IsGoodRange-prop : (range : RangeForm) → IsProp (IsGoodRange range)
IsGoodRange-prop range x y =
    λ i. record { some = le_prop x.some y.some i; few = le_prop x.few y.few i; apart = HasDistinctNames-prop range x.apart y.apart i }
