-- Atoms, at terms that were found and their ranges.
use Rattle.std.proofs.Common.{◌≡◌, ℕ, Bool, true, false, if◌then◌else◌, List, Some, Ok, refl, sym, ap, ◌∙◌, slice_get}
use Rattle.std.proofs.lemmas.Bool.{false_from_ne_true}
use Rattle.std.proofs.lemmas.Option.{get_or_from_slice_get}
use Rattle.state_space.specs.declared.range.Range.{Range}
use Rattle.state_space.specs.declared.range.Range.TheVariants as range
use Rattle.state_space.specs.Ranges.{RangeForm, truth_values, form_of}
use Rattle.temporal_logic.specs.Ltl.{Relation}
use Rattle.entity_types.specs.WrittenTrees.{TermForm, atom}
use Rattle.entity_types.specs.WrittenTrees as trees
use Rattle.goal_model.specs.declared.refusal.RefusalKind.TheVariants.{BadValue}
use Rattle.goal_model.specs.Refusals.{refused}
use Rattle.goal_model.specs.ValueIndexes.{is_same_range}
use Rattle.goal_model.specs.Scopes.{ScopeForm, range_at}
use Rattle.goal_model.specs.Terms.{first_of, range_of}
use Rattle.goal_model.specs.Formulas.{flag_in, related_in}
use Rattle.goal_model.proofs.SameRanges.{same_range_tested, same_range_test}

-- the range of a variable that was found, and of the term whose first variable it is
pub range_found : (s : ScopeForm) (k : ℕ) (r : RangeForm) → slice_get s.ranges k ≡ Some r → range_at s k ≡ r
range_found s k r e = get_or_from_slice_get s.ranges k r truth_values e

pub term_range : (s : ScopeForm) (t : TermForm) (k : ℕ) (r : RangeForm) → k ≡ first_of s t → slice_get s.ranges k ≡ Some r → range_of s t ≡ r
term_range s t k r same e = ap (range_at s) (sym same) ∙ range_found s k r e

chosen : {A : Type 0} (b : Bool) (x y : A) → b ≡ true → (if b then x else y) ≡ x
chosen b x y e = rw e refl

not_chosen : {A : Type 0} (b : Bool) (x y : A) → b ≡ false → (if b then x else y) ≡ y
not_chosen b x y e = rw e refl

-- a term alone

pub flag_taken : (s : ScopeForm) (x : List ℕ) (t : TermForm) (r : Range) → form_of r ≡ range_of s t → r ≡ range.Bool → flag_in s x t ≡ Ok (atom (trees.flag t))
flag_taken s x t r e is = chosen (is_same_range (range_of s t) truth_values) _ _ (same_range_test (range_of s t) truth_values (sym e ∙ ap form_of is))

not_truth_values : (r : Range) → (r ≡ range.Bool → ⊥) → form_of r ≡ truth_values → ⊥
not_truth_values range.Bool other e = other refl
not_truth_values (range.Names ns) other e = absurd cc
not_truth_values (range.Span low high) other e = absurd cc

pub flag_refused : (s : ScopeForm) (x : List ℕ) (t : TermForm) (r : Range) → form_of r ≡ range_of s t → (r ≡ range.Bool → ⊥) → flag_in s x t ≡ refused BadValue x
flag_refused s x t r e other =
    not_chosen (is_same_range (range_of s t) truth_values) _ _
    (false_from_ne_true (is_same_range (range_of s t) truth_values) (λ h. not_truth_values r other (e ∙ same_range_tested (range_of s t) truth_values h)))

-- two terms

pub related_taken : (s : ScopeForm) (x : List ℕ) (t : TermForm) (c : Relation) (u : TermForm) (p q : RangeForm) → p ≡ range_of s t → q ≡ range_of s u → p ≡ q → related_in s x t c u ≡ Ok (atom (trees.relates t c u))
related_taken s x t c u p q e f is = chosen (is_same_range (range_of s t) (range_of s u)) _ _ (same_range_test (range_of s t) (range_of s u) (sym e ∙ is ∙ f))

pub related_refused : (s : ScopeForm) (x : List ℕ) (t : TermForm) (c : Relation) (u : TermForm) (p q : RangeForm) → p ≡ range_of s t → q ≡ range_of s u → (p ≡ q → ⊥) → related_in s x t c u ≡ refused BadValue x
related_refused s x t c u p q e f other =
    not_chosen (is_same_range (range_of s t) (range_of s u)) _ _
    (false_from_ne_true (is_same_range (range_of s t) (range_of s u)) (λ h. other (e ∙ same_range_tested (range_of s t) (range_of s u) h ∙ sym f)))
