-- What no trace meets, by the five patterns: the query of one, and the subgoals of an instance with its parent negated.
use Rattle.std.proofs.Common.{◌≡◌, List, [], ◌∷◌, ◌++◌, ℕ, ◌≤◌, refl, sym, ap, ◌∙◌, subst, arith, append_assoc, true, Some}
use Rattle.temporal_logic.specs.Ltl.{Ltl, neg}
use Rattle.temporal_logic.specs.Truth.{Trace, Meets}
use Rattle.temporal_logic.specs.Traces.{IsPeriodic}
use Rattle.formula_table.specs.SmallLists.{AreSmall}
use Rattle.tableau_rules.specs.Queries.{MeetsAll}
use Rattle.goal_model.specs.declared.pattern.PatternKind.{PatternKind}
use Rattle.goal_model.specs.declared.pattern.PatternKind.TheVariants.{Milestone, Cases, Guard, Split, Induction}
use Rattle.goal_model.specs.SmallLists.{is_small_list}
use Rattle.goal_model.specs.Patterns.{pattern_named}
use Rattle.goal_model.proofs.MeasuredLists.{small_tested}
use Rattle.pattern_library.specs.Patterns.{PatternForm, pattern_of, pattern_list}
use Rattle.pattern_library.specs.PatternNames.{pattern_name}
use Rattle.pattern_library.specs.Instances.{placeholder_sizes}
use Rattle.pattern_library.specs.PatternQueries.{pattern_cores, AreInstance}
use Rattle.pattern_library.proofs.FivePatterns.{library_refuted, library_over}
use Rattle.pattern_library.proofs.Substitution.{instances_refuted}
use Rattle.pattern_library.proofs.Placeholders.{query_met}

pub query_refuted : (kind : PatternKind) (t : Trace) → IsPeriodic (placeholder_sizes (pattern_of kind)) t → ¬ (MeetsAll t (pattern_cores (pattern_of kind)))
query_refuted kind t per meets = library_refuted t kind (query_met (pattern_of kind) (library_over kind) t per meets)

pub instance_refuted : (kind : PatternKind) (list : List Ltl) → AreInstance kind list → (sizes : List ℕ) (t : Trace) → IsPeriodic sizes t → (others : List Ltl) → ¬ (Meets t (others ++ list))
instance_refuted kind list (parent, subgoals, formulas, is, match) sizes t per others meets =
    instances_refuted (pattern_of kind) (library_over kind) (λ u over. library_refuted u kind) parent subgoals formulas match sizes t per others
    (subst (Meets t) (ap (λ (fs : List Ltl). others ++ fs) is ∙ sym (append_assoc others subgoals (neg parent ∷ []))) meets)

-- the name of a pattern is taken for it
pub name_taken : (kind : PatternKind) → pattern_named (pattern_name kind) ≡ Some kind
name_taken Milestone = refl
name_taken Cases = refl
name_taken Guard = refl
name_taken Split = refl
name_taken Induction = refl

-- their lists are small
is_small : (kind : PatternKind) → is_small_list (placeholder_sizes (pattern_of kind)) (pattern_list (pattern_of kind)) ≡ true
is_small Milestone = refl
is_small Cases = refl
is_small Guard = refl
is_small Split = refl
is_small Induction = refl

pub library_small : (p : PatternForm) (kind : PatternKind) → p ≡ pattern_of kind → AreSmall (placeholder_sizes p) (pattern_list p)
library_small p kind is =
    subst (λ (q : PatternForm). AreSmall (placeholder_sizes q) (pattern_list q)) (sym is) ((small_tested (placeholder_sizes (pattern_of kind)) (pattern_list (pattern_of kind))).0 (is_small kind))

few_of : (kind : PatternKind) → (pattern_of kind).placeholders ≤ 40
few_of Milestone = omega arith
few_of Cases = omega arith
few_of Guard = omega arith
few_of Split = omega arith
few_of Induction = omega arith

pub library_few : (p : PatternForm) (kind : PatternKind) → p ≡ pattern_of kind → p.placeholders ≤ 40
library_few p kind is = subst (λ (q : PatternForm). q.placeholders ≤ 40) (sym is) (few_of kind)
