-- From valid answers to what is found of the parts that demands are of.
use Rattle.std.proofs.Common.{ℕ, Bool, List, Some, None, map}
use Rattle.std.specs.Prelude.{All}
use Rattle.state_space.specs.Ranges.{IsGoodRange}
use Rattle.temporal_logic.specs.Fits.{Fits}
use Rattle.temporal_logic.specs.Lassos.{trace_of}
use Rattle.temporal_logic.proofs.Fitting.{lasso_is_periodic}
use Rattle.tableau_rules.specs.declared.answer.Answer.{Answer}
use Rattle.tableau_rules.specs.declared.answer.Answer.TheVariants.{Empty, Found, Withheld}
use Rattle.tableau_rules.specs.Answers.{IsValidAnswer}
use Rattle.tableau_rules.proofs.Eliminations.{certificate_law}
use Rattle.entailment.proofs.Queries.{query_law}
use Rattle.goal_model.specs.Models.{PropertyForm, ModelForm, sizes_of}
use Rattle.goal_model.specs.declared.item.Part.{Part}
use Rattle.goal_model.specs.declared.pattern.PatternKind.{PatternKind}
use Rattle.goal_model.specs.Items.{list_of}
use Rattle.goal_model.specs.Conditions.{HasTrace}
use Rattle.operationalisation.proofs.PartTruth.{list_met}
use Rattle.pattern_library.specs.Patterns.{pattern_of}
use Rattle.pattern_library.specs.Instances.{placeholder_sizes}
use Rattle.pattern_library.specs.PatternQueries.{pattern_cores, AreInstance}
use Rattle.pattern_library.proofs.LibraryLaws.{query_refuted, instance_refuted}
use Rattle.verdict_report.specs.Deciding.{formulas_of, demand_cores}
use Rattle.verdict_report.specs.Verdicts.{IsFound}

module _ (m : ModelForm) (budget : ℕ) (parts : List (Part × Bool)) where
  -- what a valid answer to the query of parts shows of them
  pub found : All IsGoodRange m.ranges → All (Fits m.ranges) (list_of m parts) → (a : Answer) → IsValidAnswer (sizes_of m) (demand_cores m parts) budget a → IsFound m None budget parts a
  found good fit (Empty cert) (size, has, few, valid, short) =
      let none = λ (t : HasTrace m parts). certificate_law (sizes_of m) (demand_cores m parts) _ valid t.0 t.1.fits ((query_law m.ranges good (list_of m parts) fit t.0 t.1).1 ((list_met m t.0 parts).1 t.2)) in
      (none, size, has, few, valid, short)
  found good fit (Found l) (within, of_space, meets) =
      (of_space, (list_met m (trace_of l) parts).0 ((query_law m.ranges good (list_of m parts) fit (trace_of l) (lasso_is_periodic (sizes_of m) l of_space)).0 meets), within)
  found good fit (Withheld number) valid = valid

  -- what a valid answer to the query of a pattern shows of parts that are of an instance
  pub found_by_pattern : (kind : PatternKind) → AreInstance kind (formulas_of m parts) → (a : Answer) → IsValidAnswer (placeholder_sizes (pattern_of kind)) (pattern_cores (pattern_of kind)) budget a
      → IsFound m (Some kind) budget parts a
  found_by_pattern kind instance (Empty cert) (size, has, few, valid, short) =
      let none = λ (t : HasTrace m parts). instance_refuted kind (formulas_of m parts) instance (sizes_of m) t.0 t.1 (map (λ (p : PropertyForm). p.formula) m.domains) ((list_met m t.0 parts).1 t.2) in
      (none, size, has, few, valid, short)
  found_by_pattern kind instance (Found l) (within, of_space, meets) = absurd (query_refuted kind (trace_of l) (lasso_is_periodic (placeholder_sizes (pattern_of kind)) l of_space) meets)
  found_by_pattern kind instance (Withheld number) valid = valid
