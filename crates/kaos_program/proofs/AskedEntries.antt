-- The entries of all that is asked are right where the answers are valid.
use Rattle.std.proofs.Common.{ℕ, List, [], ◌∷◌, Some, None, refl, sym, ap, subst}
use Rattle.std.specs.Prelude.{All, Option}
use Rattle.std.specs.List.{AllZip}
use Rattle.state_space.specs.Ranges.{IsGoodRange}
use Rattle.temporal_logic.specs.Ltl.{Ltl}
use Rattle.goal_model.specs.declared.item.Wanted.{Wanted}
use Rattle.goal_model.specs.declared.pattern.PatternKind.{PatternKind}
use Rattle.tableau_rules.specs.declared.answer.Answer.{Answer}
use Rattle.tableau_rules.specs.Answers.{IsValidAnswer}
use Rattle.goal_model.specs.Models.{ModelForm, sizes_of}
use Rattle.pattern_library.specs.Patterns.{pattern_of}
use Rattle.pattern_library.specs.Instances.{placeholder_sizes}
use Rattle.pattern_library.specs.PatternQueries.{pattern_cores, AreInstance}
use Rattle.verdict_report.specs.Deciding.{formulas_of, IsDecidedBy, query_cores}
use Rattle.verdict_report.specs.Verdicts.{verdict_of, evidence_of, IsRight}
use Rattle.verdict_report.specs.Reports.{Question, of_traces, of_agent, IsEntry}
use Rattle.kaos_program.specs.declared.asking.Asked.{Asked}
use Rattle.kaos_program.specs.declared.asking.Asked.TheVariants.{Demand as DemandAsked, Instance, Assignment}
use Rattle.kaos_program.specs.Asking.{IsAsked, demands_in, patterns_in, query_asked, entries_of}
use Rattle.kaos_program.proofs.FoundAnswers.{found, found_by_pattern}

-- formulas that a pattern decides are those of an instance
instance_decided : (list : List Ltl) (named : Option PatternKind) (kind : PatternKind) → IsDecidedBy list named (Some kind) → AreInstance kind list
instance_decided list None kind decided = absurd decided
instance_decided list (Some other) kind decided = subst (λ (k : PatternKind). AreInstance k list) (sym decided.0) decided.1

-- an answer to a pattern's query is valid
abbrev pub IsPatternAnswer : ℕ → PatternKind → Answer → Type 0
IsPatternAnswer budget kind a = IsValidAnswer (placeholder_sizes (pattern_of kind)) (pattern_cores (pattern_of kind)) budget a

module _ (m : ModelForm) (good : All IsGoodRange m.ranges) (budget : ℕ) where
  pub entries_right : (qs : List Question) (asked : List Asked) (vs ps : List Answer) → AllZip (IsAsked m) qs asked → AllZip (λ d a. IsValidAnswer (sizes_of m) (query_asked m d) budget a) (demands_in asked) vs
      → AllZip (IsPatternAnswer budget) (patterns_in asked) ps → AllZip (IsEntry m budget) qs (entries_of asked vs ps)
  entries_right [] [] vs ps is valid patterns = tt
  entries_right [] (one ∷ asked) vs ps is valid patterns = absurd is
  entries_right (q ∷ qs) [] vs ps is valid patterns = absurd is
  entries_right (of_traces label parts wanted named ∷ qs) (DemandAsked d ∷ asked) [] ps is valid patterns = absurd valid
  entries_right (of_traces label parts wanted named ∷ qs) (DemandAsked d ∷ asked) (a ∷ vs) ps is valid patterns =
      let of_demand = is.0.0 in
      let answer = subst (λ (list : List Ltl). IsValidAnswer (sizes_of m) (query_cores m list) budget a) of_demand.1 valid.0 in
      let right : IsRight m budget wanted parts named (verdict_of d.wanted a) (evidence_of None a) = record {
        by = None;
        decided = is.0.1;
        answer = a;
        found = found m budget parts good of_demand.3.fit a answer;
        verdict = ap (λ (w : Wanted). verdict_of w a) of_demand.2;
        evidence = refl;
      } in
      ((of_demand.0, ap (λ (w : Wanted). Some w) of_demand.2, right), entries_right qs asked vs ps is.1 valid.1 patterns)
  entries_right (of_traces label parts wanted named ∷ qs) (Instance d kind ∷ asked) vs [] is valid patterns = absurd patterns
  entries_right (of_traces label parts wanted named ∷ qs) (Instance d kind ∷ asked) vs (a ∷ ps) is valid patterns =
      let of_demand = is.0.0 in
      let right : IsRight m budget wanted parts named (verdict_of d.wanted a) (evidence_of (Some kind) a) = record {
        by = Some kind;
        decided = is.0.1;
        answer = a;
        found = found_by_pattern m budget parts kind (instance_decided (formulas_of m parts) named kind is.0.1) a patterns.0;
        verdict = ap (λ (w : Wanted). verdict_of w a) of_demand.2;
        evidence = refl;
      } in
      ((of_demand.0, ap (λ (w : Wanted). Some w) of_demand.2, right), entries_right qs asked vs ps is.1 valid patterns.1)
  entries_right (of_traces label parts wanted named ∷ qs) (Assignment l cover ∷ asked) vs ps is valid patterns = absurd is.0
  entries_right (of_agent label goal agent ∷ qs) (DemandAsked d ∷ asked) vs ps is valid patterns = absurd is.0
  entries_right (of_agent label goal agent ∷ qs) (Instance d kind ∷ asked) vs ps is valid patterns = absurd is.0
  entries_right (of_agent label goal agent ∷ qs) (Assignment l cover ∷ asked) vs ps is valid patterns =
      ((is.0.0, refl, record { cover = cover; covers = is.0.1; verdict = refl; evidence = refl }), entries_right qs asked vs ps is.1 valid patterns)
