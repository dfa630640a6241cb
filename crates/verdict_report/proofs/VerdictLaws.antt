-- A right verdict tells how its demand stands, and there is only one.
use Rattle.std.proofs.Common.{◌≡◌, ℕ, Bool, List, Some, None, refl, sym, ap, subst, ◌∙◌, arith}
use Rattle.std.specs.Prelude.{Option}
use Rattle.temporal_logic.specs.Ltl.{Ltl}
use Rattle.temporal_logic.specs.Lassos.{trace_of}
use Rattle.temporal_logic.proofs.Fitting.{lasso_is_periodic}
use Rattle.temporal_logic.specs.declared.lasso.Lasso.{Lasso}
use Rattle.tableau_rules.specs.declared.answer.Answer.{Answer}
use Rattle.tableau_rules.specs.declared.answer.Answer.TheVariants.{Empty, Found, Withheld}
use Rattle.tableau_rules.specs.Graphs.{IsWithin, IsLarger}
use Rattle.tableau_rules.proofs.Sizes.{size_over}
use Rattle.goal_model.specs.declared.item.Part.{Part}
use Rattle.goal_model.specs.declared.item.Wanted.{Wanted}
use Rattle.goal_model.specs.declared.item.Wanted.TheVariants.{NoTrace, SomeTrace}
use Rattle.goal_model.specs.declared.pattern.PatternKind.{PatternKind}
use Rattle.goal_model.specs.Models.{ModelForm, sizes_of}
use Rattle.goal_model.specs.Conditions.{HasTrace}
use Rattle.agent_capabilities.specs.declared.cover.Cover.{Cover}
use Rattle.agent_capabilities.specs.declared.cover.Cover.TheVariants.{Covered, NotMonitored, NotControlled}
use Rattle.agent_capabilities.specs.Coverage.{cover_of}
use Rattle.verdict_report.specs.declared.report.Verdict.{Verdict}
use Rattle.verdict_report.specs.declared.report.Verdict.TheVariants as verdicts
use Rattle.verdict_report.specs.declared.report.Evidence.{Evidence}
use Rattle.verdict_report.specs.Deciding.{formulas_of, IsDecidedBy, deciding_sizes, deciding_cores}
use Rattle.verdict_report.specs.Verdicts.{IsFound, verdict_of, IsRight, cover_verdict, IsRightCover}
use Rattle.verdict_report.specs.Laws.{Tells}

module _ (m : ModelForm) (budget : ℕ) (parts : List (Part × Bool)) (named by : Option PatternKind) (decided : IsDecidedBy (formulas_of m parts) named by) where
  -- a lasso that is found is a trace that meets the parts
  found_trace : (l : Lasso) → IsFound m by budget parts (Found l) → HasTrace m parts
  found_trace l f = (trace_of l, lasso_is_periodic (sizes_of m) l f.0, f.1)

  -- what a verdict tells, by what is found
  told : (wanted : Wanted) (a : Answer) → IsFound m by budget parts a → Tells m budget wanted parts named (verdict_of wanted a)
  told NoTrace (Empty cert) (none, size, has, few, valid, short) = (none, (by, decided, (size, has, few)))
  told SomeTrace (Empty cert) (none, size, has, few, valid, short) = (none, (by, decided, (size, has, few)))
  told NoTrace (Found l) f = ((λ none. none (found_trace l f)), (by, decided, f.2))
  told SomeTrace (Found l) f = (found_trace l f, (by, decided, f.2))
  told NoTrace (Withheld number) f = (f.0, (by, decided, f.1))
  told SomeTrace (Withheld number) f = (f.0, (by, decided, f.1))

  -- no size is both within the budget and over it
  not_both : IsWithin (deciding_sizes m by) (deciding_cores m by parts) budget → IsLarger (deciding_sizes m by) (deciding_cores m by parts) budget → ⊥
  not_both (size, has, few) larger = let over = size_over (deciding_sizes m by) (deciding_cores m by parts) size budget has larger in omega (arith, few, over)

  -- two things that are found give the same verdict
  same_verdict : (wanted : Wanted) (a b : Answer) → IsFound m by budget parts a → IsFound m by budget parts b → verdict_of wanted a ≡ verdict_of wanted b
  same_verdict NoTrace (Empty cert) (Empty other) f g = refl
  same_verdict SomeTrace (Empty cert) (Empty other) f g = refl
  same_verdict NoTrace (Found l) (Found k) f g = refl
  same_verdict SomeTrace (Found l) (Found k) f g = refl
  same_verdict NoTrace (Withheld n) (Withheld k) f g = ap (λ (x : ℕ). verdicts.Withheld x) (f.0 ∙ sym g.0)
  same_verdict SomeTrace (Withheld n) (Withheld k) f g = ap (λ (x : ℕ). verdicts.Withheld x) (f.0 ∙ sym g.0)
  same_verdict wanted (Empty cert) (Found l) f g = absurd (f.0 (found_trace l g))
  same_verdict wanted (Found l) (Empty cert) f g = absurd (g.0 (found_trace l f))
  same_verdict wanted (Empty cert) (Withheld k) (none, size, has, few, valid, short) g = absurd (not_both (size, has, few) g.1)
  same_verdict wanted (Withheld n) (Empty cert) f (none, size, has, few, valid, short) = absurd (not_both (size, has, few) f.1)
  same_verdict wanted (Found l) (Withheld k) f g = absurd (not_both f.2 g.1)
  same_verdict wanted (Withheld n) (Found l) f g = absurd (not_both g.2 f.1)

-- what a right verdict tells
pub right_tells : (m : ModelForm) (budget : ℕ) (wanted : Wanted) (parts : List (Part × Bool)) (named : Option PatternKind) (verdict : Verdict) (evidence : Evidence)
    → IsRight m budget wanted parts named verdict evidence → Tells m budget wanted parts named verdict
right_tells m budget wanted parts named verdict evidence right =
    subst (Tells m budget wanted parts named) (sym right.verdict) (told m budget parts named right.by right.decided wanted right.answer right.found)

-- one pattern decides, or none
one_decider : (list : List Ltl) (named by other : Option PatternKind) → IsDecidedBy list named by → IsDecidedBy list named other → by ≡ other
one_decider list None None None a b = refl
one_decider list None None (Some other) a b = absurd b
one_decider list None (Some by) other a b = absurd a
one_decider list (Some kind) None None a b = refl
one_decider list (Some kind) None (Some other) a b = absurd (a b.1)
one_decider list (Some kind) (Some by) None a b = absurd (b a.1)
one_decider list (Some kind) (Some by) (Some other) a b = ap (λ (k : PatternKind). Some k) (a.0 ∙ sym b.0)

-- two right verdicts are the same
pub one_right : (m : ModelForm) (budget : ℕ) (wanted : Wanted) (parts : List (Part × Bool)) (named : Option PatternKind) (first second : Verdict) (shown other : Evidence)
    → IsRight m budget wanted parts named first shown → IsRight m budget wanted parts named second other → first ≡ second
one_right m budget wanted parts named first second shown other a b =
    let same = one_decider (formulas_of m parts) named a.by b.by a.decided b.decided in
    let theirs : IsFound m a.by budget parts b.answer = subst (λ (by : Option PatternKind). IsFound m by budget parts b.answer) (sym same) b.found in
    a.verdict ∙ same_verdict m budget parts named a.by a.decided wanted a.answer b.answer a.found theirs ∙ sym b.verdict

-- what an agent lacks or not gives one verdict
same_cover : (c d : Cover) → cover_of c ≡ cover_of d → cover_verdict c ≡ cover_verdict d
same_cover Covered Covered e = refl
same_cover Covered (NotMonitored y) e = absurd cc
same_cover Covered (NotControlled y) e = absurd cc
same_cover (NotMonitored x) Covered e = absurd cc
same_cover (NotMonitored x) (NotMonitored y) e = refl
same_cover (NotMonitored x) (NotControlled y) e = refl
same_cover (NotControlled x) Covered e = absurd cc
same_cover (NotControlled x) (NotMonitored y) e = refl
same_cover (NotControlled x) (NotControlled y) e = refl

-- two right verdicts on an assignment are the same
pub one_cover : (m : ModelForm) (goal agent : ℕ) (first second : Verdict) (shown other : Evidence) → IsRightCover m goal agent first shown → IsRightCover m goal agent second other → first ≡ second
one_cover m goal agent first second shown other a b = a.verdict ∙ same_cover a.cover b.cover (a.covers ∙ sym b.covers) ∙ sym b.verdict
