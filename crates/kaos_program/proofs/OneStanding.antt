-- A candidate stands in one way under a budget.
use Rattle.std.proofs.Common.{◌≡◌, ℕ, List, [], ◌∷◌, refl, sym, ap, ◌∙◌, arith}
use Rattle.std.specs.List.{AllZip}
use Rattle.bound_unfolding.specs.CoreForm.{CoreForm}
use Rattle.tableau_rules.specs.Graphs.{IsWithin, IsLarger}
use Rattle.tableau_rules.proofs.Sizes.{size_over}
use Rattle.goal_model.specs.Models.{ModelForm, sizes_of}
use Rattle.obstacle_regression.specs.declared.standing.Standing.{Standing}
use Rattle.obstacle_regression.specs.declared.standing.Standing.TheVariants.{Possible, Impossible, Withheld}
use Rattle.obstacle_regression.specs.Standings.{StandsSo, candidate_query}

module _ (m : ModelForm) (budget : ℕ) where
  -- no size is both within the budget and over it
  not_both : (c : CoreForm) → IsWithin (sizes_of m) (candidate_query m c) budget → IsLarger (sizes_of m) (candidate_query m c) budget → ⊥
  not_both c (size, has, few) larger = let over = size_over (sizes_of m) (candidate_query m c) size budget has larger in omega (arith, few, over)

  one_standing : (c : CoreForm) (s r : Standing) → StandsSo m budget c s → StandsSo m budget c r → s ≡ r
  one_standing c Possible Possible a b = refl
  one_standing c Possible Impossible a b = absurd (b.0 a.0)
  one_standing c Possible (Withheld n) a b = absurd (not_both c a.1 b.1)
  one_standing c Impossible Possible a b = absurd (a.0 b.0)
  one_standing c Impossible Impossible a b = refl
  one_standing c Impossible (Withheld n) a b = absurd (not_both c a.1 b.1)
  one_standing c (Withheld n) Possible a b = absurd (not_both c b.1 a.1)
  one_standing c (Withheld n) Impossible a b = absurd (not_both c b.1 a.1)
  one_standing c (Withheld n) (Withheld k) a b = ap (λ (x : ℕ). Withheld x) (a.0 ∙ sym b.0)

  -- and so do all of a list
  pub same_standings : (cs : List CoreForm) (ss rs : List Standing) → AllZip (StandsSo m budget) cs ss → AllZip (StandsSo m budget) cs rs → ss ≡ rs
  same_standings [] [] [] a b = refl
  same_standings [] [] (r ∷ rs) a b = absurd b
  same_standings [] (s ∷ ss) rs a b = absurd a
  same_standings (c ∷ cs) [] rs a b = absurd a
  same_standings (c ∷ cs) (s ∷ ss) [] a b = absurd b
  same_standings (c ∷ cs) (s ∷ ss) (r ∷ rs) a b =
      let first = one_standing c s r a.0 b.0 in
      let rest = same_standings cs ss rs a.1 b.1 in
      cc (first, rest)
