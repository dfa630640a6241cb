-- The steps of a search: a part of a core, a candidate of a level, and a level.
use Rattle.std.proofs.Common.{◌≡◌, ℕ, suc, ◌+◌, ◌<◌, length, get_or, drop, drop-cons, arith, List, ◌∷◌, sym, ap, ◌∙◌}
use Rattle.std.specs.Prelude.{flat_map}
use Rattle.bound_unfolding.specs.CoreForm.{CoreForm}
use Rattle.obstacle_regression.specs.Candidates.{FoundForm, RuleCores, DomainCores, given_by, with_candidates, with_levels}
use Rattle.obstacle_regression.proofs.Settled.{many_then}

-- one candidate of a level more
pub level_step : (beside : ℕ) (rules : List RuleCores) (level : List CoreForm) (place : ℕ) (c : CoreForm) → place < length level → c ≡ get_or level place c
    → (mid new end : FoundForm) → new ≡ with_candidates beside mid (given_by rules c)
    → with_candidates beside mid (flat_map (given_by rules) (drop place level)) ≡ end
    → with_candidates beside new (flat_map (given_by rules) (drop (place + 1) level)) ≡ end
level_step beside rules level place c l at mid new end made rest =
    let more = flat_map (given_by rules) (drop (place + 1) level) in
    let one : place + 1 ≡ suc place = omega arith in
    let whole : drop place level ≡ c ∷ drop (place + 1) level = drop-cons level place c l ∙ ap (λ z. z ∷ drop (suc place) level) (sym at) ∙ ap (λ n. c ∷ drop n level) (sym one) in
    ap (λ z. with_candidates beside z more) made
    ∙ sym (many_then beside (given_by rules c) more mid)
    ∙ ap (λ z. with_candidates beside mid (flat_map (given_by rules) z)) (sym whole)
    ∙ rest

-- one level more
pub levels_step : (d : DomainCores) (n m place : ℕ) (mid new end : FoundForm) → n ≡ suc m
    → new ≡ with_candidates d.beside mid (flat_map (given_by d.rules) (drop place mid.list))
    → with_levels d n place mid ≡ end → with_levels d m (length mid.list) new ≡ end
levels_step d n m place mid new end e made rest = ap (with_levels d m (length mid.list)) made ∙ ap (λ k. with_levels d k place mid) (sym e) ∙ rest
