-- Where the first core is too large, nothing is found.
use Rattle.std.proofs.Common.{◌≡◌, ℕ, zero, suc, true, [], IsFalse, refl, ap, ◌∙◌}
use Rattle.std.proofs.lemmas.Bool.{cond-false}
use Rattle.bound_unfolding.specs.CoreForm.{CoreForm}
use Rattle.obstacle_regression.specs.Candidates.{DomainCores, FoundForm, is_small, with_levels, candidates}

abbrev none : FoundForm
none = record { list = []; more = true }

none_stays : (d : DomainCores) (depth : ℕ) → with_levels d depth 0 none ≡ none
none_stays d zero = refl
none_stays d (suc depth) = none_stays d depth

pub nothing_found : (d : DomainCores) (first : CoreForm) (depth : ℕ) → IsFalse (is_small d.beside first) → candidates d first depth ≡ record { list = []; more = true }
nothing_found d first depth large = ap (with_levels d depth 0) (cond-false _ _ _ large) ∙ none_stays d depth
