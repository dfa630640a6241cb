-- What each candidate has where the first core and the causes of the rules have it: it fits the ranges of the variables. And each is small.
use Rattle.std.proofs.Common.{◌≡◌, ℕ, zero, suc, true, false, List, [], ◌∷◌, ◌++◌, length, drop}
use Rattle.std.specs.Prelude.{All, flat_map, nat_lt, ◌&&◌}
use Rattle.std.specs.List.{list_any}
use Rattle.std.proofs.lemmas.List.Elements.{All-nil, All-push, All-contains}
use Rattle.state_space.specs.Ranges.{RangeForm}
use Rattle.bound_unfolding.specs.CoreForm.{CoreForm, core_true, core_false, lit, both, either, after, core_until, core_release}
use Rattle.bound_unfolding.specs.CoreTexts.{CoreFits}
use Rattle.formula_table.specs.Closures.{is_same}
use Rattle.formula_table.proofs.Tests.{cond_case, and_true}
use Rattle.obstacle_regression.specs.Replacements.{exchanged, replaced}
use Rattle.obstacle_regression.specs.Candidates.{RuleCores, DomainCores, FoundForm, given_by, is_small, with_candidate, with_candidates, with_levels, candidates}
use Rattle.obstacle_regression.specs.Derivations.{IsDerived, is_first, is_given}

module _ (ranges : List RangeForm) where
  -- ---- a core with one that fits in place of a part
  exchanged_fits : (l k c other : CoreForm) → CoreFits ranges k → CoreFits ranges other → CoreFits ranges (exchanged l k c other)
  exchanged_fits l k c other fit rest = cond_case (CoreFits ranges) (is_same c l) k other (λ s. fit) (λ n. rest)

  replaced_fits : (l k : CoreForm) → CoreFits ranges k → (c : CoreForm) → CoreFits ranges c → CoreFits ranges (replaced l k c)
  replaced_fits l k fit core_true h = exchanged_fits l k core_true core_true fit h
  replaced_fits l k fit core_false h = exchanged_fits l k core_false core_false fit h
  replaced_fits l k fit (lit x set) h = exchanged_fits l k (lit x set) (lit x set) fit h
  replaced_fits l k fit (both a b) h = exchanged_fits l k (both a b) (both (replaced l k a) (replaced l k b)) fit (replaced_fits l k fit a h.0, replaced_fits l k fit b h.1)
  replaced_fits l k fit (either a b) h = exchanged_fits l k (either a b) (either (replaced l k a) (replaced l k b)) fit (replaced_fits l k fit a h.0, replaced_fits l k fit b h.1)
  replaced_fits l k fit (after a) h = exchanged_fits l k (after a) (after (replaced l k a)) fit (replaced_fits l k fit a h)
  replaced_fits l k fit (core_until a b) h = exchanged_fits l k (core_until a b) (core_until (replaced l k a) (replaced l k b)) fit (replaced_fits l k fit a h.0, replaced_fits l k fit b h.1)
  replaced_fits l k fit (core_release a b) h = exchanged_fits l k (core_release a b) (core_release (replaced l k a) (replaced l k b)) fit (replaced_fits l k fit a h.0, replaced_fits l k fit b h.1)

  pub derived_fits : (rules : List RuleCores) (first : CoreForm) → CoreFits ranges first → All (λ r. CoreFits ranges r.cause) rules → (c : CoreForm) → IsDerived rules first c → CoreFits ranges c
  derived_fits rules first fit causes c (is_first) = fit
  derived_fits rules first fit causes c (is_given b l r before inside has given) =
      replaced_fits l r.cause (All-contains (λ (q : RuleCores). CoreFits ranges q.cause) rules r causes has) b (derived_fits rules first fit causes b before)

-- ---- each candidate is small
module _ (beside : ℕ) where
  abbrev AreSmall : FoundForm → Type 0
  AreSmall found = All (λ c. is_small beside c ≡ true) found.list

  one_small : (found : FoundForm) (c : CoreForm) → AreSmall found → AreSmall (with_candidate beside found c)
  one_small found c old =
      cond_case AreSmall (list_any (is_same c) found.list) found _ (λ s. old)
      (λ n. cond_case AreSmall (nat_lt (length found.list) 200 && is_small beside c) (record { list = found.list ++ c ∷ []; more = found.more }) (record { list = found.list; more = true })
      (λ s. All-push (λ c. is_small beside c ≡ true) found.list c old (and_true _ _ s).1) (λ m. old))

  many_small : (cores : List CoreForm) (found : FoundForm) → AreSmall found → AreSmall (with_candidates beside found cores)
  many_small [] found old = old
  many_small (c ∷ cs) found old = many_small cs (with_candidate beside found c) (one_small found c old)

levels_small : (d : DomainCores) (depth place : ℕ) (found : FoundForm) → AreSmall d.beside found → AreSmall d.beside (with_levels d depth place found)
levels_small d zero place found old = old
levels_small d (suc depth) place found old =
    levels_small d depth (length found.list) (with_candidates d.beside found (flat_map (given_by d.rules) (drop place found.list))) (many_small d.beside (flat_map (given_by d.rules) (drop place found.list)) found old)

pub candidates_small : (d : DomainCores) (first : CoreForm) (depth : ℕ) → All (λ c. is_small d.beside c ≡ true) (candidates d first depth).list
candidates_small d first depth =
    let none : FoundForm = record { list = []; more = false } in
    levels_small d depth 0 (with_candidate d.beside none first) (one_small d.beside none first (All-nil (λ c. is_small d.beside c ≡ true)))
