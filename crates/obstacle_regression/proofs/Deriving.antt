-- Each candidate is derived from the first one.
use Rattle.std.proofs.Common.{◌≡◌, ℕ, zero, suc, ◌<◌, Bool, true, false, List, [], ◌∷◌, ◌++◌, length, get_or, drop, refl, sym, subst, arith}
use Rattle.std.specs.Prelude.{All, Contains, filter, flat_map, nat_lt, ◌&&◌}
use Rattle.std.specs.List.{list_any}
use Rattle.std.proofs.lemmas.List.Elements.{All-nil, All-append, All-push, All-head, All-tail, All-map, All-drop, All-filter, All-contains, All-contains_itself, filter_passes}
use Rattle.bound_unfolding.specs.CoreForm.{CoreForm}
use Rattle.formula_table.specs.Closures.{is_same, formula_at, closure_of}
use Rattle.formula_table.specs.Tables.{IsSubformula}
use Rattle.formula_table.proofs.Tests.{cond_case}
use Rattle.formula_table.proofs.Cores.{core_only}
use Rattle.obstacle_regression.specs.Replacements.{gives, replaced}
use Rattle.obstacle_regression.specs.Candidates.{RuleCores, DomainCores, FoundForm, given_for, given_by, is_small, with_candidate, with_candidates, with_levels, candidates}
use Rattle.obstacle_regression.specs.Derivations.{IsDerived, is_first, is_given}

-- ---- lists
pub All-flat_map : {X Y : Type 0} (P : Y → Type 0) (f : X → List Y) (xs : List X) → All (λ x. All P (f x)) xs → All P (flat_map f xs)
All-flat_map P f [] h = All-nil P
All-flat_map P f (x ∷ xs) h =
    All-append P (f x) (flat_map f xs) (All-head (λ y. All P (f y)) x xs h) (All-flat_map P f xs (All-tail (λ y. All P (f y)) x xs h))

at_is : (xs : List CoreForm) (k : ℕ) (e : CoreForm) → k < length xs → get_or xs k e ≡ formula_at xs k
at_is [] k e l = absurd (omega arith)
at_is (x ∷ xs) zero e l = refl
at_is (x ∷ xs) (suc k) e l = at_is xs k e (omega arith)

pub closure_stands : (c : CoreForm) → All (λ l. IsSubformula l c) (closure_of (c ∷ []))
closure_stands c k e l = subst (λ z. IsSubformula z c) (sym (at_is (closure_of (c ∷ [])) k e l)) (core_only c [] k (omega arith) l)

module _ (rules : List RuleCores) (beside : ℕ) (first : CoreForm) where
  abbrev Derived : CoreForm → Type 0
  Derived c = IsDerived rules first c

  -- ---- what is given of a derived core is derived
  given_for_derived : (c l : CoreForm) → Derived c → IsSubformula l c → All Derived (given_for rules c l)
  given_for_derived c l derived inside =
      let test : RuleCores → Bool = λ r. gives r.effect l in
      All-map Derived (λ r. replaced l r.cause c) (filter test rules)
      (λ k e o. is_given c l (get_or (filter test rules) k e) derived inside (All-filter test (Contains rules) rules (All-contains_itself rules) k e o) (filter_passes test rules k e o))

  given_by_derived : (c : CoreForm) → Derived c → All Derived (given_by rules c)
  given_by_derived c derived =
      All-flat_map Derived (given_for rules c) (closure_of (c ∷ []))
      (λ k e o. given_for_derived c (get_or (closure_of (c ∷ [])) k e) derived (closure_stands c k e o))

  level_derived : (cores : List CoreForm) → All Derived cores → All Derived (flat_map (given_by rules) cores)
  level_derived cores derived = All-flat_map Derived (given_by rules) cores (λ k e o. given_by_derived (get_or cores k e) (derived k e o))

  -- ---- and so the list grows by derived cores alone
  abbrev HasDerived : FoundForm → Type 0
  HasDerived found = All Derived found.list

  one_more : (found : FoundForm) (c : CoreForm) → HasDerived found → Derived c → HasDerived (with_candidate beside found c)
  one_more found c old new =
      cond_case HasDerived (list_any (is_same c) found.list) found _
      (λ s. old)
      (λ n. cond_case HasDerived (nat_lt (length found.list) 200 && is_small beside c) (record { list = found.list ++ c ∷ []; more = found.more }) (record { list = found.list; more = true }) (λ s. All-push Derived found.list c old new) (λ m. old))

  all_more : (cores : List CoreForm) (found : FoundForm) → HasDerived found → All Derived cores → HasDerived (with_candidates beside found cores)
  all_more [] found old new = old
  all_more (c ∷ cs) found old new =
      all_more cs (with_candidate beside found c) (one_more found c old (All-head Derived c cs new)) (All-tail Derived c cs new)

module _ (d : DomainCores) (first : CoreForm) where
  levels_derived : (depth place : ℕ) (found : FoundForm) → HasDerived d.rules d.beside first found → HasDerived d.rules d.beside first (with_levels d depth place found)
  levels_derived zero place found old = old
  levels_derived (suc depth) place found old =
      let P : CoreForm → Type 0 = IsDerived d.rules first in
      let level = drop place found.list in
      levels_derived depth (length found.list) (with_candidates d.beside found (flat_map (given_by d.rules) level))
      (all_more d.rules d.beside first (flat_map (given_by d.rules) level) found old (level_derived d.rules d.beside first level (All-drop P place found.list old)))

  pub candidates_derived : (depth : ℕ) (c : CoreForm) → Contains (candidates d first depth).list c → IsDerived d.rules first c
  candidates_derived depth c h =
      let none : FoundForm = record { list = []; more = false } in
      let P : CoreForm → Type 0 = IsDerived d.rules first in
      All-contains P (candidates d first depth).list c (levels_derived depth 0 (with_candidate d.beside none first) (one_more d.rules d.beside first none first (All-nil P) is_first)) h
