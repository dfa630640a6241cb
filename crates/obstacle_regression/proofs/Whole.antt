-- From what the steps of a search found to the regression.
use Rattle.std.proofs.Common.{◌≡◌, ℕ, ◌+◌, ◌≤◌, true, false, List, [], map, sym, ap, ◌∙◌, arith}
use Rattle.std.specs.Prelude.{min, nat_le, ◌&&◌}
use Rattle.std.proofs.lemmas.Bool.{leb-true, le-leb}
use Rattle.temporal_logic.specs.Ltl.{Ltl}
use Rattle.bound_unfolding.specs.CoreForm.{CoreForm, nodes, levels}
use Rattle.bound_unfolding.specs.CoreTree.{core_tree}
use Rattle.bound_unfolding.specs.CoreLists.{cores_of}
use Rattle.obstacle_regression.specs.Candidates.{RuleCores, FoundForm, is_small, with_candidate, with_levels}
use Rattle.obstacle_regression.specs.Regressions.{rules_among, rule_cores, total_nodes, domain_cores, regression}
use Rattle.obstacle_regression.proofs.Exchanges.{decided}
use Rattle.obstacle_regression.proofs.FirstLarge.{nothing_found}
use Rattle.obstacle_regression.proofs.Inside.{sizes_of_small}

-- a count of the nodes beside that stays at one over the limit tells as much
counted : (total : ℕ) (c : CoreForm) → is_small (min total 4097) c ≡ is_small total c
counted total c =
    ap (λ b. b && nat_le (levels c) 1000)
    (decided (nat_le (min total 4097 + nodes c) 4096) (nat_le (total + nodes c) 4096) (total + nodes c ≤ 4096) (λ e. omega (arith, leb-true (min total 4097 + nodes c) 4096 e), λ l. le-leb (min total 4097 + nodes c) 4096 (omega (arith, l))) (leb-true (total + nodes c) 4096, le-leb (total + nodes c) 4096))

module _ (sizes : List ℕ) (rules beside : List Ltl) (goal : Ltl) (depth count : ℕ) (count_is : count ≡ min (total_nodes (cores_of sizes beside)) 4097) where
  abbrev total : ℕ
  total = total_nodes (cores_of sizes beside)

  abbrev whole : FoundForm
  whole = regression sizes (rules_among rules) beside goal depth

  -- the first core is too large
  pub first_large : is_small count (core_tree sizes false goal) ≡ false → record { list = []; more = true } ≡ whole
  first_large large =
      sym (nothing_found (domain_cores sizes (rules_among rules) beside) (core_tree sizes false goal) depth (sym (counted total (core_tree sizes false goal)) ∙ ap (λ n. is_small n (core_tree sizes false goal)) (sym count_is) ∙ large))

  -- or it is taken, and then the levels
  pub first_taken : is_small count (core_tree sizes false goal) ≡ true → (cores : List RuleCores) → cores ≡ map (rule_cores sizes) (rules_among rules)
      → (first : CoreForm) → first ≡ core_tree sizes false goal → (b : ℕ) → b ≡ count
      → (none one last : FoundForm) → none ≡ record { list = []; more = false } → one ≡ with_candidate b none first
      → last ≡ with_levels (record { rules = cores; beside = b }) depth 0 one → last ≡ whole
  first_taken small cores cores_are first first_is b b_is none one last none_is one_is last_is =
      let exact : b ≡ total = omega (arith, b_is, count_is, (sizes_of_small count (core_tree sizes false goal) small).0) in
      let taken : one ≡ with_candidate total (record { list = []; more = false }) (core_tree sizes false goal) =
      one_is ∙ ap (λ n. with_candidate n none first) exact ∙ ap (λ f. with_candidate total f first) none_is ∙ ap (λ k. with_candidate total (record { list = []; more = false }) k) first_is in
      last_is
      ∙ ap (λ n. with_levels (record { rules = cores; beside = n }) depth 0 one) exact
      ∙ ap (λ rs. with_levels (record { rules = rs; beside = total }) depth 0 one) cores_are
      ∙ ap (λ f. with_levels (record { rules = map (rule_cores sizes) (rules_among rules); beside = total }) depth 0 f) taken

-- sizes and goal under other names
pub regression_same : (rules beside : List Ltl) (depth : ℕ) (s z : List ℕ) → s ≡ z → (g h : Ltl) → g ≡ h
    → regression s (rules_among rules) beside g depth ≡ regression z (rules_among rules) beside h depth
regression_same rules beside depth s z same g h is =
    ap (λ x. regression x (rules_among rules) beside g depth) same ∙ ap (λ x. regression z (rules_among rules) beside x depth) is
