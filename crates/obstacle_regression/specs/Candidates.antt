-- Obstacle candidates, found level by level from a first one over the rules of a domain.
use Rattle.std.specs.Prelude.{ℕ, zero, suc, ◌+◌, Bool, true, false, nat_lt, nat_le, ◌&&◌, List, [], ◌∷◌, ◌++◌, length, map, drop, filter, fold, flat_map, if◌then◌else◌}
use Rattle.std.specs.List.{list_any}
use Rattle.bound_unfolding.specs.CoreForm.{CoreForm, nodes, levels}
use Rattle.formula_table.specs.Closures.{is_same, closure_of}
use Rattle.obstacle_regression.specs.Replacements.{gives, replaced}

-- a rule: where its cause is true, its effect is
pub record RuleCores : Type 0 where
  pub cause : CoreForm
  pub effect : CoreForm

-- the rules in order, and the nodes of the domain properties, those of the rules among them
pub record DomainCores : Type 0 where
  pub rules : List RuleCores
  pub beside : ℕ

-- the candidates so far, and whether one was left out
pub record FoundForm : Type 0 where
  pub list : List CoreForm
  pub more : Bool

-- a rule's effect gives a subformula of a core, and so the core with the rule's cause in place of it is given: rule by rule
abbrev pub given_for : List RuleCores → CoreForm → CoreForm → List CoreForm
given_for rules c l = map (λ r. replaced l r.cause c) (filter (λ r. gives r.effect l) rules)

-- what is given of a core, for each of its subformulas in the closure's order
abbrev pub given_by : List RuleCores → CoreForm → List CoreForm
given_by rules c = flat_map (given_for rules c) (closure_of (c ∷ []))

-- at most 4,096 nodes with those beside it, and at most 1,000 levels
abbrev pub is_small : ℕ → CoreForm → Bool
is_small beside c = nat_le (beside + nodes c) 4096 && nat_le (levels c) 1000

-- a core that is there already changes nothing; another one comes at the end, where there are fewer than 200 and it is small; else it is
-- left out
abbrev pub with_candidate : ℕ → FoundForm → CoreForm → FoundForm
with_candidate beside found c =
    if list_any (is_same c) found.list then found else
    if nat_lt (length found.list) 200 && is_small beside c then record { list = found.list ++ c ∷ []; more = found.more } else
    record { list = found.list; more = true }

abbrev pub with_candidates : ℕ → FoundForm → List CoreForm → FoundForm
with_candidates beside found cores = fold (with_candidate beside) found cores

-- the candidates from a place on are those of one level: what is given of them, in order, makes the next level; and so on, so many times
abbrev pub with_levels : DomainCores → ℕ → (place : ℕ) → FoundForm → FoundForm
with_levels d zero place found = found
with_levels d (suc depth) place found =
    with_levels d depth (length found.list) (with_candidates d.beside found (flat_map (given_by d.rules) (drop place found.list)))

-- level 0 is the first candidate alone
abbrev pub candidates : DomainCores → CoreForm → (depth : ℕ) → FoundForm
candidates d first depth = with_levels d depth 0 (with_candidate d.beside (record { list = []; more = false }) first)
