-- The regression of a goal over the rules of a domain: from the negative core of the goal, by the positive cores of the rules.
use Rattle.std.specs.Prelude.{ℕ, ◌+◌, true, false, List, [], ◌∷◌, map, filter, flat_map, slice_index_or}
use Rattle.temporal_logic.specs.Ltl.{Ltl, entails}
use Rattle.bound_unfolding.specs.CoreForm.{CoreForm, nodes}
use Rattle.bound_unfolding.specs.CoreTree.{core_tree}
use Rattle.goal_model.specs.Models.{ModelForm, sizes_of}
use Rattle.goal_model.specs.Items.{no_goal}
use Rattle.bound_unfolding.specs.CoreLists.{cores_of}
use Rattle.obstacle_regression.specs.Candidates.{RuleCores, DomainCores, FoundForm, candidates}

-- a rule of the domain: `cause entails effect`
pub record RuleForm : Type 0 where
  pub cause : Ltl
  pub effect : Ltl

abbrev pub rule_formula : RuleForm → Ltl
rule_formula r = entails r.cause r.effect

-- a formula of this form is a rule; another one is none
abbrev pub rule_from : Ltl → List RuleForm
rule_from (entails a b) = record { cause = a; effect = b } ∷ []
rule_from _ = []

abbrev pub rules_among : List Ltl → List RuleForm
rules_among formulas = flat_map rule_from formulas

abbrev pub rule_cores : List ℕ → RuleForm → RuleCores
rule_cores sizes r = record { cause = core_tree sizes true r.cause; effect = core_tree sizes true r.effect }

-- the nodes of cores
abbrev pub total_nodes : List CoreForm → ℕ
total_nodes [] = 0
total_nodes (c ∷ cs) = nodes c + total_nodes cs

-- rules over variables of these sizes, and formulas that a candidate has beside it
abbrev pub domain_cores : List ℕ → (rules : List RuleForm) → (beside : List Ltl) → DomainCores
domain_cores sizes rules beside = record { rules = map (rule_cores sizes) rules; beside = total_nodes (cores_of sizes beside) }

abbrev pub regression : List ℕ → (rules : List RuleForm) → (beside : List Ltl) → (goal : Ltl) → (depth : ℕ) → FoundForm
regression sizes rules beside goal depth = candidates (domain_cores sizes rules beside) (core_tree sizes false goal) depth

-- the rules of a model, in the order of the text
abbrev pub rule_formulas : ModelForm → List Ltl
rule_formulas m = map (λ p. p.formula) (filter (λ p. p.is_rule) m.domains)

-- the domain properties of a model, rules among them
abbrev pub domain_formulas : ModelForm → List Ltl
domain_formulas m = map (λ p. p.formula) m.domains

-- the regression of a model's goal through some rules, with some formulas beside
abbrev pub regression_through : ModelForm → (goal : ℕ) → (rules beside : List Ltl) → (depth : ℕ) → FoundForm
regression_through m goal rules beside depth =
    regression (sizes_of m) (rules_among rules) beside (slice_index_or m.goals goal no_goal).formula depth

-- the regression of a model's goal over the model's own rules, with the domain properties beside
abbrev pub goal_regression : ModelForm → (goal depth : ℕ) → FoundForm
goal_regression m goal depth = regression_through m goal (rule_formulas m) (domain_formulas m) depth
