-- What the choices of a core's rule are made of: its operands, less than it, and sets of its own variables.
use Rattle.std.proofs.Common.{◌≡◌, ℕ, ◌+◌, ◌<◌, Bool, true, false, List, [], ◌∷◌, ◌||◌, IsTrue, not, refl, arith}
use Rattle.std.specs.List.{AllByRecursion as Each}
use Rattle.bound_unfolding.specs.CoreForm.{CoreForm, core_true, core_false, lit, both, either, after, core_until, core_release, nodes}
use Rattle.formula_table.specs.Closures.{formula_at, number_in, operands}
use Rattle.tableau_rules.specs.Rules.{Change, Rule, step, changes, decided_true, decided_false, rule_of}
use Rattle.formula_table.proofs.Tests.{cond_case}
use Rattle.tableau_rules.proofs.Lists.{each_map}
use Rattle.tableau_rules.proofs.IndexSets.{AreBelow}

-- no core's rule is a step
abbrev pub is_step : Rule → Bool
is_step step = true
is_step _ = false

pub no_step : (now : List ℕ) (f : CoreForm) → IsTrue (not (is_step (rule_of now f)))
no_step now core_true = refl
no_step now core_false = refl
no_step now (lit x set) = refl
no_step now (both a b) = refl
no_step now (after a) = refl
no_step now (either a b) =
    let C : Rule → Type 0 = λ r. IsTrue (not (is_step r)) in
    cond_case C (decided_true now a || decided_true now b) _ _ (λ _. refl)
    (λ _. cond_case C (decided_false now a) _ _ (λ _. refl) (λ _. cond_case C (decided_false now b) _ _ (λ _. refl) (λ _. refl)))
no_step now (core_until a b) =
    let C : Rule → Type 0 = λ r. IsTrue (not (is_step r)) in
    cond_case C (decided_true now b) _ _ (λ _. refl) (λ _. cond_case C (decided_false now b) _ _ (λ _. refl) (λ _. refl))
no_step now (core_release a b) =
    let C : Rule → Type 0 = λ r. IsTrue (not (is_step r)) in
    cond_case C (decided_true now a) _ _ (λ _. refl) (λ _. cond_case C (decided_false now a) _ _ (λ _. refl) (λ _. refl))

-- until and release, whose rules put the core itself off to the next position
abbrev pub lasts : CoreForm → Bool
lasts (core_until a b) = true
lasts (core_release a b) = true
lasts _ = false

-- what holds of a core that lasts and of the operands holds of what the rule adds
pub rule_parts : (K : CoreForm → Type 0) (now : List ℕ) (f : CoreForm) → (IsTrue (lasts f) → K f) → Each K (operands f) → Each (λ c. Each K c.todo × Each K c.next) (changes (rule_of now f))
rule_parts K now core_true k h = ((tt, tt), tt)
rule_parts K now core_false k h = tt
rule_parts K now (lit x set) k h = ((tt, tt), tt)
rule_parts K now (both a b) k h = ((h, tt), tt)
rule_parts K now (after a) k h = ((tt, h), tt)
rule_parts K now (either a b) k h =
    let C : Rule → Type 0 = λ r. Each (λ c. Each K c.todo × Each K c.next) (changes r) in
    cond_case C (decided_true now a || decided_true now b) _ _ (λ _. ((tt, tt), tt))
    (λ _. cond_case C (decided_false now a) _ _ (λ _. (((h.1.0, tt), tt), tt))
    (λ _. cond_case C (decided_false now b) _ _ (λ _. (((h.0, tt), tt), tt)) (λ _. (((h.0, tt), tt), (((h.1.0, tt), tt), tt)))))
rule_parts K now (core_until a b) k h =
    let C : Rule → Type 0 = λ r. Each (λ c. Each K c.todo × Each K c.next) (changes r) in
    cond_case C (decided_true now b) _ _ (λ _. (((h.1.0, tt), tt), tt))
    (λ _. cond_case C (decided_false now b) _ _ (λ _. (((h.0, tt), (k refl, tt)), tt)) (λ _. (((h.1.0, tt), tt), (((h.0, tt), (k refl, tt)), tt))))
rule_parts K now (core_release a b) k h =
    let C : Rule → Type 0 = λ r. Each (λ c. Each K c.todo × Each K c.next) (changes r) in
    cond_case C (decided_true now a) _ _ (λ _. ((h, tt), tt))
    (λ _. cond_case C (decided_false now a) _ _ (λ _. (((h.1.0, tt), (k refl, tt)), tt)) (λ _. ((h, tt), (((h.1.0, tt), (k refl, tt)), tt))))

abbrev pub all_nodes : List CoreForm → ℕ
all_nodes [] = 0
all_nodes (c ∷ cs) = nodes c + all_nodes cs

-- a rule adds less than it takes away
pub rule_smaller : (now : List ℕ) (f : CoreForm) → Each (λ c. all_nodes c.todo < nodes f) (changes (rule_of now f))
rule_smaller now core_true = (omega arith, tt)
rule_smaller now core_false = tt
rule_smaller now (lit x set) = (omega arith, tt)
rule_smaller now (both a b) = (omega arith, tt)
rule_smaller now (after a) = (omega arith, tt)
rule_smaller now (either a b) =
    let C : Rule → Type 0 = λ r. Each (λ c. all_nodes c.todo < 1 + nodes a + nodes b) (changes r) in
    cond_case C (decided_true now a || decided_true now b) _ _ (λ _. (omega arith, tt))
    (λ _. cond_case C (decided_false now a) _ _ (λ _. (omega arith, tt))
    (λ _. cond_case C (decided_false now b) _ _ (λ _. (omega arith, tt)) (λ _. (omega arith, (omega arith, tt)))))
rule_smaller now (core_until a b) =
    let C : Rule → Type 0 = λ r. Each (λ c. all_nodes c.todo < 1 + nodes a + nodes b) (changes r) in
    cond_case C (decided_true now b) _ _ (λ _. (omega arith, tt))
    (λ _. cond_case C (decided_false now b) _ _ (λ _. (omega arith, tt)) (λ _. (omega arith, (omega arith, tt))))
rule_smaller now (core_release a b) =
    let C : Rule → Type 0 = λ r. Each (λ c. all_nodes c.todo < 1 + nodes a + nodes b) (changes r) in
    cond_case C (decided_true now a) _ _ (λ _. (omega arith, tt))
    (λ _. cond_case C (decided_false now a) _ _ (λ _. (omega arith, tt)) (λ _. (omega arith, (omega arith, tt))))

-- the sets of a rule are of variables below n, where those of a literal are
abbrev pub LiteralBelow : ℕ → CoreForm → Type 0
LiteralBelow n (lit x set) = x < n
LiteralBelow n _ = Unit {0}

pub rule_over : (n : ℕ) (now : List ℕ) (f : CoreForm) → LiteralBelow n f → Each (λ c. AreBelow n c.sets) (changes (rule_of now f))
rule_over n now core_true h = (tt, tt)
rule_over n now core_false h = tt
rule_over n now (lit x set) h = ((h, tt), tt)
rule_over n now (both a b) h = (tt, tt)
rule_over n now (after a) h = (tt, tt)
rule_over n now (either a b) h =
    let C : Rule → Type 0 = λ r. Each (λ c. AreBelow n c.sets) (changes r) in
    cond_case C (decided_true now a || decided_true now b) _ _ (λ _. (tt, tt))
    (λ _. cond_case C (decided_false now a) _ _ (λ _. (tt, tt)) (λ _. cond_case C (decided_false now b) _ _ (λ _. (tt, tt)) (λ _. (tt, (tt, tt)))))
rule_over n now (core_until a b) h =
    let C : Rule → Type 0 = λ r. Each (λ c. AreBelow n c.sets) (changes r) in
    cond_case C (decided_true now b) _ _ (λ _. (tt, tt)) (λ _. cond_case C (decided_false now b) _ _ (λ _. (tt, tt)) (λ _. (tt, (tt, tt))))
rule_over n now (core_release a b) h =
    let C : Rule → Type 0 = λ r. Each (λ c. AreBelow n c.sets) (changes r) in
    cond_case C (decided_true now a) _ _ (λ _. (tt, tt)) (λ _. cond_case C (decided_false now a) _ _ (λ _. (tt, tt)) (λ _. (tt, (tt, tt))))

-- ---- in a closure
-- the formula with the number of a core is the core
abbrev pub IsKnown : List CoreForm → CoreForm → Type 0
IsKnown closure c = formula_at closure (number_in closure c) ≡ c

-- each formula and its operands are known
abbrev pub IsClosed : List CoreForm → Type 0
IsClosed closure = (f : ℕ) → IsKnown closure (formula_at closure f) × Each (IsKnown closure) (operands (formula_at closure f))

-- the cores that a choice adds are known
pub record Knows (closure : List CoreForm) (c : Change) : Type 0 where
  pub todo : Each (IsKnown closure) c.todo
  pub next : Each (IsKnown closure) c.next

pub rule_knows : (closure : List CoreForm) → IsClosed closure → (now : List ℕ) (f : ℕ) → Each (Knows closure) (changes (rule_of now (formula_at closure f)))
rule_knows closure closed now f =
    let cs = changes (rule_of now (formula_at closure f)) in
    each_map (λ (c : Change). Each (IsKnown closure) c.todo × Each (IsKnown closure) c.next) (Knows closure) cs
    (λ c h. record { todo = h.0; next = h.1 }) (rule_parts (IsKnown closure) now (formula_at closure f) (λ _. (closed f).0) ((closed f).1))
