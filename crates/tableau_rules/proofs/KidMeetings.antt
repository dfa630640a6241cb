-- A trace that meets a node meets a kid for each choice that suits it, and the other way round.
use Rattle.std.proofs.Common.{ℕ, ◌+◌, List, [], ◌∷◌, IsTrue, sym, subst, map, length}
use Rattle.std.specs.List.{AllByRecursion as Each}
use Rattle.temporal_logic.specs.Truth.{Trace}
use Rattle.bound_unfolding.specs.CoreForm.{CoreForm, CoreTruth}
use Rattle.formula_table.specs.Closures.{formula_at, number_in}
use Rattle.tableau_rules.specs.Sets.{has_number, without_number}
use Rattle.tableau_rules.specs.Rules.{Change, changes, rule_of}
use Rattle.tableau_rules.specs.Nodes.{NodeForm, kid}
use Rattle.tableau_rules.proofs.Lists.{AnyOf, each_both, some_both, some_map, some_const, some_image, some_source}
use Rattle.tableau_rules.proofs.NumberSets.{each_has, each_without, each_of_without, each_with_cores, each_of_with_cores}
use Rattle.tableau_rules.proofs.IndexSets.{LieIn, AreBelow, lie_met_all, lie_of_met_all}
use Rattle.tableau_rules.proofs.RuleTruths.{Suits, Decided, forth, back}
use Rattle.tableau_rules.proofs.RuleParts.{LiteralBelow, rule_over, IsKnown, IsClosed, Knows, rule_knows}

-- the trace meets the node, by recursion on its lists
pub record Meets (t : Trace) (closure : List CoreForm) (i : ℕ) (n : NodeForm) : Type 0 where
  pub now : LieIn (t i) n.now
  pub todo : Each (λ f. CoreTruth t (formula_at closure f) i) n.todo
  pub next : Each (λ f. CoreTruth t (formula_at closure f) (i + 1)) n.next

-- what is met by the kid, met by the node but for the chosen formula
pub record Rest (t : Trace) (closure : List CoreForm) (i : ℕ) (n : NodeForm) (g : ℕ) (c : Change) : Type 0 where
  pub now : LieIn (t i) n.now
  pub todo : Each (λ f. CoreTruth t (formula_at closure f) i) (without_number g n.todo)
  pub next : Each (λ f. CoreTruth t (formula_at closure f) (i + 1)) n.next
  pub suits : Suits t i c

abbrev pub mk : List ℕ → List ℕ → List ℕ → NodeForm
mk todo now next = record { todo = todo; now = now; next = next }

module _ (t : Trace) (closure : List CoreForm) where
  -- known cores by their numbers
  pub each_to : (i : ℕ) (cs : List CoreForm) → Each (IsKnown closure) cs → Each (λ c. CoreTruth t c i) cs → Each (λ c. CoreTruth t (formula_at closure (number_in closure c)) i) cs
  each_to i [] k h = tt
  each_to i (c ∷ cs) k h = (subst (λ f. CoreTruth t f i) (sym k.0) h.0, each_to i cs k.1 h.1)

  pub each_from : (i : ℕ) (cs : List CoreForm) → Each (IsKnown closure) cs → Each (λ c. CoreTruth t (formula_at closure (number_in closure c)) i) cs → Each (λ c. CoreTruth t c i) cs
  each_from i [] k h = tt
  each_from i (c ∷ cs) k h = (subst (λ f. CoreTruth t f i) k.0 h.0, each_from i cs k.1 h.1)

module _ (t : Trace) (closure : List CoreForm) (i : ℕ) (n : NodeForm) (g : ℕ) where
  abbrev Now : ℕ → Type 0
  Now f = CoreTruth t (formula_at closure f) i

  abbrev Later : ℕ → Type 0
  Later f = CoreTruth t (formula_at closure f) (i + 1)

  abbrev choices : List Change
  choices = changes (rule_of n.now (formula_at closure g))

  pub meets_kid : (c : Change) → Knows closure c → Meets t closure i n → Suits t i c → Meets t closure i (kid closure n g c)
  meets_kid c k m s = record {
    now = lie_met_all (t i) c.sets n.now s.sets m.now;
    todo = each_with_cores closure Now c.todo (without_number g n.todo) (each_to t closure i c.todo k.todo s.todo) (each_without Now g n.todo m.todo);
    next = each_with_cores closure Later c.next n.next (each_to t closure (i + 1) c.next k.next s.next) m.next;
  }

  of_kid : (c : Change) → Knows closure c → AreBelow (length n.now) c.sets → Meets t closure i (kid closure n g c) → Rest t closure i n g c
  of_kid c k l m =
      let a = each_of_with_cores closure Now c.todo (without_number g n.todo) m.todo in
      let b = each_of_with_cores closure Later c.next n.next m.next in
      let d = lie_of_met_all (t i) c.sets n.now l m.now in
      record {
        now = d.1;
        todo = a.1;
        next = b.1;
        suits = record {
          todo = each_from t closure i c.todo k.todo a.0;
          next = each_from t closure (i + 1) c.next k.next b.0;
          sets = d.0;
        };
      }

  -- under the rule of the formula g, which is to be true now
  pub kids_forth : IsClosed closure → IsTrue (has_number n.todo g) → Decided t i (formula_at closure g) → Meets t closure i n → AnyOf (Meets t closure i) (map (kid closure n g) choices)
  kids_forth closed h d m =
      some_image (Meets t closure i) (kid closure n g) choices
      (some_map (λ (c : Change). Knows closure c × Suits t i c) (λ c. Meets t closure i (kid closure n g c)) choices (λ c s. meets_kid c s.0 m s.1)
      (some_both (Knows closure) (Suits t i) choices (rule_knows closure closed n.now g)
      (forth t i n.now m.now (formula_at closure g) d (each_has Now n.todo g m.todo h))))

  pub kids_back : IsClosed closure → LiteralBelow (length n.now) (formula_at closure g) → AnyOf (Meets t closure i) (map (kid closure n g) choices) → Meets t closure i n
  kids_back closed o h =
      let P : Change → Type 0 = λ c. Knows closure c × AreBelow (length n.now) c.sets in
      let Q : Change → Type 0 = λ c. Meets t closure i (kid closure n g c) in
      let known : Each P choices = each_both (Knows closure) (λ c. AreBelow (length n.now) c.sets) choices (rule_knows closure closed n.now g) (rule_over (length n.now) n.now (formula_at closure g) o) in
      let rests = some_map (λ (c : Change). P c × Q c) (Rest t closure i n g) choices (λ c s. of_kid c s.0.0 s.0.1 s.1)
      (some_both P Q choices known (some_source (Meets t closure i) (kid closure n g) choices h)) in
      let suits = some_map (Rest t closure i n g) (Suits t i) choices (λ c r. r.suits) rests in
      some_const (Meets t closure i n) (Rest t closure i n g) choices (λ c r. record {
        now = r.now;
        todo = each_of_without Now g n.todo (back t i n.now r.now (formula_at closure g) suits) r.todo;
        next = r.next;
      }) rests
