-- A node that carries an until and is met: the until is fulfilled in its first kid, or kept by a kid that is met.
use Rattle.std.proofs.Common.{◌≡◌, ◌≢◌, ℕ, ◌+◌, ◌<◌, ◌≤◌, ◌⊎◌, List, [], ◌∷◌, ◌==◌, IsTrue, refl, arith, inl, inr, sym, ap, subst, ◌∙◌, true≢false, map, eq-or-lt_of_le}
use Rattle.std.specs.List.{AllByRecursion as Each}
use Rattle.temporal_logic.specs.Truth.{Trace}
use Rattle.bound_unfolding.specs.CoreForm.{CoreForm, core_until, core_release, CoreTruth, nodes}
use Rattle.formula_table.specs.Closures.{formula_at, number_in, operands}
use Rattle.tableau_rules.specs.Sets.{has_number, with_number, without_number}
use Rattle.tableau_rules.specs.Rules.{Change, adds, waits, Rule, changes, is_clash, fulfils, decided_true, decided_false, rule_of}
use Rattle.tableau_rules.specs.Nodes.{NodeForm, carries, first_best, chosen, has_empty, todo_rule, node_rule, kid, with_numbers_of, kids_by, kids}
use Rattle.formula_table.proofs.Tests.{cond_case, bool_cases, eq_of, eq_to, or_true}
use Rattle.tableau_rules.proofs.Lists.{AnyOf, FirstOf, each_both, some_both, some_map, some_image}
use Rattle.tableau_rules.proofs.NumberSets.{each_has, has_with, has_without, has_with_cores_more, has_first_best, total, total_with, total_without}
use Rattle.tableau_rules.proofs.IndexSets.{LieIn, empty_none}
use Rattle.tableau_rules.proofs.Positions.{Fulfilled, until_of, of_until, fulfilled_later}
use Rattle.tableau_rules.proofs.RuleTruths.{Suits, Decided, truly, falsely, suits_one, suits_wait, forth}
use Rattle.tableau_rules.proofs.RuleParts.{no_step, all_nodes, rule_smaller, IsKnown, IsClosed, Knows, rule_knows}
use Rattle.tableau_rules.proofs.KidMeetings.{Meets, mk, meets_kid, kids_forth}
use Rattle.tableau_rules.proofs.NodeRules.{kids_by_changes, clash_empty}

-- what is undecided cannot be refuted
pub not_not_decided : (t : Trace) (i : ℕ) (f : CoreForm) → ¬ (¬ (Decided t i f))
not_not_decided t i (core_release a b) h = h (no (λ x. h (yes x)))
not_not_decided t i _ h = h tt

-- ---- how much there is to do
abbrev pub weight : List CoreForm → List ℕ → ℕ
weight closure todo = total (λ f. nodes (formula_at closure f)) todo

module _ (closure : List CoreForm) where
  weight_with_cores : (cs : List CoreForm) (xs : List ℕ) → Each (IsKnown closure) cs → weight closure (with_numbers_of closure cs xs) ≤ all_nodes cs + weight closure xs
  weight_with_cores [] xs k = omega arith
  weight_with_cores (c ∷ cs) xs k =
      let x = number_in closure c in
      omega (arith, weight_with_cores cs (with_number x xs) k.1, total_with (λ f. nodes (formula_at closure f)) x xs, ap nodes k.0)

  pub kid_less : (n : NodeForm) (g : ℕ) (c : Change) → Knows closure c → IsTrue (has_number n.todo g) → all_nodes c.todo < nodes (formula_at closure g)
      → weight closure (kid closure n g c).todo < weight closure n.todo
  kid_less n g c k h l =
      omega (arith, weight_with_cores c.todo (without_number g n.todo) k.todo, total_without (λ f. nodes (formula_at closure f)) g n.todo h)

-- ---- an until that is carried
-- the until of the number e stands in the node, and is fulfilled at j
pub data Carried (t : Trace) (a b : CoreForm) (e i j : ℕ) (n : NodeForm) : Type 0 where
  in_todo : IsTrue (has_number n.todo e) → Fulfilled (CoreTruth t a) (CoreTruth t b) i j → Carried t a b e i j n
  in_next : IsTrue (has_number n.next e) → Fulfilled (CoreTruth t a) (CoreTruth t b) (i + 1) j → Carried t a b e i j n

-- a kid at the same position, which has less to do
pub record Kept (t : Trace) (closure : List CoreForm) (a b : CoreForm) (e i j w : ℕ) (n : NodeForm) : Type 0 where
  pub meets : Meets t closure i n
  pub carried : Carried t a b e i j n
  pub less : weight closure n.todo < w

-- the kid at the next position
pub record SteppedOn (t : Trace) (closure : List CoreForm) (a b : CoreForm) (e i j : ℕ) (n : NodeForm) : Type 0 where
  pub meets : Meets t closure (i + 1) n
  pub carried : Carried t a b e (i + 1) j n
  pub before : i < j

-- the position at which an until that is carried is fulfilled
pub record Carrier (t : Trace) (a b : CoreForm) (e i : ℕ) (n : NodeForm) : Type 0 where
  pub to : ℕ
  pub carried : Carried t a b e i to n

pub carrier : (t : Trace) (closure : List CoreForm) (a b : CoreForm) (e i : ℕ) (n : NodeForm) → formula_at closure e ≡ core_until a b → IsTrue (carries e n) → Meets t closure i n → Carrier t a b e i n
carrier t closure a b e i n ue h m =
    elim (or_true (has_number n.todo e) (has_number n.next e) h) [
      | inl x ↦
          let u : CoreTruth t (core_until a b) i = subst (λ f. CoreTruth t f i) ue (each_has (λ f. CoreTruth t (formula_at closure f) i) n.todo e m.todo x) in
          let w = of_until (CoreTruth t a) (CoreTruth t b) i u in
          record { to = w.0; carried = in_todo x w.1 }
      | inr x ↦
          let u : CoreTruth t (core_until a b) (i + 1) = subst (λ f. CoreTruth t f (i + 1)) ue (each_has (λ f. CoreTruth t (formula_at closure f) (i + 1)) n.next e m.next x) in
          let w = of_until (CoreTruth t a) (CoreTruth t b) (i + 1) u in
          record { to = w.0; carried = in_next x w.1 }
    ]

module _ (t : Trace) (closure : List CoreForm) (closed : IsClosed closure) (i : ℕ) where
  -- what holds of the kid of each suitable choice holds of some kid
  kids_with : (n : NodeForm) (g : ℕ) (Q : NodeForm → Type 0) → IsTrue (has_number n.todo g) → Decided t i (formula_at closure g) → Meets t closure i n
      → ((c : Change) → Knows closure c → all_nodes c.todo < nodes (formula_at closure g) → Suits t i c → Q (kid closure n g c))
      → AnyOf Q (map (kid closure n g) (changes (rule_of n.now (formula_at closure g))))
  kids_with n g Q h d m f =
      let core = formula_at closure g in
      let cs = changes (rule_of n.now core) in
      let P : Change → Type 0 = λ c. Knows closure c × (all_nodes c.todo < nodes core) in
      let parts : Each P cs = each_both (Knows closure) (λ c. all_nodes c.todo < nodes core) cs (rule_knows closure closed n.now g) (rule_smaller n.now core) in
      some_image Q (kid closure n g) cs
      (some_map (λ (c : Change). P c × Suits t i c) (λ c. Q (kid closure n g c)) cs (λ c s. f c s.0.0 s.0.1 s.1)
      (some_both P (Suits t i) cs parts (forth t i n.now m.now core d (each_has (λ f. CoreTruth t (formula_at closure f) i) n.todo g m.todo h))))

  module _ (a b : CoreForm) (e j : ℕ) (ue : formula_at closure e ≡ core_until a b) (ne : number_in closure (core_until a b) ≡ e) where
    abbrev until : CoreForm
    until = core_until a b

    -- what the rule of the chosen formula makes of it
    abbrev Goes : ℕ → NodeForm → Rule → List NodeForm → Type 0
    Goes g n r ks = ((g ≡ e) × IsTrue (fulfils r) × FirstOf (Meets t closure i) ks) ⊎ AnyOf (Kept t closure a b e i j (weight closure n.todo)) ks

    -- where the until itself is chosen
    goes_chosen : (n : NodeForm) → IsTrue (has_number n.todo e) → Meets t closure i n → Fulfilled (CoreTruth t a) (CoreTruth t b) i j
        → Goes e n (rule_of n.now until) (map (kid closure n e) (changes (rule_of n.now until)))
    goes_chosen n h m w =
        let ks : IsKnown closure until × Each (IsKnown closure) (a ∷ b ∷ []) = subst (λ f. IsKnown closure f × Each (IsKnown closure) (operands f)) ue (closed e) in
        let C : Rule → Type 0 = λ r. Goes e n r (map (kid closure n e) (changes r)) in
        let fulfil : CoreTruth t b i → Meets t closure i (kid closure n e (adds (b ∷ []))) =
        λ y. meets_kid t closure i n e (adds (b ∷ [])) (record { todo = (ks.1.1.0, tt); next = tt }) m (suits_one t i b y) in
        let knows : Knows closure (waits a until) = record { todo = (ks.1.0, tt); next = (ks.0, tt) } in
        let put_off : CoreTruth t a i → Fulfilled (CoreTruth t a) (CoreTruth t b) (i + 1) j → Kept t closure a b e i j (weight closure n.todo) (kid closure n e (waits a until)) =
        λ x v. record {
          meets = meets_kid t closure i n e (waits a until) knows m (suits_wait t i a until x (until_of (CoreTruth t a) (CoreTruth t b) (i + 1) j v));
          carried = in_next (subst (λ z. IsTrue (has_number (with_number (number_in closure until) n.next) z)) ne (has_with (number_in closure until) n.next)) v;
          less = kid_less closure n e (waits a until) knows h (omega (arith, ap nodes ue));
        } in
        elim (eq-or-lt_of_le w.after) [
          | inl q ↦
              let y : CoreTruth t b i = subst (CoreTruth t b) (sym q) w.end in
              cond_case C (decided_true n.now b) _ _ (λ _. inl (refl, refl, fulfil y))
              (λ _. cond_case C (decided_false n.now b) _ _
              (λ f. absurd (falsely t i n.now m.now b f y)) (λ _. inl (refl, refl, fulfil y)))
          | inr l ↦
              let v = fulfilled_later (CoreTruth t a) (CoreTruth t b) i j w l in
              cond_case C (decided_true n.now b) _ _ (λ f. inl (refl, refl, fulfil (truly t i n.now m.now b f)))
              (λ _. cond_case C (decided_false n.now b) _ _
              (λ _. inr (inl (put_off v.0 v.1))) (λ _. inr (inr (inl (put_off v.0 v.1)))))
        ]

    goes : (n : NodeForm) (g : ℕ) → IsTrue (has_number n.todo g) → Decided t i (formula_at closure g) → Meets t closure i n → Carried t a b e i j n
        → Goes g n (rule_of n.now (formula_at closure g)) (map (kid closure n g) (changes (rule_of n.now (formula_at closure g))))
    goes n g h d m (in_next x w) =
        inr (kids_with n g (Kept t closure a b e i j (weight closure n.todo)) h d m (λ c kn l s. record {
          meets = meets_kid t closure i n g c kn m s;
          carried = in_next (has_with_cores_more closure c.next n.next e x) w;
          less = kid_less closure n g c kn h l;
        }))
    goes n g h d m (in_todo x w) =
        elim (bool_cases (g == e)) [
          | inl q ↦
              let C : ℕ → Type 0 = λ z. Goes z n (rule_of n.now (formula_at closure z)) (map (kid closure n z) (changes (rule_of n.now (formula_at closure z)))) in
              let D : CoreForm → Type 0 = λ u. Goes e n (rule_of n.now u) (map (kid closure n e) (changes (rule_of n.now u))) in
              subst C (sym (eq_of g e q)) (subst D (sym ue) (goes_chosen n x m w))
          | inr q ↦
              let other : g ≢ e = λ z. true≢false (sym (eq_to g e z) ∙ q) in
              inr (kids_with n g (Kept t closure a b e i j (weight closure n.todo)) h d m (λ c kn l s. record {
                meets = meets_kid t closure i n g c kn m s;
                carried = in_todo (has_with_cores_more closure c.todo (without_number g n.todo) e (has_without g e n.todo other x)) w;
                less = kid_less closure n g c kn h l;
              }))
        ]

-- one rule from a node that carries the until
pub data Outcome (t : Trace) (closure : List CoreForm) (a b : CoreForm) (e i j w : ℕ) (todo : List ℕ) (r : Rule) (ks : List NodeForm) : Type 0 where
  fulfilled : chosen closure todo ≡ e → IsTrue (fulfils r) → FirstOf (Meets t closure i) ks → Outcome t closure a b e i j w todo r ks
  kept : AnyOf (Kept t closure a b e i j w) ks → Outcome t closure a b e i j w todo r ks
  stepped_on : AnyOf (SteppedOn t closure a b e i j) ks → Outcome t closure a b e i j w todo r ks

module _ (t : Trace) (closure : List CoreForm) (full : List ℕ) (closed : IsClosed closure) (i : ℕ) (lies : LieIn (t (i + 1)) full) where
  module _ (a b : CoreForm) (e j : ℕ) (ue : formula_at closure e ≡ core_until a b) (ne : number_in closure (core_until a b) ≡ e) where
    outcome_todo : (todo now next : List ℕ) → Decided t i (formula_at closure (chosen closure todo)) → Meets t closure i (mk todo now next) → Carried t a b e i j (mk todo now next)
        → Outcome t closure a b e i j (weight closure todo) todo (todo_rule closure now todo) (kids_by closure full (mk todo now next) (todo_rule closure now todo))
    outcome_todo [] now next d m (in_todo x f) = absurd (true≢false (sym x))
    outcome_todo [] now next d m (in_next x f) =
        stepped_on (inl (record { meets = record { now = lies; todo = m.next; next = tt }; carried = in_todo x f; before = let l = f.after in omega arith }))
    outcome_todo (f ∷ fs) now next d m c =
        let g = first_best closure f fs in
        let n = mk (f ∷ fs) now next in
        let r = rule_of now (formula_at closure g) in
        subst (Outcome t closure a b e i j (weight closure (f ∷ fs)) (f ∷ fs) r) (sym (kids_by_changes closure full n r (no_step now (formula_at closure g))))
        (elim (goes t closure closed i a b e j ue ne n g (has_first_best closure f fs) d m c) [ inl x ↦ fulfilled x.0 x.1 x.2 | inr y ↦ kept y ])

    pub outcome : (n : NodeForm) → Decided t i (formula_at closure (chosen closure n.todo)) → Meets t closure i n → Carried t a b e i j n
        → Outcome t closure a b e i j (weight closure n.todo) n.todo (node_rule closure n) (kids closure full n)
    outcome n d m c =
        cond_case (λ r. Outcome t closure a b e i j (weight closure n.todo) n.todo r (kids_by closure full n r)) (has_empty n.now) _ _
        (λ h. absurd (empty_none (t i) n.now h m.now))
        (λ _. outcome_todo n.todo n.now n.next d m c)

  -- ---- a trace that meets a node meets a kid, there or one position on
  abbrev pub Onward : NodeForm → Type 0
  Onward n = Meets t closure i n ⊎ Meets t closure (i + 1) n

  meets_todo : (todo now next : List ℕ) → Decided t i (formula_at closure (chosen closure todo)) → Meets t closure i (mk todo now next)
      → AnyOf Onward (kids_by closure full (mk todo now next) (todo_rule closure now todo))
  meets_todo [] now next d m = inl (inr (record { now = lies; todo = m.next; next = tt }))
  meets_todo (f ∷ fs) now next d m =
      let g = first_best closure f fs in
      let n = mk (f ∷ fs) now next in
      let r = rule_of now (formula_at closure g) in
      subst (AnyOf Onward) (sym (kids_by_changes closure full n r (no_step now (formula_at closure g))))
      (some_map (Meets t closure i) Onward (map (kid closure n g) (changes r)) (λ x s. inl s) (kids_forth t closure i n g closed (has_first_best closure f fs) d m))

  pub meets_some : (n : NodeForm) → Decided t i (formula_at closure (chosen closure n.todo)) → Meets t closure i n → AnyOf Onward (kids closure full n)
  meets_some n d m =
      cond_case (λ r. AnyOf Onward (kids_by closure full n r)) (has_empty n.now) _ _
      (λ h. absurd (empty_none (t i) n.now h m.now)) (λ _. meets_todo n.todo n.now n.next d m)

-- ---- no trace meets a node that clashes
module _ (t : Trace) (closure : List CoreForm) (closed : IsClosed closure) (i : ℕ) where
  clash_todo : (todo now next : List ℕ) → Decided t i (formula_at closure (chosen closure todo)) → Meets t closure i (mk todo now next) → ¬ (IsTrue (is_clash (todo_rule closure now todo)))
  clash_todo [] now next d m h = true≢false (sym h)
  clash_todo (f ∷ fs) now next d m h =
      let g = first_best closure f fs in
      let n = mk (f ∷ fs) now next in
      clash_empty (Meets t closure i) (kid closure n g) (rule_of now (formula_at closure g)) h
      (kids_forth t closure i n g closed (has_first_best closure f fs) d m)

  pub clash_none : (n : NodeForm) → Decided t i (formula_at closure (chosen closure n.todo)) → Meets t closure i n → ¬ (IsTrue (is_clash (node_rule closure n)))
  clash_none n d m =
      cond_case (λ r. ¬ (IsTrue (is_clash r))) (has_empty n.now) _ _ (λ h _. empty_none (t i) n.now h m.now) (λ _ h. clash_todo n.todo n.now n.next d m h)
