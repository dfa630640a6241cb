-- On an endless walk from kid to kid that serves each until, along a trace that lies in the sets of each node, each formula is true where it is to be done.
use Rattle.std.proofs.Common.{◌≡◌, ◌≢◌, ℕ, zero, suc, ◌+◌, ◌-◌, ◌<◌, ◌⊎◌, List, [], ◌∷◌, ◌==◌, IsTrue, IsFalse, refl, arith, inl, inr, sym, ap, subst, ◌∙◌, true≢false, length, le_refl, lt-suc_self}
use Rattle.std.specs.List.{AllByRecursion as Each}
use Rattle.temporal_logic.specs.Truth.{Trace, SomeBetween}
use Rattle.bound_unfolding.specs.CoreForm.{CoreForm, core_true, core_false, lit, both, either, after, core_until, core_release, CoreTruth, nodes}
use Rattle.formula_table.specs.Closures.{formula_at, number_in, operands}
use Rattle.tableau_rules.specs.Sets.{has_number, with_number, without_number}
use Rattle.tableau_rules.specs.Rules.{Change, adds, waits, Rule, changes, decided_true, decided_false, rule_of}
use Rattle.tableau_rules.specs.Nodes.{NodeForm, carries, chosen, kid, stepped}
use Rattle.formula_table.proofs.Tests.{cond_case, bool_cases, or_left, or_right, eq_of, eq_to}
use Rattle.tableau_rules.proofs.Lists.{AnyOf, each_map, each_both, some_map, some_both, some_const}
use Rattle.tableau_rules.proofs.NumberSets.{has_with, has_with_more, has_without, has_with_cores_more, each_put_in}
use Rattle.tableau_rules.proofs.IndexSets.{LieIn, AreBelow, lie_of_met_all}
use Rattle.tableau_rules.proofs.Positions.{until_here, until_later}
use Rattle.tableau_rules.proofs.RuleTruths.{Suits, back}
use Rattle.tableau_rules.proofs.RuleParts.{lasts, rule_parts, all_nodes, rule_smaller, LiteralBelow, rule_over, IsKnown, IsClosed, Knows, rule_knows}
use Rattle.tableau_rules.proofs.Outcomes.{weight, kid_less}

-- m comes after n, at the next position or at the same
pub data Turn (closure : List CoreForm) (full : List ℕ) (n m : NodeForm) (p q : ℕ) : Type 0 where
  steps : n.todo ≡ [] → m ≡ stepped full n → q ≡ p + 1 → Turn closure full n m p q
  ruled : IsTrue (has_number n.todo (chosen closure n.todo))
      → AnyOf (λ c. m ≡ kid closure n (chosen closure n.todo) c) (changes (rule_of n.now (formula_at closure (chosen closure n.todo)))) → q ≡ p → Turn closure full n m p q

-- n does not carry the until e, or its second operand is to be done in m
pub data Serves (closure : List CoreForm) (e : ℕ) (b : CoreForm) (n m : NodeForm) (p q : ℕ) : Type 0 where
  idle : ¬ (IsTrue (carries e n)) → Serves closure e b n m p q
  served : IsTrue (has_number m.todo (number_in closure b)) → q ≡ p → Serves closure e b n m p q

-- nodes without end, with the positions of the trace at which the walk stands
pub record EndlessWalk (t : Trace) (closure : List CoreForm) (full : List ℕ) (node : ℕ → NodeForm) (pos : ℕ → ℕ) : Type 0 where
  pub now : (k : ℕ) → LieIn (t (pos k)) (node k).now
  pub over : (k g : ℕ) → LiteralBelow (length (node k).now) (formula_at closure g)
  pub turn : (k : ℕ) → Turn closure full (node k) (node (suc k)) (pos k) (pos (suc k))
  pub fair : (e : ℕ) (a b : CoreForm) → formula_at closure e ≡ core_until a b
      → (k : ℕ) → (m : ℕ) × Serves closure e b (node (k + m)) (node (suc (k + m))) (pos (k + m)) (pos (suc (k + m)))

-- ---- one turn
-- what a turn by the rule of the chosen formula makes of the node
pub record Ruled (closure : List CoreForm) (n m : NodeForm) (c : Change) : Type 0 where
  pub knows : Knows closure c
  pub less : all_nodes c.todo < nodes (formula_at closure (chosen closure n.todo))
  pub over : AreBelow (length n.now) c.sets
  pub is : m ≡ kid closure n (chosen closure n.todo) c

-- and what it keeps
pub record Keeps (closure : List CoreForm) (n m : NodeForm) : Type 0 where
  pub todo : (e : ℕ) → chosen closure n.todo ≢ e → IsTrue (has_number n.todo e) → IsTrue (has_number m.todo e)
  pub next : (e : ℕ) → IsTrue (has_number n.next e) → IsTrue (has_number m.next e)
  pub less : weight closure m.todo < weight closure n.todo

module _ (closure : List CoreForm) (n m : NodeForm) where
  abbrev g : ℕ
  g = chosen closure n.todo

  abbrev choices : List Change
  choices = changes (rule_of n.now (formula_at closure g))

  pub ruled_all : IsClosed closure → LiteralBelow (length n.now) (formula_at closure g) → AnyOf (λ c. m ≡ kid closure n g c) choices → AnyOf (Ruled closure n m) choices
  ruled_all closed o s =
      let P : Change → Type 0 = λ c. Knows closure c × (all_nodes c.todo < nodes (formula_at closure g)) in
      let Q : Change → Type 0 = λ c. AreBelow (length n.now) c.sets in
      let R : Change → Type 0 = λ c. m ≡ kid closure n g c in
      let parts : Each P choices = each_both (Knows closure) (λ c. all_nodes c.todo < nodes (formula_at closure g)) choices (rule_knows closure closed n.now g) (rule_smaller n.now (formula_at closure g)) in
      some_map (λ (c : Change). (P c × Q c) × R c) (Ruled closure n m) choices
      (λ c h. record { knows = h.0.0.0; less = h.0.0.1; over = h.0.1; is = h.1 })
      (some_both (λ (c : Change). P c × Q c) R choices (each_both P Q choices parts (rule_over (length n.now) n.now (formula_at closure g) o)) s)

  keeps : IsTrue (has_number n.todo g) → (c : Change) → Ruled closure n m c → Keeps closure n m
  keeps h c r =
      subst (Keeps closure n) (sym r.is) (record {
        todo = λ e ne x. has_with_cores_more closure c.todo (without_number g n.todo) e (has_without g e n.todo ne x);
        next = λ e x. has_with_cores_more closure c.next n.next e x;
        less = kid_less closure n g c r.knows h r.less;
      })

  pub keeps_all : IsTrue (has_number n.todo g) → AnyOf (Ruled closure n m) choices → Keeps closure n m
  keeps_all h all = some_const (Keeps closure n m) (Ruled closure n m) choices (keeps h) all

no_todo : (n : NodeForm) (e : ℕ) → n.todo ≡ [] → ¬ (IsTrue (has_number n.todo e))
no_todo n e q h = true≢false (sym (subst (λ xs. IsTrue (has_number xs e)) q h))

-- what the kid of an until, and of a release, has
module _ (closure : List CoreForm) (n m : NodeForm) (g : ℕ) (a b : CoreForm) where
  abbrev rest : List ℕ
  rest = without_number g n.todo

  until_kid : AnyOf (λ c. m ≡ kid closure n g c) (changes (rule_of n.now (core_until a b)))
      → IsTrue (has_number m.todo (number_in closure b)) ⊎ (IsTrue (has_number m.todo (number_in closure a)) × IsTrue (has_number m.next (number_in closure (core_until a b))))
  until_kid =
      let e = number_in closure (core_until a b) in
      let P : NodeForm → Type 0 = λ z. IsTrue (has_number z.todo (number_in closure b)) ⊎ (IsTrue (has_number z.todo (number_in closure a)) × IsTrue (has_number z.next e)) in
      let C : Rule → Type 0 = λ r. AnyOf (λ c. m ≡ kid closure n g c) (changes r) → P m in
      let fulfil : m ≡ kid closure n g (adds (b ∷ [])) → P m = λ q. subst P (sym q) (inl (has_with (number_in closure b) rest)) in
      let put_off : m ≡ kid closure n g (waits a (core_until a b)) → P m = λ q. subst P (sym q) (inr (has_with (number_in closure a) rest, has_with e n.next)) in
      cond_case C (decided_true n.now b) _ _ (λ _ s. elim s [ inl q ↦ fulfil q | inr z ↦ absurd z ])
      (λ _. cond_case C (decided_false n.now b) _ _ (λ _ s. elim s [ inl q ↦ put_off q | inr z ↦ absurd z ])
      (λ _ s. elim s [ inl q ↦ fulfil q | inr (inl q) ↦ put_off q | inr (inr z) ↦ absurd z ]))

  release_kid : AnyOf (λ c. m ≡ kid closure n g c) (changes (rule_of n.now (core_release a b)))
      → IsTrue (has_number m.todo (number_in closure b)) × (IsTrue (has_number m.todo (number_in closure a)) ⊎ IsTrue (has_number m.next (number_in closure (core_release a b))))
  release_kid =
      let e = number_in closure (core_release a b) in
      let x = number_in closure a in
      let y = number_in closure b in
      let P : NodeForm → Type 0 = λ z. IsTrue (has_number z.todo y) × (IsTrue (has_number z.todo x) ⊎ IsTrue (has_number z.next e)) in
      let C : Rule → Type 0 = λ r. AnyOf (λ c. m ≡ kid closure n g c) (changes r) → P m in
      let stop : m ≡ kid closure n g (adds (a ∷ b ∷ [])) → P m = λ q. subst P (sym q)
      (has_with y (with_number x rest), inl (has_with_more y x (with_number x rest) (has_with x rest))) in
      let go_on : m ≡ kid closure n g (waits b (core_release a b)) → P m = λ q. subst P (sym q) (has_with y rest, inr (has_with e n.next)) in
      cond_case C (decided_true n.now a) _ _ (λ _ s. elim s [ inl q ↦ stop q | inr z ↦ absurd z ])
      (λ _. cond_case C (decided_false n.now a) _ _ (λ _ s. elim s [ inl q ↦ go_on q | inr z ↦ absurd z ])
      (λ _ s. elim s [ inl q ↦ stop q | inr (inl q) ↦ go_on q | inr (inr z) ↦ absurd z ]))

-- ---- many turns
-- from the place k on, at the same position, the formula e gets its turn
pub record GetsTurn (closure : List CoreForm) (node : ℕ → NodeForm) (pos : ℕ → ℕ) (e k : ℕ) : Type 0 where
  pub to : ℕ
  pub same : pos to ≡ pos k
  pub is : chosen closure (node to).todo ≡ e
  pub some : AnyOf (Ruled closure (node to) (node (suc to))) (changes (rule_of (node to).now (formula_at closure e)))
  pub stays : pos (suc to) ≡ pos k

-- what is kept for the next position comes to be done there
pub record Comes (node : ℕ → NodeForm) (pos : ℕ → ℕ) (e k : ℕ) : Type 0 where
  pub to : ℕ
  pub further : pos to ≡ pos k + 1
  pub todo : IsTrue (has_number (node to).todo e)

-- of an until that is carried at k
pub record UntilAt (t : Trace) (closure : List CoreForm) (node : ℕ → NodeForm) (pos : ℕ → ℕ) (a b : CoreForm) (k : ℕ) : Type 0 where
  pub todo : IsTrue (has_number (node k).todo (number_in closure (core_until a b))) → CoreTruth t (core_until a b) (pos k)
  pub next : IsTrue (has_number (node k).next (number_in closure (core_until a b))) → CoreTruth t b (pos k) ⊎ CoreTruth t (core_until a b) (pos k + 1)

-- of a release that is to be done at k
pub record ReleaseAt (t : Trace) (node : ℕ → NodeForm) (pos : ℕ → ℕ) (a b : CoreForm) (e k : ℕ) : Type 0 where
  pub here : CoreTruth t b (pos k)
  pub further : CoreTruth t a (pos k) ⊎ Comes node pos e k

module _ (t : Trace) (closure : List CoreForm) (full : List ℕ) (node : ℕ → NodeForm) (pos : ℕ → ℕ) (closed : IsClosed closure) (walk : EndlessWalk t closure full node pos) where
  abbrev load : ℕ → ℕ
  load k = weight closure (node k).todo

  -- the turn's choice, where the node does not step
  choice_at : (k : ℕ) → AnyOf (λ c. node (suc k) ≡ kid closure (node k) (chosen closure (node k).todo) c) (changes (rule_of (node k).now (formula_at closure (chosen closure (node k).todo))))
      → AnyOf (Ruled closure (node k) (node (suc k))) (changes (rule_of (node k).now (formula_at closure (chosen closure (node k).todo))))
  choice_at k s = ruled_all closure (node k) (node (suc k)) closed (walk.over k (chosen closure (node k).todo)) s

  gets_turn : (w k e : ℕ) → load k < w → IsTrue (has_number (node k).todo e) → GetsTurn closure node pos e k
  gets_turn zero k e l h = absurd (omega arith)
  gets_turn (suc w) k e l h =
      elim (walk.turn k) [
        | steps q _ _ ↦ absurd (no_todo (node k) e q h)
        | ruled hc s same ↦
            let f = chosen closure (node k).todo in
            let all = choice_at k s in
            elim (bool_cases (f == e)) [
              | inl b ↦
                  let ce = eq_of f e b in
                  record {
                    to = k;
                    same = refl;
                    is = ce;
                    some = subst (λ z. AnyOf (Ruled closure (node k) (node (suc k))) (changes (rule_of (node k).now (formula_at closure z)))) ce all;
                    stays = same;
                  }
              | inr b ↦
                  let ne : f ≢ e = λ z. true≢false (sym (eq_to f e z) ∙ b) in
                  let ks = keeps_all closure (node k) (node (suc k)) hc all in
                  let r = gets_turn w (suc k) e (let x = ks.less in omega arith) (ks.todo e ne h) in
                  record { to = r.to; same = r.same ∙ same; is = r.is; some = r.some; stays = r.stays ∙ same }
            ]
      ]

  has_turn : (k e : ℕ) → IsTrue (has_number (node k).todo e) → GetsTurn closure node pos e k
  has_turn k e h = gets_turn (suc (load k)) k e (lt-suc_self (load k)) h

  comes_by : (w k e : ℕ) → load k < w → IsTrue (has_number (node k).next e) → Comes node pos e k
  comes_by zero k e l h = absurd (omega arith)
  comes_by (suc w) k e l h =
      elim (walk.turn k) [
        | steps q is p ↦ record { to = suc k; further = p; todo = subst (λ (n : NodeForm). IsTrue (has_number n.todo e)) (sym is) h }
        | ruled hc s same ↦
            let ks = keeps_all closure (node k) (node (suc k)) hc (choice_at k s) in
            let r = comes_by w (suc k) e (let x = ks.less in omega arith) (ks.next e h) in
            record { to = r.to; further = r.further ∙ ap (λ p. p + 1) same; todo = r.todo }
      ]

  comes : (k e : ℕ) → IsTrue (has_number (node k).next e) → Comes node pos e k
  comes k e h = comes_by (suc (load k)) k e (lt-suc_self (load k)) h

  -- a formula is true wherever the walk has it to do
  abbrev pub IsKept : CoreForm → Type 0
  IsKept f = (k : ℕ) → IsTrue (has_number (node k).todo (number_in closure f)) → CoreTruth t f (pos k)

  -- where what a choice adds is kept, the trace suits the choice
  suits : (k : ℕ) (c : Change) → Ruled closure (node k) (node (suc k)) c → pos (suc k) ≡ pos k → Each IsKept c.todo → Each IsKept c.next → Suits t (pos k) c
  suits k c r same at_todo at_next =
      let g = chosen closure (node k).todo in
      let n = node k in
      let In_todo : CoreForm → Type 0 = λ x. IsTrue (has_number (node (suc k)).todo (number_in closure x)) in
      let In_next : CoreForm → Type 0 = λ x. IsTrue (has_number (node (suc k)).next (number_in closure x)) in
      let in_todo : Each In_todo c.todo = subst (λ (m : NodeForm). Each (λ x. IsTrue (has_number m.todo (number_in closure x))) c.todo) (sym r.is) (each_put_in closure c.todo (without_number g n.todo)) in
      let in_next : Each In_next c.next = subst (λ (m : NodeForm). Each (λ x. IsTrue (has_number m.next (number_in closure x))) c.next) (sym r.is) (each_put_in closure c.next n.next) in
      let lies = subst (λ (m : NodeForm). LieIn (t (pos k)) m.now) r.is (subst (λ p. LieIn (t p) (node (suc k)).now) same (walk.now (suc k))) in
      record {
        todo = each_map (λ x. IsKept x × In_todo x) (λ x. CoreTruth t x (pos k)) c.todo
            (λ x h. subst (CoreTruth t x) same (h.0 (suc k) h.1)) (each_both IsKept In_todo c.todo at_todo in_todo);
        next = each_map (λ x. IsKept x × In_next x) (λ x. CoreTruth t x (pos k + 1)) c.next
            (λ x h.
            let q = comes (suc k) (number_in closure x) h.1 in
            subst (CoreTruth t x) (q.further ∙ ap (λ p. p + 1) same) (h.0 q.to q.todo))
            (each_both IsKept In_next c.next at_next in_next);
        sets = (lie_of_met_all (t (pos k)) c.sets n.now r.over lies).0;
      }

  -- a formula that does not last, whose operands are kept, is kept
  plain : (f : CoreForm) → IsFalse (lasts f) → IsKnown closure f → Each IsKept (operands f) → IsKept f
  plain f nl kf ops k h =
      let q = has_turn k (number_in closure f) h in
      let n = node q.to in
      let m = node (suc q.to) in
      let cs = changes (rule_of n.now f) in
      let some : AnyOf (Ruled closure n m) cs = subst (λ z. AnyOf (Ruled closure n m) (changes (rule_of n.now z))) kf q.some in
      let P : Change → Type 0 = λ c. Each IsKept c.todo × Each IsKept c.next in
      let parts : Each P cs = rule_parts IsKept n.now f (λ y. absurd (true≢false (sym y ∙ nl))) ops in
      let suit = some_map (λ (c : Change). P c × Ruled closure n m c) (Suits t (pos q.to)) cs
      (λ c s. suits q.to c s.1 (q.stays ∙ sym q.same) s.0.0 s.0.1) (some_both P (Ruled closure n m) cs parts some) in
      subst (CoreTruth t f) q.same (back t (pos q.to) n.now (walk.now q.to) f suit)

  module _ (a b : CoreForm) (kept_a : IsKept a) (kept_b : IsKept b) where
    -- ---- an until, by the number of turns up to the one that serves it
    until_at : IsKnown closure (core_until a b) → (turns k m : ℕ) → k + turns ≡ m → Serves closure (number_in closure (core_until a b)) b (node m) (node (suc m)) (pos m) (pos (suc m))
        → UntilAt t closure node pos a b k
    until_at ku zero k m q s =
        let e = number_in closure (core_until a b) in
        let km : m ≡ k = omega (arith, q) in
        let here : Serves closure e b (node k) (node (suc k)) (pos k) (pos (suc k)) = subst (λ z. Serves closure e b (node z) (node (suc z)) (pos z) (pos (suc z))) km s in
        elim here [
          | idle none ↦ record {
            todo = λ h. absurd (none (or_left (has_number (node k).todo e) (has_number (node k).next e) h));
            next = λ h. absurd (none (or_right (has_number (node k).todo e) (has_number (node k).next e) h));
          }
          | served hb same ↦
              let y : CoreTruth t b (pos k) = subst (CoreTruth t b) same (kept_b (suc k) hb) in
              record { todo = λ h. until_here (CoreTruth t a) (CoreTruth t b) (pos k) y; next = λ h. inl y }
        ]
    until_at ku (suc turns) k m q s =
        let e = number_in closure (core_until a b) in
        let r = until_at ku turns (suc k) m (omega (arith, q)) s in
        elim (walk.turn k) [
          | steps em is p ↦ record {
            todo = λ h. absurd (no_todo (node k) e em h);
            next = λ h. inr (subst (CoreTruth t (core_until a b)) p (r.todo (subst (λ (n : NodeForm). IsTrue (has_number n.todo e)) (sym is) h)));
          }
          | ruled hc so same ↦
              let f = chosen closure (node k).todo in
              let ks = keeps_all closure (node k) (node (suc k)) hc (choice_at k so) in
              let on : IsTrue (has_number (node (suc k)).next e) → CoreTruth t b (pos k) ⊎ CoreTruth t (core_until a b) (pos k + 1) =
              λ h. subst (λ p. CoreTruth t b p ⊎ CoreTruth t (core_until a b) (p + 1)) same (r.next h) in
              record {
                todo = λ h. elim (bool_cases (f == e)) [
                  | inl x ↦
                      let D : ℕ → Type 0 = λ z. AnyOf (λ c. node (suc k) ≡ kid closure (node k) f c) (changes (rule_of (node k).now (formula_at closure z))) in
                      let F : CoreForm → Type 0 = λ z. AnyOf (λ c. node (suc k) ≡ kid closure (node k) f c) (changes (rule_of (node k).now z)) in
                      elim (until_kid closure (node k) (node (suc k)) f a b (subst F ku (subst D (eq_of f e x) so))) [
                        | inl hb ↦ until_here (CoreTruth t a) (CoreTruth t b) (pos k) (subst (CoreTruth t b) same (kept_b (suc k) hb))
                        | inr w ↦
                            elim (on w.1) [
                              | inl y ↦ until_here (CoreTruth t a) (CoreTruth t b) (pos k) y
                              | inr u ↦ until_later (CoreTruth t a) (CoreTruth t b) (pos k) (subst (CoreTruth t a) same (kept_a (suc k) w.0)) u
                            ]
                      ]
                  | inr x ↦
                      let ne : f ≢ e = λ z. true≢false (sym (eq_to f e z) ∙ x) in
                      subst (CoreTruth t (core_until a b)) same (r.todo (ks.todo e ne h))
                ];
                next = λ h. on (ks.next e h);
              }
        ]

    -- ---- a release, by the number of positions
    release_step : IsKnown closure (core_release a b) → (k : ℕ) → IsTrue (has_number (node k).todo (number_in closure (core_release a b))) → ReleaseAt t node pos a b (number_in closure (core_release a b)) k
    release_step kr k h =
        let e = number_in closure (core_release a b) in
        let c = has_turn k e h in
        let n = node c.to in
        let m = node (suc c.to) in
        let some : AnyOf (λ d. m ≡ kid closure n e d) (changes (rule_of n.now (core_release a b))) = subst (λ z. AnyOf (λ d. m ≡ kid closure n e d) (changes (rule_of n.now z))) kr
        (some_map (Ruled closure n m) (λ d. m ≡ kid closure n e d) (changes (rule_of n.now (formula_at closure e))) (λ d r. subst (λ z. m ≡ kid closure n z d) c.is r.is) c.some) in
        let w = release_kid closure n m e a b some in
        record {
          here = subst (CoreTruth t b) c.stays (kept_b (suc c.to) w.0);
          further = elim w.1 [
            | inl x ↦ inl (subst (CoreTruth t a) c.stays (kept_a (suc c.to) x))
            | inr x ↦ let z = comes (suc c.to) e x in inr (record { to = z.to; further = z.further ∙ ap (λ p. p + 1) c.stays; todo = z.todo })
          ];
        }

    release_at : IsKnown closure (core_release a b) → (m k j : ℕ) → j ≡ pos k + m → IsTrue (has_number (node k).todo (number_in closure (core_release a b)))
        → CoreTruth t b j ⊎ SomeBetween (CoreTruth t a) (pos k) j
    release_at kr zero k j q h =
        let r = release_step kr k h in
        let e : pos k ≡ j = omega (arith, q) in
        inl (subst (CoreTruth t b) e r.here)
    release_at kr (suc m) k j q h =
        let r = release_step kr k h in
        elim r.further [
          | inl x ↦ inr (pos k, le_refl (pos k), omega (arith, q), x)
          | inr z ↦
              let f = z.further in
              elim (release_at kr m z.to j (omega (arith, q, f)) z.todo) [
                | inl y ↦ inl y
                | inr w ↦ inr (w.0, omega (arith, w.1, f), w.2, w.3)
              ]
        ]

  known_operands : (f : CoreForm) → IsKnown closure f → Each (IsKnown closure) (operands f)
  known_operands f kf = subst (λ z. Each (IsKnown closure) (operands z)) kf ((closed (number_in closure f)).1)

  -- each formula is true wherever it is to be done
  pub truth_on_walk : (f : CoreForm) → IsKnown closure f → IsKept f
  truth_on_walk core_true kf = plain core_true refl kf tt
  truth_on_walk core_false kf = plain core_false refl kf tt
  truth_on_walk (lit x set) kf = plain (lit x set) refl kf tt
  truth_on_walk (both a b) kf =
      let o = known_operands (both a b) kf in plain (both a b) refl kf (truth_on_walk a o.0, (truth_on_walk b o.1.0, tt))
  truth_on_walk (either a b) kf =
      let o = known_operands (either a b) kf in plain (either a b) refl kf (truth_on_walk a o.0, (truth_on_walk b o.1.0, tt))
  truth_on_walk (after a) kf = let o = known_operands (after a) kf in plain (after a) refl kf (truth_on_walk a o.0, tt)
  truth_on_walk (core_until a b) kf =
      let o = known_operands (core_until a b) kf in
      λ k h.
      let x = walk.fair (number_in closure (core_until a b)) a b kf k in
      (until_at a b (truth_on_walk a o.0) (truth_on_walk b o.1.0) kf x.0 k (k + x.0) refl x.1).todo h
  truth_on_walk (core_release a b) kf =
      let o = known_operands (core_release a b) kf in
      λ k h j l. release_at a b (truth_on_walk a o.0) (truth_on_walk b o.1.0) kf (j - pos k) k j (omega arith) h
