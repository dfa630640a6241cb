-- An until that a node carries is carried by each of its kids, but for the kid in which it is fulfilled.
use Rattle.std.proofs.Common.{◌≡◌, ◌≢◌, ℕ, Bool, true, false, ◌⊎◌, List, [], ◌∷◌, ◌==◌, IsTrue, cond, refl, inl, inr, sym, ap, subst, ◌∙◌, true≢false, map, Some}
use Rattle.std.specs.Prelude.{Contains, slice_get}
use Rattle.bound_unfolding.specs.CoreForm.{CoreForm, core_until}
use Rattle.formula_table.specs.Closures.{formula_at, number_in, closure_of}
use Rattle.tableau_rules.specs.Sets.{has_number, with_number, without_number}
use Rattle.tableau_rules.specs.Rules.{Change, waits, Rule, clash, changes, fulfils, decided_true, decided_false, rule_of}
use Rattle.state_space.specs.Members.{full_of}
use Rattle.tableau_rules.specs.Nodes.{NodeForm, carries, first_best, chosen, has_empty, todo_rule, node_rule, kid, kids_by, kids}
use Rattle.tableau_rules.specs.Certificates.{is_until}
use Rattle.tableau_rules.specs.Walks.{FulfilsIn}
use Rattle.formula_table.proofs.Tests.{cond_case, bool_cases, or_left, or_right, or_true, eq_of, eq_to}
use Rattle.tableau_rules.proofs.Lists.{AnyOf, FirstOf, any_at, some_const, some_source}
use Rattle.tableau_rules.proofs.NumberSets.{has_with, has_without, has_with_cores_more}
use Rattle.tableau_rules.proofs.RuleParts.{no_step}
use Rattle.tableau_rules.proofs.KidMeetings.{mk}
use Rattle.tableau_rules.proofs.NodeRules.{kids_by_changes}
use Rattle.tableau_rules.proofs.Closing.{has_numbers}
use Rattle.tableau_rules.proofs.Eliminations.{until_is}

module _ (closure : List CoreForm) (full : List ℕ) (e : ℕ) (m : NodeForm) where
  -- m is the first of the kids, and fulfils e, or it carries e
  abbrev GoesOn : List ℕ → Rule → List NodeForm → Type 0
  GoesOn todo r ks = ((chosen closure todo ≡ e) × IsTrue (fulfils r) × FirstOf (λ k. m ≡ k) ks) ⊎ IsTrue (carries e m)

  abbrev Among : List NodeForm → Type 0
  Among ks = AnyOf (λ k. m ≡ k) ks

  in_kid : (g : ℕ) (n : NodeForm) (r : Rule) → IsTrue (has_number (without_number g n.todo) e) ⊎ IsTrue (has_number n.next e) → Among (map (kid closure n g) (changes r)) → IsTrue (carries e m)
  in_kid g n r h s =
      let carried : (c : Change) → IsTrue (carries e (kid closure n g c)) = λ c.
      let k = kid closure n g c in
      elim h [
        | inl x ↦ or_left (has_number k.todo e) (has_number k.next e) (has_with_cores_more closure c.todo (without_number g n.todo) e x)
        | inr x ↦ or_right (has_number k.todo e) (has_number k.next e) (has_with_cores_more closure c.next n.next e x)
      ] in
      some_const (IsTrue (carries e m)) (λ (c : Change). m ≡ kid closure n g c) (changes r)
      (λ c q. subst (λ (k : NodeForm). IsTrue (carries e k)) (sym q) (carried c)) (some_source (λ k. m ≡ k) (kid closure n g) (changes r) s)

  module _ (a b : CoreForm) (ue : formula_at closure e ≡ core_until a b) (ne : number_in closure (core_until a b) ≡ e) where
    goes_on_chosen : (n : NodeForm) → chosen closure n.todo ≡ e → Among (map (kid closure n e) (changes (rule_of n.now (core_until a b))))
        → GoesOn n.todo (rule_of n.now (core_until a b)) (map (kid closure n e) (changes (rule_of n.now (core_until a b))))
    goes_on_chosen n ce =
        let u = core_until a b in
        let C : Rule → Type 0 = λ r. Among (map (kid closure n e) (changes r)) → GoesOn n.todo r (map (kid closure n e) (changes r)) in
        let k = kid closure n e (waits a u) in
        let put_off : m ≡ k → IsTrue (carries e m) = λ q. subst (λ (z : NodeForm). IsTrue (carries e z)) (sym q)
        (or_right (has_number k.todo e) (has_number k.next e) (subst (λ z. IsTrue (has_number (with_number (number_in closure u) n.next) z)) ne (has_with (number_in closure u) n.next))) in
        cond_case C (decided_true n.now b) _ _ (λ _ s. elim s [ inl q ↦ inl (ce, refl, q) | inr z ↦ absurd z ])
        (λ _. cond_case C (decided_false n.now b) _ _ (λ _ s. elim s [ inl q ↦ inr (put_off q) | inr z ↦ absurd z ])
        (λ _ s. elim s [ inl q ↦ inl (ce, refl, q) | inr (inl q) ↦ inr (put_off q) | inr (inr z) ↦ absurd z ]))

    goes_on_todo : (todo now next : List ℕ) → IsTrue (carries e (mk todo now next)) → Among (kids_by closure full (mk todo now next) (todo_rule closure now todo))
        → GoesOn todo (todo_rule closure now todo) (kids_by closure full (mk todo now next) (todo_rule closure now todo))
    goes_on_todo [] now next h s =
        elim s [ inl q ↦ inr (subst (λ (k : NodeForm). IsTrue (carries e k)) (sym q) (or_left (has_number next e) false h)) | inr z ↦ absurd z ]
    goes_on_todo (f ∷ fs) now next h s =
        let g = first_best closure f fs in
        let n = mk (f ∷ fs) now next in
        let r = rule_of now (formula_at closure g) in
        let is = kids_by_changes closure full n r (no_step now (formula_at closure g)) in
        let among = subst Among is s in
        subst (GoesOn (f ∷ fs) r) (sym is)
        (elim (bool_cases (g == e)) [
          | inl q ↦
              let ge = eq_of g e q in
              let D : CoreForm → Type 0 = λ x. Among (map (kid closure n g) (changes (rule_of now x))) → GoesOn (f ∷ fs) (rule_of now x) (map (kid closure n g) (changes (rule_of now x))) in
              let E : ℕ → Type 0 = λ z. Among (map (kid closure n z) (changes (rule_of now (core_until a b)))) → GoesOn (f ∷ fs) (rule_of now (core_until a b)) (map (kid closure n z) (changes (rule_of now (core_until a b)))) in
              (subst D (sym (ap (formula_at closure) ge ∙ ue)) (subst E (sym ge) (goes_on_chosen n ge))) among
          | inr q ↦
              let other : g ≢ e = λ z. true≢false (sym (eq_to g e z) ∙ q) in
              inr (in_kid g n r (elim (or_true (has_number (f ∷ fs) e) (has_number next e) h) [ inl x ↦ inl (has_without g e (f ∷ fs) other x) | inr x ↦ inr x ]) among)
        ])

    goes_on : (n : NodeForm) → IsTrue (carries e n) → Among (kids closure full n) → GoesOn n.todo (node_rule closure n) (kids closure full n)
    goes_on n h = go (has_empty n.now)
      where
        go : (c : Bool) → Among (kids_by closure full n (cond c clash (todo_rule closure n.now n.todo))) → GoesOn n.todo (cond c clash (todo_rule closure n.now n.todo)) (kids_by closure full n (cond c clash (todo_rule closure n.now n.todo)))
        go true s = absurd s
        go false s = goes_on_todo n.todo n.now n.next h s

  first_gets : (ks : List NodeForm) → FirstOf (λ k. m ≡ k) ks → slice_get ks 0 ≡ Some m
  first_gets [] h = absurd h
  first_gets (k ∷ ks) h = ap Some (sym h)

pub carrying_law : (sizes : List ℕ) (cores : List CoreForm) (e : ℕ) → IsTrue (is_until (formula_at (closure_of cores) e)) → (n m : NodeForm) → IsTrue (carries e n) → Contains (kids (closure_of cores) (full_of sizes) n) m
    → FulfilsIn (closure_of cores) (full_of sizes) e n m ⊎ IsTrue (carries e m)
carrying_law sizes cores e u n m h c =
    let closure = closure_of cores in
    let full = full_of sizes in
    let ks = kids closure full n in
    let parts = until_is (formula_at closure e) u in
    let ne : number_in closure (core_until parts.0 parts.1) ≡ e = subst (λ f. number_in closure f ≡ e) parts.2 (has_numbers cores e u) in
    elim (goes_on closure full e m parts.0 parts.1 parts.2 ne n h (any_at (λ k. m ≡ k) ks c.0 m c.1 c.2 refl)) [
      | inl w ↦ inl (record { turn = w.0; can = w.1; first = first_gets closure full e m ks w.2 })
      | inr x ↦ inr x
    ]
