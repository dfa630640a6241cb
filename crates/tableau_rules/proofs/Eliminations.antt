-- No trace meets a node of a valid certificate: by rank, among those that wait by where their until is fulfilled, and there by what is to do.
use Rattle.std.proofs.Common.{◌≡◌, ℕ, zero, suc, ◌+◌, ◌<◌, ◌≤◌, ◌⊎◌, List, [], ◌∷◌, IsTrue, refl, arith, inl, inr, sym, subst, true≢false, Some, lt-suc_self}
use Rattle.std.specs.Prelude.{slice_get}
use Rattle.std.specs.List.{AllByRecursion as Each}
use Rattle.std.proofs.lemmas.List.Elements.{recursion_from_All}
use Rattle.temporal_logic.specs.Truth.{Trace}
use Rattle.temporal_logic.specs.Traces.{TraceFits}
use Rattle.bound_unfolding.specs.CoreForm.{CoreForm, core_until, CoreTruth}
use Rattle.formula_table.specs.Closures.{formula_at, number_in, closure_of}
use Rattle.state_space.specs.Members.{full_of}
use Rattle.tableau_rules.specs.Nodes.{NodeForm, chosen, kids, root_of}
use Rattle.tableau_rules.specs.Certificates.{ReasonForm, clash, dead, wait, CertNodeForm, HoldsKids, EachKid, FirstKid, is_until, Waits, IsEliminated, IsValid}
use Rattle.tableau_rules.specs.Queries.{MeetsAll}
use Rattle.tableau_rules.proofs.Lists.{AnyOf, FirstOf}
use Rattle.tableau_rules.proofs.NumberSets.{each_with_cores}
use Rattle.tableau_rules.proofs.IndexSets.{LieIn, lie_in, full_lies}
use Rattle.tableau_rules.proofs.RuleParts.{IsClosed}
use Rattle.tableau_rules.proofs.KidMeetings.{Meets, each_to}
use Rattle.tableau_rules.proofs.Closing.{HasNumbers, is_closed, has_numbers, cores_known}
use Rattle.tableau_rules.proofs.Outcomes.{not_not_decided, weight, Carried, Kept, SteppedOn, carrier, fulfilled, kept, stepped_on, outcome, meets_some, clash_none}

-- ---- what stands at a kid's place
pub record Found (cert : List CertNodeForm) (P : CertNodeForm → Type 0) (Q : NodeForm → Type 0) : Type 0 where
  pub it : CertNodeForm
  pub place : ℕ
  pub here : slice_get cert place ≡ Some it
  pub marked : P it
  pub has : Q it.node

module _ (cert : List CertNodeForm) (P : CertNodeForm → Type 0) (Q : NodeForm → Type 0) where
  found_in : (ps : List ℕ) (ns : List NodeForm) → HoldsKids cert ps ns → Each (λ p. (d : CertNodeForm) → slice_get cert p ≡ Some d → P d) ps → AnyOf Q ns → Found cert P Q
  found_in [] [] h e s = absurd s
  found_in (p ∷ ps) (n ∷ ns) h e s =
      elim s [
        | inl q ↦ record { it = h.0.0; place = p; here = h.0.1; marked = e.0 h.0.0 h.0.1; has = subst Q (sym h.0.2) q }
        | inr m ↦ found_in ps ns h.1 e.1 m
      ]
  found_in _ _ h e s = absurd h

  found : (ps : List ℕ) (ns : List NodeForm) → HoldsKids cert ps ns → EachKid cert P ps → AnyOf Q ns → Found cert P Q
  found ps ns h e s = found_in ps ns h (recursion_from_All (λ p. (d : CertNodeForm) → slice_get cert p ≡ Some d → P d) ps e) s

  found_first : (ps : List ℕ) (ns : List NodeForm) → HoldsKids cert ps ns → FirstKid cert P ps → FirstOf Q ns → Found cert P Q
  found_first [] [] h e s = absurd s
  found_first (p ∷ ps) (n ∷ ns) h e q =
      record { it = h.0.0; place = p; here = h.0.1; marked = e h.0.0 h.0.1; has = subst Q (sym h.0.2) q }
  found_first _ _ h e s = absurd h

pub until_is : (f : CoreForm) → IsTrue (is_until f) → (a : CoreForm) × (b : CoreForm) × (f ≡ core_until a b)
until_is (core_until a b) h = (a, b, refl)
until_is _ h = absurd (true≢false (sym h))

module _ (sizes : List ℕ) (cores : List CoreForm) (cert : List CertNodeForm) (valid : IsValid sizes cores cert) (t : Trace) (lies : (i : ℕ) → LieIn (t i) (full_of sizes)) where
  abbrev closure : List CoreForm
  closure = closure_of cores

  abbrev full : List ℕ
  full = full_of sizes

  closed : IsClosed closure
  closed = is_closed cores

  numbers : HasNumbers closure
  numbers = has_numbers cores

  -- no trace meets a node whose rank is below r
  abbrev Safe : ℕ → Type 0
  Safe r = (k : ℕ) (c : CertNodeForm) → slice_get cert k ≡ Some c → c.rank < r → (i : ℕ) → ¬ (Meets t closure i c.node)

  module _ (r : ℕ) (safe : Safe r) where
    module _ (e : ℕ) (a b : CoreForm) (ue : formula_at closure e ≡ core_until a b) (ne : number_in closure (core_until a b) ≡ e) where
      -- nor one of rank at most r that waits for e, where e is fulfilled at most d positions on, and what is to do weighs less than m
      abbrev WaitSafe : ℕ → ℕ → Type 0
      WaitSafe d m = (k : ℕ) (c : CertNodeForm) → slice_get cert k ≡ Some c → c.rank ≤ r → c.reason ≡ wait e → (i j : ℕ) → j ≤ i + d
          → weight closure c.node.todo < m → Meets t closure i c.node → ¬ (Carried t a b e i j c.node)

      abbrev AfterStep : ℕ → Type 0
      AfterStep zero = Unit {0}
      AfterStep (suc d) = (m : ℕ) → WaitSafe d m

      after_step : (d : ℕ) → AfterStep d → (k : ℕ) (c : CertNodeForm) → slice_get cert k ≡ Some c → c.rank ≤ r → c.reason ≡ wait e → (i j : ℕ) → j ≤ i + d
          → ¬ (SteppedOn t closure a b e i j c.node)
      after_step zero f k c here l re i j g s = let q = s.before in omega arith
      after_step (suc d) f k c here l re i j g s =
          f (suc (weight closure c.node.todo)) k c here l re (i + 1) j (omega arith) (lt-suc_self (weight closure c.node.todo)) s.meets s.carried

      wait_at : (d : ℕ) → AfterStep d → (m : ℕ) → WaitSafe d m
      wait_at d after zero p c here l re i j g less m x = omega arith
      wait_at d after (suc more) p c here l re i j g less m x =
          not_not_decided t i (formula_at closure (chosen closure c.node.todo)) (λ dec.
          let waiting : Waits closure cert c e = subst (IsEliminated closure cert c) re (valid.reason p c here) in
          let holds = valid.kids p c here in
          let ks = kids closure full c.node in
          let Lower : CertNodeForm → Type 0 = λ u. u.rank < c.rank in
          let Stays : CertNodeForm → Type 0 = λ u. (u.rank < c.rank) ⊎ ((u.rank ≡ c.rank) × (u.reason ≡ wait e)) in
          elim (outcome t closure full closed i (lies (i + 1)) a b e j ue ne c.node dec m x) [
            | fulfilled ch ff fm ↦
                let z = found_first cert Lower (Meets t closure i) c.kids ks holds (waiting.fulfilled ch ff) fm in
                let lower : z.it.rank < r = omega (arith, z.marked) in
                safe z.place z.it z.here lower i z.has
            | kept s ↦
                let z = found cert Stays (Kept t closure a b e i j (weight closure c.node.todo)) c.kids ks holds waiting.stays s in
                let q = z.has in
                elim z.marked [
                  | inl lo ↦ let lower : z.it.rank < r = omega arith in safe z.place z.it z.here lower i q.meets
                  | inr sa ↦
                      wait_at d after more z.place z.it z.here (omega (arith, sa.0)) sa.1 i j g (omega (arith, q.less)) q.meets q.carried
                ]
            | stepped_on s ↦
                let z = found cert Stays (SteppedOn t closure a b e i j) c.kids ks holds waiting.stays s in
                let q = z.has in
                elim z.marked [
                  | inl lo ↦ let lower : z.it.rank < r = omega arith in safe z.place z.it z.here lower (i + 1) q.meets
                  | inr sa ↦ after_step d after z.place z.it z.here (omega (arith, sa.0)) sa.1 i j g q
                ]
          ])

      wait_all : (d : ℕ) → AfterStep (suc d)
      wait_all zero = wait_at zero tt
      wait_all (suc d) = wait_at (suc d) (wait_all d)

    by_reason : (k : ℕ) (c : CertNodeForm) → slice_get cert k ≡ Some c → c.rank ≤ r → (i : ℕ) → Meets t closure i c.node → (s : ReasonForm) → c.reason ≡ s → ¬ (IsEliminated closure cert c s)
    by_reason p c here l i m clash re h =
        not_not_decided t i (formula_at closure (chosen closure c.node.todo)) (λ d. clash_none t closure closed i c.node d m h)
    by_reason p c here l i m dead re h =
        not_not_decided t i (formula_at closure (chosen closure c.node.todo)) (λ d.
        let Q : NodeForm → Type 0 = λ n. Meets t closure i n ⊎ Meets t closure (i + 1) n in
        let z = found cert (λ u. u.rank < c.rank) Q c.kids (kids closure full c.node) (valid.kids p c here) h.lower (meets_some t closure full closed i (lies (i + 1)) c.node d m) in
        let lower : z.it.rank < r = omega (arith, z.marked) in
        elim z.has [ inl x ↦ safe z.place z.it z.here lower i x | inr x ↦ safe z.place z.it z.here lower (i + 1) x ])
    by_reason p c here l i m (wait e) re h =
        let u = until_is (formula_at closure e) h.until in
        let ne : number_in closure (core_until u.0 u.1) ≡ e = subst (λ f. number_in closure f ≡ e) u.2 (numbers e h.until) in
        let x = carrier t closure u.0 u.1 e i c.node u.2 h.carried m in
        wait_all e u.0 u.1 u.2 ne x.to (suc (weight closure c.node.todo)) p c here l re i x.to (omega arith) (lt-suc_self (weight closure c.node.todo)) m x.carried

  safe_at : (r : ℕ) → Safe r
  safe_at zero p c here l i m = omega arith
  safe_at (suc r) p c here l i m = by_reason r (safe_at r) p c here (omega arith) i m c.reason refl (valid.reason p c here)

  root_unmet : (i : ℕ) → ¬ (Meets t closure i (root_of closure full cores))
  root_unmet i m =
      let root = valid.root in
      safe_at (suc root.0.rank) 0 root.0 root.1 (lt-suc_self root.0.rank) i (subst (Meets t closure i) (sym root.2) m)

  -- the cores are all true at the start exactly where the root is met
  pub cores_unmet : ¬ (Each (λ c. CoreTruth t c 0) cores)
  cores_unmet h =
      root_unmet 0 (record {
        now = lies 0;
        todo = each_with_cores closure (λ f. CoreTruth t (formula_at closure f) 0) cores [] (each_to t closure 0 cores (cores_known cores) h) tt;
        next = tt;
      })

pub certificate_law : (sizes : List ℕ) (cores : List CoreForm) (cert : List CertNodeForm) → IsValid sizes cores cert → (t : Trace) → TraceFits sizes t → ¬ (MeetsAll t cores)
certificate_law sizes cores cert valid t fits meets =
    cores_unmet sizes cores cert valid t (λ i. lie_in (t i) (full_of sizes) (full_lies sizes t fits i)) (recursion_from_All (λ c. CoreTruth t c 0) cores meets)
