-- A closed walk is an endless one along the trace of its states.
use Rattle.std.proofs.Common.{◌≡◌, ℕ, zero, suc, ◌+◌, ◌-◌, ◌^◌, ◌<◌, ◌≤◌, Bool, true, false, List, [], ◌∷◌, ◌++◌, ◌==◌, ◌||◌, IsTrue, not, cond, refl, arith, inl, inr, sym, ap, subst, ◌∙◌, true≢false, length, map, lt-suc_self, length-append, Some}
use Rattle.std.specs.Prelude.{slice_index, slice_index_or, slice_get}
use Rattle.std.specs.Int.{w64}
use Rattle.std.specs.List.{AllByRecursion as Each}
use Rattle.std.proofs.lemmas.Bool.{cases_lt}
use Rattle.std.proofs.lemmas.Nat.{and_le_l}
use Rattle.std.proofs.lemmas.Nat.Bits.{bit_at-trailing_zeros}
use Rattle.temporal_logic.specs.Rows.{row_at, from_lists}
use Rattle.bound_unfolding.specs.CoreForm.{CoreForm, core_until}
use Rattle.formula_table.specs.Closures.{formula_at, number_in}
use Rattle.tableau_rules.specs.Sets.{has_number, without_number}
use Rattle.tableau_rules.specs.Rules.{adds, Rule, clash, changes, fulfils, decided_true, decided_false, rule_of}
use Rattle.tableau_rules.specs.Nodes.{NodeForm, first_best, chosen, has_empty, met_with, met_with_all, todo_rule, kid, kids_by, kids}
use Rattle.tableau_rules.specs.Walks.{no_node, node_at, Settles, least_index, states}
use Rattle.formula_table.proofs.Tests.{cond_case}
use Rattle.tableau_rules.proofs.Lists.{AnyOf, FirstOf, some_source, some_const}
use Rattle.tableau_rules.proofs.NumberSets.{has_first_best, has_with}
use Rattle.tableau_rules.proofs.IndexSets.{LieIn, lie_of_met_all, length-met_with_all}
use Rattle.tableau_rules.proofs.RuleParts.{no_step, LiteralBelow, IsClosed}
use Rattle.tableau_rules.proofs.KidMeetings.{mk}
use Rattle.tableau_rules.proofs.NodeRules.{kids_by_changes}
use Rattle.tableau_rules.proofs.Outcomes.{weight}
use Rattle.tableau_rules.proofs.Rounds.{unrolled_again, first_round}
use Rattle.tableau_rules.proofs.EndlessWalks.{Turn, steps, ruled, Serves, idle, served, Ruled, ruled_all, keeps_all}
use Rattle.tableau_rules.proofs.WalkStates.{after_turn, position_at, steps_before, state_of, position_steps, steps_all, steps_front, stepping_stands, states-append, position_mono}

-- ---- from kids to turns
module _ (closure : List CoreForm) (full : List ℕ) (m : NodeForm) (p : ℕ) where
  turn_todo : (todo now next : List ℕ) → AnyOf (λ k. m ≡ k) (kids_by closure full (mk todo now next) (todo_rule closure now todo)) → Turn closure full (mk todo now next) m p (after_turn todo p)
  turn_todo [] now next h = elim h [ inl e ↦ steps refl e (omega arith) | inr z ↦ absurd z ]
  turn_todo (f ∷ fs) now next h =
      let g = first_best closure f fs in
      let n = mk (f ∷ fs) now next in
      let r = rule_of now (formula_at closure g) in
      ruled (has_first_best closure f fs)
      (some_source (λ k. m ≡ k) (kid closure n g) (changes r)
      (subst (AnyOf (λ k. m ≡ k)) (kids_by_changes closure full n r (no_step now (formula_at closure g))) h)) refl

  pub turn_of : (n : NodeForm) → AnyOf (λ k. m ≡ k) (kids closure full n) → Turn closure full n m p (after_turn n.todo p) × IsTrue (not (has_empty n.now))
  turn_of n = go (has_empty n.now) refl
    where
      go : (b : Bool) → has_empty n.now ≡ b → AnyOf (λ k. m ≡ k) (kids_by closure full n (cond b clash (todo_rule closure n.now n.todo))) → Turn closure full n m p (after_turn n.todo p) × IsTrue (not (has_empty n.now))
      go true e h = absurd h
      go false e h = (turn_todo n.todo n.now n.next h, ap not e)

  -- an until that is fulfilled is served
  module _ (e : ℕ) (a b : CoreForm) (ue : formula_at closure e ≡ core_until a b) where
    served_todo : (todo now next : List ℕ) → chosen closure todo ≡ e → IsTrue (fulfils (todo_rule closure now todo)) → FirstOf (λ k. m ≡ k) (kids_by closure full (mk todo now next) (todo_rule closure now todo))
        → IsTrue (has_number m.todo (number_in closure b)) × (after_turn todo p ≡ p)
    served_todo [] now next ce ff h = absurd (true≢false (sym ff))
    served_todo (f ∷ fs) now next ce ff h =
        let g = first_best closure f fs in
        let n = mk (f ∷ fs) now next in
        let B : NodeForm → Type 0 = λ k. IsTrue (has_number k.todo (number_in closure b)) in
        let q : formula_at closure g ≡ core_until a b = ap (formula_at closure) ce ∙ ue in
        let first : FirstOf (λ k. m ≡ k) (map (kid closure n g) (changes (rule_of now (formula_at closure g)))) = subst (FirstOf (λ k. m ≡ k)) (kids_by_changes closure full n (rule_of now (formula_at closure g)) (no_step now (formula_at closure g))) h in
        let D : CoreForm → Type 0 = λ x. IsTrue (fulfils (rule_of now x)) → FirstOf (λ k. m ≡ k) (map (kid closure n g) (changes (rule_of now x))) → B m in
        let C : Rule → Type 0 = λ r. IsTrue (fulfils r) → FirstOf (λ k. m ≡ k) (map (kid closure n g) (changes r)) → B m in
        let fulfil : m ≡ kid closure n g (adds (b ∷ [])) → B m = λ z. subst B (sym z) (has_with (number_in closure b) (without_number g (f ∷ fs))) in
        let by_until : D (core_until a b) = cond_case C (decided_true now b) _ _ (λ _ _ z. fulfil z)
        (λ _. cond_case C (decided_false now b) _ _ (λ _ x _. absurd (true≢false (sym x))) (λ _ _ z. fulfil z)) in
        (subst D (sym q) by_until ff first, refl)

    first_is : (ks : List NodeForm) → slice_get ks 0 ≡ Some m → FirstOf (λ k. m ≡ k) ks
    first_is [] h = absurd (cc)
    first_is (k ∷ ks) h = cc

    pub serves_of : (n : NodeForm) → Settles closure full e n m → Serves closure e b n m p (after_turn n.todo p)
    serves_of n s =
        elim s [
          | inl x ↦ idle x
          | inr x ↦ let r = go (has_empty n.now) x.turn x.can (first_is (kids closure full n) x.first) in served r.0 r.1
        ]
      where
        go : (c : Bool) → chosen closure n.todo ≡ e → IsTrue (fulfils (cond c clash (todo_rule closure n.now n.todo))) → FirstOf (λ k. m ≡ k) (kids_by closure full n (cond c clash (todo_rule closure n.now n.todo)))
            → IsTrue (has_number m.todo (number_in closure b)) × (after_turn n.todo p ≡ p)
        go true ce ff h = absurd h
        go false ce ff h = served_todo n.todo n.now n.next ce ff h

-- ---- picks
abbrev pub AreSmall : List ℕ → Type 0
AreSmall now = Each (λ set. set < 2 ^ 64) now

-- the least indexes lie in the sets
pub pick_lies : (now : List ℕ) → AreSmall now → IsTrue (not (has_empty now)) → LieIn (slice_index (map least_index now)) now
pick_lies [] l h = tt
pick_lies (x ∷ xs) l h = go (x == 0) refl h (pick_lies xs l.1)
  where
    go : (b : Bool) → (x == 0) ≡ b → IsTrue (not (b || has_empty xs)) → (IsTrue (not (has_empty xs)) → LieIn (slice_index (map least_index xs)) xs) → LieIn (slice_index (map least_index (x ∷ xs))) (x ∷ xs)
    go true e h rest = absurd (true≢false (sym h))
    go false e h rest = let some : 0 < x = grind arith in ((bit_at-trailing_zeros w64 x some l.0).1, rest h)

small_met : (x set : ℕ) (now : List ℕ) → AreSmall now → AreSmall (met_with x set now)
small_met x set [] h = tt
small_met zero set (a ∷ now) h = ((let l = h.0 in omega (arith, and_le_l a set)), h.1)
small_met (suc x) set (a ∷ now) h = (h.0, small_met x set now h.1)

small_met_all : (ms : List (ℕ × ℕ)) (now : List ℕ) → AreSmall now → AreSmall (met_with_all ms now)
small_met_all [] now h = h
small_met_all (m ∷ ms) now h = small_met_all ms (met_with m.0 m.1 now) (small_met m.0 m.1 now h)

-- ---- a walk by turns, where each variable of a literal has a set
pub record Turns (closure : List CoreForm) (full : List ℕ) (node : ℕ → NodeForm) : Type 0 where
  pub closed : IsClosed closure
  pub over : (g : ℕ) → LiteralBelow (length full) (formula_at closure g)
  pub starts : (node 0).now ≡ full
  pub small : AreSmall full
  pub turn : (k : ℕ) → Turn closure full (node k) (node (suc k)) (position_at node k) (position_at node (suc k))
  pub open_now : (k : ℕ) → IsTrue (not (has_empty (node k).now))

-- as many sets, and no index that is not among all
pub record Within (full now : List ℕ) : Type 0 where
  pub as_long : length now ≡ length full
  pub within : (s : ℕ → ℕ) → LieIn s now → LieIn s full
  pub small : AreSmall now

-- the step that ends the position at which the walk is at k
pub record StepAhead (node : ℕ → NodeForm) (k : ℕ) : Type 0 where
  pub to : ℕ
  pub same : position_at node to ≡ position_at node k
  pub empty : (node to).todo ≡ []
  pub within : (s : ℕ → ℕ) → LieIn s (node to).now → LieIn s (node k).now

module _ (closure : List CoreForm) (full : List ℕ) (node : ℕ → NodeForm) (walk : Turns closure full node) where
  abbrev pos : ℕ → ℕ
  pos = position_at node

  abbrev load : ℕ → ℕ
  load k = weight closure (node k).todo

  all_within : Within full full
  all_within = record { as_long = refl; within = λ s h. h; small = walk.small }

  pub within_full : (k : ℕ) → Within full (node k).now
  within_full zero = subst (Within full) (sym walk.starts) all_within
  within_full (suc k) =
      let before = within_full k in
      elim (walk.turn k) [
        | steps _ is _ ↦ subst (λ (n : NodeForm). Within full n.now) (sym is) all_within
        | ruled hc s _ ↦
            let n = node k in
            let g = chosen closure n.todo in
            let o : LiteralBelow (length n.now) (formula_at closure g) = subst (λ z. LiteralBelow z (formula_at closure g)) (sym before.as_long) (walk.over g) in
            some_const (Within full (node (suc k)).now) (Ruled closure n (node (suc k))) (changes (rule_of n.now (formula_at closure g)))
            (λ c r. subst (λ (z : NodeForm). Within full z.now) (sym r.is) (record {
              as_long = length-met_with_all c.sets n.now ∙ before.as_long;
              within = λ s h. before.within s ((lie_of_met_all s c.sets n.now r.over h).1);
              small = small_met_all c.sets n.now before.small;
            }))
            (ruled_all closure n (node (suc k)) walk.closed o s)
      ]

  pub over_at : (k g : ℕ) → LiteralBelow (length (node k).now) (formula_at closure g)
  over_at k g = subst (λ z. LiteralBelow z (formula_at closure g)) (sym (within_full k).as_long) (walk.over g)

  step_ahead : (w k : ℕ) → load k < w → StepAhead node k
  step_ahead zero k l = absurd (omega arith)
  step_ahead (suc w) k l =
      elim (walk.turn k) [
        | steps em _ _ ↦ record { to = k; same = refl; empty = em; within = λ s h. h }
        | ruled hc so same ↦
            let n = node k in
            let g = chosen closure n.todo in
            let all = ruled_all closure n (node (suc k)) walk.closed (over_at k g) so in
            let less = (keeps_all closure n (node (suc k)) hc all).less in
            let r = step_ahead w (suc k) (omega arith) in
            record {
              to = r.to;
              same = r.same ∙ same;
              empty = r.empty;
              within = λ s h. some_const (LieIn s n.now) (Ruled closure n (node (suc k))) (changes (rule_of n.now (formula_at closure g)))
                  (λ c q. (lie_of_met_all s c.sets n.now q.over (subst (λ (z : NodeForm). LieIn s z.now) q.is (r.within s h))).1) all;
            }
      ]

  pub ahead : (k : ℕ) → StepAhead node k
  ahead k = step_ahead (suc (load k)) k (lt-suc_self (load k))

  -- turns without a step weigh at least as much as they are many
  pub lighter : (m k j : ℕ) → k + m ≡ j → pos j ≡ pos k → load j + m ≤ load k
  lighter zero k j q e = let r : k ≡ j = omega arith in omega (arith, ap load r)
  lighter (suc m) k j q e =
      let le = position_mono node m (suc k) j (omega arith) in
      elim (walk.turn k) [
        | steps em _ p ↦ absurd (omega (arith, le, p, e))
        | ruled hc so same ↦
            let n = node k in
            let all = ruled_all closure n (node (suc k)) walk.closed (over_at k (chosen closure n.todo)) so in
            let less = (keeps_all closure n (node (suc k)) hc all).less in
            omega (arith, less, lighter m (suc k) j (omega arith) (e ∙ sym same))
      ]

  -- each position is reached
  pub reach : (i : ℕ) → (k : ℕ) × (pos k ≡ i)
  reach zero = (0, refl)
  reach (suc i) =
      let r = reach i in
      let a = ahead r.0 in
      (suc a.to, ap (λ z. after_turn z (pos a.to)) a.empty ∙ ap suc (a.same ∙ r.1))

-- ---- round by round
module _ (stem loop : List NodeForm) where
  abbrev node : ℕ → NodeForm
  node = node_at stem loop

  abbrev place : ℕ → ℕ
  place = position_at node

  pub again : (k : ℕ) → length stem ≤ k → node (k + length loop) ≡ node k
  again k l = unrolled_again no_node stem loop k l

  place_front : (k : ℕ) → k ≤ length stem + length loop → place k ≡ steps_before (stem ++ loop) k
  place_front k l =
      position_steps node (stem ++ loop) (λ j b. first_round no_node stem loop j (omega (arith, length-append stem loop))) k (omega (arith, length-append stem loop))

  place_stem : place (length stem) ≡ length (states stem)
  place_stem = place_front (length stem) (omega arith) ∙ steps_front stem loop

  place_round : place (length stem + length loop) ≡ length (states stem) + length (states loop)
  place_round =
      place_front (length stem + length loop) (omega arith)
      ∙ ap (steps_before (stem ++ loop)) (sym (length-append stem loop))
      ∙ steps_all (stem ++ loop)
      ∙ ap length (states-append stem loop)
      ∙ length-append (states stem) (states loop)

  turn_later : (todo : List ℕ) (p w : ℕ) → after_turn todo (p + w) ≡ after_turn todo p + w
  turn_later [] p w = omega arith
  turn_later (x ∷ xs) p w = refl

  place_again : (m k : ℕ) → k ≡ length stem + m → place (k + length loop) ≡ place k + length (states loop)
  place_again zero k e =
      let q : k ≡ length stem = omega arith in
      subst (λ z. place (z + length loop) ≡ place z + length (states loop)) (sym q) (omega (arith, place_round, place_stem))
  place_again (suc m) k e =
      let j = length stem + m in
      let q : k ≡ suc j = omega arith in
      let q_round : suc j + length loop ≡ suc (j + length loop) = omega arith in
      subst (λ z. place (z + length loop) ≡ place z + length (states loop)) (sym q)
      (ap place q_round
      ∙ ap (λ (n : NodeForm). after_turn n.todo (place (j + length loop))) (again j (omega arith))
      ∙ ap (after_turn (node j).todo) (place_again m j refl)
      ∙ turn_later (node j).todo (place j) (length (states loop)))

  -- at each step the trace has what was picked
  abbrev row : ℕ → List ℕ
  row = row_at (states stem) (states loop)

  row_first : (k : ℕ) → k < length stem + length loop → (node k).todo ≡ [] → row (place k) ≡ state_of (node k)
  row_first k l e =
      let xs = stem ++ loop in
      let same : node k ≡ slice_index_or xs k no_node = first_round no_node stem loop k l in
      let stands = stepping_stands xs k (omega (arith, length-append stem loop)) (sym (ap (λ (n : NodeForm). n.todo) same) ∙ e) in
      let p : place k ≡ steps_before xs k = place_front k (omega arith) in
      let parts = states-append stem loop in
      let long : length (states xs) ≡ length (states stem) + length (states loop) = ap length parts ∙ length-append (states stem) (states loop) in
      let below = stands.below in
      first_round [] (states stem) (states loop) (place k) (omega (arith, below, p, long))
      ∙ ap (λ zs. slice_index_or zs (place k) []) (sym parts)
      ∙ ap (λ z. slice_index_or (states xs) z []) p
      ∙ stands.is
      ∙ ap state_of (sym same)

  row_step : 0 < length loop → (rounds k : ℕ) → k < length stem + length loop + rounds → (node k).todo ≡ [] → row (place k) ≡ state_of (node k)
  row_step some zero k l e = row_first k (omega arith) e
  row_step some (suc rounds) k l e =
      elim (cases_lt k (length stem + length loop)) [
        | inl b ↦ row_first k b e
        | inr b ↦
            let c = length loop in
            let j = k - c in
            let q : j + c ≡ k = omega arith in
            let same : node k ≡ node j = ap node (sym q) ∙ again j (omega arith) in
            let before = row_step some rounds j (omega arith) (sym (ap (λ (n : NodeForm). n.todo) same) ∙ e) in
            let p : place k ≡ place j + length (states loop) = ap place (sym q) ∙ place_again (j - length stem) j (omega arith) in
            let behind : length (states stem) ≤ place j = omega (arith, place_stem, position_mono node (j - length stem) (length stem) j (omega arith)) in
            ap row p ∙ unrolled_again [] (states stem) (states loop) (place j) behind ∙ before ∙ ap state_of (sym same)
      ]

  module _ (closure : List CoreForm) (full : List ℕ) (walk : Turns closure full node) (some : 0 < length loop) where
    -- a round has a step
    pub steps_some : 0 < length (states loop)
    steps_some =
        elim (cases_lt 0 (length (states loop))) [
          | inl b ↦ b
          | inr z ↦
              let s = length stem in
              let e : place (s + length loop) ≡ place s = omega (arith, place_round, place_stem) in
              absurd (omega (arith, lighter closure full node walk (length loop) s (s + length loop) refl e, ap (λ (n : NodeForm). weight closure n.todo) (again s (omega arith))))
        ]

    -- what was picked at the step of a position lies in the sets of each node there
    pub trace_lies : (k : ℕ) → LieIn (from_lists (states stem) (states loop) (place k)) (node k).now
    trace_lies k =
        let a = ahead closure full node walk k in
        let now = (node a.to).now in
        let e : row (place k) ≡ map least_index now = ap row (sym a.same) ∙ row_step some (suc a.to) a.to (omega arith) a.empty in
        subst (λ s. LieIn (slice_index s) (node k).now) (sym e)
        (a.within (slice_index (map least_index now)) (pick_lies now (within_full closure full node walk a.to).small (walk.open_now a.to)))
