-- The states along a closed walk make a lasso of the query's space that meets the query.
use Rattle.std.proofs.Common.{◌≡◌, ℕ, zero, suc, ◌+◌, ◌-◌, ◌^◌, ◌<◌, ◌≤◌, List, [], ◌∷◌, IsTrue, refl, arith, inl, inr, sym, ap, subst, ◌∙◌, length, map, pow_pos, pow_mono}
use Rattle.std.specs.Prelude.{slice_index, slice_index_or, Contains, All}
use Rattle.std.specs.Int.{bit_at}
use Rattle.std.specs.List.{AllByRecursion as Each}
use Rattle.std.proofs.Math.ListN.{get_or-append}
use Rattle.std.proofs.lemmas.Bool.{cases_lt}
use Rattle.std.proofs.lemmas.List.{get_or-map, length-map, get_or-append-add}
use Rattle.std.proofs.lemmas.List.Elements.{recursion_from_All, All-from_recursion}
use Rattle.std.proofs.lemmas.Nat.Bits.{bit_at_ones_above}
use Rattle.state_space.specs.Fitting.{ValuesFit}
use Rattle.temporal_logic.specs.Truth.{Trace}
use Rattle.temporal_logic.specs.Rows.{from_lists}
use Rattle.bound_unfolding.specs.CoreForm.{CoreForm, CoreTruth}
use Rattle.formula_table.specs.Closures.{formula_at, number_in, closure_of}
use Rattle.tableau_rules.specs.Sets.{has_number}
use Rattle.state_space.specs.Members.{full_of}
use Rattle.tableau_rules.specs.Nodes.{NodeForm, kids}
use Rattle.tableau_rules.specs.Certificates.{is_until}
use Rattle.tableau_rules.specs.Queries.{IsOver}
use Rattle.tableau_rules.specs.Walks.{no_node, node_at, Settles, IsClosedWalk, least_index, is_empty, states, IsAnswer}
use Rattle.formula_table.proofs.Tests.{cond_case}
use Rattle.tableau_rules.proofs.Lists.{AnyOf, any_at, each_map, each_both}
use Rattle.tableau_rules.proofs.NumberSets.{each_put_in}
use Rattle.tableau_rules.proofs.IndexSets.{LieIn, lie_each, length-full_of}
use Rattle.tableau_rules.proofs.RuleParts.{LiteralBelow, IsKnown}
use Rattle.tableau_rules.proofs.Closing.{is_closed, cores_known, literals_over}
use Rattle.tableau_rules.proofs.Rounds.{first_round, each_round}
use Rattle.tableau_rules.proofs.EndlessWalks.{EndlessWalk, truth_on_walk}
use Rattle.tableau_rules.proofs.WalkStates.{position_at, state_of}
use Rattle.tableau_rules.proofs.ClosedWalks.{turn_of, serves_of, AreSmall, pick_lies, Turns, within_full, over_at, again, steps_some, trace_lies}

-- ---- sizes
small_full : (sizes : List ℕ) → Each (λ size. size ≤ 64) sizes → AreSmall (full_of sizes)
small_full [] h = tt
small_full (size ∷ sizes) h = (let m = pow_mono h.0 in let s = pow_pos size in omega arith, small_full sizes h.1)

index_below : (size v : ℕ) → bit_at (2 ^ size - 1) v ≡ 1 → v < size
index_below size v h = elim (cases_lt v size) [ inl l ↦ l | inr l ↦ absurd (omega (arith, bit_at_ones_above size v l, h)) ]

-- what is picked from sets of the space fits the sizes
pick_fits : (sizes now : List ℕ) → length now ≡ length sizes → LieIn (slice_index (map least_index now)) (full_of sizes) → ValuesFit sizes (map least_index now)
pick_fits sizes now long h = (length-map now least_index ∙ long, below)
  where
    below : (x : ℕ) → x < length sizes → slice_index (map least_index now) x < slice_index sizes x
    below x l =
        let v = slice_index (map least_index now) x in
        let full : slice_index (full_of sizes) x ≡ 2 ^ slice_index sizes x - 1 = get_or-map (λ size. 2 ^ size - 1) sizes x 0 0 l in
        let inside : bit_at (slice_index (full_of sizes) x) v ≡ 1 = lie_each (slice_index (map least_index now)) (full_of sizes) h x (omega (arith, length-full_of sizes)) in
        index_below (slice_index sizes x) v (subst (λ set. bit_at set v ≡ 1) full inside)

states_fit : (sizes : List ℕ) (ns : List NodeForm) → ((k : ℕ) → k < length ns → ValuesFit sizes (state_of (slice_index_or ns k no_node))) → Each (ValuesFit sizes) (states ns)
states_fit sizes [] h = tt
states_fit sizes (n ∷ ns) h =
    let rest = states_fit sizes ns (λ k l. h (suc k) (omega arith)) in
    cond_case (Each (ValuesFit sizes)) (is_empty n.todo) _ _ (λ _. (h 0 (omega arith), rest)) (λ _. rest)

module _ (sizes : List ℕ) (cores : List CoreForm) (stem loop : List NodeForm) (walk : IsClosedWalk sizes cores stem loop) where
  abbrev closure : List CoreForm
  closure = closure_of cores

  abbrev full : List ℕ
  full = full_of sizes

  abbrev node : ℕ → NodeForm
  node = node_at stem loop

  abbrev pos : ℕ → ℕ
  pos = position_at node

  goes : (k : ℕ) → AnyOf (λ m. node (suc k) ≡ m) (kids closure full (node k))
  goes k =
      let first : (j : ℕ) → j < length stem + length loop → Contains (kids closure full (node j)) (node (suc j)) =
      λ j l. let q : j + 1 ≡ suc j = omega arith in subst (λ z. Contains (kids closure full (node j)) (node z)) q (walk.goes j l) in
      let m = node (suc k) in
      let found = each_round no_node stem loop (λ n m. Contains (kids closure full n) m) walk.turns first (suc k) k (omega arith) in
      any_at (λ x. m ≡ x) (kids closure full (node k)) found.0 m found.1 found.2 refl

  -- the until is settled in each round
  abbrev IsSettledAt : ℕ → ℕ → Type 0
  IsSettledAt e k = Settles closure full e (node k) (node (suc k))

  settled_from : (e : ℕ) (rounds k z : ℕ) → length stem ≤ z → IsSettledAt e z → k ≤ z + rounds → (m : ℕ) × IsSettledAt e (k + m)
  settled_from e zero k z l s h = let q : z ≡ k + (z - k) = omega arith in (z - k, subst (IsSettledAt e) q s)
  settled_from e (suc rounds) k z l s h =
      let c = length loop in
      let some = walk.turns in
      let q : suc z + c ≡ suc (z + c) = omega arith in
      let here = sym (again stem loop z l) in
      let there = sym (again stem loop (suc z) (omega arith)) ∙ ap node q in
      settled_from e rounds k (z + c) (omega arith)
      (subst (λ n. Settles closure full e n (node (suc (z + c)))) here (subst (Settles closure full e (node z)) there s)) (omega arith)

  settled : (e : ℕ) → IsTrue (is_until (formula_at closure e)) → (k : ℕ) → (m : ℕ) × IsSettledAt e (k + m)
  settled e u k =
      let s = walk.settles e u in
      let q : s.0 + 1 ≡ suc s.0 = omega arith in
      settled_from e k k s.0 s.1 (subst (λ z. Settles closure full e (node s.0) (node z)) q s.3) (omega arith)

  module _ (few : Each (λ size. size ≤ 64) sizes) (over : Each (IsOver sizes) cores) where
    turns : Turns closure full node
    turns = record {
      closed = is_closed cores;
      over = λ g. subst (λ z. LiteralBelow z (formula_at closure g)) (sym (length-full_of sizes)) (literals_over sizes cores over g);
      starts = ap (λ (n : NodeForm). n.now) walk.starts;
      small = small_full sizes few;
      turn = λ k. (turn_of closure full (node (suc k)) (pos k) (node k) (goes k)).0;
      open_now = λ k. (turn_of closure full (node (suc k)) (pos k) (node k) (goes k)).1;
    }

    abbrev trace : Trace
    trace = from_lists (states stem) (states loop)

    endless : EndlessWalk trace closure full node pos
    endless = record {
      now = trace_lies stem loop closure full turns walk.turns;
      over = over_at closure full node turns;
      turn = turns.turn;
      fair = λ e a b ue k.
          let s = settled e (subst (λ f. IsTrue (is_until f)) (sym ue) refl) k in
          let j = k + s.0 in
          (s.0, serves_of closure full (node (suc j)) (pos j) e a b ue (node j) s.1);
    }

    meets : Each (λ c. CoreTruth trace c 0) cores
    meets =
        let In_root : CoreForm → Type 0 = λ c. IsTrue (has_number (node 0).todo (number_in closure c)) in
        let here : Each In_root cores = subst (λ (n : NodeForm). Each (λ c. IsTrue (has_number n.todo (number_in closure c))) cores) (sym walk.starts) (each_put_in closure cores []) in
        each_map (λ c. IsKnown closure c × In_root c) (λ c. CoreTruth trace c 0) cores
        (λ c h. truth_on_walk trace closure full node pos (is_closed cores) endless c h.0 0 h.1)
        (each_both (IsKnown closure) In_root cores (cores_known cores) here)

    fits_at : (k : ℕ) → ValuesFit sizes (state_of (node k))
    fits_at k =
        let w = within_full closure full node turns k in
        let now = (node k).now in
        pick_fits sizes now (w.as_long ∙ length-full_of sizes) (w.within (slice_index (map least_index now)) (pick_lies now w.small (turns.open_now k)))

    pub answer : IsAnswer sizes cores (states stem) (states loop)
    answer =
        let Fits : NodeForm → Type 0 = λ n. ValuesFit sizes (state_of n) in
        record {
          turns = steps_some stem loop closure full turns walk.turns;
          prefix_fits = All-from_recursion (ValuesFit sizes) (states stem) (states_fit sizes stem
              (λ k l. subst Fits (first_round no_node stem loop k (omega arith) ∙ get_or-append stem loop no_node k l) (fits_at k)));
          cycle_fits = All-from_recursion (ValuesFit sizes) (states loop) (states_fit sizes loop
              (λ k l. subst Fits (first_round no_node stem loop (length stem + k) (omega arith) ∙ get_or-append-add stem loop k no_node) (fits_at (length stem + k))));
          meets = All-from_recursion (λ c. CoreTruth trace c 0) cores meets;
        }

pub walk_law : (sizes : List ℕ) → All (λ size. size ≤ 64) sizes → (cores : List CoreForm) → All (IsOver sizes) cores → (stem loop : List NodeForm) → IsClosedWalk sizes cores stem loop
    → IsAnswer sizes cores (states stem) (states loop)
walk_law sizes few cores over stem loop walk =
    answer sizes cores stem loop walk (recursion_from_All (λ size. size ≤ 64) sizes few) (recursion_from_All (IsOver sizes) cores over)
