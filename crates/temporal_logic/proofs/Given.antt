-- Each ultimately periodic trace over variables of some sizes is that of a prefix and a loop.
use Rattle.std.proofs.Common.{◌≡◌, ℕ, zero, suc, ◌+◌, ◌-◌, ◌*◌, ◌/◌, ◌%◌, ◌<◌, ◌≤◌, List, [], length, refl, sym, ap, ◌∙◌, subst, arith, ⊎_elim, map}
use Rattle.std.specs.Prelude.{All, slice_index, slice_index_or}
use Rattle.std.specs.List.{range_with_len}
use Rattle.std.proofs.Math.Nat.{mod-add-div}
use Rattle.std.proofs.lemmas.Bool.{cases_lt}
use Rattle.std.proofs.lemmas.Nat.{mod_below}
use Rattle.std.proofs.lemmas.List.FromFn.{length-map-range_with_len, get_or-map-range_with_len}
use Rattle.state_space.specs.Fitting.{ValuesFit}
use Rattle.temporal_logic.specs.Truth.{Trace}
use Rattle.temporal_logic.specs.Traces.{Loops, TraceFits, IsPeriodic}
use Rattle.temporal_logic.specs.Rows.{from_lists, IsGiven}
use Rattle.temporal_logic.proofs.Loops.{row_before, row_behind}

-- turns of the loop do not change the values
module _ (t : Trace) (p c : ℕ) (loops : Loops t p c) where
  some_turns : (k i x : ℕ) → p ≤ i → t (i + c * k) x ≡ t i x
  some_turns zero i x h = let e : i + c * 0 ≡ i = omega arith in ap (λ j. t j x) e
  some_turns (suc k) i x h =
      let e : i + c * suc k ≡ i + c * k + c = grind arith in
      ap (λ j. t j x) e ∙ loops.same (i + c * k) x (omega arith) ∙ some_turns k i x h

  first_turn : (i x : ℕ) → p ≤ i → t i x ≡ t (p + (i - p) % c) x
  first_turn i x h =
      let e : i ≡ p + (i - p) % c + c * ((i - p) / c) = omega (arith, mod-add-div (i - p) c) in
      ap (λ j. t j x) e ∙ some_turns ((i - p) / c) (p + (i - p) % c) x (omega arith)

-- the first values at a position, and the rows of some positions from a on
module _ (t : Trace) (n : ℕ) where
  abbrev row_of : ℕ → List ℕ
  row_of i = map (t i) (range_with_len 0 n)

  abbrev rows_from : ℕ → ℕ → List (List ℕ)
  rows_from a m = map row_of (range_with_len a m)

  row_value : (i x : ℕ) → x < n → slice_index (row_of i) x ≡ t i x
  row_value i x h = get_or-map-range_with_len (t i) 0 n x x 0 h (omega arith)

  row_from : (a m k j : ℕ) (d : List ℕ) → k < m → a + k ≡ j → slice_index_or (rows_from a m) k d ≡ row_of j
  row_from a m k j d h e = get_or-map-range_with_len row_of a m k j d h e

module _ (sizes : List ℕ) (t : Trace) (fits : TraceFits sizes t) where
  row_fits : (i : ℕ) → ValuesFit sizes (row_of t (length sizes) i)
  row_fits i =
      (length-map-range_with_len (t i) 0 (length sizes), λ x h. subst (λ v. v < slice_index sizes x) (sym (row_value t (length sizes) i x h)) (fits i x h))

  all_fit : (a m : ℕ) → All (ValuesFit sizes) (rows_from t (length sizes) a m)
  all_fit a m k d h =
      let small : k < m = omega (arith, length-map-range_with_len (row_of t (length sizes)) a m) in
      subst (ValuesFit sizes) (sym (row_from t (length sizes) a m k (a + k) d small refl)) (row_fits (a + k))

module _ (sizes : List ℕ) (t : Trace) (periodic : IsPeriodic sizes t) where
  abbrev first_rows : List (List ℕ)
  first_rows = rows_from t (length sizes) 0 periodic.start

  abbrev loop_rows : List (List ℕ)
  loop_rows = rows_from t (length sizes) periodic.start periodic.turn

  length-first_rows : length first_rows ≡ periodic.start
  length-first_rows = length-map-range_with_len (row_of t (length sizes)) 0 periodic.start

  length-loop_rows : length loop_rows ≡ periodic.turn
  length-loop_rows = length-map-range_with_len (row_of t (length sizes)) periodic.start periodic.turn

  early : (i x : ℕ) → x < length sizes → i < periodic.start → t i x ≡ from_lists first_rows loop_rows i x
  early i x h s =
      let row = row_before first_rows loop_rows i (omega (arith, length-first_rows)) ∙ row_from t (length sizes) 0 periodic.start i i [] s (omega arith) in
      sym (ap (λ r. slice_index r x) row ∙ row_value t (length sizes) i x h)

  late : (i x : ℕ) → x < length sizes → periodic.start ≤ i → t i x ≡ from_lists first_rows loop_rows i x
  late i x h g =
      let j = (i - periodic.start) % periodic.turn in
      let at : (i - length first_rows) % length loop_rows ≡ j = ap (λ k. (i - k) % length loop_rows) length-first_rows ∙ ap (λ k. (i - periodic.start) % k) length-loop_rows in
      let row = row_behind first_rows loop_rows i (omega (arith, length-first_rows)) ∙ ap (λ k. slice_index_or loop_rows k []) at ∙ row_from t (length sizes) periodic.start periodic.turn j (periodic.start + j) [] (mod_below _ _ periodic.loops.turns) refl in
      first_turn t periodic.start periodic.turn periodic.loops i x g ∙ sym (ap (λ r. slice_index r x) row ∙ row_value t (length sizes) (periodic.start + j) x h)

  pub trace_is_given : IsGiven sizes t
  trace_is_given = record {
    prefix = first_rows;
    cycle = loop_rows;
    turns = omega (arith, periodic.loops.turns, length-loop_rows);
    prefix_fits = all_fit sizes t periodic.fits 0 periodic.start;
    cycle_fits = all_fit sizes t periodic.fits periodic.start periodic.turn;
    same = λ i x h. ⊎_elim (early i x h) (late i x h) (cases_lt i periodic.start);
  }
