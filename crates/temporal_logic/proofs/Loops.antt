-- The trace of a prefix and a loop ends in the loop.
use Rattle.std.proofs.Common.{◌≡◌, ℕ, ◌+◌, ◌-◌, ◌%◌, ◌<◌, ◌≤◌, List, [], length, sym, ap, ◌∙◌, subst, arith}
use Rattle.std.specs.Prelude.{slice_index, slice_index_or}
use Rattle.std.proofs.Math.Nat.{add-mod_right}
use Rattle.std.proofs.lemmas.Bool.{le-ltb, lt-ltb, cond-false, cond-true}
use Rattle.std.proofs.lemmas.List.{length-map}
use Rattle.temporal_logic.specs.declared.lasso.Lasso.{Lasso}
use Rattle.temporal_logic.specs.Rows.{rows, row_at, from_lists}
use Rattle.temporal_logic.specs.Lassos.{trace_of}
use Rattle.temporal_logic.specs.Traces.{Loops}

module _ (prefix cycle : List (List ℕ)) where
  pub row_before : (i : ℕ) → i < length prefix → row_at prefix cycle i ≡ slice_index_or prefix i []
  row_before i h = cond-true _ _ _ (lt-ltb i (length prefix) h)

  pub row_behind : (i : ℕ) → length prefix ≤ i → row_at prefix cycle i ≡ slice_index_or cycle ((i - length prefix) % length cycle) []
  row_behind i h = cond-false _ _ _ (le-ltb i (length prefix) h)

  pub lists_loop : 0 < length cycle → Loops (from_lists prefix cycle) (length prefix) (length cycle)
  lists_loop turns = record {
    turns = turns;
    same = λ i x h.
        let p = length prefix in
        let c = length cycle in
        let e : i + c - p ≡ i - p + c = omega arith in
        ap (λ row. slice_index row x) (row_behind (i + c) (omega arith) ∙ ap (λ k. slice_index_or cycle (k % c) []) e ∙ ap (λ k. slice_index_or cycle k []) (add-mod_right (i - p) c) ∙ sym (row_behind i h));
  }

pub rows_turn : (l : Lasso) → 0 < length (rows l.cycle.items)
rows_turn l = subst (λ n. 0 < n) (sym (length-map l.cycle.items (λ s. s.values.items))) l.loops

pub lasso_loops : (l : Lasso) → Loops (trace_of l) (length l.prefix.items) (length l.cycle.items)
lasso_loops l =
    let p = length-map l.prefix.items (λ s. s.values.items) in
    let c = length-map l.cycle.items (λ s. s.values.items) in
    subst (λ n. Loops (trace_of l) n (length l.cycle.items)) p (subst (λ n. Loops (trace_of l) (length (rows l.prefix.items)) n) c (lists_loop (rows l.prefix.items) (rows l.cycle.items) (rows_turn l)))
