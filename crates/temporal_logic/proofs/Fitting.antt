-- A prefix and a loop whose states fit the sizes have a trace that fits them.
use Rattle.std.proofs.Common.{ℕ, zero, suc, ◌<◌, ◌≤◌, List, [], ◌∷◌, length, sym, subst, arith, ⊎_elim}
use Rattle.std.specs.Prelude.{All}
use Rattle.std.proofs.lemmas.Bool.{cases_lt}
use Rattle.std.proofs.lemmas.Nat.{mod_below}
use Rattle.state_space.specs.declared.state.State.{State}
use Rattle.state_space.specs.Fitting.{ValuesFit}
use Rattle.temporal_logic.specs.declared.lasso.Lasso.{Lasso}
use Rattle.temporal_logic.specs.Rows.{rows, AllFit, row_at}
use Rattle.temporal_logic.specs.Lassos.{trace_of, IsOfSpace}
use Rattle.temporal_logic.specs.Traces.{TraceFits, IsPeriodic}
use Rattle.temporal_logic.proofs.Loops.{row_before, row_behind, rows_turn, lasso_loops}

module _ (sizes : List ℕ) where
  lists_fit : (prefix cycle : List (List ℕ)) → 0 < length cycle → All (ValuesFit sizes) prefix → All (ValuesFit sizes) cycle → (i : ℕ) → ValuesFit sizes (row_at prefix cycle i)
  lists_fit prefix cycle turns a b i = ⊎_elim early late (cases_lt i (length prefix))
    where
      early : i < length prefix → ValuesFit sizes (row_at prefix cycle i)
      early s = subst (ValuesFit sizes) (sym (row_before prefix cycle i s)) (a i [] s)

      late : length prefix ≤ i → ValuesFit sizes (row_at prefix cycle i)
      late g = subst (ValuesFit sizes) (sym (row_behind prefix cycle i g)) (b _ [] (mod_below _ _ turns))

  rows_fit : (states : List State) → AllFit sizes states → All (ValuesFit sizes) (rows states)
  rows_fit [] h k d l = absurd (omega arith)
  rows_fit (s ∷ ss) h zero d l = h 0 s (omega arith)
  rows_fit (s ∷ ss) h (suc k) d l = rows_fit ss (λ j e b. h (suc j) e (omega (arith, b))) k d (omega arith)

  pub trace_fits : (l : Lasso) → IsOfSpace sizes l → TraceFits sizes (trace_of l)
  trace_fits l h i x b =
      (lists_fit (rows l.prefix.items) (rows l.cycle.items) (rows_turn l) (rows_fit l.prefix.items h.0) (rows_fit l.cycle.items h.1) i).1 x b

  pub lasso_is_periodic : (l : Lasso) → IsOfSpace sizes l → IsPeriodic sizes (trace_of l)
  lasso_is_periodic l h = record {
    start = length l.prefix.items;
    turn = length l.cycle.items;
    loops = lasso_loops l;
    fits = trace_fits l h;
  }
