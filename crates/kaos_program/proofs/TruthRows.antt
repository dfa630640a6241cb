-- The truth of goals on traces, a goal and a trace at a time, and the lines that say it.
use Rattle.std.proofs.Common.{◌≡◌, ◌↔◌, ℕ, zero, suc, ◌+◌, ◌<◌, ◌≤◌, Bool, List, [], ◌∷◌, ◌++◌, map, length, get_or, take, drop, drop-cons, add-one, min, refl, sym, ap, ◌∙◌, subst, arith}
use Rattle.std.specs.Prelude.{All, IsTrue, Vec}
use Rattle.std.specs.Global.{Global}
use Rattle.std.proofs.lemmas.List.{map-append, take_more}
use Rattle.std.proofs.lemmas.List.Elements.{All-get_or}
use Rattle.state_space.specs.declared.state.State.{State}
use Rattle.state_space.specs.Ranges.{RangeForm}
use Rattle.state_space.specs.Fitting.{ValuesFit}
use Rattle.temporal_logic.specs.Fits.{Fits}
use Rattle.temporal_logic.specs.Trees.{tree_of}
use Rattle.temporal_logic.specs.Lassos.{IsOfSpace}
use Rattle.temporal_logic.specs.Truth.{Trace, Truth}
use Rattle.temporal_logic.specs.Rows.{rows, from_lists}
use Rattle.goal_model.specs.declared.contents.Goal.{Goal}
use Rattle.goal_model.specs.declared.contents.NamedTrace.{NamedTrace}
use Rattle.goal_model.specs.Models.{GoalForm, TraceForm, goal_of, trace_of, TraceIsOver}
use Rattle.kaos_program.specs.Truths.{AreTruthsOn, AreTruthRows}
use Rattle.kaos_program.specs.TruthTexts.{truth_line, lines_on, row_lines}
use Rattle.kaos_program.proofs.ModelParts.{All-unmap}

-- ---- what a well-formed model gives
pub goal_fits : (rs : List RangeForm) (xs : List Goal) (i : ℕ) (x : Goal) → All (λ g. Fits rs g.formula) (map goal_of xs) → i < length xs → x ≡ get_or xs i x → Fits rs (tree_of x.formula)
goal_fits rs xs i x all inside is =
    let F = λ (g : GoalForm). Fits rs g.formula in
    subst (λ (y : Goal). F (goal_of y)) (sym is) (All-get_or (λ (y : Goal). F (goal_of y)) xs i x inside (All-unmap F goal_of xs all))

pub trace_fits : (ns : List ℕ) (xs : List NamedTrace) (i : ℕ) (x : NamedTrace) → All (TraceIsOver ns) (map trace_of xs) → i < length xs → x ≡ get_or xs i x → IsOfSpace ns x.lasso
trace_fits ns xs i x all inside is =
    let here = subst (λ (y : NamedTrace). TraceIsOver ns (trace_of y)) (sym is) (All-get_or (λ (y : NamedTrace). TraceIsOver ns (trace_of y)) xs i x inside (All-unmap (TraceIsOver ns) trace_of xs all)) in
    let fit = λ (states : List State) (h : All (ValuesFit ns) (rows states)). All-unmap (ValuesFit ns) (λ s. s.values.items) states h in
    (fit x.lasso.prefix.items here.prefix, fit x.lasso.cycle.items here.cycle)

-- ---- truths
AreTruthsOn-push : (t : Trace) (gs : List GoalForm) (bs : List Bool) (g : GoalForm) (b : Bool) → AreTruthsOn t gs bs → (IsTrue b ↔ Truth t g.formula 0) → AreTruthsOn t (gs ++ g ∷ []) (bs ++ b ∷ [])
AreTruthsOn-push t [] [] g b all one = (one, tt)
AreTruthsOn-push t [] (c ∷ bs) g b all one = absurd all
AreTruthsOn-push t (h ∷ gs) [] g b all one = absurd all
AreTruthsOn-push t (h ∷ gs) (c ∷ bs) g b all one = (all.0, AreTruthsOn-push t gs bs g b all.1 one)

-- one goal further
pub truths_more : (t : Trace) (xs : List Goal) (bs cs : List Bool) (i : ℕ) (x : Goal) (b : Bool) → i < length xs → x ≡ get_or xs i x → AreTruthsOn t (map goal_of (take i xs)) bs → (IsTrue b ↔ Truth t (goal_of x).formula 0) → cs ≡ bs ++ b ∷ []
    → AreTruthsOn t (map goal_of (take (i + 1) xs)) cs
truths_more t xs bs cs i x b inside is all one pushed =
    let front : map goal_of (take (i + 1) xs) ≡ map goal_of (take i xs) ++ goal_of x ∷ [] =
    ap (map goal_of) (take_more xs i x inside ∙ ap (λ (y : Goal). take i xs ++ y ∷ []) (sym is)) ∙ map-append goal_of (take i xs) (x ∷ []) in
    rw (front, pushed) (AreTruthsOn-push t (map goal_of (take i xs)) bs (goal_of x) b all one)

AreTruthRows-push : (goals : List GoalForm) (ts : List TraceForm) (rows : List (List Bool)) (t : TraceForm) (row : List Bool) → AreTruthRows goals ts rows → AreTruthsOn (from_lists t.prefix t.cycle) goals row → AreTruthRows goals (ts ++ t ∷ []) (rows ++ row ∷ [])
AreTruthRows-push goals [] [] t row all one = (one, tt)
AreTruthRows-push goals [] (r ∷ rows) t row all one = absurd all
AreTruthRows-push goals (u ∷ ts) [] t row all one = absurd all
AreTruthRows-push goals (u ∷ ts) (r ∷ rows) t row all one = (all.0, AreTruthRows-push goals ts rows t row all.1 one)

-- one trace further
pub rows_more : (goals : List GoalForm) (xs : List NamedTrace) (rows others : List (Vec Bool Global)) (i : ℕ) (x : NamedTrace) (row : Vec Bool Global) → i < length xs → x ≡ get_or xs i x
    → AreTruthRows goals (map trace_of (take i xs)) (map (λ (r : Vec Bool Global). r.items) rows) → AreTruthsOn (from_lists (trace_of x).prefix (trace_of x).cycle) goals row.items → others ≡ rows ++ row ∷ []
    → AreTruthRows goals (map trace_of (take (i + 1) xs)) (map (λ (r : Vec Bool Global). r.items) others)
rows_more goals xs rows others i x row inside is all one pushed =
    let front : map trace_of (take (i + 1) xs) ≡ map trace_of (take i xs) ++ trace_of x ∷ [] =
    ap (map trace_of) (take_more xs i x inside ∙ ap (λ (y : NamedTrace). take i xs ++ y ∷ []) (sym is)) ∙ map-append trace_of (take i xs) (x ∷ []) in
    let back : map (λ (r : Vec Bool Global). r.items) others ≡ map (λ (r : Vec Bool Global). r.items) rows ++ row.items ∷ [] =
    ap (map (λ (r : Vec Bool Global). r.items)) pushed ∙ map-append (λ (r : Vec Bool Global). r.items) rows (row ∷ []) in
    rw (front, back) (AreTruthRows-push goals (map trace_of (take i xs)) (map (λ (r : Vec Bool Global). r.items) rows) (trace_of x) row.items all one)

-- ---- lines
from_here : {A : Type 0} (xs : List A) (i : ℕ) (x : A) → i < length xs → x ≡ get_or xs i x → drop i xs ≡ x ∷ drop (i + 1) xs
from_here xs i x inside is = rw (add-one, drop-cons xs i x) (ap (λ y. y ∷ drop (suc i) xs) (sym is))

pub lines_next : (t : List ℕ) (xs : List Goal) (bs : List Bool) (i : ℕ) (x : Goal) (b : Bool) → i < length xs → x ≡ get_or xs i x → i < length bs → b ≡ get_or bs i b
    → lines_on t (map goal_of (drop i xs)) (drop i bs) ≡ truth_line t (goal_of x).name b ++ lines_on t (map goal_of (drop (i + 1) xs)) (drop (i + 1) bs)
lines_next t xs bs i x b inside is within at = rw (from_here xs i x inside is, from_here bs i b within at) refl

no_lines : (t : List ℕ) (gs : List GoalForm) → lines_on t gs [] ≡ []
no_lines t [] = refl
no_lines t (g ∷ gs) = refl

pub lines_end : (t : List ℕ) (xs : List Goal) (bs : List Bool) (i : ℕ) → min (length xs) (length bs) ≤ i → lines_on t (map goal_of (drop i xs)) (drop i bs) ≡ []
lines_end t [] bs zero l = refl
lines_end t [] bs (suc i) l = refl
lines_end t (x ∷ xs) [] zero l = refl
lines_end t (x ∷ xs) [] (suc i) l = no_lines t (map goal_of (drop i xs))
lines_end t (x ∷ xs) (b ∷ bs) zero l = let never : ⊥ = omega arith in absurd never
lines_end t (x ∷ xs) (b ∷ bs) (suc i) l = lines_end t xs bs i (omega arith)

pub rows_next : (goals : List GoalForm) (xs : List NamedTrace) (rows : List (Vec Bool Global)) (i : ℕ) (x : NamedTrace) (row : Vec Bool Global) → i < length xs → x ≡ get_or xs i x → i < length rows → row ≡ get_or rows i row
    → row_lines goals (map trace_of (drop i xs)) (map (λ (r : Vec Bool Global). r.items) (drop i rows))
    ≡ lines_on (trace_of x).name goals row.items ++ row_lines goals (map trace_of (drop (i + 1) xs)) (map (λ (r : Vec Bool Global). r.items) (drop (i + 1) rows))
rows_next goals xs rows i x row inside is within at = rw (from_here xs i x inside is, from_here rows i row within at) refl

no_rows : (goals : List GoalForm) (ts : List TraceForm) → row_lines goals ts [] ≡ []
no_rows goals [] = refl
no_rows goals (t ∷ ts) = refl

pub rows_end : (goals : List GoalForm) (xs : List NamedTrace) (rows : List (Vec Bool Global)) (i : ℕ) → min (length xs) (length rows) ≤ i → row_lines goals (map trace_of (drop i xs)) (map (λ (r : Vec Bool Global). r.items) (drop i rows)) ≡ []
rows_end goals [] rows zero l = refl
rows_end goals [] rows (suc i) l = refl
rows_end goals (x ∷ xs) [] zero l = refl
rows_end goals (x ∷ xs) [] (suc i) l = no_rows goals (map trace_of (drop i xs))
rows_end goals (x ∷ xs) (r ∷ rows) zero l = let never : ⊥ = omega arith in absurd never
rows_end goals (x ∷ xs) (r ∷ rows) (suc i) l = rows_end goals xs rows i (omega arith)
