-- A round, until by until, and the last of them.
use Rattle.std.proofs.Common.{◌≡◌, ℕ, zero, suc, ◌+◌, ◌<◌, ◌≤◌, List, length, get_or, Bool, true, false, refl, sym, ap, subst, ◌∙◌, inl, inr, arith, replicate}
use Rattle.std.proofs.lemmas.Bool.{cases_eq}
use Rattle.std.proofs.lemmas.List.{length-replicate, get_or-replicate}
use Rattle.tableau_rules.specs.declared.edges.Edges.{Edges}
use Rattle.tableau_elimination.specs.declared.cause.Cause.{Cause}
use Rattle.tableau_rules.specs.Links.{Among, kids_at}
use Rattle.tableau_rules.specs.Levels.{Alive, ComesTo}
use Rattle.tableau_elimination.specs.Marks.{IsConnected, AreMarked, Leafless, AreCleared, IsWaitedFor, IsRound, living, HasEnded}
use Rattle.tableau_rules.proofs.PlaceTests.{no_both}
use Rattle.tableau_elimination.proofs.MarkSteps.{valid}

pub record Going (links : List Edges) (carrying fulfilling : ℕ → ℕ → Bool) (old alive : List Bool) (ranks : List ℕ) (causes : List Cause) (before left e : ℕ) : Type 0 where
  pub marked : AreMarked links carrying fulfilling alive ranks causes left
  pub leafless : Leafless links alive
  pub less : left ≤ before
  pub same : left ≡ before → alive ≡ old
  pub fair : left ≡ before → (d n : ℕ) → d < e → n < length links → Alive alive n → carrying d n ≡ true → ComesTo links (fulfilling d) alive n

pub going_start : (links : List Edges) (carrying fulfilling : ℕ → ℕ → Bool) (old alive : List Bool) (ranks : List ℕ) (causes : List Cause) (before left : ℕ) → AreCleared links carrying fulfilling old alive ranks causes before left 0 → Going links carrying fulfilling alive alive ranks causes left left 0
going_start links carrying fulfilling old alive ranks causes before left c =
    record { marked = c.marked; leafless = λ n ng a. c.leafless n (omega arith) ng a; less = omega arith; same = λ e. refl; fair = λ e d n de. absurd (omega arith) }

pub going_step : (links : List Edges) (carrying fulfilling : ℕ → ℕ → Bool) (old alive alive' : List Bool) (ranks next_ranks : List ℕ) (causes next_causes : List Cause) (before left next_left e : ℕ)
    → Going links carrying fulfilling old alive ranks causes before left e → IsWaitedFor links carrying fulfilling e alive alive' next_ranks next_causes left next_left → Going links carrying fulfilling old alive' next_ranks next_causes before next_left (e + 1)
going_step links carrying fulfilling old alive alive' ranks next_ranks causes next_causes before left next_left e s w =
    let l0 = s.less in
    let l1 = w.less in
    record {
      marked = w.marked;
      leafless = w.leafless;
      less = omega arith;
      same = λ q. w.same (omega (arith, q, l0, l1)) ∙ s.same (omega (arith, q, l0, l1));
      fair = λ q d n de ng a c.
          let q1 : next_left ≡ left = omega (arith, q, l0, l1) in
          let q0 : left ≡ before = omega (arith, q, l0, l1) in
          elim (cases_eq d e) [
            | inl z ↦ subst (λ x. ComesTo links (fulfilling x) alive' n) (sym z) (w.fair q1 n ng a (subst (λ x. carrying x n ≡ true) z c))
            | inr z ↦ subst (λ x. ComesTo links (fulfilling d) x n) (sym (w.same q1)) (s.fair q0 d n (omega arith) ng (subst (λ x. Alive x n) (w.same q1) a) c)
          ];
    }

-- nothing waits for what no living place carries
pub none_waits : (links : List Edges) (carrying fulfilling : ℕ → ℕ → Bool) (e : ℕ) (alive : List Bool) (ranks : List ℕ) (causes : List Cause) (left : ℕ) → AreMarked links carrying fulfilling alive ranks causes left → Leafless links alive
    → ((k : ℕ) → k < length links → Alive alive k → carrying e k ≡ false) → IsWaitedFor links carrying fulfilling e alive alive ranks causes left left
none_waits links carrying fulfilling e alive ranks causes left marked leafless none =
    record { marked = marked; leafless = leafless; less = omega arith; same = λ q. refl; fair = λ q k kg a c. absurd (no_both (carrying e k) c (none k kg a)) }

pub going_end : (links : List Edges) (carrying fulfilling : ℕ → ℕ → Bool) (old cleared alive : List Bool) (old_ranks ranks : List ℕ) (old_causes causes : List Cause) (before first left e : ℕ) → ((d n : ℕ) → carrying d n ≡ true → d < e)
    → AreCleared links carrying fulfilling old cleared old_ranks old_causes before first 0 → Going links carrying fulfilling cleared alive ranks causes first left e → IsRound links carrying fulfilling alive ranks causes before left
going_end links carrying fulfilling old cleared alive old_ranks ranks old_causes causes before first left e known c s =
    let l0 = c.less in
    let l1 = s.less in
    record {
      marked = s.marked;
      less = omega (arith, l0, l1);
      settled = λ q.
          let q1 : left ≡ first = omega (arith, q, l0, l1) in
          let q0 : first ≡ before = omega (arith, q, l0, l1) in
          record {
            goes = λ n ng a. subst (λ x. (k : ℕ) × Among k (kids_at links n) × Alive x k) (sym (s.same q1)) (c.goes q0 n (omega arith) ng (subst (λ x. Alive x n) (s.same q1) a));
            fair = λ d n ng a cr. s.fair q1 d n (known d n cr) ng a cr;
          };
    }

pub start_marked : (links : List Edges) (carrying fulfilling : ℕ → ℕ → Bool) (alive : List Bool) (ranks : List ℕ) (causes : List Cause) → alive ≡ replicate (length links) true → length ranks ≡ length links → length causes ≡ length links
    → AreMarked links carrying fulfilling alive ranks causes (length links)
start_marked links carrying fulfilling alive ranks causes e r w =
    let at : (n : ℕ) → n < length links → get_or alive n false ≡ true = λ n h. ap (λ z. get_or z n false) e ∙ get_or-replicate (length links) n true false h in
    record {
      tested = ap (λ z. length z) e ∙ length-replicate (length links) true;
      ranked = r;
      caused = w;
      rest = ap living e ∙ all_living (length links);
      below = λ n ng h. absurd (no_both (get_or alive n false) (at n ng) h);
      shut = λ n ng h. absurd (no_both (get_or alive n false) (at n ng) h);
      right = λ n ng h. absurd (no_both (get_or alive n false) (at n ng) h);
    }
  where
    all_living : (n : ℕ) → living (replicate n true) ≡ n
    all_living zero = refl
    all_living (suc n) = let h = all_living n in omega (arith, h)

pub ended : (links : List Edges) (carrying fulfilling : ℕ → ℕ → Bool) (alive : List Bool) (ranks : List ℕ) (causes : List Cause) (before left : ℕ) (b : Bool) → IsConnected links carrying fulfilling → left ≡ before
    → IsRound links carrying fulfilling alive ranks causes before left → b ≡ get_or alive 0 false → HasEnded b links carrying fulfilling alive ranks causes
ended links carrying fulfilling alive ranks causes before left true connected e r q = record { size = r.marked.tested; root = sym q; settled = r.settled e }
ended links carrying fulfilling alive ranks causes before left false connected e r q = valid links carrying fulfilling alive ranks causes left connected r.marked (sym q)
