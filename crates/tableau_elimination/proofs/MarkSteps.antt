-- One more place that is gone, and what is known when the first is.
use Rattle.std.proofs.Common.{◌≡◌, ◌≢◌, ℕ, zero, suc, ◌+◌, ◌-◌, ◌<◌, ◌≤◌, List, [], ◌∷◌, length, get_or, set, Bool, true, false, refl, sym, subst, ◌∙◌, inl, inr, arith, get_or-set_same, get_or-set_other, length-set}
use Rattle.std.proofs.lemmas.Bool.{cases_eq}
use Rattle.tableau_rules.specs.declared.edges.Edges.{Edges}
use Rattle.tableau_elimination.specs.declared.cause.Cause.{Cause}
use Rattle.tableau_elimination.specs.declared.cause.Cause.TheVariants.{Dead, Wait}
use Rattle.tableau_rules.specs.Links.{Among, kids_at, InRange, PlaceReached, start, more}
use Rattle.tableau_rules.specs.Levels.{HasLevels, Alive, alive_at, some_is, ComesTo, here, later}
use Rattle.tableau_elimination.specs.Marks.{IsConnected, Gone, HasKid, IsRight, AreRight, cause_at, living, AreMarked, AreCleared}
use Rattle.tableau_rules.proofs.PlaceTests.{no_both, some_has, some_none, each_at, head_among}

pub living_set : (xs : List Bool) (i : ℕ) → get_or xs i false ≡ true → living (set xs i false) + 1 ≡ living xs
living_set [] i h = cc
living_set (x ∷ xs) zero h = rw h (omega arith)
living_set (x ∷ xs) (suc i) h = let r = living_set xs i h in omega (arith, r)

pub living_most : (xs : List Bool) → living xs ≤ length xs
living_most [] = omega arith
living_most (true ∷ xs) = let h = living_most xs in omega (arith, h)
living_most (false ∷ xs) = let h = living_most xs in omega (arith, h)

pub right_kept : (links : List Edges) (carrying fulfilling : ℕ → ℕ → Bool) (ranks new_ranks : List ℕ) (causes new_causes : List Cause) (n : ℕ) (w : Cause) → get_or new_ranks n 0 ≡ get_or ranks n 0
    → ((k : ℕ) → Among k (kids_at links n) → (get_or new_ranks k 0 ≡ get_or ranks k 0) × (cause_at new_causes k ≡ cause_at causes k)) → IsRight links carrying fulfilling ranks causes n w → IsRight links carrying fulfilling new_ranks new_causes n w
right_kept links carrying fulfilling ranks new_ranks causes new_causes n Dead e f h = λ k a. let x = h k a in let y = (f k a).0 in omega (arith, x, y, e)
right_kept links carrying fulfilling ranks new_ranks causes new_causes n (Wait u) e f h = (
  h.0,
  h.1,
  (λ k a. let y = (f k a).0 in elim (h.2 k a) [
    | inl x ↦ inl (omega (arith, x, y, e))
    | inr x ↦ let z = x.0 in inr (omega (arith, z, y, e), (f k a).1 ∙ x.1)
  ]),
  (λ u k a. let x = h.3 u k a in let y = (f k (head_among (kids_at links n) k a)).0 in omega (arith, x, y, e)),
)

module _ (links : List Edges) (carrying fulfilling : ℕ → ℕ → Bool) (alive : List Bool) (ranks : List ℕ) (causes : List Cause) (left i : ℕ) (range : InRange links) (lt : i < length links)
    (marked : AreMarked links carrying fulfilling alive ranks causes left) (live : Alive alive i) where
  pub has_left : (0 < left) × (left ≤ length links)
  has_left =
      let a = living_set alive i live in let b = living_most alive in let c = marked.rest in let d = marked.tested in
      (omega (arith, a, c), omega (arith, b, c, d))

  pub marked_dead : some_is (alive_at alive) (kids_at links i) ≡ false → AreMarked links carrying fulfilling (set alive i false) (set ranks i (length links - left)) (set causes i Dead) (left - 1)
  marked_dead none =
      let aw = set alive i false in
      let rw' = set ranks i (length links - left) in
      let ww = set causes i Dead in
      let l0 = has_left.0 in
      let l1 = has_left.1 in
      let la = marked.tested in let lr = marked.ranked in let lw = marked.caused in
      let ia : i < length alive = omega (arith, la, lt) in
      let ir : i < length ranks = omega (arith, lr, lt) in
      let iw : i < length causes = omega (arith, lw, lt) in
      let a_here : get_or aw i false ≡ false = get_or-set_same alive i false false ia in
      let a_there : (m : ℕ) → m ≢ i → get_or aw m false ≡ get_or alive m false = λ m ne. get_or-set_other alive i m false false ne in
      let r_here : get_or rw' i 0 ≡ length links - left = get_or-set_same ranks i (length links - left) 0 ir in
      let r_there : (m : ℕ) → m ≢ i → get_or rw' m 0 ≡ get_or ranks m 0 = λ m ne. get_or-set_other ranks i m (length links - left) 0 ne in
      let w_here : cause_at ww i ≡ Dead = get_or-set_same causes i Dead Dead iw in
      let w_there : (m : ℕ) → m ≢ i → cause_at ww m ≡ cause_at causes m = λ m ne. get_or-set_other causes i m Dead Dead ne in
      let more : (m : ℕ) → Gone alive m → Gone aw m = λ m h. elim (cases_eq m i) [ inl q ↦ subst (Gone aw) (sym q) a_here | inr q ↦ a_there m q ∙ h ] in
      let apart : (m : ℕ) → Gone alive m → m ≢ i = λ m h q. no_both (get_or alive i false) live (subst (Gone alive) q h) in
      let kid_in : (k : ℕ) → Among k (kids_at links i) → k < length links = λ k a. each_at (λ k. k < length links) (kids_at links i) k (range i lt) a in
      let ls = living_set alive i live in
      let rs = marked.rest in
      record {
        tested = length-set alive i false ∙ la;
        ranked = length-set ranks i (length links - left) ∙ lr;
        caused = length-set causes i Dead ∙ lw;
        rest = omega (arith, ls, rs);
        below = λ m ml h. elim (cases_eq m i) [
          | inl q ↦ let x : get_or rw' m 0 ≡ length links - left = subst (λ z. get_or rw' z 0 ≡ length links - left) (sym q) r_here in omega (arith, x, l0, l1)
          | inr q ↦ let x = r_there m q in let b = marked.below m ml (sym (a_there m q) ∙ h) in omega (arith, x, b)
        ];
        shut = λ m ml h k a. elim (cases_eq m i) [
          | inl q ↦ more k (some_none (alive_at alive) (kids_at links i) k none (subst (λ z. Among k (kids_at links z)) q a))
          | inr q ↦ more k (marked.shut m ml (sym (a_there m q) ∙ h) k a)
        ];
        right = λ m ml h. elim (cases_eq m i) [
          | inl q ↦ subst (λ z. IsRight links carrying fulfilling rw' ww z (cause_at ww z)) (sym q) (subst (IsRight links carrying fulfilling rw' ww i) (sym w_here)
              (λ k a. let gk = some_none (alive_at alive) (kids_at links i) k none a in let b = marked.below k (kid_in k a) gk in let x = r_there k (apart k gk) in omega (arith, b, x, r_here)))
          | inr q ↦ let gm : Gone alive m = sym (a_there m q) ∙ h in subst (IsRight links carrying fulfilling rw' ww m) (sym (w_there m q))
              (right_kept links carrying fulfilling ranks rw' causes ww m (cause_at causes m) (r_there m q) (λ k a. let gk = marked.shut m ml gm k a in (r_there k (apart k gk), w_there k (apart k gk))) (marked.right m ml gm))
        ];
      }

pub cleared_take : (links : List Edges) (carrying fulfilling : ℕ → ℕ → Bool) (old alive : List Bool) (ranks : List ℕ) (causes : List Cause) (before left n i : ℕ) → InRange links → i < length links → n ≤ suc i
    → Alive alive i → some_is (alive_at alive) (kids_at links i) ≡ false → AreCleared links carrying fulfilling old alive ranks causes before left n
    → AreCleared links carrying fulfilling old (set alive i false) (set ranks i (length links - left)) (set causes i Dead) before (left - 1) i
cleared_take links carrying fulfilling old alive ranks causes before left n i range lt le live none c =
    let h = has_left links carrying fulfilling alive ranks causes left i range lt c.marked live in
    let l0 = h.0 in
    let le' = c.less in
    let marked = c.marked in
    let la = marked.tested in
    let ia : i < length alive = omega (arith, la, lt) in
    record {
      marked = marked_dead links carrying fulfilling alive ranks causes left i range lt c.marked live none;
      less = omega (arith, le');
      same = λ e. absurd (omega (arith, e, le', l0));
      goes = λ e. absurd (omega (arith, e, le', l0));
      leafless = λ m ml mg a. elim (cases_eq m i) [
        | inl q ↦ absurd (no_both (get_or (set alive i false) m false) a (subst (λ z. get_or (set alive i false) z false ≡ false) (sym q) (get_or-set_same alive i false false ia)))
        | inr q ↦ c.leafless m (omega arith) mg (sym (get_or-set_other alive i m false false q) ∙ a)
      ];
    }

pub cleared_skip : (links : List Edges) (carrying fulfilling : ℕ → ℕ → Bool) (old alive : List Bool) (ranks : List ℕ) (causes : List Cause) (before left n i : ℕ) → n ≤ suc i
    → (Alive alive i → some_is (alive_at alive) (kids_at links i) ≡ true) → AreCleared links carrying fulfilling old alive ranks causes before left n → AreCleared links carrying fulfilling old alive ranks causes before left i
cleared_skip links carrying fulfilling old alive ranks causes before left n i le goes c =
    record {
      marked = c.marked;
      less = c.less;
      same = c.same;
      goes = λ e m ml mg a. elim (cases_eq m i) [
        | inl q ↦ subst (λ z. (k : ℕ) × Among k (kids_at links z) × Alive alive k) (sym q) (some_has (alive_at alive) (kids_at links i) (goes (subst (Alive alive) q a)))
        | inr q ↦ c.goes e m (omega arith) mg a
      ];
      leafless = λ m ml mg a. elim (cases_eq m i) [
        | inl q ↦ subst (HasKid links) (sym q) (let r = some_has (alive_at alive) (kids_at links i) (goes (subst (Alive alive) q a)) in (r.0, r.1))
        | inr q ↦ c.leafless m (omega arith) mg a
      ];
    }

pub cleared_start : (links : List Edges) (carrying fulfilling : ℕ → ℕ → Bool) (alive : List Bool) (ranks : List ℕ) (causes : List Cause) (left : ℕ) → AreMarked links carrying fulfilling alive ranks causes left → AreCleared links carrying fulfilling alive alive ranks causes left left (length links)
cleared_start links carrying fulfilling alive ranks causes left marked =
    record { marked = marked; less = omega arith; same = λ e. refl; goes = λ e m ml mg. absurd (omega arith); leafless = λ m ml mg. absurd (omega arith) }

-- where the first place is gone, so is each
gone_from : (links : List Edges) (carrying fulfilling : ℕ → ℕ → Bool) (alive : List Bool) (ranks : List ℕ) (causes : List Cause) (left : ℕ) → IsConnected links carrying fulfilling → AreMarked links carrying fulfilling alive ranks causes left → Gone alive 0
    → (n : ℕ) → PlaceReached links n → (n < length links) × Gone alive n
gone_from links carrying fulfilling alive ranks causes left connected marked h _ start = (connected.some, h)
gone_from links carrying fulfilling alive ranks causes left connected marked h n (more k _ r a) =
    let was = gone_from links carrying fulfilling alive ranks causes left connected marked h k r in
    (each_at (λ p. p < length links) (kids_at links k) n (connected.in_range k was.0) a, marked.shut k was.0 was.1 n a)

pub valid : (links : List Edges) (carrying fulfilling : ℕ → ℕ → Bool) (alive : List Bool) (ranks : List ℕ) (causes : List Cause) (left : ℕ) → IsConnected links carrying fulfilling → AreMarked links carrying fulfilling alive ranks causes left → Gone alive 0 → AreRight links carrying fulfilling ranks causes
valid links carrying fulfilling alive ranks causes left connected marked h =
    record { ranked = marked.ranked; caused = marked.caused; right = λ n ng. marked.right n ng (gone_from links carrying fulfilling alive ranks causes left connected marked h n (connected.reached n ng)).1 }

-- levels give paths
pub comes : (links : List Edges) (fulfilling : ℕ → Bool) (alive : List Bool) (levels : List ℕ) → InRange links → HasLevels links fulfilling alive levels → (m n : ℕ) → get_or levels n 0 < m → n < length links → get_or levels n 0 < length links → ComesTo links fulfilling alive n
comes links fulfilling alive levels range h zero n nm ng l = absurd (omega arith)
comes links fulfilling alive levels range h (suc m) n nm ng l =
    let w = h.way n ng l in
    elim w.1 [
      | inl x ↦ here n x.1.0 w.0 x.0 x.1.1 x.1.2
      | inr x ↦
          let xl = x.3 in
          later n x.0 w.0 x.1 (comes links fulfilling alive levels range h m x.0 (omega (arith, xl, nm)) (each_at (λ k. k < length links) (kids_at links n) x.0 (range n ng) x.1) (omega (arith, xl, l)))
    ]
