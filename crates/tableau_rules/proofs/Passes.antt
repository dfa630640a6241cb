-- Passes that give levels to places, one after another.
use Rattle.std.proofs.Common.{◌≡◌, ◌≢◌, ℕ, suc, ◌+◌, ◌-◌, ◌<◌, ◌≤◌, ◌⊎◌, List, length, get_or, set, Bool, true, false, sym, ap, subst, ◌∙◌, inl, inr, arith, get_or-set_same, get_or-set_other, length-set, ◌&&◌, ◌||◌, nat_lt, replicate}
use Rattle.std.proofs.lemmas.List.{length-replicate, get_or-replicate}
use Rattle.std.proofs.lemmas.Bool.{cases_eq, and_parts}
use Rattle.tableau_rules.specs.declared.edges.Edges.{Edges}
use Rattle.tableau_rules.specs.Links.{Among, kids_at, InRange}
use Rattle.tableau_rules.specs.Levels.{Levelling, Way, Fulfils, Alive, can_go, free, alive_at, head_is, some_is, levelled_at}
use Rattle.tableau_rules.proofs.PlaceTests.{or_is, below_is, head_has, some_has, free_set, free_most, free_all, each_at}

-- all nodes from n on were looked at
pub record Swept (links : List Edges) (fulfilling : ℕ → Bool) (alive : List Bool) (levels : List ℕ) (rest left n : ℕ) : Type 0 where
  pub levelling : Levelling links fulfilling alive levels rest
  pub less : rest ≤ left
  pub whole : rest ≡ left → (m : ℕ) → n ≤ m → m < length links → length links ≤ get_or levels m 0 → can_go links fulfilling alive levels m ≡ false

-- what a node that can go has
abbrev pub Going : List Edges → (ℕ → Bool) → List Bool → List ℕ → ℕ → Type 0
Going links fulfilling alive levels n = Alive alive n × (Fulfils links fulfilling alive n ⊎ ((k : ℕ) × Among k (kids_at links n) × Alive alive k × (get_or levels k 0 < length links)))

pub going : (links : List Edges) (fulfilling : ℕ → Bool) (alive : List Bool) (levels : List ℕ) (n : ℕ) → can_go links fulfilling alive levels n ≡ true → Going links fulfilling alive levels n
going links fulfilling alive levels n h =
    let f = fulfilling n && head_is (alive_at alive) (kids_at links n) in
    let s = some_is (levelled_at alive levels (length links)) (kids_at links n) in
    let a = and_parts (alive_at alive n) (f || s) h in (
      a.0,
      elim (or_is f s a.1) [
        | inl x ↦ let y = and_parts (fulfilling n) (head_is (alive_at alive) (kids_at links n)) x in
            let k = head_has (alive_at alive) (kids_at links n) y.1 in inl (y.0, (k.0, k.1, k.2))
        | inr x ↦ let k = some_has (levelled_at alive levels (length links)) (kids_at links n) x in
            let b = and_parts (alive_at alive k.0) (nat_lt (get_or levels k.0 0) (length links)) k.2 in
            inr (k.0, k.1, b.0, below_is (get_or levels k.0 0) (length links) b.1)
      ],
    )

pub way_kept : (links : List Edges) (fulfilling : ℕ → Bool) (alive : List Bool) (levels next : List ℕ) (n : ℕ) → get_or next n 0 ≡ get_or levels n 0 → ((k : ℕ) → get_or levels k 0 < get_or levels n 0 → get_or next k 0 ≡ get_or levels k 0) → Way links fulfilling alive levels n → Way links fulfilling alive next n
way_kept links fulfilling alive levels next n e f w = (
  w.0,
  elim w.1 [
    | inl x ↦ inl x
    | inr x ↦ inr (x.0, x.1, x.2, let h = f x.0 x.3 in let l = x.3 in omega (arith, h, e, l))
  ],
)

module _ (links : List Edges) (fulfilling : ℕ → Bool) (alive : List Bool) (levels : List ℕ) (rest left n i : ℕ) (range : InRange links) (lt : i < length links)
    (none : length links ≤ get_or levels i 0) (so_far : Levelling links fulfilling alive levels rest) where
  pub free_less : (y : ℕ) → y < length links → free (length links) (set levels i y) + 1 ≡ rest
  free_less y h =
      let size = so_far.size in
      let isless : i < length levels = omega (arith, size, lt) in
      free_set (length links) levels i y isless none h ∙ so_far.rest

  pub has_rest : (0 < rest) × (rest ≤ length links)
  has_rest =
      let most = free_most (length links) levels in
      let z : 0 < length links = omega (arith, lt) in
      let e = free_less 0 z in
      let r = so_far.rest in
      let size = so_far.size in
      (omega (arith, e), omega (arith, most, r, size))

  pub levelled : can_go links fulfilling alive levels i ≡ true → Levelling links fulfilling alive (set levels i (length links - rest)) (rest - 1)
  levelled go =
      let next = set levels i (length links - rest) in
      let r0 = has_rest.0 in
      let r1 = has_rest.1 in
      let size = so_far.size in
      let isless : i < length levels = omega (arith, size, lt) in
      let here : get_or next i 0 ≡ length links - rest = get_or-set_same levels i (length links - rest) 0 isless in
      let there : (m : ℕ) → m ≢ i → get_or next m 0 ≡ get_or levels m 0 = λ m ne. get_or-set_other levels i m (length links - rest) 0 ne in
      let fewer : length links - rest < length links = omega arith in
      let e = free_less (length links - rest) fewer in
      record {
        size = length-set levels i (length links - rest) ∙ size;
        rest = omega (arith, e);
        below = λ m ml h. elim (cases_eq m i) [
          | inl q ↦ let x : get_or next m 0 ≡ length links - rest = subst (λ z. get_or next z 0 ≡ length links - rest) (sym q) here in omega (arith, x)
          | inr q ↦ let x = there m q in let old : get_or levels m 0 < length links = omega (arith, x, h) in let b = so_far.below m ml old in omega (arith, x, b)
        ];
        way = λ m ml h. elim (cases_eq m i) [
          | inl q ↦ subst (λ z. Way links fulfilling alive next z) (sym q) (
              let w = going links fulfilling alive levels i go in (
                w.0,
                elim w.1 [
                  | inl x ↦ inl x
                  | inr x ↦
                      let xl = x.3 in
                      let ne : x.0 ≢ i = λ z. let y : get_or levels x.0 0 ≡ get_or levels i 0 = ap (λ u. get_or levels u 0) z in omega (arith, y, xl, none) in
                      let t = there x.0 ne in
                      let b = so_far.below x.0 (each_at (λ k. k < length links) (kids_at links i) x.0 (range i lt) x.1) xl in
                      inr (x.0, x.1, x.2, omega (arith, t, b, here))
                ],
              ))
          | inr q ↦
              let x = there m q in
              let old : get_or levels m 0 < length links = omega (arith, x, h) in
              way_kept links fulfilling alive levels next m x (λ k kl. there k (λ z. let y : get_or levels k 0 ≡ get_or levels i 0 = ap (λ u. get_or levels u 0) z in omega (arith, y, kl, old, none))) (so_far.way m ml old)
        ];
      }

pub swept_take : (links : List Edges) (fulfilling : ℕ → Bool) (alive : List Bool) (levels : List ℕ) (rest left n i : ℕ) → InRange links → i < length links
    → length links ≤ get_or levels i 0 → can_go links fulfilling alive levels i ≡ true → Swept links fulfilling alive levels rest left n → Swept links fulfilling alive (set levels i (length links - rest)) (rest - 1) left i
swept_take links fulfilling alive levels rest left n i range lt none go s =
    let r = has_rest links fulfilling alive levels rest left n i range lt none s.levelling in
    let r0 = r.0 in
    let sl = s.less in
    record {
      levelling = levelled links fulfilling alive levels rest left n i range lt none s.levelling go;
      less = omega (arith, sl);
      whole = λ e. absurd (omega (arith, e, sl, r0));
    }

pub swept_skip : (links : List Edges) (fulfilling : ℕ → Bool) (alive : List Bool) (levels : List ℕ) (rest left n i : ℕ) → n ≤ suc i
    → (length links ≤ get_or levels i 0 → can_go links fulfilling alive levels i ≡ false) → Swept links fulfilling alive levels rest left n → Swept links fulfilling alive levels rest left i
swept_skip links fulfilling alive levels rest left n i le stays s =
    record {
      levelling = s.levelling;
      less = s.less;
      whole = λ e m ml mg none. elim (cases_eq m i) [
        | inl q ↦ subst (λ z. can_go links fulfilling alive levels z ≡ false) (sym q) (stays (subst (λ z. length links ≤ get_or levels z 0) q none))
        | inr q ↦ s.whole e m (omega arith) mg none
      ];
    }

pub all_free : (links : List Edges) (fulfilling : ℕ → Bool) (alive : List Bool) (levels : List ℕ) → levels ≡ replicate (length links) (length links) → Levelling links fulfilling alive levels (length links)
all_free links fulfilling alive levels e =
    let at : (n : ℕ) → n < length links → get_or levels n 0 ≡ length links = λ n h. ap (λ z. get_or z n 0) e ∙ get_or-replicate (length links) n (length links) 0 h in
    let size : length levels ≡ length links = ap (λ z. length z) e ∙ length-replicate (length links) (length links) in
    record {
      size = size;
      rest = ap (free (length links)) e ∙ free_all (length links) (length links);
      below = λ n l h. let a = at n l in absurd (omega (arith, a, h));
      way = λ n l h. let a = at n l in absurd (omega (arith, a, h));
    }
