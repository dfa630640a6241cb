-- The places that wait for an until go at once.
use Rattle.std.proofs.Common.{◌≡◌, ◌≢◌, ℕ, ◌+◌, ◌-◌, ◌<◌, ◌≤◌, ◌⊎◌, List, length, get_or, set, Bool, true, false, refl, sym, ap, subst, ◌∙◌, inl, inr, arith, get_or-set_same, get_or-set_other, length-set, ◌&&◌, ◌||◌, nat_lt, not, cond}
use Rattle.std.proofs.lemmas.Bool.{cases_eq, and_parts}
use Rattle.tableau_rules.specs.declared.edges.Edges.{Edges}
use Rattle.tableau_elimination.specs.declared.cause.Cause.{Cause}
use Rattle.tableau_elimination.specs.declared.cause.Cause.TheVariants.{Dead, Wait}
use Rattle.tableau_rules.specs.Links.{Among, IsHead, kids_at}
use Rattle.tableau_rules.specs.Levels.{HasLevels, Alive, can_go, alive_at, head_is, some_is, levelled_at, ComesTo}
use Rattle.tableau_elimination.specs.Marks.{IsConnected, Gone, IsRight, cause_at, living, AreMarked, Leafless, waits, AreKilled, IsWaitedFor}
use Rattle.tableau_rules.proofs.PlaceTests.{or_not, below_is, is_below, bool_of, no_both, head_none, some_none, each_at, head_among}
use Rattle.tableau_elimination.proofs.MarkSteps.{living_set, living_most, right_kept, comes}

pub waits_has : (carried : ℕ → Bool) (alive : List Bool) (levels : List ℕ) (m : ℕ) → waits carried alive levels m ≡ true → Alive alive m × (length levels ≤ get_or levels m 0) × (carried m ≡ true)
waits_has carried alive levels m h =
    let a = and_parts (alive_at alive m) (not (nat_lt (get_or levels m 0) (length levels)) && carried m) h in
    let b = and_parts (not (nat_lt (get_or levels m 0) (length levels))) (carried m) a.1 in
    (a.0, above (get_or levels m 0) (length levels) b.0, b.1)
  where
    above : (x y : ℕ) → not (nat_lt x y) ≡ true → y ≤ x
    above x y e = elim (bool_of (nat_lt x y)) [ inl t ↦ absurd (no_both (not (nat_lt x y)) e (ap not t)) | inr f ↦ grind arith ]

pub waits_from : (carried : ℕ → Bool) (alive : List Bool) (levels : List ℕ) (m : ℕ) → Alive alive m → length levels ≤ get_or levels m 0 → carried m ≡ true → waits carried alive levels m ≡ true
waits_from carried alive levels m a l c =
    let n : nat_lt (get_or levels m 0) (length levels) ≡ false = grind arith in
    rw (a, n, c) refl

pub not_alive : (carried : ℕ → Bool) (alive : List Bool) (levels : List ℕ) (m : ℕ) → Gone alive m → waits carried alive levels m ≡ false
not_alive carried alive levels m a = rw a refl

-- a node that cannot go fulfils in no kid that is alive, and no kid that is alive has a level
pub stuck : (links : List Edges) (fulfilling : ℕ → Bool) (alive : List Bool) (levels : List ℕ) (n : ℕ) → can_go links fulfilling alive levels n ≡ false → Alive alive n
    → (fulfilling n ≡ true → (k : ℕ) → IsHead k (kids_at links n) → Gone alive k) × ((k : ℕ) → Among k (kids_at links n) → Alive alive k → length links ≤ get_or levels k 0)
stuck links fulfilling alive levels n h a =
    let f = fulfilling n && head_is (alive_at alive) (kids_at links n) in
    let s = some_is (levelled_at alive levels (length links)) (kids_at links n) in
    let both = or_not f s (first (alive_at alive n) (f || s) a h) in (
      (λ u k i. head_none (alive_at alive) (kids_at links n) k (first (fulfilling n) (head_is (alive_at alive) (kids_at links n)) u both.0) i),
      (λ k i ak. under (get_or levels k 0) (length links) (first (alive_at alive k) (nat_lt (get_or levels k 0) (length links)) ak (some_none (levelled_at alive levels (length links)) (kids_at links n) k both.1 i))),
    )
  where
    first : (x y : Bool) → x ≡ true → (x && y) ≡ false → y ≡ false
    first true y t e = e
    first false y t e = cc

    under : (x y : ℕ) → nat_lt x y ≡ false → y ≤ x
    under x y e = grind arith

module _ (links : List Edges) (carrying fulfilling : ℕ → ℕ → Bool) (e : ℕ) (levels : List ℕ) (old alive : List Bool) (old_ranks ranks : List ℕ) (old_causes causes : List Cause) (before left : ℕ)
    (connected : IsConnected links carrying fulfilling) (marked : AreMarked links carrying fulfilling old old_ranks old_causes before) (leafless : Leafless links old) (h : HasLevels links (fulfilling e) old levels)
    (killed : AreKilled (carrying e) e levels old alive old_ranks ranks old_causes causes before left (length levels)) where
  inside : (m : ℕ) → m < length links → waits (carrying e) old levels m ≡ true → Gone alive m × (get_or ranks m 0 ≡ length links - before) × (cause_at causes m ≡ Wait e)
  inside m ml w =
      let sz = h.size in
      let l : nat_lt m (length levels) ≡ true = is_below m (length levels) (omega (arith, sz, ml)) in
      let both : (nat_lt m (length levels) && waits (carrying e) old levels m) ≡ true = rw (l, w) refl in (
        killed.alive_is m ∙ ap (λ b. cond b false (alive_at old m)) both,
        killed.rank_is m ∙ ap (λ b. cond b (length levels - before) (get_or old_ranks m 0)) both ∙ ap (λ x. x - before) sz,
        killed.cause_is m ∙ ap (λ b. cond b (Wait e) (cause_at old_causes m)) both,
      )

  outside : (m : ℕ) → waits (carrying e) old levels m ≡ false → (alive_at alive m ≡ alive_at old m) × (get_or ranks m 0 ≡ get_or old_ranks m 0) × (cause_at causes m ≡ cause_at old_causes m)
  outside m w =
      let both : (nat_lt m (length levels) && waits (carrying e) old levels m) ≡ false = rw w (last (nat_lt m (length levels))) in (
        killed.alive_is m ∙ ap (λ b. cond b false (alive_at old m)) both,
        killed.rank_is m ∙ ap (λ b. cond b (length levels - before) (get_or old_ranks m 0)) both,
        killed.cause_is m ∙ ap (λ b. cond b (Wait e) (cause_at old_causes m)) both,
      )
    where
      last : (b : Bool) → (b && false) ≡ false
      last true = refl
      last false = refl

  out_of : (m : ℕ) → Gone old m → (alive_at alive m ≡ alive_at old m) × (get_or ranks m 0 ≡ get_or old_ranks m 0) × (cause_at causes m ≡ cause_at old_causes m)
  out_of m a = outside m (not_alive (carrying e) old levels m a)

  in_range : (n k : ℕ) → n < length links → Among k (kids_at links n) → k < length links
  in_range n k ng a = each_at (λ k. k < length links) (kids_at links n) k (connected.in_range n ng) a

  -- a kid of one that waits is gone before, or waits
  kid_case : (m : ℕ) → m < length links → waits (carrying e) old levels m ≡ true → (k : ℕ) → Among k (kids_at links m) → Gone old k ⊎ (waits (carrying e) old levels k ≡ true)
  kid_case m ml w k a =
      let x = waits_has (carrying e) old levels m w in
      let sz = h.size in
      let lm = x.1 in
      let st = stuck links (fulfilling e) old levels m (h.whole m ml (omega (arith, lm, sz))) x.0 in
      elim (bool_of (alive_at old k)) [
        | inr f ↦ inl f
        | inl t ↦ elim (connected.goes_on e m k ml x.2 a) [
          | inl c ↦ let lk = st.1 k a t in inr (waits_from (carrying e) old levels k t (omega (arith, lk, sz)) c)
          | inr u ↦ inl (st.0 u.0 k u.1)
        ]
      ]

  earlier : (k : ℕ) → k < length links → Gone old k → get_or ranks k 0 < length links - before
  earlier k kl a = let b = marked.below k kl a in let x = (out_of k a).1 in omega (arith, b, x)

  waiting_right : (m : ℕ) → m < length links → waits (carrying e) old levels m ≡ true → IsRight links carrying fulfilling ranks causes m (Wait e)
  waiting_right m ml w =
      let x = waits_has (carrying e) old levels m w in
      let sz = h.size in
      let lm = x.1 in
      let st = stuck links (fulfilling e) old levels m (h.whole m ml (omega (arith, lm, sz))) x.0 in
      let own = (inside m ml w).1 in (
        x.2,
        leafless m ml x.0,
        (λ k a. elim (kid_case m ml w k a) [
          | inl f ↦ let b = earlier k (in_range m k ml a) f in inl (omega (arith, b, own))
          | inr v ↦ let i = inside k (in_range m k ml a) v in inr (i.1 ∙ sym own, i.2)
        ]),
        (λ u k a. let b = earlier k (in_range m k ml (head_among (kids_at links m) k a)) (st.0 u k a) in omega (arith, b, own)),
      )

  gone_was : (m : ℕ) → Gone alive m → (waits (carrying e) old levels m ≡ true) ⊎ Gone old m
  gone_was m a = elim (bool_of (waits (carrying e) old levels m)) [ inl t ↦ inl t | inr f ↦ inr (sym (outside m f).0 ∙ a) ]

  pub waited : IsWaitedFor links carrying fulfilling e old alive ranks causes before left
  waited =
      let sz = h.size in
      let la = marked.tested in
      let most = living_most old in
      let rs = marked.rest in
      record {
        marked = record {
          tested = killed.tested ∙ marked.tested;
          ranked = killed.ranked ∙ marked.ranked;
          caused = killed.caused ∙ marked.caused;
          rest = killed.rest;
          below = λ m ml a. elim (gone_was m a) [
            | inl w ↦ let r = (inside m ml w).1 in let s = killed.some m (omega (arith, sz, ml)) w in omega (arith, r, s, la, most, rs)
            | inr f ↦ let b = marked.below m ml f in let r = (out_of m f).1 in let l = killed.less in omega (arith, b, r, l)
          ];
          shut = λ m ml a k i. elim (gone_was m a) [
            | inl w ↦ elim (kid_case m ml w k i) [ inl f ↦ (out_of k f).0 ∙ f | inr v ↦ (inside k (in_range m k ml i) v).0 ]
            | inr f ↦ let fk = marked.shut m ml f k i in (out_of k fk).0 ∙ fk
          ];
          right = λ m ml a. elim (gone_was m a) [
            | inl w ↦ subst (IsRight links carrying fulfilling ranks causes m) (sym (inside m ml w).2) (waiting_right m ml w)
            | inr f ↦ subst (IsRight links carrying fulfilling ranks causes m) (sym (out_of m f).2)
                (right_kept links carrying fulfilling old_ranks ranks old_causes causes m (cause_at old_causes m) (out_of m f).1 (λ k i. let o = out_of k (marked.shut m ml f k i) in (o.1, o.2)) (marked.right m ml f))
          ];
        };
        leafless = λ m ml a. elim (bool_of (waits (carrying e) old levels m)) [
          | inl w ↦ absurd (no_both (alive_at alive m) a (inside m ml w).0)
          | inr f ↦ leafless m ml (sym (outside m f).0 ∙ a)
        ];
        less = killed.less;
        same = killed.same;
        fair = λ eq n ng a c. elim (bool_of (waits (carrying e) old levels n)) [
          | inl w ↦ let s = killed.some n (omega (arith, sz, ng)) w in absurd (omega (arith, s, eq))
          | inr f ↦
              let a0 : Alive old n = sym (outside n f).0 ∙ a in
              let lev : get_or levels n 0 < length links = elim (bool_of (nat_lt (get_or levels n 0) (length levels))) [
                | inl t ↦ let b = below_is (get_or levels n 0) (length levels) t in omega (arith, b, sz)
                | inr nt ↦ absurd (no_both (waits (carrying e) old levels n) (let z : waits (carrying e) old levels n ≡ true = rw (a0, nt, c) refl in z) f)
              ] in
              subst (λ z. ComesTo links (fulfilling e) z n) (sym (killed.same eq)) (comes links (fulfilling e) old levels connected.in_range h (length links) n lev ng lev)
        ];
      }

-- one more step of the killing loop
lt_more : (m i : ℕ) → m ≢ i → nat_lt m (i + 1) ≡ nat_lt m i
lt_more m i ne = elim (bool_of (nat_lt m i)) [
  | inl t ↦ let b = below_is m i t in is_below m (i + 1) (omega (arith, b)) ∙ sym t
  | inr f ↦ elim (bool_of (nat_lt m (i + 1))) [
    | inl u ↦ let b = below_is m (i + 1) u in absurd (no_both (nat_lt m i) (is_below m i (omega (arith, b, ne))) f)
    | inr u ↦ u ∙ sym f
  ]
]

module _ (carried : ℕ → Bool) (e : ℕ) (levels : List ℕ) (old alive : List Bool) (old_ranks ranks : List ℕ) (old_causes causes : List Cause) (before left i : ℕ)
    (killed : AreKilled carried e levels old alive old_ranks ranks old_causes causes before left i) where
  pub unkilled : alive_at alive i ≡ alive_at old i
  unkilled = killed.alive_is i ∙ ap (λ b. cond (b && waits carried old levels i) false (alive_at old i)) (irr i)
    where
      irr : (x : ℕ) → nat_lt x x ≡ false
      irr x = grind arith

  pub waits_now : waits carried alive levels i ≡ waits carried old levels i
  waits_now = ap (λ b. b && (not (nat_lt (get_or levels i 0) (length levels)) && carried i)) unkilled

  pub killed_skip : waits carried old levels i ≡ false → AreKilled carried e levels old alive old_ranks ranks old_causes causes before left (i + 1)
  killed_skip w =
      let same_test : (m : ℕ) → (nat_lt m i && waits carried old levels m) ≡ (nat_lt m (i + 1) && waits carried old levels m) = λ m. elim (cases_eq m i) [
        | inl q ↦ (let f : waits carried old levels m ≡ false = subst (λ z. waits carried old levels z ≡ false) (sym q) w in rw f (none (nat_lt m i) (nat_lt m (i + 1))))
        | inr q ↦ ap (λ b. b && waits carried old levels m) (sym (lt_more m i q))
      ] in
      record {
        tested = killed.tested;
        ranked = killed.ranked;
        caused = killed.caused;
        rest = killed.rest;
        less = killed.less;
        alive_is = λ m. killed.alive_is m ∙ ap (λ b. cond b false (alive_at old m)) (same_test m);
        rank_is = λ m. killed.rank_is m ∙ ap (λ b. cond b (length levels - before) (get_or old_ranks m 0)) (same_test m);
        cause_is = λ m. killed.cause_is m ∙ ap (λ b. cond b (Wait e) (cause_at old_causes m)) (same_test m);
        some = λ m ml v. elim (cases_eq m i) [
          | inl q ↦ absurd (no_both (waits carried old levels i) (subst (λ z. waits carried old levels z ≡ true) q v) w)
          | inr q ↦ killed.some m (omega arith) v
        ];
        same = killed.same;
      }
    where
      none : (a b : Bool) → (a && false) ≡ (b && false)
      none true true = refl
      none true false = refl
      none false true = refl
      none false false = refl

  pub killed_take : i < length old → length old_ranks ≡ length old → length old_causes ≡ length old → waits carried old levels i ≡ true
      → (0 < left) × AreKilled carried e levels old (set alive i false) old_ranks (set ranks i (length levels - before)) old_causes (set causes i (Wait e)) before (left - 1) (i + 1)
  killed_take il lr lw w =
      let live : Alive alive i = unkilled ∙ (waits_has carried old levels i w).0 in
      let ls = living_set alive i live in
      let rs = killed.rest in
      let pos : 0 < left = omega (arith, ls, rs) in
      let less = killed.less in
      let ka = killed.tested in let kr = killed.ranked in let kw = killed.caused in
      let ia : i < length alive = omega (arith, ka, il) in
      let ir : i < length ranks = omega (arith, kr, il, lr) in
      let iw : i < length causes = omega (arith, kw, il, lw) in
      let now : (nat_lt i (i + 1) && waits carried old levels i) ≡ true = (let t : nat_lt i (i + 1) ≡ true = is_below i (i + 1) (omega arith) in rw (t, w) refl) in
      let test : (m : ℕ) → m ≢ i → (nat_lt m i && waits carried old levels m) ≡ (nat_lt m (i + 1) && waits carried old levels m) = λ m q. ap (λ b. b && waits carried old levels m) (sym (lt_more m i q)) in (
        pos,
        record {
          tested = length-set alive i false ∙ ka;
          ranked = length-set ranks i (length levels - before) ∙ kr;
          caused = length-set causes i (Wait e) ∙ kw;
          rest = omega (arith, ls, rs);
          less = omega (arith, less);
          alive_is = λ m. elim (cases_eq m i) [
            | inl q ↦ subst (λ z. alive_at (set alive i false) z ≡ cond (nat_lt z (i + 1) && waits carried old levels z) false (alive_at old z)) (sym q) (get_or-set_same alive i false false ia ∙ sym (ap (λ b. cond b false (alive_at old i)) now))
            | inr q ↦ get_or-set_other alive i m false false q ∙ killed.alive_is m ∙ ap (λ b. cond b false (alive_at old m)) (test m q)
          ];
          rank_is = λ m. elim (cases_eq m i) [
            | inl q ↦ subst (λ z. get_or (set ranks i (length levels - before)) z 0 ≡ cond (nat_lt z (i + 1) && waits carried old levels z) (length levels - before) (get_or old_ranks z 0)) (sym q) (get_or-set_same ranks i (length levels - before) 0 ir ∙ sym (ap (λ b. cond b (length levels - before) (get_or old_ranks i 0)) now))
            | inr q ↦ get_or-set_other ranks i m (length levels - before) 0 q ∙ killed.rank_is m ∙ ap (λ b. cond b (length levels - before) (get_or old_ranks m 0)) (test m q)
          ];
          cause_is = λ m. elim (cases_eq m i) [
            | inl q ↦ subst (λ z. cause_at (set causes i (Wait e)) z ≡ cond (nat_lt z (i + 1) && waits carried old levels z) (Wait e) (cause_at old_causes z)) (sym q) (get_or-set_same causes i (Wait e) Dead iw ∙ sym (ap (λ b. cond b (Wait e) (cause_at old_causes i)) now))
            | inr q ↦ get_or-set_other causes i m (Wait e) Dead q ∙ killed.cause_is m ∙ ap (λ b. cond b (Wait e) (cause_at old_causes m)) (test m q)
          ];
          some = λ m ml v. omega (arith, less, pos);
          same = λ q. absurd (omega (arith, q, less, pos));
        },
      )

pub killed_start : (carried : ℕ → Bool) (e : ℕ) (levels : List ℕ) (alive : List Bool) (ranks : List ℕ) (causes : List Cause) (left : ℕ) → living alive ≡ left → AreKilled carried e levels alive alive ranks ranks causes causes left left 0
killed_start carried e levels alive ranks causes left h =
    record { tested = refl; ranked = refl; caused = refl; rest = h; less = omega arith; alive_is = λ m. rw (zero_not m) refl; rank_is = λ m. rw (zero_not m) refl; cause_is = λ m. rw (zero_not m) refl; some = λ m ml. absurd (omega arith); same = λ q. refl }
  where
    zero_not : (x : ℕ) → nat_lt x 0 ≡ false
    zero_not x = grind arith
