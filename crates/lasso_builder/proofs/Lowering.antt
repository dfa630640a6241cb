-- Levels: each place that leads to a fulfilment has one, and how they are lowered.
use Rattle.std.proofs.Common.{◌≡◌, ◌≢◌, ℕ, ◌<◌, ◌≤◌, ◌⊎◌, List, [], ◌∷◌, ◌++◌, length, get_or, set, Bool, true, false, refl, sym, ap, ap₂, subst, ◌∙◌, inl, inr, arith, length-append, length-set, get_or-set_same, get_or-set_other, Vec, Result, Ok, Err, IfOk, ◌&&◌, ◌||◌, nat_lt}
use Rattle.std.specs.declared.alloc.Global.{Global}
use Rattle.std.proofs.lemmas.List.{get_or_append_left, get_or_at}
use Rattle.std.proofs.lemmas.Bool.{cases_eq, cases_lt}
use Rattle.tableau_rules.specs.declared.edges.Edges.{Edges}
use Rattle.tableau_rules.specs.Links.{Among, IsHead, kids_at, InRange}
use Rattle.tableau_rules.specs.Levels.{HasLevels, Way, Alive, alive_at, head_is, some_is, levelled_at, can_go, ComesTo, here, later, PlacesSurvive}
use Rattle.lasso_builder.specs.LevelTables.{LevelsFor, AllLevels, IsLevelFor}
use Rattle.tableau_rules.proofs.PlaceTests.{no_both, each_at, is_below}

-- ---- tests of kids
pub some_from : (test : ℕ → Bool) (xs : List ℕ) (k : ℕ) → Among k xs → test k ≡ true → some_is test xs ≡ true
some_from test [] k i h = absurd i
some_from test (x ∷ []) k i h = elim i [ inl q ↦ ap test (sym q) ∙ h | inr z ↦ absurd z ]
some_from test (x ∷ y ∷ ys) k i h = elim i [
  | inl q ↦ left (test x) (some_is test (y ∷ ys)) (ap test (sym q) ∙ h)
  | inr z ↦ right (test x) (some_is test (y ∷ ys)) (some_from test (y ∷ ys) k z h)
]
  where
    left : (a b : Bool) → a ≡ true → (a || b) ≡ true
    left true b h = refl
    left false b h = cc

    right : (a b : Bool) → b ≡ true → (a || b) ≡ true
    right true b h = refl
    right false b h = h

head_from : (test : ℕ → Bool) (xs : List ℕ) (k : ℕ) → IsHead k xs → test k ≡ true → head_is test xs ≡ true
head_from test [] k i h = absurd i
head_from test (x ∷ xs) k i h = ap test (sym i) ∙ h

some_same : (p q : ℕ → Bool) (xs : List ℕ) → ((k : ℕ) → p k ≡ q k) → some_is p xs ≡ some_is q xs
some_same p q [] h = refl
some_same p q (x ∷ []) h = h x
some_same p q (x ∷ y ∷ ys) h = ap₂ (λ a b. a || b) (h x) (some_same p q (y ∷ ys) h)

-- where a place fulfils in no living kid, a kid has a lower level
pub has_lower : (links : List Edges) (fulfilling : ℕ → Bool) (alive : List Bool) (levels : List ℕ) (k : ℕ) → Way links fulfilling alive levels k
    → (fulfilling k ≡ false) ⊎ (head_is (alive_at alive) (kids_at links k) ≡ false) → some_is (levelled_at alive levels (get_or levels k 0)) (kids_at links k) ≡ true
has_lower links fulfilling alive levels k way no_way =
    elim way.1 [
      | inl x ↦ elim no_way [
        | inl f ↦ absurd (no_both (fulfilling k) x.0 f)
        | inr f ↦ absurd (no_both (head_is (alive_at alive) (kids_at links k)) (head_from (alive_at alive) (kids_at links k) x.1.0 x.1.1 x.1.2) f)
      ]
      | inr x ↦ some_from (levelled_at alive levels (get_or levels k 0)) (kids_at links k) x.0 x.1
          (let b = is_below (get_or levels x.0 0) (get_or levels k 0) x.3 in let a : alive_at alive x.0 ≡ true = x.2 in rw (a, b) refl)
    ]

-- ---- where there is a path there is a level
at_least : (x y : ℕ) → (y ≤ x → ⊥) → x < y
at_least x y h = elim (cases_lt x y) [ inl a ↦ a | inr b ↦ absurd (h b) ]

starts : (links : List Edges) (fulfilling : ℕ → Bool) (alive : List Bool) (k : ℕ) → ComesTo links fulfilling alive k → Alive alive k
starts links fulfilling alive k (here _ p a f i b) = a
starts links fulfilling alive k (later _ p a i c) = a

-- a living place without a level fulfils in no living kid, and no living kid has a level
module _ (links : List Edges) (fulfilling : ℕ → Bool) (alive : List Bool) (levels : List ℕ) (k : ℕ) (stuck : can_go links fulfilling alive levels k ≡ false) (living : Alive alive k) where
  abbrev fulfils : Bool
  fulfils = fulfilling k && head_is (alive_at alive) (kids_at links k)

  abbrev lower : Bool
  lower = some_is (levelled_at alive levels (length links)) (kids_at links k)

  neither : (fulfils ≡ false) × (lower ≡ false)
  neither = split (alive_at alive k) fulfils lower living stuck
    where
      split : (a b c : Bool) → a ≡ true → (a && (b || c)) ≡ false → (b ≡ false) × (c ≡ false)
      split false b c x y = absurd (no_both false x refl)
      split true true c x y = absurd (no_both true refl y)
      split true false c x y = (refl, y)

  no_fulfilment : fulfilling k ≡ true → (p : ℕ) → IsHead p (kids_at links k) → Alive alive p → ⊥
  no_fulfilment f p i a =
      let h = head_from (alive_at alive) (kids_at links k) p i a in
      no_both fulfils (rw (f, h) refl) neither.0

  no_lower : (p : ℕ) → Among p (kids_at links k) → Alive alive p → get_or levels p 0 < length links → ⊥
  no_lower p i a l =
      let b = is_below (get_or levels p 0) (length links) l in
      no_both lower (some_from (levelled_at alive levels (length links)) (kids_at links k) p i (rw (a, b) refl)) neither.1

pub has_level : (links : List Edges) (fulfilling : ℕ → Bool) (alive : List Bool) (levels : List ℕ) → InRange links → HasLevels links fulfilling alive levels
    → (k : ℕ) → k < length links → ComesTo links fulfilling alive k → get_or levels k 0 < length links
has_level links fulfilling alive levels range h k kl (here _ p a f i b) =
    at_least (get_or levels k 0) (length links) (λ le. no_fulfilment links fulfilling alive levels k (h.whole k kl le) a f p i b)
has_level links fulfilling alive levels range h k kl (later _ p a i c) =
    let r = has_level links fulfilling alive levels range h p (each_at (λ z. z < length links) (kids_at links k) p (range k kl) i) c in
    at_least (get_or levels k 0) (length links) (λ le. no_lower links fulfilling alive levels k (h.whole k kl le) a p i (starts links fulfilling alive p c) r)

pub levels_of : (links : List Edges) (carrying fulfilling : ℕ → ℕ → Bool) (alive : List Bool) (e : ℕ) (levels : List ℕ) → InRange links → PlacesSurvive links carrying fulfilling alive
    → HasLevels links (fulfilling e) alive levels → LevelsFor links carrying fulfilling alive e levels
levels_of links carrying fulfilling alive e levels range s h = λ k kl a c. (h, has_level links (fulfilling e) alive levels range h k kl (s.settled.fair e k kl a c))

-- ---- the table
pub if_ok : {X E : Type 0} (P Q : X → Type 0) (r : Result X E) → ((x : X) → P x → Q x) → IfOk r P → IfOk r Q
if_ok P Q (Ok x) f h = f x h
if_ok P Q (Err e) f h = h

pub levels_more : (links : List Edges) (carrying fulfilling : ℕ → ℕ → Bool) (alive : List Bool) (table : List (Vec ℕ Global)) (v : Vec ℕ Global) (e : ℕ) → length table ≡ e
    → AllLevels links carrying fulfilling alive table → LevelsFor links carrying fulfilling alive e v.items → AllLevels links carrying fulfilling alive (table ++ v ∷ [])
levels_more links carrying fulfilling alive table v e size all one = λ d w dl q.
    let n = length-append table (v ∷ []) in
    elim (cases_eq d e) [
      | inl z ↦ subst (λ x. LevelsFor links carrying fulfilling alive d x.items) (sym (q ∙ get_or_at table v [] w d (size ∙ sym z))) (subst (λ x. LevelsFor links carrying fulfilling alive x v.items) (sym z) one)
      | inr z ↦ let dt : d < length table = omega (arith, n, dl, size) in all d w dt (q ∙ get_or_append_left table (v ∷ []) w d dt)
    ]

-- ---- a level is lowered to another that the place can take
module _ (links : List Edges) (fulfilling : ℕ → Bool) (alive : List Bool) (levels : List ℕ) (k level : ℕ) (h : HasLevels links fulfilling alive levels) (kl : k < length links)
    (l : get_or levels k 0 < length links) (less : level < get_or levels k 0) where
  abbrev lowered_levels : List ℕ
  lowered_levels = set levels k level

  at_place : get_or lowered_levels k 0 ≡ level
  at_place = let size = h.size in get_or-set_same levels k level 0 (omega (arith, size, kl))

  elsewhere : (m : ℕ) → m ≢ k → get_or lowered_levels m 0 ≡ get_or levels m 0
  elsewhere m ne = get_or-set_other levels k m level 0 ne

  down : (m : ℕ) → get_or lowered_levels m 0 ≤ get_or levels m 0
  down m = elim (cases_eq m k) [
    | inl q ↦ let a = at_place in subst (λ z. get_or lowered_levels z 0 ≤ get_or levels z 0) (sym q) (omega (arith, a, less))
    | inr q ↦ let t = elsewhere m q in omega (arith, t)
  ]

  same_test : (m : ℕ) → levelled_at alive levels (length links) m ≡ levelled_at alive lowered_levels (length links) m
  same_test m = elim (cases_eq m k) [
    | inl q ↦ let a = at_place in
        subst (λ z. levelled_at alive levels (length links) z ≡ levelled_at alive lowered_levels (length links) z) (sym q)
        (ap (λ b. alive_at alive k && b) (is_below (get_or levels k 0) (length links) l ∙ sym (is_below (get_or lowered_levels k 0) (length links) (omega (arith, a, less, l)))))
    | inr q ↦ ap (λ v. alive_at alive m && nat_lt v (length links)) (sym (elsewhere m q))
  ]

  way_kept : (m below : ℕ) → get_or levels m 0 ≤ below → get_or lowered_levels m 0 ≡ below → Way links fulfilling alive levels m → Way links fulfilling alive lowered_levels m
  way_kept m below le q w = (
    w.0,
    elim w.1 [
      | inl x ↦ inl x
      | inr x ↦ let d = down x.0 in let xl = x.3 in inr (x.0, x.1, x.2, omega (arith, d, xl, q, le))
    ],
  )

  pub lowered : Alive alive k → IsLevelFor fulfilling alive levels (kids_at links k) k level → HasLevels links fulfilling alive lowered_levels
  lowered living can = record {
    size = length-set levels k level ∙ h.size;
    way = λ m ml ll. elim (cases_eq m k) [
      | inl q ↦ subst (λ z. Way links fulfilling alive lowered_levels z) (sym q) (
        living,
        elim can [
          | inl x ↦ inl x
          | inr x ↦ let d = down x.0 in let xl = x.3 in let a = at_place in inr (x.0, x.1, x.2, omega (arith, d, xl, a))
        ],
      )
      | inr q ↦
          let t = elsewhere m q in
          way_kept m (get_or levels m 0) (omega arith) t (h.way m ml (omega (arith, t, ll)))
    ];
    whole = λ m ml le. elim (cases_eq m k) [
      | inl q ↦ let v : get_or lowered_levels m 0 ≡ level = ap (λ z. get_or lowered_levels z 0) q ∙ at_place in absurd (omega (arith, v, le, less, l))
      | inr q ↦
          let t = elsewhere m q in
          ap (λ b. alive_at alive m && ((fulfilling m && head_is (alive_at alive) (kids_at links m)) || b)) (sym (some_same (levelled_at alive levels (length links)) (levelled_at alive lowered_levels (length links)) (kids_at links m) same_test))
          ∙ h.whole m ml (omega (arith, t, le))
    ];
  }
