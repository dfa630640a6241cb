-- The size of a query is one number: distinct nodes that are reached are no more than all of them.
use Rattle.std.proofs.Common.{◌≡◌, ◌≢◌, ℕ, zero, suc, ◌-◌, ◌<◌, ◌≤◌, ◌⊎◌, List, [], ◌∷◌, length, get_or, map, cond, nat_lt, Some, refl, sym, ap, subst, ◌∙◌, inl, inr, arith}
use Rattle.std.specs.Prelude.{slice_get, Contains}
use Rattle.std.specs.List.{AllZip}
use Rattle.std.proofs.lemmas.Bool.{cases_lt, lt-ltb, le-ltb}
use Rattle.state_space.specs.Members.{full_of}
use Rattle.bound_unfolding.specs.CoreForm.{CoreForm}
use Rattle.formula_table.specs.Closures.{closure_of}
use Rattle.tableau_rules.specs.Nodes.{NodeForm, kids}
use Rattle.tableau_rules.specs.Graphs.{IsReached, root, kid, AreReached, HasSize, IsLarger, GraphNodeForm, nodes_in, PlacesHold, IsWhole}
use Rattle.tableau_rules.proofs.Lists.{AnyOf, any_at}

-- ---- the pigeonhole
-- the numbers but a, closed up
abbrev down : ℕ → ℕ → ℕ
down a x = cond (nat_lt x a) x (x - 1)

down_low : (a x : ℕ) → x < a → down a x ≡ x
down_low a x h = ap (λ b. cond b x (x - 1)) (lt-ltb x a h)

down_high : (a x : ℕ) → a ≤ x → down a x ≡ x - 1
down_high a x h = ap (λ b. cond b x (x - 1)) (le-ltb x a h)

down_in : (a m x : ℕ) → a < suc m → x < suc m → x ≢ a → down a x < m
down_in a m x ha hx ne = elim (cases_lt x a) [
  | inl l ↦ let e = down_low a x l in omega (arith, e, l, ha)
  | inr l ↦ let e = down_high a x l in omega (arith, e, l, ne, hx)
]

down_apart : (a x y : ℕ) → x ≢ a → y ≢ a → x ≢ y → down a x ≢ down a y
down_apart a x y nx ny ne = elim (cases_lt x a) [
  | inl lx ↦ elim (cases_lt y a) [
    | inl ly ↦ let e = down_low a x lx in let f = down_low a y ly in λ z. ne (sym e ∙ z ∙ f)
    | inr ly ↦ let e = down_low a x lx in let f = down_high a y ly in λ z. omega (arith, e, f, z, lx, ly, ny)
  ]
  | inr lx ↦ elim (cases_lt y a) [
    | inl ly ↦ let e = down_high a x lx in let f = down_low a y ly in λ z. omega (arith, e, f, z, lx, ly, nx)
    | inr ly ↦ let e = down_high a x lx in let f = down_high a y ly in λ z. ne (omega (arith, e, f, z, lx, ly, nx, ny))
  ]
]

pigeons : (n m : ℕ) (f : ℕ → ℕ) → ((i : ℕ) → i < n → f i < m) → ((i j : ℕ) → i < j → j < n → f i ≢ f j) → n ≤ m
pigeons zero m f inside apart = omega arith
pigeons (suc n) zero f inside apart = let h = inside n (omega arith) in absurd (omega (arith, h))
pigeons (suc n) (suc m) f inside apart =
    let last = inside n (omega arith) in
    let off : (i : ℕ) → i < n → f i ≢ f n = λ i h. apart i n h (omega arith) in
    let r = pigeons n m (λ i. down (f n) (f i))
    (λ i h. down_in (f n) m (f i) last (inside i (omega (arith, h))) (off i h))
    (λ i j ij jn. down_apart (f n) (f i) (f j) (off i (omega (arith, ij, jn))) (off j jn) (apart i j ij (omega (arith, jn)))) in
    omega (arith, r)

-- n distinct things, each of which is one of m things
fit : {X : Type 0} (n m : ℕ) (x y : ℕ → X) → ((i : ℕ) → i < n → (k : ℕ) × (k < m) × (y k ≡ x i)) → ((i j : ℕ) → i < j → j < n → x i ≢ x j) → n ≤ m
fit n m x y place once = pigeons n m (λ i. at i (cases_lt i n)) (λ i h. at_in i h (cases_lt i n)) (λ i j ij jn z. once i j ij jn (sym (at_is i (omega (arith, ij, jn)) (cases_lt i n)) ∙ ap y z ∙ at_is j jn (cases_lt j n)))
  where
    at : (i : ℕ) → (i < n) ⊎ (n ≤ i) → ℕ
    at i (inl h) = (place i h).0
    at i (inr h) = 0

    at_in : (i : ℕ) → i < n → (d : (i < n) ⊎ (n ≤ i)) → at i d < m
    at_in i l (inl h) = (place i h).1
    at_in i l (inr h) = absurd (omega (arith, l, h))

    at_is : (i : ℕ) → i < n → (d : (i < n) ⊎ (n ≤ i)) → y (at i d) ≡ x i
    at_is i l (inl h) = (place i h).2
    at_is i l (inr h) = absurd (omega (arith, l, h))

-- ---- what stands at a place
pub other_default : {X : Type 0} (xs : List X) (k : ℕ) (d e : X) → k < length xs → get_or xs k d ≡ get_or xs k e
other_default [] k d e l = absurd (omega arith)
other_default (x ∷ xs) zero d e l = refl
other_default (x ∷ xs) (suc k) d e l = other_default xs k d e (omega arith)

pub contains_got : {X : Type 0} (xs : List X) (k : ℕ) (x : X) → slice_get xs k ≡ Some x → Contains xs x
contains_got [] k x h = absurd (cc)
contains_got (y ∷ ys) zero x h = (0, omega arith, cc)
contains_got (y ∷ ys) (suc k) x h = let r = contains_got ys k x h in let l = r.1 in (suc r.0, omega (arith, l), r.2)

pub got_of_map : {X Y : Type 0} (f : X → Y) (xs : List X) (k : ℕ) (y : Y) → k < length xs → get_or (map f xs) k y ≡ y → (x : X) × (slice_get xs k ≡ Some x) × (f x ≡ y)
got_of_map f [] k y l h = absurd (omega arith)
got_of_map f (x ∷ xs) zero y l h = (x, refl, h)
got_of_map f (x ∷ xs) (suc k) y l h = got_of_map f xs k y (omega arith) h

pub map_length : {X Y : Type 0} (f : X → Y) (xs : List X) → length (map f xs) ≡ length xs
map_length f [] = refl
map_length f (x ∷ xs) = let e = map_length f xs in omega (arith, e)

zip_any : {X Y : Type 0} (R : X → Y → Type 0) (xs : List X) (ys : List Y) (y : Y) → AllZip R xs ys → AnyOf (λ z. y ≡ z) ys → (x : X) × R x y
zip_any R [] [] y h s = absurd s
zip_any R [] (z ∷ zs) y h s = absurd h
zip_any R (x ∷ xs) [] y h s = absurd s
zip_any R (x ∷ xs) (z ∷ zs) y h s = elim s [ inl e ↦ (x, subst (R x) (sym e) h.0) | inr t ↦ zip_any R xs zs y h.1 t ]

-- ---- sizes
module _ (sizes : List ℕ) (cores : List CoreForm) where
  abbrev no_node : NodeForm
  no_node = record { todo = []; now = []; next = [] }

  no_more : (n : ℕ) (nodes : List NodeForm) → HasSize sizes cores n → AreReached sizes cores nodes → length nodes ≤ n
  no_more n nodes s are =
      let r = fit (length nodes) (length s.nodes) (λ i. get_or nodes i no_node) (λ k. get_or s.nodes k no_node) place (λ i j ij jl. are.distinct i j no_node ij jl) in
      let c = s.count in
      omega (arith, r, c)
    where
      place : (i : ℕ) → i < length nodes → (k : ℕ) × (k < length s.nodes) × (get_or s.nodes k no_node ≡ get_or nodes i no_node)
      place i l =
          let c = s.all (get_or nodes i no_node) (are.reached i no_node l) in
          (c.0, c.1, other_default s.nodes c.0 no_node (get_or nodes i no_node) c.1 ∙ c.2)

  pub one_size : (m n : ℕ) → HasSize sizes cores m → HasSize sizes cores n → m ≡ n
  one_size m n s t =
      let a = no_more m t.nodes s t.are in
      let b = no_more n s.nodes t s.are in
      let c = s.count in
      let d = t.count in
      omega (arith, a, b, c, d)

  pub size_over : (size budget : ℕ) → HasSize sizes cores size → IsLarger sizes cores budget → budget < size
  size_over size budget s o =
      let a = no_more size o.nodes s o.are in
      let b = o.more in
      omega (arith, a, b)

  all_in : (graph : List GraphNodeForm) → IsWhole sizes cores graph → (n : NodeForm) → IsReached sizes cores n → Contains (nodes_in graph) n
  all_in graph w n root = contains_got (nodes_in graph) 0 n w.root
  all_in graph w m (kid n _ r c) =
      let h = all_in graph w n r in
      let l = h.1 in
      let e = map_length (λ (g : GraphNodeForm). g.node) graph in
      let g = got_of_map (λ (g : GraphNodeForm). g.node) graph h.0 n (omega (arith, l, e)) h.2 in
      let ks = kids (closure_of cores) (full_of sizes) n in
      let held = subst (λ x. PlacesHold graph g.0.kids (kids (closure_of cores) (full_of sizes) x)) g.2 (w.kids h.0 g.0 g.1) in
      let p = zip_any (λ place x. slice_get (nodes_in graph) place ≡ Some x) g.0.kids ks m held (any_at (λ x. m ≡ x) ks c.0 m c.1 c.2 refl) in
      contains_got (nodes_in graph) p.0 m p.1

  pub whole_size : (graph : List GraphNodeForm) → IsWhole sizes cores graph → HasSize sizes cores (length graph)
  whole_size graph w = record { nodes = nodes_in graph; count = map_length (λ (g : GraphNodeForm). g.node) graph; are = w.are; all = all_in graph w }
