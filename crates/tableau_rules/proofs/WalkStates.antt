-- The positions of a walk, as many as nodes that have stepped, and the states that stand at them.
use Rattle.std.proofs.Common.{◌≡◌, ℕ, zero, suc, ◌+◌, ◌<◌, ◌≤◌, Bool, true, false, List, [], ◌∷◌, ◌++◌, IsTrue, cond, refl, arith, sym, ap, ◌∙◌, true≢false, length, map}
use Rattle.std.specs.Prelude.{slice_index_or}
use Rattle.tableau_rules.specs.Nodes.{NodeForm}
use Rattle.tableau_rules.specs.Walks.{no_node, least_index, is_empty, states}

abbrev pub after_turn : List ℕ → ℕ → ℕ
after_turn todo p = cond (is_empty todo) (suc p) p

-- how many nodes before the k-th have stepped: of a walk without end, and of a list
abbrev pub position_at : (ℕ → NodeForm) → ℕ → ℕ
position_at node zero = 0
position_at node (suc k) = after_turn (node k).todo (position_at node k)

abbrev pub steps_before : List NodeForm → ℕ → ℕ
steps_before [] k = 0
steps_before (n ∷ ns) zero = 0
steps_before (n ∷ ns) (suc k) = after_turn n.todo (steps_before ns k)

abbrev pub state_of : NodeForm → List ℕ
state_of n = map least_index n.now

turns_exchange : (a b : List ℕ) (p : ℕ) → after_turn a (after_turn b p) ≡ after_turn b (after_turn a p)
turns_exchange [] [] p = refl
turns_exchange [] (x ∷ b) p = refl
turns_exchange (x ∷ a) [] p = refl
turns_exchange (x ∷ a) (y ∷ b) p = refl

steps_before-suc : (xs : List NodeForm) (k : ℕ) → k < length xs → steps_before xs (suc k) ≡ after_turn (slice_index_or xs k no_node).todo (steps_before xs k)
steps_before-suc [] k l = absurd (omega arith)
steps_before-suc (n ∷ []) zero l = refl
steps_before-suc (n ∷ m ∷ ns) zero l = refl
steps_before-suc (n ∷ ns) (suc k) l =
    ap (after_turn n.todo) (steps_before-suc ns k (omega arith)) ∙ turns_exchange n.todo (slice_index_or ns k no_node).todo (steps_before ns k)

pub position_steps : (node : ℕ → NodeForm) (xs : List NodeForm) → ((j : ℕ) → j < length xs → node j ≡ slice_index_or xs j no_node) → (k : ℕ) → k ≤ length xs → position_at node k ≡ steps_before xs k
position_steps node [] h zero l = refl
position_steps node (x ∷ xs) h zero l = refl
position_steps node [] h (suc k) l = absurd (omega arith)
position_steps node (x ∷ xs) h (suc k) l =
    ap (λ (n : NodeForm). after_turn n.todo (position_at node k)) (h k (omega arith))
    ∙ ap (after_turn (slice_index_or (x ∷ xs) k no_node).todo) (position_steps node (x ∷ xs) h k (omega arith))
    ∙ sym (steps_before-suc (x ∷ xs) k (omega arith))

-- ---- the states of a list
count_one : (b : Bool) (s : List ℕ) (ss : List (List ℕ)) (c : ℕ) → c ≡ length ss → cond b (suc c) c ≡ length (cond b (s ∷ ss) ss)
count_one true s ss c e = ap suc e
count_one false s ss c e = e

pub steps_all : (xs : List NodeForm) → steps_before xs (length xs) ≡ length (states xs)
steps_all [] = refl
steps_all (n ∷ ns) = count_one (is_empty n.todo) (state_of n) (states ns) (steps_before ns (length ns)) (steps_all ns)

pub steps_front : (xs ys : List NodeForm) → steps_before (xs ++ ys) (length xs) ≡ length (states xs)
steps_front [] [] = refl
steps_front [] (y ∷ ys) = refl
steps_front (n ∷ ns) ys = count_one (is_empty n.todo) (state_of n) (states ns) (steps_before (ns ++ ys) (length ns)) (steps_front ns ys)

-- the state that stands at a position
pub record StandsAt (ss : List (List ℕ)) (p : ℕ) (state : List ℕ) : Type 0 where
  pub is : slice_index_or ss p [] ≡ state
  pub below : p < length ss

one_more : (b : Bool) (s : List ℕ) (ss : List (List ℕ)) (p : ℕ) (state : List ℕ) → StandsAt ss p state → StandsAt (cond b (s ∷ ss) ss) (cond b (suc p) p) state
one_more true s ss p state a = record { is = a.is; below = let l = a.below in omega arith }
one_more false s ss p state a = a

stands_first : (b : Bool) (s : List ℕ) (ss : List (List ℕ)) → IsTrue b → StandsAt (cond b (s ∷ ss) ss) 0 s
stands_first true s ss h = record { is = refl; below = omega arith }
stands_first false s ss h = absurd (true≢false (sym h))

pub stepping_stands : (xs : List NodeForm) (k : ℕ) → k < length xs → (slice_index_or xs k no_node).todo ≡ [] → StandsAt (states xs) (steps_before xs k) (state_of (slice_index_or xs k no_node))
stepping_stands [] k l e = absurd (omega arith)
stepping_stands (n ∷ ns) zero l e = stands_first (is_empty n.todo) (state_of n) (states ns) (ap is_empty e)
stepping_stands (n ∷ ns) (suc k) l e =
    one_more (is_empty n.todo) (state_of n) (states ns) (steps_before ns k) (state_of (slice_index_or ns k no_node)) (stepping_stands ns k (omega arith) e)

cond-append : (b : Bool) (s : List ℕ) (xs ys zs : List (List ℕ)) → zs ≡ xs ++ ys → cond b (s ∷ zs) zs ≡ cond b (s ∷ xs) xs ++ ys
cond-append true s xs ys zs e = ap (λ z. s ∷ z) e
cond-append false s xs ys zs e = e

pub states-append : (xs ys : List NodeForm) → states (xs ++ ys) ≡ states xs ++ states ys
states-append [] ys = refl
states-append (n ∷ ns) ys = cond-append (is_empty n.todo) (state_of n) (states ns) (states ys) (states (ns ++ ys)) (states-append ns ys)

-- ---- positions never fall
after_turn_above : (todo : List ℕ) (p : ℕ) → p ≤ after_turn todo p
after_turn_above [] p = omega arith
after_turn_above (x ∷ xs) p = omega arith

pub position_mono : (node : ℕ → NodeForm) (m k j : ℕ) → k + m ≡ j → position_at node k ≤ position_at node j
position_mono node zero k j e =
    let q : k ≡ j = omega arith in omega (arith, ap (position_at node) q)
position_mono node (suc m) k j e =
    omega (arith, after_turn_above (node k).todo (position_at node k), position_mono node m (suc k) j (omega arith))
