-- A certificate in which no node is bad is valid.
use Rattle.std.proofs.Common.{◌≡◌, ℕ, zero, suc, ◌+◌, ◌<◌, ◌≤◌, ◌-◌, ◌^◌, List, [], ◌∷◌, IsTrue, Some, None, ◌==◌, ◌&&◌, length, map, bit_and, inl, inr, refl, sym, ap, ◌∙◌, subst, arith}
use Rattle.std.specs.Prelude.{slice_get, slice_index, All}
use Rattle.std.proofs.lemmas.List.Elements.{All-from_recursion}
use Rattle.std.proofs.lemmas.Bool.{cases_lt}
use Rattle.std.proofs.lemmas.Nat.{and_le_r}
use Rattle.std.proofs.Math.Pow.{pow-sub-lt}
use Rattle.bound_unfolding.specs.CoreForm.{CoreForm}
use Rattle.formula_table.specs.Closures.{closure_of}
use Rattle.state_space.specs.Members.{full_of}
use Rattle.tableau_rules.specs.Nodes.{NodeForm, root_of}
use Rattle.tableau_rules.specs.Certificates.{CertNodeForm, IsOfQuery, IsValid}
use Rattle.formula_table.proofs.Tests.{and_true, eq_of}
use Rattle.cert_checker.specs.Causes.{all_below, are_inside, has_shape}
use Rattle.cert_checker.specs.Entries.{IsAscending, fault_of}
use Rattle.cert_checker.proofs.Causes.{all_good}
use Rattle.cert_checker.proofs.Shapes.{each_below, inside_length}
use Rattle.tableau_rules.proofs.IndexSets.{length-full_of}

-- ---- the shape of a node
pub shaped_todo : (n : ℕ) (full : List ℕ) (node : NodeForm) → IsTrue (has_shape n full node) → All (λ x. x < n) node.todo
shaped_todo n full node h =
    All-from_recursion (λ x. x < n) node.todo (each_below n node.todo (and_true (all_below n node.todo) _ (and_true (all_below n node.todo && all_below n node.next) _ h).0).0)

shaped_next : (n : ℕ) (full : List ℕ) (node : NodeForm) → IsTrue (has_shape n full node) → All (λ x. x < n) node.next
shaped_next n full node h =
    All-from_recursion (λ x. x < n) node.next (each_below n node.next (and_true (all_below n node.todo) _ (and_true (all_below n node.todo && all_below n node.next) _ h).0).1)

shaped_sets : (n : ℕ) (full : List ℕ) (node : NodeForm) → IsTrue (has_shape n full node) → IsTrue (are_inside full node.now)
shaped_sets n full node h = (and_true (all_below n node.todo && all_below n node.next) _ h).1

one_set : (size set : ℕ) → IsTrue (bit_and set (2 ^ size - 1) == set) → set < 2 ^ size
one_set size set h =
    let e = eq_of (bit_and set (2 ^ size - 1)) set h in
    let b = and_le_r set (2 ^ size - 1) in
    let z : 0 < 1 = omega arith in
    let p = pow-sub-lt size z in
    omega (arith, e, b, p)

sets_below : (sizes sets : List ℕ) → IsTrue (are_inside (full_of sizes) sets) → (x : ℕ) → x < length sizes → slice_index sets x < 2 ^ slice_index sizes x
sets_below [] sets h x l = absurd (omega arith)
sets_below (size ∷ sizes) [] h x l = absurd (cc)
sets_below (size ∷ sizes) (s ∷ sets) h zero l = one_set size s (and_true (bit_and s (2 ^ size - 1) == s) _ h).0
sets_below (size ∷ sizes) (s ∷ sets) h (suc x) l = sets_below sizes sets (and_true (bit_and s (2 ^ size - 1) == s) _ h).1 x (omega arith)

of_query : (sizes : List ℕ) (closure : List CoreForm) (node : NodeForm) → IsTrue (has_shape (length closure) (full_of sizes) node) → IsAscending node → IsOfQuery sizes closure node
of_query sizes closure node h a =
    let sets = shaped_sets (length closure) (full_of sizes) node h in
    record {
      todo = a.todo;
      todo_below = shaped_todo (length closure) (full_of sizes) node h;
      next = a.next;
      next_below = shaped_next (length closure) (full_of sizes) node h;
      variables = inside_length (full_of sizes) node.now sets ∙ length-full_of sizes;
      indexes = sets_below sizes node.now sets;
    }

-- ---- the whole certificate
pub valid_of : (sizes : List ℕ) (cores : List CoreForm) (cert : List CertNodeForm) → fault_of (full_of sizes) cores cert ≡ None
    → ((j : ℕ) (c : CertNodeForm) → slice_get cert j ≡ Some c → IsAscending c.node) → IsValid sizes cores cert
valid_of sizes cores [] h a = absurd (cc)
valid_of sizes cores (c ∷ cs) h a =
    let cl = closure_of cores in
    let g = all_good cl (full_of sizes) (root_of cl (full_of sizes) cores) (c ∷ cs) 0 (c ∷ cs) h in
    record {
      root = (c, refl, (g 0 c refl).root refl);
      shape = λ k d e. of_query sizes cl d.node (g k d e).shape (a k d e);
      kids = λ k d e. (g k d e).hold;
      reason = λ k d e. (g k d e).right;
    }

-- a node more, where the ones from a place on are ascending
pub ascending_step : (cs : List CertNodeForm) (from k : ℕ) (d : CertNodeForm) → slice_get cs k ≡ Some d → IsAscending d.node
    → ((j : ℕ) (c : CertNodeForm) → from ≤ j → j < k → slice_get cs j ≡ Some c → IsAscending c.node)
    → (j : ℕ) (c : CertNodeForm) → from ≤ j → j < k + 1 → slice_get cs j ≡ Some c → IsAscending c.node
ascending_step cs from k d h a i j c f l e = elim (cases_lt j k) [
  | inl m ↦ i j c f m e
  | inr m ↦
      let q : j ≡ k = omega (arith, l, m) in
      let s : Some d ≡ Some c = sym h ∙ (ap (slice_get cs) (sym q) ∙ e) in
      let t : d ≡ c = cc in
      subst (λ (x : CertNodeForm). IsAscending x.node) t a
]

pub within : {X Y : Type 0} (f : X → Y) (xs : List X) (k j : ℕ) (y : Y) → length xs ≤ k → slice_get (map f xs) j ≡ Some y → j < k
within f [] k j y l e = absurd (cc)
within f (x ∷ xs) zero j y l e = absurd (omega arith)
within f (x ∷ xs) (suc k) zero y l e = omega arith
within f (x ∷ xs) (suc k) (suc j) y l e = omega (arith, within f xs k j y (omega arith) e)
