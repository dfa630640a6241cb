-- The root of a query is a node of the query, and so is each kid of such a node.
use Rattle.std.proofs.Common.{◌≡◌, ℕ, zero, suc, ◌+◌, ◌<◌, ◌≤◌, ◌^◌, Bool, true, false, List, [], ◌∷◌, Some, cond, length, map, refl, inl, inr, sym, ap, ap₂, subst, ◌∙◌, arith}
use Rattle.std.specs.Prelude.{slice_get, slice_index}
use Rattle.std.specs.List.{AllByRecursion as Each}
use Rattle.std.specs.List.Sorted.{IsStrictlyIncreasing}
use Rattle.std.proofs.lemmas.List.Elements.{All-from_recursion, recursion_from_All}
use Rattle.std.proofs.lemmas.Nat.{and_le_l}
use Rattle.std.proofs.Math.Pow.{pow-sub-lt}
use Rattle.state_space.specs.Members.{full_of}
use Rattle.bound_unfolding.specs.CoreForm.{CoreForm}
use Rattle.formula_table.specs.Closures.{formula_at, number_in, closure_of}
use Rattle.formula_table.specs.Distinct.{IsMember}
use Rattle.formula_table.proofs.Members.{member_at, number_below}
use Rattle.tableau_rules.specs.Sets.{with_number, without_number}
use Rattle.tableau_rules.specs.Rules.{Change, clash, changes, rule_of}
use Rattle.tableau_rules.specs.Nodes.{NodeForm, first_best, chosen, has_empty, todo_rule, met_with, met_with_all, with_numbers_of, kid, kids_by, kids, root_of}
use Rattle.tableau_rules.specs.Certificates.{IsOfQuery}
use Rattle.tableau_rules.specs.Graphs.{IsReached, root, kid as reached_kid}
use Rattle.tableau_rules.proofs.Lists.{AnyOf, any_at, each_map}
use Rattle.tableau_rules.proofs.NumberSets.{each_has, each_without, each_with_cores, has_first_best}
use Rattle.tableau_rules.proofs.Ascending.{IsAscending, ascending_with, ascending_without, increasing}
use Rattle.tableau_rules.proofs.RuleParts.{no_step, rule_parts}
use Rattle.tableau_rules.proofs.NodeRules.{kids_by_changes}
use Rattle.tableau_rules.proofs.IndexSets.{length-full_of, length-met_with_all}
use Rattle.tableau_rules.proofs.Closing.{closure_grows}

-- ---- the sets
met_less : (y set : ℕ) (now : List ℕ) (x : ℕ) → slice_index (met_with y set now) x ≤ slice_index now x
met_less y set [] x = omega arith
met_less zero set (s ∷ now) zero = and_le_l s set
met_less zero set (s ∷ now) (suc x) = omega arith
met_less (suc y) set (s ∷ now) zero = omega arith
met_less (suc y) set (s ∷ now) (suc x) = met_less y set now x

met_all_less : (ms : List (ℕ × ℕ)) (now : List ℕ) (x : ℕ) → slice_index (met_with_all ms now) x ≤ slice_index now x
met_all_less [] now x = omega arith
met_all_less (m ∷ ms) now x =
    let a = met_all_less ms (met_with m.0 m.1 now) x in
    let b = met_less m.0 m.1 now x in
    omega (arith, a, b)

full_below : (sizes : List ℕ) (x : ℕ) → x < length sizes → slice_index (full_of sizes) x < 2 ^ slice_index sizes x
full_below [] x l = absurd (omega arith)
full_below (size ∷ sizes) zero l = pow-sub-lt size (omega arith)
full_below (size ∷ sizes) (suc x) l = full_below sizes x (omega arith)

-- ---- the numbers
module _ (closure : List CoreForm) where
  ascending_with_cores : (cs : List CoreForm) (xs : List ℕ) → IsAscending xs → IsAscending (with_numbers_of closure cs xs)
  ascending_with_cores [] xs h = h
  ascending_with_cores (c ∷ cs) xs h = ascending_with_cores cs (with_number (number_in closure c) xs) (ascending_with (number_in closure c) xs h)

  below_with_cores : (cs : List CoreForm) (xs : List ℕ) → Each (IsMember closure) cs → Each (λ f. f < length closure) xs → Each (λ f. f < length closure) (with_numbers_of closure cs xs)
  below_with_cores cs xs m h =
      each_with_cores closure (λ f. f < length closure) cs xs (each_map (IsMember closure) (λ c. number_in closure c < length closure) cs (number_below closure) m) h

increasing_tail : (x : ℕ) (xs : List ℕ) → IsStrictlyIncreasing (x ∷ xs) → IsStrictlyIncreasing xs
increasing_tail x xs h = λ k l. let e : suc k + 1 ≡ suc (k + 1) = omega arith in subst (λ j. slice_index xs k < slice_index (x ∷ xs) j) e (h (suc k) (omega arith))

above : (x : ℕ) (xs : List ℕ) → IsStrictlyIncreasing (x ∷ xs) → Each (λ y. x < y) xs
above x [] h = tt
above x (y ∷ ys) h = let l : x < y = h 0 (omega arith) in (l, each_map (λ z. y < z) (λ z. x < z) ys (λ z g. omega (arith, l, g)) (above y ys (increasing_tail x (y ∷ ys) h)))

pub ascending_of : (xs : List ℕ) → IsStrictlyIncreasing xs → IsAscending xs
ascending_of [] h = tt
ascending_of (x ∷ xs) h = (above x xs h, ascending_of xs (increasing_tail x xs h))

-- a node of the query, by recursion
record IsNode (sizes : List ℕ) (closure : List CoreForm) (n : NodeForm) : Type 0 where
  todo : IsAscending n.todo
  todo_below : Each (λ f. f < length closure) n.todo
  next : IsAscending n.next
  next_below : Each (λ f. f < length closure) n.next
  variables : length n.now ≡ length sizes
  indexes : (x : ℕ) → x < length sizes → slice_index n.now x < 2 ^ slice_index sizes x

node_from : (sizes : List ℕ) (closure : List CoreForm) (n : NodeForm) → IsOfQuery sizes closure n → IsNode sizes closure n
node_from sizes closure n q = record {
  todo = ascending_of n.todo q.todo;
  todo_below = recursion_from_All (λ f. f < length closure) n.todo q.todo_below;
  next = ascending_of n.next q.next;
  next_below = recursion_from_All (λ f. f < length closure) n.next q.next_below;
  variables = q.variables;
  indexes = q.indexes;
}

node_to : (sizes : List ℕ) (closure : List CoreForm) (n : NodeForm) → IsNode sizes closure n → IsOfQuery sizes closure n
node_to sizes closure n q = record {
  todo = increasing n.todo q.todo;
  todo_below = All-from_recursion (λ f. f < length closure) n.todo q.todo_below;
  next = increasing n.next q.next;
  next_below = All-from_recursion (λ f. f < length closure) n.next q.next_below;
  variables = q.variables;
  indexes = q.indexes;
}

module _ (sizes : List ℕ) (cores : List CoreForm) where
  abbrev cl : List CoreForm
  cl = closure_of cores

  abbrev IsIn : List CoreForm → Type 0
  IsIn cs = Each (IsMember cl) cs

  root_node : IsNode sizes cl (root_of cl (full_of sizes) cores)
  root_node = record {
    todo = ascending_with_cores cl cores [] tt;
    todo_below = below_with_cores cl cores [] (closure_grows cores).all tt;
    next = tt;
    next_below = tt;
    variables = length-full_of sizes;
    indexes = full_below sizes;
  }

  kid_node : (n : NodeForm) (g : ℕ) (c : Change) → IsNode sizes cl n → IsIn c.todo × IsIn c.next → IsNode sizes cl (kid cl n g c)
  kid_node n g c q h = record {
    todo = ascending_with_cores cl c.todo (without_number g n.todo) (ascending_without g n.todo q.todo);
    todo_below = below_with_cores cl c.todo (without_number g n.todo) h.0 (each_without (λ f. f < length cl) g n.todo q.todo_below);
    next = ascending_with_cores cl c.next n.next q.next;
    next_below = below_with_cores cl c.next n.next h.1 q.next_below;
    variables = length-met_with_all c.sets n.now ∙ q.variables;
    indexes = λ x l. let a = met_all_less c.sets n.now x in let b = q.indexes x l in omega (arith, a, b);
  }

  -- each choice makes a node of the query
  choices_in : (now : List ℕ) (g : ℕ) → g < length cl → Each (λ (c : Change). IsIn c.todo × IsIn c.next) (changes (rule_of now (formula_at cl g)))
  choices_in now g l = rule_parts (IsMember cl) now (formula_at cl g) (λ _. member_at cl g l) ((closure_grows cores).fine.operands_in g)

  each_made : (n : NodeForm) (g : ℕ) (cs : List Change) → IsNode sizes cl n → Each (λ (c : Change). IsIn c.todo × IsIn c.next) cs → Each (IsNode sizes cl) (map (kid cl n g) cs)
  each_made n g [] q h = tt
  each_made n g (c ∷ cs) q h = (kid_node n g c q h.0, each_made n g cs q h.1)

  each_kid : (n : NodeForm) → IsNode sizes cl n → Each (IsNode sizes cl) (kids cl (full_of sizes) n)
  each_kid n q = go (has_empty n.now)
    where
      by_todo : (todo : List ℕ) → todo ≡ n.todo → Each (IsNode sizes cl) (kids_by cl (full_of sizes) n (todo_rule cl n.now todo))
      by_todo [] e = (record { todo = q.next; todo_below = q.next_below; next = tt; next_below = tt; variables = length-full_of sizes; indexes = full_below sizes }, tt)
      by_todo (f ∷ fs) e =
          let g = first_best cl f fs in
          let below = each_has (λ x. x < length cl) (f ∷ fs) g (subst (λ xs. Each (λ x. x < length cl) xs) (sym e) q.todo_below) (has_first_best cl f fs) in
          let r = rule_of n.now (formula_at cl g) in
          subst (λ ks. Each (IsNode sizes cl) ks) (sym (kids_by_changes cl (full_of sizes) n r (no_step n.now (formula_at cl g))))
          (each_made n (chosen cl n.todo) (changes r) q (choices_in n.now g below))

      go : (b : Bool) → Each (IsNode sizes cl) (kids_by cl (full_of sizes) n (cond b clash (todo_rule cl n.now n.todo)))
      go true = tt
      go false = by_todo n.todo refl

each_got : {X : Type 0} (P : X → Type 0) (xs : List X) (k : ℕ) (x : X) → Each P xs → slice_get xs k ≡ Some x → P x
each_got P [] k x h e = absurd (cc)
each_got P (y ∷ ys) zero x h e = let q : y ≡ x = cc in subst P q h.0
each_got P (y ∷ ys) (suc k) x h e = each_got P ys k x h.1 e

each_any : {X : Type 0} (P : X → Type 0) (xs : List X) (x : X) → Each P xs → AnyOf (λ y. x ≡ y) xs → P x
each_any P [] x h s = absurd s
each_any P (y ∷ ys) x h s = elim s [ inl e ↦ subst P (sym e) h.0 | inr z ↦ each_any P ys x h.1 z ]

pub kid_of_query : (sizes : List ℕ) (cores : List CoreForm) (n m : NodeForm) (k : ℕ) → IsOfQuery sizes (closure_of cores) n → slice_get (kids (closure_of cores) (full_of sizes) n) k ≡ Some m → IsOfQuery sizes (closure_of cores) m
kid_of_query sizes cores n m k q e =
    let cl = closure_of cores in
    node_to sizes cl m (each_got (IsNode sizes cl) (kids cl (full_of sizes) n) k m (each_kid sizes cores n (node_from sizes cl n q)) e)

-- the same, where the closure and the full sets are known by equations
pub kid_of_query_by : (sizes : List ℕ) (cores known : List CoreForm) (full : List ℕ) (n m : NodeForm) (k : ℕ) → known ≡ closure_of cores → full ≡ full_of sizes → IsOfQuery sizes (closure_of cores) n
    → slice_get (kids known full n) k ≡ Some m → IsOfQuery sizes (closure_of cores) m
kid_of_query_by sizes cores known full n m k e f q h = kid_of_query sizes cores n m k q (sym (ap₂ (λ c s. slice_get (kids c s n) k) e f) ∙ h)

pub root_of_query : (sizes : List ℕ) (cores : List CoreForm) → IsOfQuery sizes (closure_of cores) (root_of (closure_of cores) (full_of sizes) cores)
root_of_query sizes cores = node_to sizes (closure_of cores) (root_of (closure_of cores) (full_of sizes) cores) (root_node sizes cores)

pub root_of_query_by : (sizes : List ℕ) (cores : List CoreForm) (todo now next : List ℕ) → todo ≡ with_numbers_of (closure_of cores) cores [] → now ≡ full_of sizes → next ≡ []
    → IsOfQuery sizes (closure_of cores) (record { todo = todo; now = now; next = next })
root_of_query_by sizes cores todo now next e f g =
    let mk : List ℕ → List ℕ → List ℕ → NodeForm = λ a b c. record { todo = a; now = b; next = c } in
    subst (λ n. IsOfQuery sizes (closure_of cores) n) (sym (ap (λ a. mk a now next) e ∙ ap (λ b. mk (with_numbers_of (closure_of cores) cores []) b next) f ∙ ap (λ c. mk (with_numbers_of (closure_of cores) cores []) (full_of sizes) c) g)) (root_of_query sizes cores)

-- each node that is reached is of the query
pub reached_of_query : (sizes : List ℕ) (cores : List CoreForm) (n : NodeForm) → IsReached sizes cores n → IsOfQuery sizes (closure_of cores) n
reached_of_query sizes cores n root = root_of_query sizes cores
reached_of_query sizes cores m (reached_kid n _ r c) =
    let cl = closure_of cores in
    let ks = kids cl (full_of sizes) n in
    node_to sizes cl m (each_any (IsNode sizes cl) ks m (each_kid sizes cores n (node_from sizes cl n (reached_of_query sizes cores n r))) (any_at (λ k. m ≡ k) ks c.0 m c.1 c.2 refl))
