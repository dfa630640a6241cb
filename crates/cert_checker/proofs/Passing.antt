-- In a valid certificate no node is bad.
use Rattle.std.proofs.Common.{◌≡◌, ℕ, zero, suc, ◌+◌, ◌-◌, ◌^◌, ◌<◌, ◌⊎◌, inl, inr, Bool, true, false, not, List, [], ◌∷◌, IsTrue, Option, Some, None, Result, Ok, Err, IfErr, OnOk, IsOk, ◌↔◌, ◌≢◌, ◌≤◌, nat_lt, ◌==◌, ◌&&◌, ◌||◌, length, map, bit_and, refl, sym, ap, ap₂, ◌∙◌, subst, lt-ltb, true≢false, arith}
use Rattle.std.specs.Prelude.{slice_get, slice_index}
use Rattle.std.specs.List.{AllByRecursion as Each}
use Rattle.std.proofs.lemmas.Option.{slice_get_within, none-some}
use Rattle.std.proofs.lemmas.List.Elements.{recursion_from_All}
use Rattle.std.proofs.Math.Nat.{mod-eq_of_lt}
use Rattle.std.proofs.lemmas.Nat.{and_mask}
use Rattle.state_space.specs.Members.{full_of}
use Rattle.bound_unfolding.specs.CoreForm.{CoreForm}
use Rattle.formula_table.specs.Closures.{formula_at, closure_of}
use Rattle.tableau_rules.specs.Rules.{fulfils}
use Rattle.tableau_rules.specs.Nodes.{NodeForm, chosen, node_rule, kids, root_of}
use Rattle.tableau_rules.specs.Certificates.{ReasonForm, clash, dead, wait, CertNodeForm, HoldsKids, EachKid, FirstKid, IsEliminated, IsOfQuery, IsValid, is_until}
use Rattle.formula_table.proofs.Tests.{eq_to, eq_self, and_intro, or_left}
use Rattle.temporal_logic.specs.Truth.{Trace}
use Rattle.temporal_logic.specs.Traces.{TraceFits}
use Rattle.tableau_rules.specs.Queries.{MeetsAll}
use Rattle.tableau_rules.proofs.Eliminations.{certificate_law}
use Rattle.cert_checker.specs.declared.why.BadMark.{BadMark}
use Rattle.cert_checker.specs.declared.why.Why.{Why}
use Rattle.cert_checker.specs.declared.why.Why.TheVariants.{NoRoot, NotRoot, BadShape, KidCount, KidPlace, NotLower, KidLeaves}
use Rattle.cert_checker.specs.Causes.{or_else, is_same_node, all_below, are_inside, has_shape, first_bad, is_node, first_wrong, is_lower, is_wait, stays, is_first_lower, reason_cause, cause, first_cause, picked}
use Rattle.cert_checker.specs.Entries.{fault_of, fault_in, IsAscending}
use Rattle.cert_checker.proofs.Causes.{same_node_self, unless_yes, range_all}
use Rattle.cert_checker.proofs.Validity.{valid_of}

or_else_both : (a b : Option Why) → a ≡ None → b ≡ None → or_else a b ≡ None
or_else_both a b e f = ap₂ or_else e f

-- ---- the shape
below_of : (n : ℕ) (xs : List ℕ) → Each (λ x. x < n) xs → IsTrue (all_below n xs)
below_of n [] h = refl
below_of n (x ∷ xs) h = and_intro (nat_lt x n) _ (lt-ltb x n h.0) (below_of n xs h.1)

inside_of : (sizes now : List ℕ) → length now ≡ length sizes → ((x : ℕ) → x < length sizes → slice_index now x < 2 ^ slice_index sizes x) → IsTrue (are_inside (full_of sizes) now)
inside_of [] [] l h = refl
inside_of [] (s ∷ now) l h = absurd (omega (arith, l))
inside_of (size ∷ sizes) [] l h = absurd (omega (arith, l))
inside_of (size ∷ sizes) (s ∷ now) l h =
    let own : s < 2 ^ size = h 0 (omega arith) in
    and_intro (bit_and s (2 ^ size - 1) == s) _ (eq_to (bit_and s (2 ^ size - 1)) s (and_mask s size ∙ mod-eq_of_lt own))
    (inside_of sizes now (omega (arith, l)) (λ x m. h (suc x) (omega (arith, m))))

shape_of : (sizes : List ℕ) (closure : List CoreForm) (node : NodeForm) → IsOfQuery sizes closure node → IsTrue (has_shape (length closure) (full_of sizes) node)
shape_of sizes closure node q =
    and_intro (all_below (length closure) node.todo && all_below (length closure) node.next) _
    (and_intro (all_below (length closure) node.todo) _
    (below_of (length closure) node.todo (recursion_from_All (λ x. x < length closure) node.todo q.todo_below))
    (below_of (length closure) node.next (recursion_from_All (λ x. x < length closure) node.next q.next_below)))
    (inside_of sizes node.now q.variables q.indexes)

-- ---- the kids
held_count : (cert : List CertNodeForm) (ps : List ℕ) (ns : List NodeForm) → HoldsKids cert ps ns → length ps ≡ length ns
held_count cert [] [] h = refl
held_count cert [] (n ∷ ns) h = absurd h
held_count cert (p ∷ ps) [] h = absurd h
held_count cert (p ∷ ps) (n ∷ ns) h = ap suc (held_count cert ps ns h.1)

first_none : (test : ℕ → Bool) (why : ℕ → Why) (k : ℕ) (ps : List ℕ) → Each (λ p. IsTrue (test p)) ps → first_bad test why k ps ≡ None
first_none test why k [] h = refl
first_none test why k (p ∷ ps) h = rw h.0 (first_none test why (suc k) ps h.1)

held_inside : (cert : List CertNodeForm) (ps : List ℕ) (ns : List NodeForm) → HoldsKids cert ps ns → Each (λ p. IsTrue (nat_lt p (length cert))) ps
held_inside cert [] [] h = tt
held_inside cert [] (n ∷ ns) h = absurd h
held_inside cert (p ∷ ps) [] h = absurd h
held_inside cert (p ∷ ps) (n ∷ ns) h = (lt-ltb p (length cert) (slice_get_within cert p h.0.0 h.0.1), held_inside cert ps ns h.1)

held_right : (cert : List CertNodeForm) (k : ℕ) (ps : List ℕ) (ns : List NodeForm) → HoldsKids cert ps ns → first_wrong cert k ps ns ≡ None
held_right cert k [] [] h = refl
held_right cert k [] (n ∷ ns) h = absurd h
held_right cert k (p ∷ ps) [] h = absurd h
held_right cert k (p ∷ ps) (n ∷ ns) h =
    let is : is_node (slice_get cert p) n ≡ true = ap (λ o. is_node o n) h.0.1 ∙ (ap (λ x. is_same_node x n) h.0.2 ∙ same_node_self n) in
    rw is (held_right cert (suc k) ps ns h.1)

-- ---- the reason
lower_of : (cert : List CertNodeForm) (rank p : ℕ) → ((d : CertNodeForm) → slice_get cert p ≡ Some d → d.rank < rank) → IsTrue (is_lower rank (slice_get cert p))
lower_of cert rank p h = go (slice_get cert p) refl
  where
    go : (o : Option CertNodeForm) → slice_get cert p ≡ o → IsTrue (is_lower rank o)
    go None e = refl
    go (Some d) e = lt-ltb d.rank rank (h d e)

stays_of : (cert : List CertNodeForm) (rank e p : ℕ) → ((d : CertNodeForm) → slice_get cert p ≡ Some d → (d.rank < rank) ⊎ ((d.rank ≡ rank) × (d.reason ≡ wait e))) → IsTrue (stays rank e (slice_get cert p))
stays_of cert rank e p h = go (slice_get cert p) refl
  where
    left : (a b : Bool) → IsTrue a → IsTrue (a || b)
    left true b q = refl
    left false b q = absurd (true≢false (sym q))

    right : (a b : Bool) → IsTrue b → IsTrue (a || b)
    right true b q = refl
    right false b q = q

    go : (o : Option CertNodeForm) → slice_get cert p ≡ o → IsTrue (stays rank e o)
    go None q = refl
    go (Some d) q = elim (h d q) [
      | inl l ↦ left (nat_lt d.rank rank) _ (lt-ltb d.rank rank l)
      | inr s ↦ right (nat_lt d.rank rank) _ (and_intro (d.rank == rank) _ (eq_to d.rank rank s.0) (ap (is_wait e) s.1 ∙ eq_self e))
    ]

each_test : (cert : List CertNodeForm) (P : CertNodeForm → Type 0) (test : ℕ → Bool) (ps : List ℕ) → EachKid cert P ps
    → ((p : ℕ) → ((d : CertNodeForm) → slice_get cert p ≡ Some d → P d) → IsTrue (test p)) → Each (λ p. IsTrue (test p)) ps
each_test cert P test ps h f = go ps (recursion_from_All (λ p. (d : CertNodeForm) → slice_get cert p ≡ Some d → P d) ps h)
  where
    go : (ps : List ℕ) → Each (λ p. (d : CertNodeForm) → slice_get cert p ≡ Some d → P d) ps → Each (λ p. IsTrue (test p)) ps
    go [] h = tt
    go (p ∷ ps) h = (f p h.0, go ps h.1)

first_of : (cert : List CertNodeForm) (rank : ℕ) (ps : List ℕ) → FirstKid cert (λ d. d.rank < rank) ps → IsTrue (is_first_lower cert rank ps)
first_of cert rank [] h = refl
first_of cert rank (p ∷ ps) h = lower_of cert rank p h

reason_none : (cl : List CoreForm) (cert : List CertNodeForm) (c : CertNodeForm) (r : ReasonForm) → IsEliminated cl cert c r → reason_cause cl cert c r ≡ None
reason_none cl cert c clash h = unless_yes _ _ h
reason_none cl cert c dead h =
    or_else_both _ _ (unless_yes _ _ h.goes_on)
    (first_none (λ p. is_lower c.rank (slice_get cert p)) NotLower 0 c.kids (each_test cert (λ d. d.rank < c.rank) (λ p. is_lower c.rank (slice_get cert p)) c.kids h.lower (lower_of cert c.rank)))
reason_none cl cert c (wait e) h =
    or_else_both _ _ (unless_yes _ _ (and_intro (is_until (formula_at cl e)) _ h.until h.goes_on))
    (or_else_both _ _ (unless_yes _ _ h.carried)
    (or_else_both _ _
    (first_none (λ p. stays c.rank e (slice_get cert p)) KidLeaves 0 c.kids (each_test cert (λ d. (d.rank < c.rank) ⊎ ((d.rank ≡ c.rank) × (d.reason ≡ wait e))) (λ p. stays c.rank e (slice_get cert p)) c.kids h.stays (stays_of cert c.rank e)))
    (unless_yes _ _ (go (chosen cl c.node.todo == e) refl (fulfils (node_rule cl c.node)) refl))))
  where
    to : (x y : ℕ) → IsTrue (x == y) → x ≡ y
    to x y q = grind arith

    go : (a : Bool) → (chosen cl c.node.todo == e) ≡ a → (b : Bool) → fulfils (node_rule cl c.node) ≡ b → IsTrue (not (a && b) || is_first_lower cert c.rank c.kids)
    go true p true q = first_of cert c.rank c.kids (h.fulfilled (to (chosen cl c.node.todo) e p) q)
    go true p false q = refl
    go false p b q = refl

-- ---- the node, and all of them
cause_none : (sizes : List ℕ) (cores : List CoreForm) (cert : List CertNodeForm) (k : ℕ) (c : CertNodeForm) → IsValid sizes cores cert → slice_get cert k ≡ Some c
    → cause (closure_of cores) (full_of sizes) (root_of (closure_of cores) (full_of sizes) cores) cert k c ≡ None
cause_none sizes cores cert k c v e =
    let cl = closure_of cores in
    let full = full_of sizes in
    let hold = v.kids k c e in
    or_else_both _ _ (unless_yes _ NotRoot (root_is k e))
    (or_else_both _ _ (unless_yes _ BadShape (shape_of sizes cl c.node (v.shape k c e)))
    (or_else_both _ _ (unless_yes _ KidCount (eq_to (length c.kids) (length (kids cl full c.node)) (held_count cert c.kids (kids cl full c.node) hold)))
    (or_else_both _ _ (first_none (λ p. nat_lt p (length cert)) KidPlace 0 c.kids (held_inside cert c.kids (kids cl full c.node) hold))
    (or_else_both _ _ (held_right cert 0 c.kids (kids cl full c.node) hold) (reason_none cl cert c c.reason (v.reason k c e))))))
  where
    root : NodeForm
    root = root_of (closure_of cores) (full_of sizes) cores

    later : (k : ℕ) → IsTrue (not (suc k == 0))
    later k = grind arith

    root_is : (k : ℕ) → slice_get cert k ≡ Some c → IsTrue (not (k == 0) || is_same_node c.node root)
    root_is zero e =
        let r = v.root in
        let q : Some r.0 ≡ Some c = sym r.1 ∙ e in
        let s : r.0 ≡ c = cc in
        ap (λ (x : CertNodeForm). is_same_node x.node root) (sym s) ∙ (ap (λ x. is_same_node x root) r.2 ∙ same_node_self root)
    root_is (suc k) e = or_left (not (suc k == 0)) (is_same_node c.node root) (later k)

causes_none : (cl : List CoreForm) (full : List ℕ) (start : NodeForm) (cert : List CertNodeForm) (k : ℕ) (cs : List CertNodeForm)
    → ((j : ℕ) (c : CertNodeForm) → slice_get cs j ≡ Some c → cause cl full start cert (j + k) c ≡ None) → first_cause cl full start cert k cs ≡ None
causes_none cl full start cert k [] h = refl
causes_none cl full start cert k (c ∷ cs) h =
    let z : 0 + k ≡ k = omega arith in
    let own : cause cl full start cert k c ≡ None = subst (λ i. cause cl full start cert i c ≡ None) z (h 0 c refl) in
    ap (λ o. picked k o (first_cause cl full start cert (suc k) cs)) own
    ∙ causes_none cl full start cert (suc k) cs (λ j d e. let n : j + suc k ≡ suc j + k = omega arith in ap (λ i. cause cl full start cert i d) n ∙ h (suc j) d e)

pub none_of_valid : (sizes : List ℕ) (cores : List CoreForm) (cert : List CertNodeForm) → IsValid sizes cores cert → fault_of (full_of sizes) cores cert ≡ None
none_of_valid sizes cores [] v = let r = v.root in absurd (none r.0 r.1)
  where
    none : (c : CertNodeForm) → None ≡ Some c → ⊥
    none c e = cc
none_of_valid sizes cores (c ∷ cs) v =
    causes_none (closure_of cores) (full_of sizes) (root_of (closure_of cores) (full_of sizes) cores) (c ∷ cs) 0 (c ∷ cs)
    (λ j d e. let n : j + 0 ≡ j = omega arith in ap (λ i. cause (closure_of cores) (full_of sizes) (root_of (closure_of cores) (full_of sizes) cores) (c ∷ cs) i d) n ∙ cause_none sizes cores (c ∷ cs) j d v e)

-- ---- what a check of all nodes says of the whole
module _ (sizes : List ℕ) (cores : List CoreForm) where
  pub err_of : (cert seen : List CertNodeForm) (n : ℕ) (r : Result (Unit {0}) BadMark) → seen ≡ cert → n ≡ length cert → cert ≢ []
      → IfErr r (λ bad. fault_in (full_of sizes) cores seen 0 n ≡ Some (bad.node, bad.why)) → IfErr r (λ bad. fault_of (full_of sizes) cores cert ≡ Some (bad.node, bad.why))
  err_of cert seen n (Ok x) e l some h = tt
  err_of cert seen n (Err bad) e l some h =
      range_all (closure_of cores) (full_of sizes) (root_of (closure_of cores) (full_of sizes) cores) cert n some l
      ∙ subst (λ xs. fault_in (full_of sizes) cores xs 0 n ≡ Some (bad.node, bad.why)) e h

  pub valid_by : (cert seen : List CertNodeForm) (n : ℕ) → seen ≡ cert → n ≡ length cert → cert ≢ [] → fault_in (full_of sizes) cores seen 0 n ≡ None
      → ((j : ℕ) (c : CertNodeForm) → 0 ≤ j → j < n → slice_get seen j ≡ Some c → IsAscending c.node) → IsValid sizes cores cert
  valid_by cert seen n e l some h a =
      valid_of sizes cores cert
      (range_all (closure_of cores) (full_of sizes) (root_of (closure_of cores) (full_of sizes) cores) cert n some l ∙ subst (λ xs. fault_in (full_of sizes) cores xs 0 n ≡ None) e h)
      (λ j c q. let w = slice_get_within cert j c q in a j c (omega arith) (omega (arith, w, l)) (ap (λ xs. slice_get xs j) e ∙ q))

  pub exact_of : (cert seen : List CertNodeForm) (n : ℕ) (r : Result (Unit {0}) BadMark) → seen ≡ cert → n ≡ length cert → cert ≢ []
      → OnOk r (fault_in (full_of sizes) cores seen 0 n ≡ None) → IfErr r (λ bad. fault_in (full_of sizes) cores seen 0 n ≡ Some (bad.node, bad.why))
      → OnOk r ((j : ℕ) (c : CertNodeForm) → 0 ≤ j → j < n → slice_get seen j ≡ Some c → IsAscending c.node) → IsOk r ↔ IsValid sizes cores cert
  exact_of cert seen n (Ok x) e l some h b a = ((λ _. valid_by cert seen n e l some h a), (λ _. refl))
  exact_of cert seen n (Err bad) e l some h b a =
      ((λ q. absurd (true≢false (sym q))), (λ v. absurd (none-some (bad.node, bad.why) (sym (none_of_valid sizes cores cert v) ∙ err_of cert seen n (Err bad) e l some b))))

  pub refuted_of : (cert : List CertNodeForm) (r : Result (Unit {0}) BadMark) → IsOk r ↔ IsValid sizes cores cert → OnOk r ((t : Trace) → TraceFits sizes t → ¬ (MeetsAll t cores))
  refuted_of cert (Ok x) h = certificate_law sizes cores cert (h.0 refl)
  refuted_of cert (Err bad) h = tt

  pub no_valid : (cert : List CertNodeForm) → cert ≡ [] → IsValid sizes cores cert → ⊥
  no_valid [] e v = none-some v.root.0 v.root.1
  no_valid (c ∷ cs) e v = absurd (cc)

pub no_root : (full : List ℕ) (cores : List CoreForm) (cert : List CertNodeForm) → cert ≡ [] → fault_of full cores cert ≡ Some (0, NoRoot)
no_root full cores [] e = refl
no_root full cores (c ∷ cs) e = absurd (cc)

-- a vector with no element, or with some
pub no_nodes : {X Y : Type 0} (f : X → Y) (xs : List X) (n : ℕ) → n ≡ length xs → IsTrue (n == 0) → map f xs ≡ []
no_nodes f [] n l e = refl
no_nodes f (x ∷ xs) n l e = let z : n ≡ 0 = grind arith in absurd (omega (arith, l, z))

pub some_nodes : {X Y : Type 0} (f : X → Y) (xs : List X) (n : ℕ) → n ≡ length xs → (n == 0) ≡ false → map f xs ≢ []
some_nodes f [] n l e h = let z : IsTrue (n == 0) = grind arith in true≢false (sym z ∙ e)
some_nodes f (x ∷ xs) n l e h = cc
