-- What no cause means, and how the first cause is found place by place.
use Rattle.std.proofs.Common.{◌≡◌, ◌≢◌, ℕ, zero, suc, ◌+◌, ◌-◌, ◌<◌, ◌≤◌, ◌⊎◌, ◌↔◌, inl, inr, Bool, true, false, not, List, [], ◌∷◌, IsTrue, Option, Some, None, cond, nat_lt, ◌==◌, ◌&&◌, ◌||◌, length, get_or, map, take, drop, drop-cons, refl, sym, ap, ap₂, ◌∙◌, subst, true≢false, arith}
use Rattle.std.specs.Prelude.{slice_get}
use Rattle.std.specs.List.{AllByRecursion as Each}
use Rattle.std.proofs.lemmas.List.{take_all}
use Rattle.std.proofs.lemmas.List.Elements.{All-from_recursion}
use Rattle.bound_unfolding.specs.CoreForm.{CoreForm}
use Rattle.formula_table.specs.Closures.{formula_at}
use Rattle.tableau_rules.specs.Rules.{fulfils}
use Rattle.tableau_rules.specs.Nodes.{NodeForm, chosen, node_rule, kids}
use Rattle.tableau_rules.specs.Certificates.{ReasonForm, clash, dead, wait, CertNodeForm, HoldsKids, EachKid, FirstKid, IsEliminated, is_until}
use Rattle.formula_table.proofs.Tests.{cond_case, and_true, or_true, eq_of, eq_self}
use Rattle.tableau_rules.proofs.Lists.{each_map}
use Rattle.cert_checker.specs.declared.why.Why.{Why}
use Rattle.cert_checker.specs.declared.why.Why.TheVariants.{NotRoot, WrongKid, NotLower, KidLeaves}
use Rattle.cert_checker.specs.Causes.{or_else, unless, are_same, is_same_node, first_bad, is_node, first_wrong, is_lower, is_wait, stays, is_first_lower, reason_cause, has_shape, cause, picked, first_cause, first_fault}

or_else_none : (a b : Option Why) → or_else a b ≡ None → (a ≡ None) × (b ≡ None)
or_else_none None b h = (refl, h)
or_else_none (Some w) b h = absurd (cc)

unless_none : (b : Bool) (w : Why) → unless b w ≡ None → IsTrue b
unless_none true w h = refl
unless_none false w h = absurd (cc)

less : (a b : ℕ) → IsTrue (nat_lt a b) → a < b
less a b h = grind arith

are_same_is : (xs ys : List ℕ) → IsTrue (are_same xs ys) → xs ≡ ys
are_same_is [] [] h = refl
are_same_is (x ∷ xs) (y ∷ ys) h = let r = and_true (x == y) _ h in ap₂ (λ a b. a ∷ b) (eq_of x y r.0) (are_same_is xs ys r.1)
are_same_is _ _ h = absurd (true≢false (sym h))

pub same_node_is : (a b : NodeForm) → IsTrue (is_same_node a b) → a ≡ b
same_node_is a b h = go a.todo a.now a.next b.todo b.now b.next h
  where
    mk : List ℕ → List ℕ → List ℕ → NodeForm
    mk t w n = record { todo = t; now = w; next = n }

    go : (t w n t' w' n' : List ℕ) → IsTrue ((are_same t t' && are_same w w') && are_same n n') → mk t w n ≡ mk t' w' n'
    go t w n t' w' n' h =
        let r = and_true (are_same t t' && are_same w w') _ h in
        let q = and_true (are_same t t') _ r.0 in
        ap (λ x. mk x w n) (are_same_is t t' q.0) ∙ (ap (λ x. mk t' x n) (are_same_is w w' q.1) ∙ ap (λ x. mk t' w' x) (are_same_is n n' r.1))

are_same_self : (xs : List ℕ) → are_same xs xs ≡ true
are_same_self [] = refl
are_same_self (x ∷ xs) = ap₂ (λ a b. a && b) (eq_self x) (are_same_self xs)

pub same_node_self : (a : NodeForm) → is_same_node a a ≡ true
same_node_self a = ap₂ (λ x y. x && y) (ap₂ (λ x y. x && y) (are_same_self a.todo) (are_same_self a.now)) (are_same_self a.next)

bad_none : (p : ℕ → Bool) (w : ℕ → Why) (k : ℕ) (xs : List ℕ) → first_bad p w k xs ≡ None → Each (λ x. IsTrue (p x)) xs
bad_none p w k [] = λ h. tt
bad_none p w k (x ∷ xs) = cond_case (λ o. o ≡ None → Each (λ y. IsTrue (p y)) (x ∷ xs)) (p x) _ _ (λ e h. (e, bad_none p w (suc k) xs h)) (λ f h. absurd (some (w k) h))
  where
    some : (v : Why) → Some v ≡ None → ⊥
    some v h = cc

wrong_none : (cert : List CertNodeForm) (k : ℕ) (ps : List ℕ) (ns : List NodeForm) → length ps ≡ length ns → first_wrong cert k ps ns ≡ None → HoldsKids cert ps ns
wrong_none cert k [] [] l = λ h. tt
wrong_none cert k (p ∷ ps) [] l = λ h. absurd (omega arith)
wrong_none cert k [] (n ∷ ns) l = λ h. absurd (omega arith)
wrong_none cert k (p ∷ ps) (n ∷ ns) l =
    cond_case (λ o. o ≡ None → HoldsKids cert (p ∷ ps) (n ∷ ns)) (is_node (slice_get cert p) n) _ _
    (λ e h. (there (slice_get cert p) refl e, wrong_none cert (suc k) ps ns (omega arith) h))
    (λ f h. absurd (some (WrongKid k) h))
  where
    some : (v : Why) → Some v ≡ None → ⊥
    some v h = cc

    there : (o : Option CertNodeForm) → slice_get cert p ≡ o → IsTrue (is_node o n) → (d : CertNodeForm) × (slice_get cert p ≡ Some d) × (d.node ≡ n)
    there None q e = absurd (true≢false (sym e))
    there (Some d) q e = (d, q, same_node_is d.node n e)

lower_at : (cert : List CertNodeForm) (r p : ℕ) → IsTrue (is_lower r (slice_get cert p)) → (d : CertNodeForm) → slice_get cert p ≡ Some d → d.rank < r
lower_at cert r p h d e = less d.rank r (subst (λ o. IsTrue (is_lower r o)) e h)

wait_is : (e : ℕ) (r : ReasonForm) → IsTrue (is_wait e r) → r ≡ wait e
wait_is e (wait f) h = ap wait (eq_of f e h)
wait_is e _ h = absurd (true≢false (sym h))

staying_at : (cert : List CertNodeForm) (r e p : ℕ) → IsTrue (stays r e (slice_get cert p)) → (d : CertNodeForm) → slice_get cert p ≡ Some d → (d.rank < r) ⊎ ((d.rank ≡ r) × (d.reason ≡ wait e))
staying_at cert r e p h d q = elim (or_true (nat_lt d.rank r) _ (subst (λ o. IsTrue (stays r e o)) q h)) [
  | inl l ↦ inl (less d.rank r l)
  | inr m ↦ let s = and_true (d.rank == r) _ m in inr (eq_of d.rank r s.0, wait_is e d.reason s.1)
]

first_at : (cert : List CertNodeForm) (r : ℕ) (ps : List ℕ) → IsTrue (is_first_lower cert r ps) → FirstKid cert (λ d. d.rank < r) ps
first_at cert r [] h = tt
first_at cert r (p ∷ ps) h = lower_at cert r p h

each_kid : (cert : List CertNodeForm) (P : CertNodeForm → Type 0) (test : ℕ → Bool) (w : ℕ → Why) (ps : List ℕ) → first_bad test w 0 ps ≡ None
    → ((p : ℕ) → IsTrue (test p) → (d : CertNodeForm) → slice_get cert p ≡ Some d → P d) → EachKid cert P ps
each_kid cert P test w ps h f =
    All-from_recursion (λ p. (d : CertNodeForm) → slice_get cert p ≡ Some d → P d) ps
    (each_map (λ p. IsTrue (test p)) (λ p. (d : CertNodeForm) → slice_get cert p ≡ Some d → P d) ps f (bad_none test w 0 ps h))

pub reason_right : (cl : List CoreForm) (cert : List CertNodeForm) (c : CertNodeForm) (r : ReasonForm) → reason_cause cl cert c r ≡ None → IsEliminated cl cert c r
reason_right cl cert c clash h = unless_none _ _ h
reason_right cl cert c dead h =
    let a = or_else_none _ _ h in
    record {
      goes_on = unless_none _ _ a.0;
      lower = each_kid cert (λ d. d.rank < c.rank) (λ p. is_lower c.rank (slice_get cert p)) NotLower c.kids a.1 (λ p l. lower_at cert c.rank p l);
    }
reason_right cl cert c (wait e) h =
    let a = or_else_none _ _ h in
    let u = and_true (is_until (formula_at cl e)) _ (unless_none _ _ a.0) in
    let b = or_else_none _ _ a.1 in
    let d = or_else_none _ _ b.1 in
    record {
      until = u.0;
      carried = unless_none _ _ b.0;
      goes_on = u.1;
      stays = each_kid cert (λ d. (d.rank < c.rank) ⊎ ((d.rank ≡ c.rank) × (d.reason ≡ wait e))) (λ p. stays c.rank e (slice_get cert p)) KidLeaves c.kids d.0 (λ p l. staying_at cert c.rank e p l);
      fulfilled = λ q f. first_at cert c.rank c.kids (out (chosen cl c.node.todo == e) (fulfils (node_rule cl c.node)) (is_first_lower cert c.rank c.kids) (unless_none _ _ d.1) (to q) f);
    }
  where
    to : chosen cl c.node.todo ≡ e → IsTrue (chosen cl c.node.todo == e)
    to q = grind arith

    out : (a b r : Bool) → IsTrue (not (a && b) || r) → IsTrue a → IsTrue b → IsTrue r
    out true true r h p q = h
    out true false r h p q = absurd (true≢false (sym q))
    out false b r h p q = absurd (true≢false (sym p))

-- what no cause means for a node
pub record IsGood (cl : List CoreForm) (full : List ℕ) (start : NodeForm) (cert : List CertNodeForm) (k : ℕ) (c : CertNodeForm) : Type 0 where
  pub root : k ≡ 0 → c.node ≡ start
  pub shape : IsTrue (has_shape (length cl) full c.node)
  pub hold : HoldsKids cert c.kids (kids cl full c.node)
  pub right : IsEliminated cl cert c c.reason

pub no_cause : (cl : List CoreForm) (full : List ℕ) (start : NodeForm) (cert : List CertNodeForm) (k : ℕ) (c : CertNodeForm) → cause cl full start cert k c ≡ None → IsGood cl full start cert k c
no_cause cl full start cert k c h =
    let a = or_else_none _ _ h in
    let b = or_else_none _ _ a.1 in
    let d = or_else_none _ _ b.1 in
    let e = or_else_none _ _ d.1 in
    let f = or_else_none _ _ e.1 in
    record {
      root = λ q. same_node_is c.node start (out (k == 0) (is_same_node c.node start) (unless_none _ _ a.0) (to q));
      shape = unless_none _ _ b.0;
      hold = wrong_none cert 0 c.kids (kids cl full c.node) (eq_of (length c.kids) (length (kids cl full c.node)) (unless_none _ _ d.0)) f.0;
      right = reason_right cl cert c c.reason f.1;
    }
  where
    to : k ≡ 0 → IsTrue (k == 0)
    to q = grind arith

    out : (a r : Bool) → IsTrue (not a || r) → IsTrue a → IsTrue r
    out true r h p = h
    out false r h p = absurd (true≢false (sym p))

first_none : (k : ℕ) (a : Option Why) (r : Option (ℕ × Why)) → picked k a r ≡ None → a ≡ None
first_none k None r h = refl
first_none k (Some w) r h = absurd (cc)

rest_none : (k : ℕ) (a : Option Why) (r : Option (ℕ × Why)) → picked k a r ≡ None → r ≡ None
rest_none k None r h = h
rest_none k (Some w) r h = absurd (cc)

pub all_good : (cl : List CoreForm) (full : List ℕ) (start : NodeForm) (cert : List CertNodeForm) (k : ℕ) (cs : List CertNodeForm) → first_cause cl full start cert k cs ≡ None
    → (j : ℕ) (c : CertNodeForm) → slice_get cs j ≡ Some c → IsGood cl full start cert (j + k) c
all_good cl full start cert k [] h j c e = absurd (cc)
all_good cl full start cert k (x ∷ xs) h zero c e =
    let q : x ≡ c = cc in
    let n : 0 + k ≡ k = omega arith in
    subst (λ y. IsGood cl full start cert (0 + k) y) q (subst (λ i. IsGood cl full start cert i x) (sym n) (no_cause cl full start cert k x (first_none k (cause cl full start cert k x) _ h)))
all_good cl full start cert k (x ∷ xs) h (suc j) c e =
    let n : j + suc k ≡ suc j + k = omega arith in
    subst (λ i. IsGood cl full start cert i c) n (all_good cl full start cert (suc k) xs (rest_none k (cause cl full start cert k x) (first_cause cl full start cert (suc k) xs) h) j c e)

-- ---- loops over kids
pub bad_step : (p : ℕ → Bool) (w : ℕ → Why) (k : ℕ) (xs : List ℕ) → k < length xs → IsTrue (p (get_or xs k 0)) → first_bad p w (k + 1) (drop (k + 1) xs) ≡ first_bad p w k (drop k xs)
bad_step p w k xs l h =
    let a : k + 1 ≡ suc k = omega arith in
    ap (λ j. first_bad p w j (drop j xs)) a
    ∙ (ap (λ b. cond b (first_bad p w (suc k) (drop (suc k) xs)) (Some (w k))) (sym h) ∙ sym (ap (first_bad p w k) (drop-cons xs k 0 l)))

wrong_yes : (cert : List CertNodeForm) (j k p : ℕ) (ps : List ℕ) (ns : List NodeForm) (d : CertNodeForm) → k < length ps → p ≡ get_or ps k 0 → slice_get cert p ≡ Some d → slice_get ns k ≡ Some d.node
    → first_wrong cert (suc j) (drop (suc k) ps) (drop (suc k) ns) ≡ first_wrong cert j (drop k ps) (drop k ns)
wrong_yes cert j k p [] ns d l e f h = absurd (omega arith)
wrong_yes cert j k p (q ∷ ps) [] d l e f h = absurd (cc)
wrong_yes cert j zero p (q ∷ ps) (n ∷ ns) d l e f h =
    let g : n ≡ d.node = cc in
    let o : slice_get cert q ≡ Some d = ap (slice_get cert) (sym e) ∙ f in
    let b : is_node (slice_get cert q) n ≡ true = ap₂ is_node o g ∙ same_node_self d.node in
    ap (λ v. cond v (first_wrong cert (suc j) ps ns) (Some (WrongKid j))) (sym b)
wrong_yes cert j (suc k) p (q ∷ ps) (n ∷ ns) d l e f h = wrong_yes cert j k p ps ns d (omega arith) e f h

pub wrong_no : (cert : List CertNodeForm) (j k p : ℕ) (ps : List ℕ) (ns : List NodeForm) (d : CertNodeForm) → k < length ps → k < length ns → p ≡ get_or ps k 0 → slice_get cert p ≡ Some d → (slice_get ns k ≢ Some d.node)
    → Some (WrongKid j) ≡ first_wrong cert j (drop k ps) (drop k ns)
wrong_no cert j k p [] ns d l m e f h = absurd (omega arith)
wrong_no cert j k p (q ∷ ps) [] d l m e f h = absurd (omega arith)
wrong_no cert j zero p (q ∷ ps) (n ∷ ns) d l m e f h =
    let o : slice_get cert q ≡ Some d = ap (slice_get cert) (sym e) ∙ f in
    cond_case (λ v. Some (WrongKid j) ≡ v) (is_node (slice_get cert q) n) _ _
    (λ y. absurd (h (ap Some (sym (same_node_is d.node n (subst (λ x. IsTrue (is_node x n)) o y))))))
    (λ _. refl)
wrong_no cert j (suc k) p (q ∷ ps) (n ∷ ns) d l m e f h = wrong_no cert j k p ps ns d (omega arith) (omega arith) e f h

pub wrong_yes_at : (cert : List CertNodeForm) (k p : ℕ) (ps : List ℕ) (ns : List NodeForm) (d : CertNodeForm) → k < length ps → p ≡ get_or ps k 0 → slice_get cert p ≡ Some d → slice_get ns k ≡ Some d.node
    → first_wrong cert (k + 1) (drop (k + 1) ps) (drop (k + 1) ns) ≡ first_wrong cert k (drop k ps) (drop k ns)
wrong_yes_at cert k p ps ns d l e f h =
    let a : k + 1 ≡ suc k = omega arith in
    ap (λ j. first_wrong cert j (drop j ps) (drop j ns)) a ∙ wrong_yes cert k k p ps ns d l e f h

-- ---- the root
pub unless_yes : (b : Bool) (w : Why) → IsTrue b → unless b w ≡ None
unless_yes true w h = refl
unless_yes false w h = absurd (true≢false (sym h))

unless_no : (b : Bool) (w : Why) → b ≡ false → unless b w ≡ Some w
unless_no false w h = refl
unless_no true w h = absurd (true≢false h)

pub same_node_iff : (a b : NodeForm) (r : Bool) → IsTrue r ↔ (a ≡ b) → r ≡ is_same_node a b
same_node_iff a b true f = sym (subst (λ x. IsTrue (is_same_node a x)) (f.0 refl) (same_node_self a))
same_node_iff a b false f = go (is_same_node a b) refl
  where
    go : (v : Bool) → is_same_node a b ≡ v → false ≡ v
    go false e = refl
    go true e = f.1 (same_node_is a b e)

pub root_no : (k : ℕ) (same : Bool) → k ≡ 0 → same ≡ false → Some NotRoot ≡ unless (not (k == 0) || same) NotRoot
root_no k same e f = sym (unless_no (not (k == 0) || same) NotRoot (ap₂ (λ a b. not a || b) zero_yes f))
  where
    zero_yes : (k == 0) ≡ true
    zero_yes = grind arith

-- ---- the loop over the nodes
pub drop_map : {X Y : Type 0} (f : X → Y) (xs : List X) (k : ℕ) (d : X) → k < length xs → d ≡ get_or xs k d → drop k (map f xs) ≡ f d ∷ drop (suc k) (map f xs)
drop_map f [] k d l e = absurd (omega arith)
drop_map f (x ∷ xs) zero d l e = ap (λ y. f y ∷ map f xs) (sym e)
drop_map f (x ∷ xs) (suc k) d l e = drop_map f xs k d (omega arith) e

pub get_mapped : {X Y : Type 0} (f : X → Y) (xs : List X) (k : ℕ) (d : X) → k < length xs → d ≡ get_or xs k d → slice_get (map f xs) k ≡ Some (f d)
get_mapped f [] k d l e = absurd (omega arith)
get_mapped f (x ∷ xs) zero d l e = ap (λ y. Some (f y)) (sym e)
get_mapped f (x ∷ xs) (suc k) d l e = get_mapped f xs k d (omega arith) e

pub cause_none : (cl : List CoreForm) (full : List ℕ) (start : NodeForm) (cert : List CertNodeForm) (k : ℕ) (c : CertNodeForm) (rest cs : List CertNodeForm) → cs ≡ c ∷ rest → None ≡ cause cl full start cert k c
    → first_cause cl full start cert (k + 1) rest ≡ first_cause cl full start cert k cs
cause_none cl full start cert k c rest cs e h =
    let a : k + 1 ≡ suc k = omega arith in
    ap (λ j. first_cause cl full start cert j rest) a
    ∙ (ap (λ o. picked k o (first_cause cl full start cert (suc k) rest)) h ∙ sym (ap (first_cause cl full start cert k) e))

pub cause_some : (cl : List CoreForm) (full : List ℕ) (start : NodeForm) (cert : List CertNodeForm) (k : ℕ) (c : CertNodeForm) (rest cs : List CertNodeForm) (w : Why) → cs ≡ c ∷ rest → Some w ≡ cause cl full start cert k c
    → first_cause cl full start cert k cs ≡ Some (k, w)
cause_some cl full start cert k c rest cs w e h = ap (first_cause cl full start cert k) e ∙ ap (λ o. picked k o (first_cause cl full start cert (suc k) rest)) (sym h)

pub fault_is : (cl : List CoreForm) (full : List ℕ) (start : NodeForm) (cert : List CertNodeForm) → cert ≢ [] → first_fault cl full start cert ≡ first_cause cl full start cert 0 cert
fault_is cl full start [] n = absurd (n refl)
fault_is cl full start (c ∷ cs) n = refl

pub taken : (cert : List CertNodeForm) (k to : ℕ) (c : CertNodeForm) → k < to → drop k cert ≡ c ∷ drop (suc k) cert → take (to - k) (drop k cert) ≡ c ∷ take (to - (k + 1)) (drop (k + 1) cert)
taken cert k to c l e =
    let n : to - k ≡ suc (to - (k + 1)) = omega arith in
    let m : suc k ≡ k + 1 = omega arith in
    ap (λ j. take j (drop k cert)) n ∙ (ap (take (suc (to - (k + 1)))) e ∙ ap (λ j. c ∷ take (to - (k + 1)) (drop j cert)) m)

-- those from k on up to a place, where the one at k has no cause
pub range_step : (cl : List CoreForm) (full : List ℕ) (start : NodeForm) (cert : List CertNodeForm) (k to : ℕ) (c : CertNodeForm) → k < to → drop k cert ≡ c ∷ drop (suc k) cert → None ≡ cause cl full start cert k c
    → first_cause cl full start cert (k + 1) (take (to - (k + 1)) (drop (k + 1) cert)) ≡ first_cause cl full start cert k (take (to - k) (drop k cert))
range_step cl full start cert k to c l e h =
    cause_none cl full start cert k c (take (to - (k + 1)) (drop (k + 1) cert)) (take (to - k) (drop k cert)) (taken cert k to c l e) h

-- with no place left there is no cause
pub range_end : (cl : List CoreForm) (full : List ℕ) (start : NodeForm) (cert : List CertNodeForm) (k to : ℕ) → to ≤ k → first_cause cl full start cert k (take (to - k) (drop k cert)) ≡ None
range_end cl full start cert k to l = let n : to - k ≡ 0 = omega arith in ap (λ j. first_cause cl full start cert k (take j (drop k cert))) n

-- all places
pub range_all : (cl : List CoreForm) (full : List ℕ) (start : NodeForm) (cert : List CertNodeForm) (n : ℕ) → cert ≢ [] → n ≡ length cert → first_fault cl full start cert ≡ first_cause cl full start cert 0 (take (n - 0) (drop 0 cert))
range_all cl full start cert n some e = fault_is cl full start cert some ∙ ap (first_cause cl full start cert 0) (sym (take_all (n - 0) cert (omega (arith, e))))

pub mapped_some : {X Y : Type 0} (f : X → Y) (xs : List X) (k : ℕ) → k < length xs → map f xs ≢ []
mapped_some f [] k l = absurd (omega arith)
mapped_some f (x ∷ xs) k l = λ h. some (f x) (map f xs) h
  where
    some : {Z : Type 0} (z : Z) (zs : List Z) → z ∷ zs ≢ []
    some z zs h = cc
