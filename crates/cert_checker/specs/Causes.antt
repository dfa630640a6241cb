-- Why a certificate is not valid: the first bad node, and the first cause for which it is bad.
use Rattle.std.specs.Prelude.{ℕ, suc, Bool, true, false, List, [], ◌∷◌, Option, None, Some, cond, not, nat_lt, ◌==◌, ◌&&◌, ◌||◌, length, slice_get, bit_and}
use Rattle.bound_unfolding.specs.CoreForm.{CoreForm}
use Rattle.formula_table.specs.Closures.{formula_at}
use Rattle.tableau_rules.specs.Rules.{is_clash, fulfils}
use Rattle.tableau_rules.specs.Nodes.{NodeForm, carries, chosen, node_rule, kids}
use Rattle.tableau_rules.specs.Certificates.{ReasonForm, clash, dead, wait, CertNodeForm, is_until}
use Rattle.cert_checker.specs.declared.why.Why.{Why}
use Rattle.cert_checker.specs.declared.why.Why.TheVariants.{NoRoot, NotRoot, BadShape, KidCount, KidPlace, WrongKid, NotClash, NotLower, NotUntil, NotCarried, KidLeaves, FulfilNotLower}

-- the first of two causes
abbrev pub or_else : Option Why → Option Why → Option Why
or_else None y = y
or_else (Some x) y = Some x

-- the cause where the test fails
abbrev pub unless : Bool → Why → Option Why
unless passes why = cond passes None (Some why)

-- whether two lists of numbers are the same
abbrev pub are_same : List ℕ → List ℕ → Bool
are_same [] [] = true
are_same (x ∷ xs) (y ∷ ys) = x == y && are_same xs ys
are_same _ _ = false

-- whether two nodes have the same formulas and the same sets
abbrev pub is_same_node : NodeForm → NodeForm → Bool
is_same_node a b = (are_same a.todo b.todo && are_same a.now b.now) && are_same a.next b.next

-- each of the numbers is below n
abbrev pub all_below : ℕ → List ℕ → Bool
all_below n [] = true
all_below n (x ∷ xs) = nat_lt x n && all_below n xs

-- one set for each variable, and no index outside the variable's own
abbrev pub are_inside : List ℕ → List ℕ → Bool
are_inside [] [] = true
are_inside (f ∷ full) (s ∷ sets) = bit_and s f == s && are_inside full sets
are_inside _ _ = false

-- whether the node is one of a query with n formulas
abbrev pub has_shape : ℕ → List ℕ → NodeForm → Bool
has_shape n full node = (all_below n node.todo && all_below n node.next) && are_inside full node.now

-- the first place that does not pass
abbrev pub first_bad : (ℕ → Bool) → (ℕ → Why) → ℕ → List ℕ → Option Why
first_bad passes why k [] = None
first_bad passes why k (p ∷ places) = cond (passes p) (first_bad passes why (suc k) places) (Some (why k))

-- whether a place of the certificate has this node
abbrev pub is_node : Option CertNodeForm → NodeForm → Bool
is_node None n = false
is_node (Some d) n = is_same_node d.node n

-- the first place that does not hold its kid
abbrev pub first_wrong : List CertNodeForm → ℕ → List ℕ → List NodeForm → Option Why
first_wrong cert k (p ∷ places) (n ∷ nodes) = cond (is_node (slice_get cert p) n) (first_wrong cert (suc k) places nodes) (Some (WrongKid k))
first_wrong cert k _ _ = None

-- whether what is at a place was eliminated before a rank; of a place past the end nothing is asked here
abbrev pub is_lower : ℕ → Option CertNodeForm → Bool
is_lower rank None = true
is_lower rank (Some d) = nat_lt d.rank rank

-- whether the reason is to wait for the until e
abbrev pub is_wait : ℕ → ReasonForm → Bool
is_wait e (wait f) = f == e
is_wait e _ = false

-- eliminated before, or waits for the same until
abbrev pub stays : ℕ → ℕ → Option CertNodeForm → Bool
stays rank e None = true
stays rank e (Some d) = nat_lt d.rank rank || (d.rank == rank && is_wait e d.reason)

-- whether the first kid was eliminated before a rank: it is the one in which an until is fulfilled
abbrev pub is_first_lower : List CertNodeForm → ℕ → List ℕ → Bool
is_first_lower cert rank [] = true
is_first_lower cert rank (p ∷ places) = is_lower rank (slice_get cert p)

-- the cause that a node's reason gives
abbrev pub reason_cause : List CoreForm → List CertNodeForm → CertNodeForm → ReasonForm → Option Why
reason_cause closure cert c clash = unless (is_clash (node_rule closure c.node)) NotClash
reason_cause closure cert c dead =
    or_else (unless (not (is_clash (node_rule closure c.node))) (NotLower 0))
    (first_bad (λ p. is_lower c.rank (slice_get cert p)) NotLower 0 c.kids)
reason_cause closure cert c (wait e) =
    or_else (unless (is_until (formula_at closure e) && not (is_clash (node_rule closure c.node))) NotUntil)
    (or_else (unless (carries e c.node) NotCarried)
    (or_else (first_bad (λ p. stays c.rank e (slice_get cert p)) KidLeaves 0 c.kids)
    (unless (not (chosen closure c.node.todo == e && fulfils (node_rule closure c.node)) || is_first_lower cert c.rank c.kids) FulfilNotLower)))

-- the first cause from the places of the kids on
abbrev pub places_cause : List CoreForm → List ℕ → List CertNodeForm → CertNodeForm → Option Why
places_cause closure full cert c =
    or_else (first_bad (λ p. nat_lt p (length cert)) KidPlace 0 c.kids)
    (or_else (first_wrong cert 0 c.kids (kids closure full c.node)) (reason_cause closure cert c c.reason))

-- the first cause from the number of the kids on
abbrev pub count_cause : List CoreForm → List ℕ → List CertNodeForm → CertNodeForm → Option Why
count_cause closure full cert c = or_else (unless (length c.kids == length (kids closure full c.node)) KidCount) (places_cause closure full cert c)

-- the first cause from the shape of the node on
abbrev pub shape_cause : List CoreForm → List ℕ → List CertNodeForm → CertNodeForm → Option Why
shape_cause closure full cert c = or_else (unless (has_shape (length closure) full c.node) BadShape) (count_cause closure full cert c)

-- the node at the place 0 has to be the root
abbrev pub root_cause : NodeForm → ℕ → NodeForm → Option Why
root_cause root k node = unless (not (k == 0) || is_same_node node root) NotRoot

-- the first cause for which the node at the place k, counted from 0, is bad
abbrev pub cause : List CoreForm → List ℕ → NodeForm → List CertNodeForm → ℕ → CertNodeForm → Option Why
cause closure full root cert k c = or_else (root_cause root k c.node) (shape_cause closure full cert c)

-- the place k with its cause, if it has one, else what is found behind it
abbrev pub picked : ℕ → Option Why → Option (ℕ × Why) → Option (ℕ × Why)
picked k None later = later
picked k (Some why) later = Some (k, why)

-- the first bad node from k on, and its first cause
abbrev pub first_cause : List CoreForm → List ℕ → NodeForm → List CertNodeForm → ℕ → List CertNodeForm → Option (ℕ × Why)
first_cause closure full root cert k [] = None
first_cause closure full root cert k (c ∷ cs) = picked k (cause closure full root cert k c) (first_cause closure full root cert (suc k) cs)

-- the first bad node of a certificate, and its first cause; with no node there is no root
abbrev pub first_fault : List CoreForm → List ℕ → NodeForm → List CertNodeForm → Option (ℕ × Why)
first_fault closure full root [] = Some (0, NoRoot)
first_fault closure full root (c ∷ cs) = first_cause closure full root (c ∷ cs) 0 (c ∷ cs)
