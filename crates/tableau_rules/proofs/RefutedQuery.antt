-- A worked example of the definitions, of which no lemma is cited: the query of `eventually p` and `always not p`, with its closure, its nodes, and a
-- certificate that no trace meets it.
use Rattle.std.proofs.Common.{◌≡◌, ℕ, zero, suc, ◌<◌, ◌^◌, ◌⊎◌, true, List, [], ◌∷◌, IsTrue, not, inr, refl, sym, subst, arith, true≢false, map, Some}
use Rattle.std.specs.Prelude.{slice_get, slice_index}
use Rattle.std.specs.List.{AllByRecursion as Each}
use Rattle.std.specs.List.Sorted.{IsStrictlyIncreasing}
use Rattle.std.proofs.lemmas.List.Elements.{All-from_recursion}
use Rattle.temporal_logic.specs.Ltl.{flag, neg, eventually, always}
use Rattle.temporal_logic.specs.Truth.{Trace}
use Rattle.temporal_logic.specs.Traces.{TraceFits}
use Rattle.bound_unfolding.specs.CoreForm.{CoreForm, core_true, core_false, lit, core_until, core_release}
use Rattle.bound_unfolding.specs.CoreTree.{core_tree}
use Rattle.formula_table.specs.Closures.{closure_of}
use Rattle.tableau_rules.specs.Rules.{is_clash, fulfils}
use Rattle.state_space.specs.Members.{full_of}
use Rattle.tableau_rules.specs.Nodes.{NodeForm, carries, chosen, node_rule, kids, root_of}
use Rattle.tableau_rules.specs.Certificates.{wait, CertNodeForm, HoldsKids, Waits, IsEliminated, IsOfQuery, IsValid}
use Rattle.tableau_rules.specs.Queries.{MeetsAll}
use Rattle.tableau_rules.proofs.KidMeetings.{mk}
use Rattle.tableau_rules.proofs.Eliminations.{certificate_law}

abbrev sizes : List ℕ
sizes = 2 ∷ []

abbrev query : List CoreForm
query = map (core_tree sizes true) (eventually (flag 0) ∷ always (neg (flag 0)) ∷ [])

abbrev sometime : CoreForm
sometime = core_until core_true (lit 0 2)

abbrev never : CoreForm
never = core_release core_false (lit 0 1)

abbrev closure : List CoreForm
closure = closure_of query

closure_is : closure ≡ core_true ∷ lit 0 2 ∷ sometime ∷ core_false ∷ lit 0 1 ∷ never ∷ []
closure_is = refl

-- ---- the nodes
-- the until and the release, with both indexes of p
abbrev root : NodeForm
root = mk (2 ∷ 5 ∷ []) (3 ∷ []) []

-- the release comes first: not p now, and the release again at the next position
abbrev released : NodeForm
released = mk (2 ∷ 4 ∷ []) (3 ∷ []) (5 ∷ [])

-- then the literal takes an index of p away
abbrev narrowed : NodeForm
narrowed = mk (2 ∷ []) (1 ∷ []) (5 ∷ [])

-- so the until waits
abbrev waiting : NodeForm
waiting = mk (0 ∷ []) (1 ∷ []) (2 ∷ 5 ∷ [])

-- and with nothing left to do there is a step, back to the root
abbrev done : NodeForm
done = mk [] (1 ∷ []) (2 ∷ 5 ∷ [])

root_is : root_of closure (full_of sizes) query ≡ root
root_is = refl

abbrev kids_of : NodeForm → List NodeForm
kids_of n = kids closure (full_of sizes) n

kids_of_root : kids_of root ≡ released ∷ []
kids_of_root = refl

kids_of_released : kids_of released ≡ narrowed ∷ []
kids_of_released = refl

kids_of_narrowed : kids_of narrowed ≡ waiting ∷ []
kids_of_narrowed = refl

kids_of_waiting : kids_of waiting ≡ done ∷ []
kids_of_waiting = refl

kids_of_done : kids_of done ≡ root ∷ []
kids_of_done = refl

-- ---- the certificate: all of them wait for the until
abbrev entry : NodeForm → ℕ → CertNodeForm
entry n kid = record { node = n; kids = kid ∷ []; rank = 0; reason = wait 2 }

abbrev cert : List CertNodeForm
cert = entry root 1 ∷ entry released 2 ∷ entry narrowed 3 ∷ entry waiting 4 ∷ entry done 0 ∷ []

each_get : (P : CertNodeForm → Type 0) (xs : List CertNodeForm) → Each P xs → (k : ℕ) (c : CertNodeForm) → slice_get xs k ≡ Some c → P c
each_get P [] h k c e = absurd (cc)
each_get P (x ∷ xs) h zero c e = let same : x ≡ c = cc in subst P same h.0
each_get P (x ∷ xs) h (suc k) c e = each_get P xs h.1 k c e

increasing_two : (x y : ℕ) → x < y → IsStrictlyIncreasing (x ∷ y ∷ [])
increasing_two x y l zero h = l
increasing_two x y l (suc k) h = absurd (omega arith)

increasing_one : (x : ℕ) → IsStrictlyIncreasing (x ∷ [])
increasing_one x k h = absurd (omega arith)

increasing_none : IsStrictlyIncreasing []
increasing_none k h = absurd (omega arith)

one_index : (set : ℕ) → set < 4 → (x : ℕ) → x < 1 → slice_index (set ∷ []) x < 2 ^ slice_index sizes x
one_index set l zero h = l
one_index set l (suc x) h = absurd (omega arith)

of_query : (todo next : List ℕ) (set : ℕ) → IsStrictlyIncreasing todo → IsStrictlyIncreasing next → Each (λ f. f < 6) todo → Each (λ f. f < 6) next → set < 4 → IsOfQuery sizes closure (mk todo (set ∷ []) next)
of_query todo next set i j b d l = record {
  todo = i;
  todo_below = All-from_recursion (λ f. f < 6) todo b;
  next = j;
  next_below = All-from_recursion (λ f. f < 6) next d;
  variables = refl;
  indexes = one_index set l;
}

shapes : Each (λ c. IsOfQuery sizes closure c.node) cert
shapes = (
  of_query (2 ∷ 5 ∷ []) [] 3 (increasing_two 2 5 (omega arith)) increasing_none (omega arith, (omega arith, tt)) tt (omega arith),
  (
    of_query (2 ∷ 4 ∷ []) (5 ∷ []) 3 (increasing_two 2 4 (omega arith)) (increasing_one 5) (omega arith, (omega arith, tt)) (omega arith, tt) (omega arith),
    (
      of_query (2 ∷ []) (5 ∷ []) 1 (increasing_one 2) (increasing_one 5) (omega arith, tt) (omega arith, tt) (omega arith),
      (
        of_query (0 ∷ []) (2 ∷ 5 ∷ []) 1 (increasing_one 0) (increasing_two 2 5 (omega arith)) (omega arith, tt) (omega arith, (omega arith, tt)) (omega arith),
        (
          of_query [] (2 ∷ 5 ∷ []) 1 increasing_none (increasing_two 2 5 (omega arith)) tt (omega arith, (omega arith, tt)) (omega arith),
          tt,
        ),
      ),
    ),
  ),
)

-- the only kid waits too
abbrev StaysBehind : CertNodeForm → CertNodeForm → Type 0
StaysBehind c d = (d.rank < c.rank) ⊎ ((d.rank ≡ c.rank) × (d.reason ≡ wait 2))

kid_stays : (n m : NodeForm) (kid next : ℕ) → slice_get cert kid ≡ Some (entry m next) → Each (λ p. (d : CertNodeForm) → slice_get cert p ≡ Some d → StaysBehind (entry n kid) d) (kid ∷ [])
kid_stays n m kid next here =
    ((λ d e. let same : entry m next ≡ d = cc in subst (StaysBehind (entry n kid)) same (inr (refl, refl))), tt)

waits_for : (n m : NodeForm) (kid next : ℕ) → slice_get cert kid ≡ Some (entry m next) → IsTrue (carries 2 n) → IsTrue (not (is_clash (node_rule closure n)))
    → (chosen closure n.todo ≡ 2 → ¬ (IsTrue (fulfils (node_rule closure n)))) → Waits closure cert (entry n kid) 2
waits_for n m kid next here carried goes_on unfulfilled = record {
  until = refl;
  carried = carried;
  goes_on = goes_on;
  stays = All-from_recursion (λ p. (d : CertNodeForm) → slice_get cert p ≡ Some d → StaysBehind (entry n kid) d) (kid ∷ []) (kid_stays n m kid next here);
  fulfilled = λ turn can. absurd (unfulfilled turn can);
}

reasons : Each (λ c. IsEliminated closure cert c c.reason) cert
reasons = (
  waits_for root released 1 2 refl refl refl (λ turn can. omega (arith, turn)),
  (
    waits_for released narrowed 2 3 refl refl refl (λ turn can. omega (arith, turn)),
    (
      waits_for narrowed waiting 3 4 refl refl refl (λ turn can. true≢false (sym can)),
      (
        waits_for waiting done 4 0 refl refl refl (λ turn can. omega (arith, turn)),
        (waits_for done root 0 1 refl refl refl (λ turn can. omega (arith, turn)), tt),
      ),
    ),
  ),
)

holds_one : (n : NodeForm) (kid next : ℕ) (m : NodeForm) → slice_get cert kid ≡ Some (entry m next) → kids_of n ≡ m ∷ [] → HoldsKids cert (kid ∷ []) (kids_of n)
holds_one n kid next m here e = subst (HoldsKids cert (kid ∷ [])) (sym e) ((entry m next, here, refl), tt)

kids_held : Each (λ c. HoldsKids cert c.kids (kids_of c.node)) cert
kids_held = (
  holds_one root 1 2 released refl refl,
  (
    holds_one released 2 3 narrowed refl refl,
    (holds_one narrowed 3 4 waiting refl refl, (holds_one waiting 4 0 done refl refl, (holds_one done 0 1 root refl refl, tt))),
  ),
)

cert_is_valid : IsValid sizes query cert
cert_is_valid = record {
  root = (entry root 1, refl, refl);
  shape = each_get (λ c. IsOfQuery sizes closure c.node) cert shapes;
  kids = each_get (λ c. HoldsKids cert c.kids (kids_of c.node)) cert kids_held;
  reason = each_get (λ c. IsEliminated closure cert c c.reason) cert reasons;
}

query_is_empty : (t : Trace) → TraceFits sizes t → ¬ (MeetsAll t query)
query_is_empty t fits = certificate_law sizes query cert cert_is_valid t fits
