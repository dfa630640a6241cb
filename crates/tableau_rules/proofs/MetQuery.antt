-- A worked example of the definitions, of which no lemma is cited: the query of `eventually p`, a walk in its tableau that closes, and the lasso of
-- its states, where p is true at once.
use Rattle.std.proofs.Common.{ℕ, zero, suc, ◌+◌, ◌<◌, ◌≤◌, true, List, [], ◌∷◌, inl, refl, sym, arith, true≢false}
use Rattle.std.specs.Prelude.{Contains}
use Rattle.std.proofs.lemmas.List.Elements.{All-from_recursion}
use Rattle.temporal_logic.specs.Ltl.{flag, eventually}
use Rattle.bound_unfolding.specs.CoreForm.{CoreForm}
use Rattle.bound_unfolding.specs.CoreTree.{core_tree}
use Rattle.formula_table.specs.Closures.{closure_of}
use Rattle.state_space.specs.Members.{full_of}
use Rattle.tableau_rules.specs.Nodes.{NodeForm, kids}
use Rattle.tableau_rules.specs.Queries.{IsOver}
use Rattle.tableau_rules.specs.Walks.{node_at, IsClosedWalk, IsAnswer}
use Rattle.tableau_rules.proofs.KidMeetings.{mk}
use Rattle.tableau_rules.proofs.WalkAnswers.{walk_law}

abbrev sizes : List ℕ
sizes = 2 ∷ []

abbrev query : List CoreForm
query = core_tree sizes true (eventually (flag 0)) ∷ []

-- the until is fulfilled, the literal takes an index of p away, and the step leaves nothing to do
abbrev stem : List NodeForm
stem = mk (2 ∷ []) (3 ∷ []) [] ∷ mk (1 ∷ []) (3 ∷ []) [] ∷ mk [] (2 ∷ []) [] ∷ []

abbrev loop : List NodeForm
loop = mk [] (3 ∷ []) [] ∷ []

goes : (k : ℕ) → k < 4 → Contains (kids (closure_of query) (full_of sizes) (node_at stem loop k)) (node_at stem loop (k + 1))
goes zero l = (0, omega arith, refl)
goes (suc zero) l = (0, omega arith, refl)
goes (suc (suc zero)) l = (0, omega arith, refl)
goes (suc (suc (suc zero))) l = (0, omega arith, refl)
goes (suc (suc (suc (suc k)))) l = absurd (omega arith)

walk_closes : IsClosedWalk sizes query stem loop
walk_closes = record {
  turns = omega arith;
  starts = refl;
  goes = goes;
  settles = λ e h. (3, omega arith, omega arith, inl (λ carried. true≢false (sym carried)));
}

query_is_met : IsAnswer sizes query ((1 ∷ []) ∷ []) ((0 ∷ []) ∷ [])
unfolding lib.Count.count_trailing_zeros
query_is_met =
    walk_law sizes (All-from_recursion (λ size. size ≤ 64) sizes (omega arith, tt)) query (All-from_recursion (IsOver sizes) query ((tt, omega arith), tt)) stem loop walk_closes
