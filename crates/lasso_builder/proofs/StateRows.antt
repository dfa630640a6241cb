-- The states along places, one place after another, and that they fit the space.
use Rattle.std.proofs.Common.{◌≡◌, ℕ, suc, ◌+◌, ◌-◌, ◌<◌, ◌≤◌, List, [], ◌∷◌, ◌++◌, length, map, get_or, take, drop, Bool, true, false, cond, refl, sym, ap, subst, ◌∙◌, arith}
use Rattle.std.specs.List.{All}
use Rattle.std.proofs.Math.Seq.{take-suc}
use Rattle.std.proofs.lemmas.List.{get_or-map, get_or_default, length-map, map-append, append_assoc}
use Rattle.state_space.specs.declared.space.Space.{Space}
use Rattle.state_space.specs.declared.state.State.{State}
use Rattle.state_space.specs.Spaces.{sizes}
use Rattle.state_space.specs.Fitting.{ValuesFit}
use Rattle.state_space.proofs.SpaceFacts.{good_size}
use Rattle.temporal_logic.specs.Rows.{rows, AllFit}
use Rattle.bound_unfolding.specs.CoreForm.{CoreForm}
use Rattle.tableau_rules.specs.Nodes.{NodeForm}
use Rattle.tableau_rules.specs.Graphs.{GraphNodeForm}
use Rattle.tableau_rules.specs.Queries.{IsOver}
use Rattle.tableau_rules.specs.Walks.{is_empty, least_index, states, IsClosedWalk, IsAnswer}
use Rattle.tableau_rules.proofs.WalkAnswers.{walk_law}
use Rattle.lasso_builder.specs.PlaceWalks.{stem_of, loop_of}
use Rattle.lasso_builder.specs.GraphPlaces.{node_in, nodes_at}
use Rattle.tableau_rules.proofs.WalkStates.{states-append}

states_one : (n : NodeForm) (ns : List NodeForm) → states (n ∷ ns) ≡ states (n ∷ []) ++ states ns
states_one n ns = choose (is_empty n.todo) (map least_index n.now) (states ns)
  where
    choose : (b : Bool) (row : List ℕ) (rest : List (List ℕ)) → cond b (row ∷ rest) rest ≡ cond b (row ∷ []) [] ++ rest
    choose true row rest = refl
    choose false row rest = refl

-- the rows after one place more
pub rows_more : (graph : List GraphNodeForm) (places : List ℕ) (k : ℕ) (n : NodeForm) (old new : List (List ℕ)) → k < length places → n ≡ node_in graph (get_or places k 0)
    → old ≡ states (nodes_at graph (take k places)) → new ≡ old ++ states (n ∷ []) → new ≡ states (nodes_at graph (take (k + 1) places))
rows_more graph places k n old new l e before after =
    let one : k + 1 ≡ suc k = omega arith in
    let longer : nodes_at graph (take (k + 1) places) ≡ nodes_at graph (take k places) ++ n ∷ [] =
    ap (λ z. nodes_at graph (take z places)) one ∙ ap (nodes_at graph) (take-suc places k 0 l) ∙ map-append (node_in graph) (take k places) (get_or places k 0 ∷ []) ∙ ap (λ z. nodes_at graph (take k places) ++ z ∷ []) (sym e)
    in
    after ∙ ap (λ z. z ++ states (n ∷ [])) before ∙ sym (states-append (nodes_at graph (take k places)) (n ∷ [])) ∙ ap states (sym longer)

few_values : (space : Space) → All (λ size. size ≤ 64) (sizes space)
few_values space = λ k d l. subst (λ z. z ≤ 64) (get_or_default (sizes space) k 0 d l) (good_size space k l).1

-- ---- the lasso of a closed walk
-- the rows along its two parts answer the query, where it is cut as the code does
pub rows_answer : (space : Space) (cores : List CoreForm) (graph : List GraphNodeForm) (walk first second : List ℕ) (start end : ℕ) (prefix cycle : List State) → All (IsOver (sizes space)) cores
    → IsClosedWalk (sizes space) cores (nodes_at graph (stem_of walk start)) (nodes_at graph (loop_of walk start)) → end ≡ length walk → first ≡ walk → second ≡ walk
    → rows prefix ≡ states (nodes_at graph (take start first)) → rows cycle ≡ states (nodes_at graph (take (end - 1 - start) (drop start second)))
    → IsAnswer (sizes space) cores (rows prefix) (rows cycle)
rows_answer space cores graph walk first second start end prefix cycle over closed last one two on_stem on_loop =
    let stem = states (nodes_at graph (stem_of walk start)) in
    let loop = states (nodes_at graph (loop_of walk start)) in
    let is_stem : rows prefix ≡ stem = on_stem ∙ ap (λ ps. states (nodes_at graph (take start ps))) one in
    let is_loop : rows cycle ≡ loop =
    on_loop ∙ ap (λ ps. states (nodes_at graph (take (end - 1 - start) (drop start ps)))) two ∙ ap (λ n. states (nodes_at graph (take (n - 1 - start) (drop start walk)))) last
    in
    subst (λ ps. IsAnswer (sizes space) cores ps (rows cycle)) (sym is_stem)
    (subst (IsAnswer (sizes space) cores stem) (sym is_loop) (walk_law (sizes space) (few_values space) cores over (nodes_at graph (stem_of walk start)) (nodes_at graph (loop_of walk start)) closed))
