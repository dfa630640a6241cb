use Rattle.std.proofs.Common.{◌≡◌, ◌≤◌, true, [], ◌∷◌, ◌++◌, length, map, drop, sym, ap, ◌∙◌, subst, arith}
use Rattle.std.proofs.lemmas.List.{length-map, get_or-map, map-append, append-nil, drop_all}
use Rattle.std.proofs.lemmas.Result.{IfOk-weaker}
use Rattle.state_space.specs.Spaces.{sizes}
use Rattle.temporal_logic.specs.Trees.{tree_of}
use Rattle.bound_unfolding.specs.CoreForm.{nodes}
use Rattle.bound_unfolding.specs.CoreTree.{core_tree}
use Rattle.bound_unfolding.specs.CoreLists.{cores_of}
use Rattle.bound_unfolding.specs.CoreView.{core_tree_of}
use Rattle.formula_table.specs.Closures.{closure_of}
use Rattle.obstacle_regression.specs.Regressions.{total_nodes}
use Rattle.obstacle_regression.proofs.Inside.{sizes_of_small}
use Rattle.obstacle_regression.proofs.Told.{closure_few, one_of_total, total_front, query_over}
use Rattle.obstacle_regression.proofs.standing.query_of_candidate.Goals as goal

pub core_of-requires-clause-size : goal.core_of-requires-clause-size
core_of-requires-clause-size c =
    let s = sizes c.args.space.now in
    let domain = c.args.domain.now in
    let k = c.domain.formula-index in
    let f = c.formula-item.result in
    let one = one_of_total s (map tree_of domain) k (tree_of f) (omega (arith, c.domain-test.true, length-map domain tree_of)) in
    let same = get_or-map tree_of domain k f (tree_of f) c.domain-test.true ∙ ap tree_of (sym c.formula-item.is) in
    let small = sizes_of_small (total_nodes (cores_of s (map tree_of domain))) (core_tree_of c.args.candidate.now) c.requires.small in
    omega (arith, one, ap (λ g. nodes (core_tree s true g)) same, small.0)

pub new-requires : goal.new-requires
new-requires c =
    let s = sizes c.args.space.now in
    let domain = c.args.domain.now in
    let candidate = core_tree_of c.args.candidate.now in
    let front = map core_tree_of c.domain.cores.items in
    let rest = cores_of s (map tree_of (drop c.domain.formula-index domain)) in
    let small = sizes_of_small (total_nodes (cores_of s (map tree_of domain))) candidate c.requires.small in
    let pushed : map core_tree_of c.push-2.new.self.items ≡ front ++ candidate ∷ [] =
    ap (map core_tree_of) c.in_ok-push-2.ensures.items ∙ map-append core_tree_of c.domain.cores.items (c.in_ok-clone.field-0 ∷ []) ∙ ap (λ k. front ++ k ∷ []) c.in_ok-clone.ensures.same in
    subst (λ cs. length (closure_of cs) ≤ 4096) (sym pushed) (closure_few front candidate (omega (arith, total_front front rest, ap total_nodes c.domain.invariant, small.0)))

pub returns-clause-cores : goal.returns-clause-cores
returns-clause-cores c =
    let s = sizes c.args.space.now in
    let domain = c.args.domain.now in
    let candidate = core_tree_of c.args.candidate.now in
    let front = map core_tree_of c.domain.cores.items in
    let front_is : front ≡ cores_of s (map tree_of domain) =
    sym (append-nil front) ∙ ap (λ fs. front ++ cores_of s (map tree_of fs)) (sym (drop_all c.domain.formula-index domain (omega (arith, c.domain-test.false)))) ∙ c.domain.invariant in
    let whole : map core_tree_of c.push-2.new.self.items ≡ cores_of s (map tree_of domain) ++ candidate ∷ [] =
    ap (map core_tree_of) c.in_ok-push-2.ensures.items ∙ map-append core_tree_of c.domain.cores.items (c.in_ok-clone.field-0 ∷ []) ∙ ap (λ k. front ++ k ∷ []) c.in_ok-clone.ensures.same ∙ ap (λ f. f ++ candidate ∷ []) front_is in
    IfOk-weaker c.new.result _ _ (λ q is. is ∙ whole) c.new.ensures.cores

pub returns-clause-over : goal.returns-clause-over
returns-clause-over c =
    IfOk-weaker c.new.result _ _ (λ q are. query_over c.args.space.now c.args.domain.now (core_tree_of c.args.candidate.now) c.requires.fit c.requires.candidate _ are) (returns-clause-cores c)
