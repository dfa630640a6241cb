use Rattle.std.proofs.Common.{◌≡◌, IsTrue, OnOk, sym, ap, ◌∙◌, subst}
use Rattle.std.proofs.lemmas.List.Folds.{list_all-map}
use Rattle.bound_unfolding.specs.CoreView.{core_tree_of}
use Rattle.obstacle_regression.specs.Replacements.{replaced}
use Rattle.obstacle_regression.specs.Candidates.{is_small, with_candidate}
use Rattle.obstacle_regression.specs.Views.{side_core, candidate_core, search_of}
use Rattle.obstacle_regression.proofs.Inside.{large_in_place}
use Rattle.obstacle_regression.proofs.Settled.{left_large}
use Rattle.obstacle_regression.proofs.Sizes.{built_is, unbuilt_is_large}
use Rattle.obstacle_regression.proofs.search.Search.offer.Goals as goal

pub returns-then-not-is_small-clause-taken : goal.returns-then-not-is_small-clause-taken
returns-then-not-is_small-clause-taken c =
    let search = c.args.self.now in
    let cause = side_core c.args.cause.now in
    let given = replaced (core_tree_of c.args.part.now) cause (core_tree_of c.args.core.now) in
    left_large search.beside (search_of search) given (list_all-map (is_small search.beside) candidate_core search.candidates.items ∙ search.small)
    (sym (c.is_small.ensures.small given (c.extent_replaced-extent.ensures.of cause c.args.cause.now.extent_is)) ∙ c.if-not-is_small.true)

pub take-requires : goal.take-requires
take-requires c =
    let search = c.args.self.now in
    let side = c.args.cause.now in
    let core = core_tree_of c.args.core.now in
    let part = core_tree_of c.args.part.now in
    let given = replaced part (side_core side) core in
    let made : core_tree_of c.in_ok-given-in-Some.given ≡ given = c.in_ok-given-in-Some.ensures.tree ∙ ap (λ k. replaced part k core) (built_is side.core c.in-Some.cause (side_core side) c.in-Some.is side.built) in
    record { small = subst (λ z. IsTrue (is_small search.beside z)) (sym made) (sym (c.is_small.ensures.small given (c.extent_replaced-extent.ensures.of (side_core side) side.extent_is)) ∙ c.if-not-is_small.false) }

pub returns-in_ok-given-in-Some-clause-taken : goal.returns-in_ok-given-in-Some-clause-taken
returns-in_ok-given-in-Some-clause-taken c =
    let search = c.args.self.now in
    let side = c.args.cause.now in
    let core = core_tree_of c.args.core.now in
    let part = core_tree_of c.args.part.now in
    let made : core_tree_of c.in_ok-given-in-Some.given ≡ replaced part (side_core side) core = c.in_ok-given-in-Some.ensures.tree ∙ ap (λ k. replaced part k core) (built_is side.core c.in-Some.cause (side_core side) c.in-Some.is side.built) in
    subst (λ z. OnOk c.take.result (search_of c.take.new.self ≡ with_candidate search.beside (search_of search) z)) made c.take.ensures.taken

pub returns-in-None-clause-taken : goal.returns-in-None-clause-taken
returns-in-None-clause-taken c =
    let search = c.args.self.now in
    let side = c.args.cause.now in
    let core = core_tree_of c.args.core.now in
    let part = core_tree_of c.args.part.now in
    let cause = side_core side in
    left_large search.beside (search_of search) (replaced part cause core) (list_all-map (is_small search.beside) candidate_core search.candidates.items ∙ search.small)
    (large_in_place search.beside part cause core c.requires.part (unbuilt_is_large side.core cause c.in-None.is side.built))
