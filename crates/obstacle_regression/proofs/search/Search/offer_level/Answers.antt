use Rattle.std.proofs.Common.{◌≡◌, ◌<◌, ◌≤◌, sym, ◌∙◌, ap, subst, arith, map, length, get_or}
use Rattle.std.proofs.lemmas.List.{length-map, get_or-map}
use Rattle.bound_unfolding.specs.CoreView.{core_tree_of}
use Rattle.obstacle_regression.specs.Candidates.{FoundForm, given_by, with_candidates}
use Rattle.obstacle_regression.specs.Views.{rule_of, candidate_core, search_of}
use Rattle.obstacle_regression.proofs.Settled.{many_longer, many_front}
use Rattle.obstacle_regression.proofs.Levels.{level_step}
use Rattle.obstacle_regression.proofs.search.Search.offer_level.Goals as goal

pub level-preserved : goal.level-preserved
level-preserved c =
    let first = c.args.self.now in
    let mid = c.level.self in
    let new = c.offer_parts.new.self in
    let rules = map rule_of c.args.rules.now in
    let place = c.level.place in
    let core = core_tree_of c.in_ok-core.core in
    let level = map candidate_core first.candidates.items in
    let list = map candidate_core mid.candidates.items in
    let given = given_by rules core in
    let count : length level ≡ c.len-end.result = length-map first.candidates.items candidate_core ∙ sym first.candidates.ok.0 ∙ sym c.len-end.ensures in
    let inside : place < length level = omega (arith, c.level-test.true, count) in
    let items : place < length mid.candidates.items = omega (arith, inside, c.level.invariant.longer, length-map mid.candidates.items candidate_core) in
    let read : core ≡ get_or list place core = c.in_ok-core.ensures.same ∙ ap candidate_core c.index.ensures ∙ sym (get_or-map candidate_core mid.candidates.items place c.index.result.now core items) in
    let made : search_of new ≡ with_candidates first.beside (search_of mid) given = c.in_ok-offer_parts.ensures.taken ∙ ap (λ b. with_candidates b (search_of mid) given) c.level.invariant.beside in
    record {
      rest = level_step first.beside rules level place core inside (read ∙ c.level.invariant.front place core inside) (search_of mid) (search_of new) _ made c.level.invariant.rest;
      beside = c.in_ok-offer_parts.ensures.beside ∙ c.level.invariant.beside;
      longer = subst (λ (f : FoundForm). length level ≤ length f.list) (sym made) (omega (arith, c.level.invariant.longer, many_longer first.beside given (search_of mid)));
      front = λ k d l.
          ap (λ (f : FoundForm). get_or f.list k d) made
          ∙ many_front first.beside given (search_of mid) d k (omega (arith, l, c.level.invariant.longer))
          ∙ c.level.invariant.front k d l;
    }
