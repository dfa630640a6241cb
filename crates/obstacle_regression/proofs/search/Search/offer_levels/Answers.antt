use Rattle.std.proofs.Common.{◌≡◌, ◌-◌, ◌+◌, sym, ◌∙◌, ap, subst, arith, map, drop, length}
use Rattle.std.specs.Prelude.{flat_map}
use Rattle.std.proofs.lemmas.List.{length-map}
use Rattle.obstacle_regression.specs.Candidates.{DomainCores, given_by, with_candidates, with_levels}
use Rattle.obstacle_regression.specs.Views.{rule_of, candidate_core, search_of}
use Rattle.obstacle_regression.proofs.Levels.{levels_step}
use Rattle.obstacle_regression.proofs.search.Search.offer_levels.Goals as goal

pub levels-preserved : goal.levels-preserved
levels-preserved c =
    let d : DomainCores = record { rules = map rule_of c.args.rules.now; beside = c.args.self.now.beside } in
    let old = c.levels.self in
    let new = c.offer_level.new.self in
    let level = drop c.levels.from (map candidate_core old.candidates.items) in
    let made : search_of new ≡ with_candidates d.beside (search_of old) (flat_map (given_by d.rules) level) = c.in_ok-offer_level.ensures.taken ∙ ap (λ b. with_candidates b (search_of old) (flat_map (given_by d.rules) level)) c.levels.invariant.beside in
    let all = with_levels d c.args.depth 0 (search_of c.args.self.now) in
    let place : length (map candidate_core old.candidates.items) ≡ c.len-end.result = length-map old.candidates.items candidate_core ∙ sym old.candidates.ok.0 ∙ sym c.len-end.ensures in
    record {
      rest = subst (λ n. with_levels d (c.args.depth - (c.levels._level + 1)) n (search_of new) ≡ all) place
          (levels_step d (c.args.depth - c.levels._level) (c.args.depth - (c.levels._level + 1)) c.levels.from (search_of old) (search_of new) all (omega (arith, c.levels-test.true)) made c.levels.invariant.rest);
      beside = c.in_ok-offer_level.ensures.beside ∙ c.levels.invariant.beside;
    }
