use Rattle.std.proofs.Common.{◌≡◌, false, [], ◌∷◌, ◌++◌, map, sym, ap, ◌∙◌, arith}
use Rattle.std.specs.List.{list_any}
use Rattle.std.proofs.lemmas.List.{length-map, map-append}
use Rattle.bound_unfolding.specs.CoreView.{core_tree_of}
use Rattle.formula_table.specs.Closures.{is_same}
use Rattle.obstacle_regression.specs.Candidates.{FoundForm}
use Rattle.obstacle_regression.specs.Views.{candidate_core, search_of}
use Rattle.obstacle_regression.proofs.Settled.{any_mapped, left_full, listed_already, listed_last}
use Rattle.obstacle_regression.proofs.search.Search.take.Goals as goal

pub returns-then-len-ge-MOST-clause-taken : goal.returns-then-len-ge-MOST-clause-taken
returns-then-len-ge-MOST-clause-taken c =
    let search = c.args.self.now in
    let core = core_tree_of c.args.core in
    let items = search.candidates.items in
    let new : list_any (is_same core) (map candidate_core items) ≡ false = any_mapped (is_same core) candidate_core items ∙ ap (λ k. list_any (λ listed. is_same k (candidate_core listed)) items) (sym c.new-candidate.ensures) ∙ sym c.has.ensures ∙ c.if-has.false in
    left_full search.beside (search_of search) core new (omega (arith, c.if-len-ge-MOST.true, c.len.ensures, search.candidates.ok.0, length-map items candidate_core))

pub returns-clause-taken : goal.returns-clause-taken
returns-clause-taken c =
    let search = c.args.self.now in
    let core = core_tree_of c.args.core in
    let items = search.candidates.items in
    let new : list_any (is_same core) (map candidate_core items) ≡ false = any_mapped (is_same core) candidate_core items ∙ ap (λ k. list_any (λ listed. is_same k (candidate_core listed)) items) (sym c.new-candidate.ensures) ∙ sym c.has.ensures ∙ c.if-has.false in
    let longer : map candidate_core c.push.new.self.items ≡ map candidate_core items ++ core ∷ [] =
    ap (map candidate_core) c.in_ok-push.ensures.items ∙ map-append candidate_core items (c.new-candidate.result ∷ []) ∙ ap (λ k. map candidate_core items ++ k ∷ []) c.new-candidate.ensures in
    ap (λ l. let found : FoundForm = record { list = l; more = search.more } in found) longer
    ∙ listed_last search.beside (search_of search) core new (omega (arith, c.if-len-ge-MOST.false, c.len.ensures, search.candidates.ok.0, length-map items candidate_core)) c.requires.small

pub returns-then-has-clause-taken : goal.returns-then-has-clause-taken
returns-then-has-clause-taken c =
    let search = c.args.self.now in
    let core = core_tree_of c.args.core in
    let items = search.candidates.items in
    listed_already search.beside (search_of search) core (any_mapped (is_same core) candidate_core items ∙ ap (λ k. list_any (λ listed. is_same k (candidate_core listed)) items) (sym c.new-candidate.ensures) ∙ sym c.has.ensures ∙ c.if-has.true)
