use Rattle.std.proofs.Common.{◌≡◌, List, map, ap, sym, subst, ◌∙◌}
use Rattle.std.specs.Prelude.{All}
use Rattle.state_space.specs.Ranges.{RangeForm}
use Rattle.state_space.specs.Spaces.{ranges}
use Rattle.temporal_logic.specs.Fits.{Fits}
use Rattle.temporal_logic.specs.Trees.{tree_of}
use Rattle.pattern_library.specs.Patterns.{pattern_list}
use Rattle.pattern_library.specs.Views.{pattern_form}
use Rattle.pattern_library.proofs.Placeholders.{pattern_fits, fits_unmapped}
use Rattle.pattern_library.proofs.query.pattern_query.Goals as goal

pub query_of-requires-clause-fit : goal.query_of-requires-clause-fit
query_of-requires-clause-fit c =
    let p = pattern_form c.args.pattern.now in
    let fit : All (Fits (ranges c.in_ok-space.space)) (pattern_list p) = subst (λ (rs : List RangeForm). All (Fits rs) (pattern_list p)) (sym c.in_ok-space.ensures.ranges) (pattern_fits p c.requires.pattern) in
    let list : map tree_of c.deref.result.now ≡ pattern_list p = ap (map tree_of) c.deref.ensures.value ∙ c.in_ok-list.ensures in
    fits_unmapped (ranges c.in_ok-space.space) c.deref.result.now (subst (All (Fits (ranges c.in_ok-space.space))) (sym list) fit)
