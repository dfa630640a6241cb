use Rattle.std.proofs.Common.{◌≡◌, ◌+◌, ◌++◌, map, drop}
use Rattle.std.specs.Prelude.{slice_index}
use Rattle.goal_model.specs.Scopes.{scope_of, rows_in}
use Rattle.goal_model.specs.Terms.{entity_of, members_at}
use Rattle.goal_model.specs.VariableLists.{numbers_from, row_of}
use Rattle.goal_model.proofs.variable_list.attribute_row.Given as goal

abbrev pub invariant-members : goal.invariant-members
invariant-members l =
    let s = scope_of l.scope in
    map (λ x. x.0) l.row.items ++ numbers_from (slice_index (rows_in s).firsts l.attribute + l.member) (drop l.member (members_at s (entity_of s l.attribute))) ≡ row_of s l.attribute
