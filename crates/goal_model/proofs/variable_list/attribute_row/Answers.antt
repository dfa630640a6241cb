use Rattle.std.proofs.Common.{◌≡◌, ◌+◌, ◌<◌, ◌≤◌, length, map, sym, ap, ◌∙◌, arith}
use Rattle.std.specs.Prelude.{slice_index}
use Rattle.state_space.specs.declared.values.VarId.{VarId}
use Rattle.entity_types.specs.Rows.{Rows}
use Rattle.entity_types.specs.View.{rows_of}
use Rattle.goal_model.specs.Scopes.{scope_of, rows_in}
use Rattle.goal_model.specs.Terms.{entity_of, members_at}
use Rattle.goal_model.proofs.EntityViews.{rows_same}
use Rattle.goal_model.proofs.VariableRows.{row_more, row_done, members_counted}
use Rattle.goal_model.proofs.variable_list.attribute_row.Goals as goal

pub members-preserved : goal.members-preserved
members-preserved c =
    let s = scope_of c.args.scope.now in
    let first = slice_index (rows_in s).firsts c.args.attribute in
    let members = members_at s (entity_of s c.args.attribute) in
    let counted = members_counted c.args.scope.now c.args.attribute c.entity_of.result c.entity_of.ensures.entity c.entity_of.ensures.inside in
    let inside : c.members.member < length members = omega (arith, c.members-test.true, c.member_count-count.ensures.count, counted) in
    let rows : slice_index (rows_of c.args.scope.now.entities.now).firsts c.args.attribute ≡ first = ap (λ (r : Rows). slice_index r.firsts c.args.attribute) (rows_same c.args.scope.now.entities.now) in
    let is : c.variable.result.0 ≡ first + c.members.member = omega (arith, c.variable.ensures.variable, rows) in
    sym (row_more c.members.row.items c.push.new.self.items c.variable.result first c.members.member members inside is c.in_ok-push.ensures.items) ∙ c.members.invariant

pub returns : goal.returns
returns c =
    let s = scope_of c.args.scope.now in
    let members = members_at s (entity_of s c.args.attribute) in
    let counted = members_counted c.args.scope.now c.args.attribute c.entity_of.result c.entity_of.ensures.entity c.entity_of.ensures.inside in
    let past : length members ≤ c.members.member = omega (arith, c.members-test.false, c.member_count-count.ensures.count, counted) in
    row_done (map (λ (x : VarId). x.0) c.members.row.items) _ c.members.member members _ past c.members.invariant
