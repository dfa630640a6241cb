use Rattle.std.proofs.Common.{◌≡◌, ℕ, true, false, List, ◌++◌, length, map, Vec, Global, sym, subst, ◌∙◌, rules}
use Rattle.state_space.specs.Spaces.{names}
use Rattle.state_space.specs.declared.values.VarId.{VarId}
use Rattle.goal_model.specs.declared.refusal.RefusalKind.TheVariants.{DuplicateName}
use Rattle.goal_model.specs.Refusals.{Resolved, Gives}
use Rattle.goal_model.specs.Scopes.{scope_of}
use Rattle.goal_model.proofs.Walking.{refused_as}
use Rattle.goal_model.proofs.VariableRows.{meets_same, variables_more, variables_refused, both_inside}
use Rattle.goal_model.proofs.variable_list.variables.Goals as goal

abbrev seen : Vec VarId Global → List ℕ
seen xs = map (λ x. x.0) xs.items

pub returns-then-do_meet-clause-exact : goal.returns-then-do_meet-clause-exact
returns-then-do_meet-clause-exact c =
    let s = scope_of c.args.scope.now in
    let met = meets_same c.in_ok-row.row.items c.names.variables.items c.deref.result.now c.deref-in-names.result.now true c.deref.ensures.value c.deref-in-names.ensures.value (sym c.if-do_meet.ensures) in
    let e = sym c.names.invariant.walked ∙ variables_refused s c.names.variables.items c.in_ok-row.row.items c.args.names.now c.names.name-index c.name-item.result c.names-test.true c.name-item.is c.in_ok-row.ensures.exact met in
    subst (λ (o : Resolved (List ℕ)). Gives seen c.refused.result o) (sym e) (refused_as seen c.refused.result DuplicateName c.name-item.result c.refused.ensures)

pub names-preserved : goal.names-preserved
names-preserved c =
    let s = scope_of c.args.scope.now in
    let met = meets_same c.in_ok-row.row.items c.names.variables.items c.deref.result.now c.deref-in-names.result.now false c.deref.ensures.value c.deref-in-names.ensures.value (sym c.if-do_meet.ensures) in
    let grown : c.extend_from_slice.new.self.items ≡ c.names.variables.items ++ c.in_ok-row.row.items = search rules in
    record {
      walked = sym (variables_more s c.names.variables.items c.in_ok-row.row.items c.extend_from_slice.new.self.items c.args.names.now c.names.name-index c.name-item.result c.names-test.true c.name-item.is c.in_ok-row.ensures.exact met grown) ∙ c.names.invariant.walked;
      inside = both_inside (length (names c.args.scope.now.space.now)) c.names.variables.items c.in_ok-row.row.items c.extend_from_slice.new.self.items c.names.invariant.inside c.in_ok-row.ensures.inside grown;
    }
