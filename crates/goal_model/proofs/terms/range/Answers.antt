use Rattle.std.proofs.Common.{◌≡◌, ℕ, ◌<◌, length, sym, ap, subst, ◌∙◌}
use Rattle.state_space.specs.Ranges.{form_of}
use Rattle.entity_types.specs.declared.written.Term.{Term}
use Rattle.entity_types.specs.View.{term_of}
use Rattle.goal_model.specs.Scopes.{scope_of}
use Rattle.goal_model.specs.Terms.{first_of}
use Rattle.goal_model.proofs.TermParts.{members_there, term_there, first_found, first_inside}
use Rattle.goal_model.proofs.WrittenParts.{term_range}
use Rattle.goal_model.proofs.terms.range.Goals.{in-Var, in-Of2}
use Rattle.goal_model.proofs.terms.range.Goals as goal

pub variable-first-requires-clause-member : goal.variable-first-requires-clause-member
variable-first-requires-clause-member c =
    let s = c.args.scope.now in
    members_there s.entities.now c.in-Of.attribute (term_there (scope_of s) c.args.term c.in-Of.attribute c.in-Of.is c.requires.inside)

pub range_of-requires : goal.range_of-requires
range_of-requires c =
    let s = c.args.scope.now in
    let first : c.match-term.first.0 ≡ first_of (scope_of s) (term_of c.args.term) =
    elim c.match-term.branch [
      | in-Var w ↦ ap (λ x. x.0) w.first-is ∙ sym (ap (λ (t : Term). first_of (scope_of s) (term_of t)) w.in-Var.is)
      | in-Of2 w ↦ ap (λ x. x.0) w.first-is ∙ first_found s c.args.term w.in-Of.attribute w.variable-first.result.0 w.in-Of.is w.variable-first.ensures.variable
    ] in
    subst (λ (k : ℕ). k < length (scope_of s).names) (sym first) (first_inside (scope_of s) (term_of c.args.term) c.requires.scope c.requires.inside)

pub returns-clause-range : goal.returns-clause-range
returns-clause-range c =
    let s = c.args.scope.now in
    let first : c.match-term.first.0 ≡ first_of (scope_of s) (term_of c.args.term) =
    elim c.match-term.branch [
      | in-Var w ↦ ap (λ x. x.0) w.first-is ∙ sym (ap (λ (t : Term). first_of (scope_of s) (term_of t)) w.in-Var.is)
      | in-Of2 w ↦ ap (λ x. x.0) w.first-is ∙ first_found s c.args.term w.in-Of.attribute w.variable-first.result.0 w.in-Of.is w.variable-first.ensures.variable
    ] in
    sym (term_range (scope_of s) (term_of c.args.term) c.match-term.first.0 (form_of c.range_of.result.now) first c.range_of.ensures.range)
