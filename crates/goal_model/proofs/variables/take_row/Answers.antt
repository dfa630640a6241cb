use Rattle.std.proofs.Common.{◌≡◌, ℕ, List, Ok, ap, ap₂, sym, subst, ◌∙◌}
use Rattle.state_space.specs.Ranges.{form_of}
use Rattle.state_space.specs.Spaces.{names, ranges}
use Rattle.entity_types.specs.Joined.{joined_names, members_of}
use Rattle.entity_types.specs.View.{type_names, member_names, attributes}
use Rattle.goal_model.specs.Scopes.{ScopeForm, scope_of as scope_form}
use Rattle.goal_model.specs.Models.{ModelForm, contents_of}
use Rattle.goal_model.specs.Drafts.{draft_of, scope_of}
use Rattle.goal_model.specs.Resolution.{all_fresh}
use Rattle.goal_model.proofs.EntityViews.{named_among, as_many_attributes}
use Rattle.goal_model.proofs.TakenTypes.{renewed, row_added}
use Rattle.goal_model.proofs.variables.take_row.Goals as goal

pub add_attr-added-requires-clause-among : goal.add_attr-added-requires-clause-among
add_attr-added-requires-clause-among c =
    let contents = c.args.draft.now.contents in
    named_among contents.entities (names contents.space) (ranges contents.space) c.requires.draft.parts.attributes

pub returns : goal.returns
returns c =
    let d = draft_of c.args.draft.now in
    let f = c.args.name.now in
    let members = members_of c.args.draft.now.contents.entities c.args.entity in
    let entities = c.add_attr-added.new.self in
    let space = c.add_attr-added.new.space in
    let entries = c.declare.new.self.names.entries.items in
    let joined : c.in-Some.joined.items ≡ joined_names f members = rw c.in-Some.is at c.in_ok-joined.ensures.names in
    let new : all_fresh (scope_of d) (joined_names f members) ≡ Ok tt =
    subst (λ (s : ScopeForm). all_fresh s (joined_names f members) ≡ Ok tt) c.scope.ensures.scope
    (subst (λ (ns : List (List ℕ)). all_fresh (scope_form c.scope.result) ns ≡ Ok tt) (c.deref.ensures.value ∙ joined) c.in_ok-all_fresh.ensures) in
    let place = c.from-2.ensures ∙ c.in-Ok.ensures.id ∙ sym (as_many_attributes c.args.draft.now.contents.entities) in
    let made : draft_of c.declare.new.self ≡ renewed d entries (names space) (ranges space) (type_names entities) (member_names entities) (attributes entities) =
    ap₂ (λ (n : ℕ) (m : ModelForm). record { version = n; others = entries; model = m }) c.declare.ensures.version (ap contents_of c.declare.ensures.contents) in
    row_added d f c.in_ok-owned.owned c.args.entity members (form_of c.args.range.now) (form_of c.in_ok-range.range) c.from-2.result entries (names space) (ranges space) (type_names entities) (member_names entities) (attributes entities)
    c.in_ok-owned.ensures.same c.in_ok-range.ensures.same (sym c.if-not-has_few_values.ensures) new c.in-Ok.ensures.taken place
    c.in_ok-declare.ensures.declared c.in-Ok.ensures.names c.in-Ok.ensures.ranges c.in-Ok.ensures.same_types c.in-Ok.ensures.same_members c.in-Ok.ensures.attributes
    ∙ ap Ok (sym made)
