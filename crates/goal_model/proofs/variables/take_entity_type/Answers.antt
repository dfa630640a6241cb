use Rattle.std.proofs.Common.{◌≡◌, ◌≢◌, [], ◌∷◌, ◌++◌, List, ℕ, Ok, ap, ap₂, sym, subst, ◌∙◌, arith}
use Rattle.std.specs.Prelude.{AllPairs}
use Rattle.entity_types.specs.View.{type_names, member_names, attributes}
use Rattle.goal_model.specs.Scopes.{ScopeForm, fresh}
use Rattle.goal_model.specs.Models.{ModelForm, contents_of}
use Rattle.goal_model.specs.Drafts.{draft_of, scope_of}
use Rattle.goal_model.proofs.GoodRanges.{apart_distinct}
use Rattle.goal_model.proofs.EntityViews.{as_many_types}
use Rattle.goal_model.proofs.TakenTypes.{renewed, type_added}
use Rattle.goal_model.proofs.variables.take_entity_type.Goals as goal

pub add_entity-added-requires-clause-distinct : goal.add_entity-added-requires-clause-distinct
add_entity-added-requires-clause-distinct c =
    let distinct : AllPairs (λ a b. a ≢ b) c.args.members.now = apart_distinct [] c.args.members.now (λ i j d l h. absurd (omega (arith, h))) c.in_ok-names_apart.ensures in
    subst (AllPairs (λ (a b : List ℕ). a ≢ b)) (sym c.in_ok-members.ensures) distinct

pub returns : goal.returns
returns c =
    let d = draft_of c.args.draft.now in
    let entities = c.add_entity-added.new.self in
    let entries = c.declare.new.self.names.entries.items in
    let new : fresh (scope_of d) c.args.name.now ≡ Ok tt = subst (λ (s : ScopeForm). fresh s c.args.name.now ≡ Ok tt) c.scope.ensures.scope c.in_ok-fresh.ensures in
    let place = c.in-Ok.ensures.id ∙ sym (as_many_types c.args.draft.now.contents.entities) in
    let made : draft_of c.declare.new.self ≡ renewed d entries d.model.names d.model.ranges (type_names entities) (member_names entities) (attributes entities) =
    ap₂ (λ (n : ℕ) (m : ModelForm). record { version = n; others = entries; model = m }) c.declare.ensures.version (ap contents_of c.declare.ensures.contents) in
    type_added d c.args.name.now c.args.members.now c.in-Ok.place entries (type_names entities) (member_names entities) (attributes entities) new c.in_ok-names_apart.ensures (sym c.if-not-has_few_members.ensures) place
    c.in_ok-declare.ensures.declared (c.in-Ok.ensures.names ∙ ap (λ (x : List ℕ). type_names c.args.draft.now.contents.entities ++ x ∷ []) c.in_ok-clone.ensures.same) (c.in-Ok.ensures.members ∙ ap (λ ms. member_names c.args.draft.now.contents.entities ++ ms ∷ []) c.in_ok-members.ensures) c.in-Ok.ensures.attributes
    ∙ ap Ok (sym made)
