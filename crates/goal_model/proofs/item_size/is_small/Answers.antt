use Rattle.std.proofs.Common.{◌≡◌, ◌∙◌, ℕ, Bool, List, subst, sym, ap, true, false}
use Rattle.std.specs.Prelude.{◌||◌, All, IfOk, is_none}
use Rattle.state_space.specs.Spaces.{sizes}
use Rattle.state_space.proofs.SpaceFacts.{sizes_of_ranges}
use Rattle.goal_model.specs.declared.item.Part.{Part}
use Rattle.goal_model.specs.Models.{contents_of, sizes_of}
use Rattle.goal_model.specs.Items.{list_of}
use Rattle.goal_model.specs.SmallLists.{is_small_list}
use Rattle.goal_model.specs.KnownParts.{PartIsOf}
use Rattle.goal_model.proofs.SizedItems.{asked}
use Rattle.goal_model.proofs.item_size.is_small.Goals as goal

pub returns-then-is_light-clause-small : goal.returns-then-is_light-clause-small
returns-then-is_light-clause-small c =
    let m = contents_of c.args.contents.now in
    let list = list_of m c.args.item.now.parts.items in
    let known = subst (All (λ p. PartIsOf m p.0)) (sym c.deref.ensures.value) c.requires.known in
    let light : is_small_list (sizes c.args.contents.now.space) list ≡ true = subst (λ (ps : List (Part × Bool)). is_small_list (sizes c.args.contents.now.space) (list_of m ps) ≡ true) c.deref.ensures.value (c.is_light.ensures c.args.contents.now c.requires.ready known c.if-is_light.true) in
    let asked : is_none c.args.item.now.wanted ≡ false = asked c.args.item.now.wanted (sym c.if-is_none.ensures) in
    sym (ap (λ b. b || is_small_list (sizes_of m) list) asked ∙ sym (ap (λ (ns : List ℕ). is_small_list ns list) (sizes_of_ranges c.args.contents.now.space)) ∙ light)

pub returns-clause-small : goal.returns-clause-small
returns-clause-small c =
    let m = contents_of c.args.contents.now in
    let list = list_of m c.args.item.now.parts.items in
    let asked : is_none c.args.item.now.wanted ≡ false = asked c.args.item.now.wanted (sym c.if-is_none.ensures) in
    subst (λ (s : Bool). IfOk c.is_measured_small.result (λ b. b ≡ s))
    (ap (λ (ps : List (Part × Bool)). is_small_list (sizes c.args.contents.now.space) (list_of m ps)) c.deref-2.ensures.value ∙ ap (λ (ns : List ℕ). is_small_list ns list) (sizes_of_ranges c.args.contents.now.space) ∙ sym (ap (λ b. b || is_small_list (sizes_of m) list) asked))
    c.is_measured_small.ensures.small
