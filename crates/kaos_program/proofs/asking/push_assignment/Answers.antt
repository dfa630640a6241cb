use Rattle.std.proofs.Common.{◌≡◌, List, [], ◌∷◌, ◌++◌, ◌∙◌, length, map, ap, subst, sym, append_assoc, arith}
use Rattle.std.specs.Prelude.{slice_index_or}
use Rattle.std.specs.List.{AllZip}
use Rattle.std.specs.Vec.Iter.{into_iter_items}
use Rattle.std.proofs.lemmas.List.{append-nil}
use Rattle.goal_model.specs.declared.item.Item.{Item}
use Rattle.goal_model.specs.Models.{LinkForm, assign}
use Rattle.goal_model.specs.ModelViews.{model_of}
use Rattle.goal_model.specs.Items.{item_of, assigned_item, no_link, link_items_of}
use Rattle.verdict_report.specs.Reports.{link_questions}
use Rattle.kaos_program.specs.declared.asking.Asked.{Asked}
use Rattle.kaos_program.specs.declared.asking.Asked.TheVariants.{Assignment}
use Rattle.kaos_program.specs.Asking.{IsAsked}
use Rattle.kaos_program.proofs.AskedLinks.{no_items, assignment_asked}
use Rattle.kaos_program.proofs.asking.push_assignment.Goals as goal

pub items-preserved : goal.items-preserved
items-preserved c =
    let left = map (λ (i : Item). Assignment i.label c.coverage-cover.result) (into_iter_items c.next.new.self) in
    let steps = c.in-Some.ensures.steps.0 in
    let whole = c.args.asked.now.items ++ map (λ (i : Item). Assignment i.label c.coverage-cover.result) (into_iter_items c.into_iter-item-iterator.result) in
    record {
      items =
          ap (λ (list : List Asked). list ++ left) c.in_ok-push.ensures.items ∙ append_assoc c.items.asked.items (Assignment c.in-Some.item.label c.coverage-cover.result ∷ []) left
          ∙ subst (λ (is : List Item). c.items.asked.items ++ map (λ i. Assignment i.label c.coverage-cover.result) is ≡ whole) steps c.items.invariant.items;
      left = omega (arith, c.items.invariant.left, c.in-Some.ensures.steps.1, ap length steps);
    }

pub returns : goal.returns
returns c =
    let m = model_of c.args.model.now in
    let cover = c.coverage-cover.result in
    let items = c.in_ok-item-items.item-items.items in
    let s = c.requires.assignment.0 in
    let link_is : slice_index_or m.links c.args.link no_link ≡ assign s c.args.goal c.args.agent = c.requires.assignment.1 in
    let made = λ (is : List Item). map (λ i. Assignment i.label cover) is in
    let none : into_iter_items c.items.item-iterator ≡ [] = no_items (into_iter_items c.items.item-iterator) (omega (arith, c.items.invariant.left, c.in-None.ensures.steps.0)) in
    let whole : c.items.asked.items ≡ c.args.asked.now.items ++ made items =
    sym (append-nil c.items.asked.items) ∙ ap (λ (is : List Item). c.items.asked.items ++ made is) (sym none) ∙ c.items.invariant.items ∙ ap (λ (is : List Item). c.args.asked.now.items ++ made is) c.into_iter-item-iterator.ensures.into_iter_gives.0 in
    let of_link : map item_of items ≡ assigned_item m s c.args.goal c.args.agent ∷ [] = c.in_ok-item-items.ensures ∙ ap (link_items_of m c.args.link) link_is in
    (made items, whole, subst (λ (l : LinkForm). AllZip (IsAsked m) (link_questions m c.args.link l) (made items)) (sym link_is) (assignment_asked m c.args.link s c.args.goal c.args.agent items cover of_link c.coverage-cover.ensures.cover))
