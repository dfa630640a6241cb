use Rattle.std.proofs.Common.{◌≡◌, ◌<◌, List, length, ap, sym, ◌∙◌, arith}
use Rattle.std.specs.Prelude.{slice_index_or}
use Rattle.std.proofs.lemmas.List.{length-map}
use Rattle.goal_model.specs.Models.{LinkForm, link_of}
use Rattle.goal_model.specs.ModelViews.{model_of}
use Rattle.goal_model.specs.Items.{no_link, link_items_of}
use Rattle.goal_model.proofs.Tables.{viewed_at}
use Rattle.refinement_graph.specs.Assurance.{link_at}
use Rattle.refinement_graph.specs.Marking.{both_hold}
use Rattle.refinement_graph.proofs.ItemCounts.{length-link_items_of, first_item-next, first_item-within}
use Rattle.refinement_graph.proofs.MarkedGoals.{held_more}
use Rattle.refinement_graph.proofs.assurance.held_links.Goals as goal

pub both_hold-requires : goal.both_hold-requires
both_hold-requires c =
    let m = model_of c.args.model.now in
    let inside : c.links.link-index < length m.links = omega (arith, c.links-test.true, length-map c.links-links.result.now link_of, ap length c.links-links.ensures) in
    omega (arith, c.links.invariant.first, c.requires, first_item-within m c.links.link-index inside, length-link_items_of m c.links.link-index (link_at m c.links.link-index))

pub overflow_add-first : goal.overflow_add-first
overflow_add-first c =
    let m = model_of c.args.model.now in
    let inside : c.links.link-index < length m.links = omega (arith, c.links-test.true, length-map c.links-links.result.now link_of, ap length c.links-links.ensures) in
    let here : link_at m c.links.link-index ≡ link_of c.link-item.result =
    ap (λ (ls : List LinkForm). slice_index_or ls c.links.link-index no_link) (sym c.links-links.ensures) ∙ sym (viewed_at link_of (λ l. l) c.links-links.result.now c.links.link-index c.link-item.result no_link c.links-test.true c.link-item.is) in
    let count = c.item_count-first.ensures m c.links.link-index in
    let moved = ap (λ link. length (link_items_of m c.links.link-index link)) here in
    let within = first_item-within m c.links.link-index inside in
    omega (arith, c.links.invariant.first, c.requires, count, moved, within)

pub links-preserved : goal.links-preserved
links-preserved c =
    let m = model_of c.args.model.now in
    let inside : c.links.link-index < length m.links = omega (arith, c.links-test.true, length-map c.links-links.result.now link_of, ap length c.links-links.ensures) in
    let here : link_at m c.links.link-index ≡ link_of c.link-item.result =
    ap (λ (ls : List LinkForm). slice_index_or ls c.links.link-index no_link) (sym c.links-links.ensures) ∙ sym (viewed_at link_of (λ l. l) c.links-links.result.now c.links.link-index c.link-item.result no_link c.links-test.true c.link-item.is) in
    record {
      first = omega (arith, c.links.invariant.first, c.item_count-first.ensures m c.links.link-index, ap (λ link. length (link_items_of m c.links.link-index link)) here, first_item-next m c.links.link-index inside);
      held = rw c.in_ok-push.ensures.items (held_more m c.args.holds.now c.links.link-index c.links.held.items c.both_hold.result (c.both_hold.ensures ∙ ap (both_hold c.args.holds.now) c.links.invariant.first) c.links.invariant.held);
    }
