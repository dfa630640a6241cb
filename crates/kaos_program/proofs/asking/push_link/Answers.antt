use Rattle.std.proofs.Common.{◌≡◌, ◌<◌, ◌∙◌, List, length, ap, subst, sym, arith}
use Rattle.std.specs.Prelude.{slice_index_or}
use Rattle.std.specs.List.{AllZip, flat_map}
use Rattle.std.proofs.lemmas.List.{length-map}
use Rattle.std.proofs.lemmas.Result.{on_ok_weaker}
use Rattle.goal_model.specs.Models.{LinkForm, LinkIsOf, link_of}
use Rattle.goal_model.specs.ModelViews.{model_of}
use Rattle.goal_model.specs.Items.{no_link, link_items_of}
use Rattle.goal_model.proofs.Tables.{viewed_at}
use Rattle.verdict_report.specs.Reports.{Question, link_questions, asked_by}
use Rattle.kaos_program.specs.Asking.{IsAsked}
use Rattle.goal_model.specs.Demands.{demands_of}
use Rattle.kaos_program.proofs.AskedLinks.{demands_asked, other_questions, domains_first}
use Rattle.kaos_program.proofs.asking.push_link.Goals as goal

pub push_assignment-requires-clause-goal : goal.push_assignment-requires-clause-goal
push_assignment-requires-clause-goal c =
    let m = model_of c.args.model.now in
    let inside : c.args.link < length c.links.result.now = omega (arith, c.requires.link, length-map c.links.result.now link_of, ap length c.links.ensures) in
    let here : slice_index_or m.links c.args.link no_link ≡ link_of c.index-links-link.result =
    ap (λ (ls : List LinkForm). slice_index_or ls c.args.link no_link) (sym c.links.ensures) ∙ sym (viewed_at link_of (λ l. l) c.links.result.now c.args.link c.index-links-link.result no_link inside c.index-links-link.is) in
    (subst (LinkIsOf m) (here ∙ ap link_of c.in-Assign.is) (c.args.model.now.well_formed.parts.links c.args.link no_link c.requires.link)).0

pub push_assignment-requires-clause-agent : goal.push_assignment-requires-clause-agent
push_assignment-requires-clause-agent c =
    let m = model_of c.args.model.now in
    let inside : c.args.link < length c.links.result.now = omega (arith, c.requires.link, length-map c.links.result.now link_of, ap length c.links.ensures) in
    let here : slice_index_or m.links c.args.link no_link ≡ link_of c.index-links-link.result =
    ap (λ (ls : List LinkForm). slice_index_or ls c.args.link no_link) (sym c.links.ensures) ∙ sym (viewed_at link_of (λ l. l) c.links.result.now c.args.link c.index-links-link.result no_link inside c.index-links-link.is) in
    (subst (LinkIsOf m) (here ∙ ap link_of c.in-Assign.is) (c.args.model.now.well_formed.parts.links c.args.link no_link c.requires.link)).1

pub push_demands-requires : goal.push_demands-requires
push_demands-requires c =
    let m = model_of c.args.model.now in
    domains_first m (link_items_of m c.args.link (slice_index_or m.links c.args.link no_link)) c.in_ok-demands-in_default.demands.items c.in_ok-demands-in_default.ensures.demands

pub returns-in_ok-demands-in_default : goal.returns-in_ok-demands-in_default
returns-in_ok-demands-in_default c =
    let m = model_of c.args.model.now in
    let ds = c.in_ok-demands-in_default.demands.items in
    let link = link_of c.index-links-link.result in
    let inside : c.args.link < length c.links.result.now = omega (arith, c.requires.link, length-map c.links.result.now link_of, ap length c.links.ensures) in
    let here : slice_index_or m.links c.args.link no_link ≡ link =
    ap (λ (ls : List LinkForm). slice_index_or ls c.args.link no_link) (sym c.links.ensures) ∙ sym (viewed_at link_of (λ l. l) c.links.result.now c.args.link c.index-links-link.result no_link inside c.index-links-link.is) in
    let questions : link_questions m c.args.link (slice_index_or m.links c.args.link no_link) ≡ flat_map (asked_by link) (link_items_of m c.args.link link) =
    ap (link_questions m c.args.link) here ∙ other_questions m c.args.link c.index-links-link.result (λ s g a. c.in_default.not-Assign s g a) in
    let demands = c.in_ok-demands-in_default.ensures.demands ∙ ap (λ (l : LinkForm). demands_of m (link_items_of m c.args.link l)) here in
    on_ok_weaker c.push_demands.result (λ posed. (
      posed.0,
      posed.1,
      subst (λ (qs : List Question). AllZip (IsAsked m) qs posed.0) (sym questions) (demands_asked m link (link_items_of m c.args.link link) ds posed.0 demands c.in_ok-demands-in_default.ensures.answerable posed.2),
    )) c.push_demands.ensures
