use Rattle.std.proofs.Common.{◌≡◌, ◌<◌, ◌≤◌, ◌∙◌, List, length, map, get_or, sym, ap, subst, arith}
use Rattle.std.proofs.lemmas.List.{length-map, take_all}
use Rattle.state_space.specs.Spaces.{ranges, sizes}
use Rattle.temporal_logic.specs.Ltl.{Ltl}
use Rattle.temporal_logic.specs.Fits.{Fits}
use Rattle.goal_model.specs.declared.item.Part.TheVariants.{Boundary}
use Rattle.goal_model.specs.declared.contents.Link.{Link}
use Rattle.goal_model.specs.Models.{LinkForm, contents_of, link_of}
use Rattle.goal_model.specs.Items.{no_link, boundary_of}
use Rattle.goal_model.specs.Sizes.{both_weights}
use Rattle.goal_model.proofs.Tables.{viewed_at}
use Rattle.goal_model.proofs.SizedItems.{part_fits}
use Rattle.goal_model.proofs.WeighedParts.{weighed_more}
use Rattle.goal_model.proofs.part_weight.boundary_weights.Goals as goal

pub boundary_weight-requires : goal.boundary_weight-requires
boundary_weight-requires c =
    let all = c.args.contents.now.links.items in
    let inside : c.links.link-index < length all = rw c.deref-link-items.ensures.value at c.links-test.true in
    let item : c.link-item.result ≡ get_or all c.links.link-index c.link-item.result = rw c.deref-link-items.ensures.value at c.link-item.is in
    let there : c.links.link-index < length (map link_of all) = omega (arith, inside, length-map all link_of) in
    subst (λ (f : Ltl). Fits (ranges c.args.contents.now.space) f) (sym (viewed_at link_of boundary_of all c.links.link-index c.link-item.result no_link inside item))
    (part_fits (contents_of c.args.contents.now) c.requires (Boundary c.links.link-index) there)

pub links-preserved : goal.links-preserved
links-preserved c =
    let all = c.args.contents.now.links.items in
    let inside : c.links.link-index < length all = rw c.deref-link-items.ensures.value at c.links-test.true in
    let item : c.link-item.result ≡ get_or all c.links.link-index c.link-item.result = rw c.deref-link-items.ensures.value at c.link-item.is in
    rw c.in_ok-push.ensures.items (weighed_more link_of (λ (k : LinkForm). both_weights (sizes c.args.contents.now.space) (boundary_of k)) c.links.weights.items all c.links.link-index c.link-item.result c.boundary_weight.result inside item c.boundary_weight.ensures c.links.invariant)

pub returns : goal.returns
returns c =
    let all = c.args.contents.now.links.items in
    let past : length all ≤ c.links.link-index = rw c.deref-link-items.ensures.value at c.links-test.false in
    c.links.invariant ∙ ap (λ (ks : List Link). map (λ (k : LinkForm). both_weights (sizes c.args.contents.now.space) (boundary_of k)) (map link_of ks)) (take_all c.links.link-index all past)
