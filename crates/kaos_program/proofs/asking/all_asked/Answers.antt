use Rattle.std.proofs.Common.{◌<◌, length, ap, arith}
use Rattle.std.proofs.lemmas.List.{length-map}
use Rattle.goal_model.specs.Models.{link_of}
use Rattle.goal_model.specs.ModelViews.{model_of}
use Rattle.kaos_program.proofs.AskedLinks.{asked_more}
use Rattle.kaos_program.proofs.asking.all_asked.Goals as goal

pub links-preserved : goal.links-preserved
links-preserved c =
    let m = model_of c.args.model.now in
    let inside : c.links.link < length m.links = omega (arith, c.links-test.true, length-map c.links-link-end.result.now link_of, ap length c.links-link-end.ensures) in
    asked_more m c.links.link c.links.asked.items c.push_link.new.asked.items inside c.links.invariant c.in_ok-push_link.ensures
