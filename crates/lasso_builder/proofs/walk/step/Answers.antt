use Rattle.std.proofs.Common.{◌≡◌, ◌∙◌, ◌++◌, [], ◌∷◌}
use Rattle.lasso_builder.proofs.Legs.{at_last, steps_one}
use Rattle.lasso_builder.proofs.walk.step.Goals as goal

pub returns : goal.returns
returns c =
    let walk = c.args.walk.now.items in
    let last = at_last walk c.index-last.result.now c.len.result (c.len.ensures ∙ c.args.walk.now.ok.0) c.requires.walk.some c.index-last.ensures in
    let pushed : c.push.new.self.items ≡ walk ++ c.some_kid.result ∷ [] = c.in_ok-push.ensures.items in
    rw pushed (steps_one c.args.links.now c.args.alive.now walk c.index-last.result.now c.some_kid.result c.requires.range c.requires.walk last c.some_kid.ensures.kid c.some_kid.ensures.alive)
