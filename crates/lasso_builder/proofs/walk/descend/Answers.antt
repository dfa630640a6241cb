use Rattle.std.proofs.Common.{◌≡◌, inl, inr, sym, ◌∙◌, ◌++◌, [], ◌∷◌}
use Rattle.tableau_rules.specs.Links.{fulfils_at}
use Rattle.lasso_builder.proofs.Legs.{descended, down_one, last_living}
use Rattle.lasso_builder.proofs.Lowering.{has_lower}
use Rattle.lasso_builder.proofs.walk.descend.Goals as goal
use Rattle.lasso_builder.proofs.walk.descend.Goals.{else-does_fulfil-via-then-does_fulfil+else-is_first_alive, else-does_fulfil-via-else-does_fulfil}

pub returns-then-is_first_alive : goal.returns-then-is_first_alive
returns-then-is_first_alive c =
    let i : c.push.new.self.items ≡ c.down.walk.items ++ c.first_kid.result ∷ [] = c.in_ok-push.ensures.items in
    rw i (descended c.args.links.now (fulfils_at c.args.links.now c.args.until) c.args.alive.now c.args.levels.now c.args.walk.now.items c.down.walk.items c.down.at c.first_kid.result c.requires.range c.down.invariant
    (sym c.if-does_fulfil.ensures) c.first_kid.ensures.head c.first_kid.ensures.alive)

pub down-preserved : goal.down-preserved
down-preserved c =
    let i : c.push-in-down.new.self.items ≡ c.down.walk.items ++ c.lower_kid-at.result ∷ [] = c.in_ok-push-2.ensures.items in
    rw i (down_one c.args.links.now (fulfils_at c.args.links.now c.args.until) c.args.alive.now c.args.levels.now c.args.walk.now.items c.down.walk.items c.down.at c.lower_kid-at.result c.requires.range c.down.invariant
    c.lower_kid-at.ensures.kid c.lower_kid-at.ensures.alive)

pub lower_kid-at-requires-clause-some : goal.lower_kid-at-requires-clause-some
lower_kid-at-requires-clause-some c =
    let under = c.down.invariant in
    let inside = (last_living c.args.links.now c.args.alive.now c.down.walk.items c.down.at under.walk under.last).0 in
    has_lower c.args.links.now (fulfils_at c.args.links.now c.args.until) c.args.alive.now c.args.levels.now c.down.at (c.requires.levels.way c.down.at inside under.level)
    (elim c.else-does_fulfil.branch [
      | else-does_fulfil-via-then-does_fulfil+else-is_first_alive w ↦ inr (sym w.is_first_alive.ensures ∙ w.if-is_first_alive.false)
      | else-does_fulfil-via-else-does_fulfil w ↦ inl (sym c.does_fulfil.ensures ∙ w.if-does_fulfil.false)
    ])
