use Rattle.tableau_rules.specs.Links.{fulfils_at}
use Rattle.tableau_rules.proofs.Passes.{all_free}
use Rattle.tableau_rules.proofs.level.levels.Goals as goal

pub passes-init : goal.passes-init
passes-init c =
    all_free c.args.links.now (fulfils_at c.args.links.now c.args.until) c.args.alive.now c.in_ok-levels.levels.items (c.in_ok-levels.ensures.items_if_clones_equal (λ y h. h))
