use Rattle.std.proofs.Common.{sym, subst}
use Rattle.goal_model.specs.ModelViews.{model_of}
use Rattle.goal_model.specs.Demands.{IsAnswerable}
use Rattle.goal_model.proofs.DemandLists.{domain_answerable}
use Rattle.goal_model.proofs.demand.domain_demand.Goals as goal

pub returns-clause-answerable : goal.returns-clause-answerable
returns-clause-answerable c =
    let m = model_of c.args.model.now in
    subst (IsAnswerable m) (sym c.in_ok-domain_list.ensures) (domain_answerable m c.args.model.now.well_formed.parts c.args.model.now.small)
