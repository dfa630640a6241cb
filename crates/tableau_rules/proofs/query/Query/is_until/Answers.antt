use Rattle.std.proofs.Common.{ap, subst, sym, ◌∙◌, ◌<◌, List, length}
use Rattle.bound_unfolding.specs.CoreForm.{CoreForm}
use Rattle.formula_table.specs.Closures.{formula_at}
use Rattle.tableau_rules.specs.Certificates.{is_until}
use Rattle.tableau_rules.proofs.QueryClosures.{closure_is}
use Rattle.tableau_rules.proofs.query.Query.is_until.Goals as goal

pub is_until-requires : goal.is_until-requires
is_until-requires c = subst (λ (cl : List CoreForm). c.args.number < length cl) (sym (closure_is c.args.self.now)) c.requires

pub returns : goal.returns
returns c = c.is_until.ensures ∙ ap (λ cl. is_until (formula_at cl c.args.number)) (closure_is c.args.self.now)
