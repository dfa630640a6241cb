use Rattle.model_text.specs.RawView.{raw_tree}
use Rattle.entity_types.specs.View.{written_tree}
use Rattle.goal_model.specs.Scopes.{scope_of}
use Rattle.goal_model.proofs.PlainParts.{written_fitting}
use Rattle.goal_model.proofs.draft.Draft.one_formula.Goals as goal

pub plain-requires : goal.plain-requires
plain-requires c =
    written_fitting c.args.self.now (scope_of c.scope.result) (raw_tree c.args.body.now) (written_tree c.in_ok-written.written) c.requires.draft c.scope.ensures.scope c.in_ok-written.ensures
