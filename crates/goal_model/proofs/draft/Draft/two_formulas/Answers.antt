use Rattle.model_text.specs.RawView.{raw_tree}
use Rattle.entity_types.specs.View.{written_tree}
use Rattle.goal_model.specs.Scopes.{scope_of}
use Rattle.goal_model.proofs.PlainParts.{written_fitting}
use Rattle.goal_model.proofs.draft.Draft.two_formulas.Goals as goal

pub plain-requires : goal.plain-requires
plain-requires c =
    written_fitting c.args.self.now (scope_of c.scope-scope.result) (raw_tree c.args.first.now) (written_tree c.in_ok-first.first) c.requires.draft c.scope-scope.ensures.scope c.in_ok-first.ensures

pub plain-requires-2 : goal.plain-requires-2
plain-requires-2 c =
    written_fitting c.args.self.now (scope_of c.scope-scope.result) (raw_tree c.args.second.now) (written_tree c.in_ok-second.second) c.requires.draft c.scope-scope.ensures.scope c.in_ok-second.ensures
