use Rattle.std.proofs.Common.{◌≡◌, ◌+◌, ◌≤◌, length, drop}
use Rattle.model_text.specs.Statements.{statements_of, all_statements}
use Rattle.goal_model.specs.Drafts.{draft_of}
use Rattle.goal_model.specs.WholeDrafts.{IsDraft}
use Rattle.goal_model.specs.Resolution.{outcome_from, outcome_of}
use Rattle.goal_model.proofs.resolution.walk.Given as goal

abbrev pub invariant-statements : goal.invariant-statements
invariant-statements l = record {
  walked : outcome_from (draft_of l.draft) (l.place + 1) (all_statements (drop l.place l.raw.statements.items)) ≡ outcome_of (statements_of l.raw);
  draft : IsDraft (draft_of l.draft);
  few : length (draft_of l.draft).model.members ≤ l.place;
}
