use Rattle.std.proofs.Common.{subst}
use Rattle.goal_model.specs.declared.refusal.ModelRefusal.{ModelRefusal}
use Rattle.goal_model.specs.Resolution.{outcome_of}
use Rattle.goal_model.specs.Outcomes.{Refuses}
use Rattle.kaos_program.proofs.Answering.{model_line}
use Rattle.kaos_program.proofs.reading.refused_statements.Goals as goal

pub returns-in_ok-model_refusal-in-Refused : goal.returns-in_ok-model_refusal-in-Refused
returns-in_ok-model_refusal-in-Refused c = record {
  read = λ bytes ss size readable cause.
      model_line bytes ss _ _ _ _ size readable (subst (λ (r : ModelRefusal). Refuses r (outcome_of ss)) c.in-Refused.is cause) c.in_ok-model_refusal-in-Refused.ensures;
}
