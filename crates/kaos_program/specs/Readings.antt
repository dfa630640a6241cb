-- What the bytes of a text come to before any command.
use Rattle.std.specs.Prelude.{ℕ, List}
use Rattle.model_text.specs.Statements.{statements_of}
use Rattle.goal_model.specs.ModelViews.{model_of}
use Rattle.kaos_program.specs.declared.reading.Reading.{Reading}
use Rattle.kaos_program.specs.declared.reading.Reading.TheVariants.{Accepted, Refused}
use Rattle.kaos_program.specs.Answering.{IsAccepted, IsRefused}

-- their statements and the model of these, or the line of a refusal
abbrev pub ReadsTo : List ℕ → Reading → Type 0
ReadsTo bytes (Accepted raw model) = IsAccepted bytes (statements_of raw) (model_of model)
ReadsTo bytes (Refused line) = IsRefused bytes line.items
