-- The lines that say why a text is refused, or a goal that is asked for.
use Rattle.std.specs.Prelude.{ℕ, List, [], ◌++◌, codes, decimal}
use Rattle.model_text.specs.declared.limits.LimitKind.{LimitKind}
use Rattle.model_text.specs.declared.limits.LimitKind.TheVariants.{Operators, Statements, Links, Parts, NameLength, Number, Bound, Depth}
use Rattle.model_text.specs.declared.text.TextRefusal.{TextRefusal}
use Rattle.model_text.specs.declared.text.TextRefusal.TheVariants.{BadByte, Limit, Syntax}
use Rattle.model_text.specs.declared.text.TextRefusal.TheVariants as text_refusals
use Rattle.goal_model.specs.declared.refusal.RefusalKind.{RefusalKind}
use Rattle.goal_model.specs.declared.refusal.RefusalKind.TheVariants.{DuplicateName, UnknownName, WrongKind, BadValue, BadRange, LongName, TooManyVars, TooWide, NotState, TwoControllers, Cycle, TooLarge}

-- the word by which a line of refusal names a limit
abbrev pub limit_name : LimitKind → List ℕ
limit_name Operators = codes "Operators"
limit_name Statements = codes "Statements"
limit_name Links = codes "Links"
limit_name Parts = codes "Parts"
limit_name NameLength = codes "NameLength"
limit_name Number = codes "Number"
limit_name Bound = codes "Bound"
limit_name Depth = codes "Depth"

-- the line for bytes that spell no statements within the limits, where places of bytes are counted from 0; for want of memory nothing is written
abbrev pub text_refusal : TextRefusal → List ℕ
text_refusal (BadByte at) = codes "refused: bad byte at " ++ decimal at ++ codes "\n"
text_refusal (Limit kind) = codes "refused: limit " ++ limit_name kind ++ codes "\n"
text_refusal (Syntax at) = codes "refused: syntax at byte " ++ decimal at ++ codes "\n"
text_refusal text_refusals.Memory = []

-- the word by which a line of refusal names what is wrong with a statement
abbrev pub kind_name : RefusalKind → List ℕ
kind_name DuplicateName = codes "DuplicateName"
kind_name UnknownName = codes "UnknownName"
kind_name WrongKind = codes "WrongKind"
kind_name BadValue = codes "BadValue"
kind_name BadRange = codes "BadRange"
kind_name LongName = codes "LongName"
kind_name TooManyVars = codes "TooManyVars"
kind_name TooWide = codes "TooWide"
kind_name NotState = codes "NotState"
kind_name TwoControllers = codes "TwoControllers"
kind_name Cycle = codes "Cycle"
kind_name TooLarge = codes "TooLarge"

-- `refused: statement NUMBER: WORDS`, and a line feed; statements are counted from 1
abbrev pub statement_refusal : ℕ → List ℕ → List ℕ
statement_refusal number words = codes "refused: statement " ++ decimal number ++ codes ": " ++ words ++ codes "\n"

-- the line for statements that make no model: what is wrong, and the name at which it is
abbrev pub model_refusal : RefusalKind → ℕ → List ℕ → List ℕ
model_refusal kind statement name = statement_refusal statement (kind_name kind ++ codes " " ++ name)

-- the line for a goal that a command names and the model has not
abbrev pub no_goal : List ℕ → List ℕ
no_goal name = codes "refused: no goal " ++ name ++ codes "\n"

-- the line for a text of over 1,048,576 bytes, of which no token is read
abbrev pub too_long_text : List ℕ
too_long_text = codes "refused: longer than 1048576 bytes\n"
