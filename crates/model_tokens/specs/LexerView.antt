-- The walk's state, as the definition has it.
use Rattle.std.specs.Prelude.{◌≡◌, ℕ, ◌+◌, ◌-◌, ◌<◌, ◌==◌, true, false, ⊤, List, take, drop, slice_index, if◌then◌else◌}
use Rattle.state_space.specs.Names.{is_word_byte}
use Rattle.model_tokens.specs.declared.lexer.State.{State}
use Rattle.model_tokens.specs.declared.lexer.State.TheVariants.{Between, Comment, Word, Negative, Behind}
use Rattle.model_tokens.specs.Lexing as lexing
use Rattle.model_tokens.specs.Lexing.{may_go_on}

-- what stands before a place of the text
abbrev pub seen : List ℕ → State → ℕ → lexing.Before
seen text Between at = lexing.between
seen text Comment at = lexing.comment
seen text (Word from) at = lexing.within from false (take (at - from) (drop from text))
seen text (Negative from) at = lexing.within from true (take (at - (from + 1)) (drop (from + 1) text))
seen text (Behind from) at = lexing.behind from (slice_index text from)

-- the state begins before the place
abbrev pub IsWithin : State → ℕ → Type 0
IsWithin Between at = ⊤
IsWithin Comment at = ⊤
IsWithin (Word from) at = from < at
IsWithin (Negative from) at = from + 1 < at
IsWithin (Behind from) at = from + 1 ≡ at

-- the state behind a byte that begins anew
abbrev pub fresh_code : ℕ → ℕ → State
fresh_code byte at =
    if is_word_byte byte then Word at else
    if may_go_on byte then Behind at else
    if byte == 35 then Comment else
    Between
