-- A line of the written form as far as it has come, and what each token adds to it.
use Rattle.std.specs.Prelude.{ℕ, Bool, ◌||◌, List, [], ◌∷◌, ◌++◌, codes, flat_map, Option, Some, None, if◌then◌else◌}
use Rattle.model_text.specs.declared.level.Level as code
use Rattle.model_text.specs.declared.level.Level.TheVariants as levels
use Rattle.model_tokens.specs.declared.token.Sign.TheVariants.{Semicolon, Comma}
use Rattle.model_tokens.specs.Tokens.{TokenForm, mark}
use Rattle.model_text.specs.RawTrees.{RawTree, truth, falsity, bare, compares, among, bare_of, compares_of, among_of, neg, next, eventually, always, eventually_within, always_within, conj, disj, implies, iff, entails, until, unless, release, until_within, unless_within, release_within, for_all, for_some}
use Rattle.model_text.specs.FormulaGrammar.{Level, whole_level, iff_level, implies_level, or_level, and_level, tempo_level, prefix_level, primary_level}
use Rattle.model_text.specs.Layout.{gap, token_bytes, holds_on}
use Rattle.model_text.specs.Writing.{within_tokens, statement_tokens}
use Rattle.model_text.specs.Statements.{StatementForm}

-- the bytes of a line, and whether no space stands behind them
pub record LineForm : Type 0 where
  pub bytes : List ℕ
  pub held : Bool

-- a line with the bytes of a token behind it, which may close up, and which may hold on
abbrev pub with_bytes : LineForm → (closes : Bool) → List ℕ → (holds : Bool) → LineForm
with_bytes line closes bytes holds = record { bytes = line.bytes ++ (if line.held || closes then [] else codes " ") ++ bytes; held = holds }

-- a line with a token behind it
unfoldable pub with_token : LineForm → TokenForm → LineForm
with_token line t = record { bytes = line.bytes ++ gap line.held t ++ token_bytes t; held = holds_on t }

-- a line with tokens behind it
abbrev pub with_tokens : LineForm → List TokenForm → LineForm
with_tokens line [] = line
with_tokens line (t ∷ ts) = with_tokens (with_token line t) ts

-- the tokens of a statement with its semicolon
abbrev pub ended_tokens : StatementForm → List TokenForm
ended_tokens s = statement_tokens s ++ mark Semicolon ∷ []

-- parts, each behind a comma
abbrev pub behind_commas : {A : Type 0} → (A → List TokenForm) → List A → List TokenForm
behind_commas tokens = flat_map (λ x. mark Comma ∷ tokens x)

-- a bound in steps, where there is one
abbrev pub bound_tokens : Option ℕ → List TokenForm
bound_tokens None = []
bound_tokens (Some d) = within_tokens d

-- the level of the grammar that a place asks for
abbrev pub level_of : code.Level → Level
level_of levels.Whole = whole_level
level_of levels.Iff = iff_level
level_of levels.Implies = implies_level
level_of levels.Or = or_level
level_of levels.And = and_level
level_of levels.Tempo = tempo_level
level_of levels.Prefix = prefix_level
level_of levels.Primary = primary_level

-- the level of the rule that a formula is of
abbrev pub own_level : RawTree → Level
own_level truth = primary_level
own_level falsity = primary_level
own_level (bare x) = primary_level
own_level (compares x r v) = primary_level
own_level (among x vs) = primary_level
own_level (bare_of f x) = primary_level
own_level (compares_of f x r v) = primary_level
own_level (among_of f x vs) = primary_level
own_level (for_all x e a) = prefix_level
own_level (for_some x e a) = prefix_level
own_level (neg a) = prefix_level
own_level (next a) = prefix_level
own_level (eventually a) = prefix_level
own_level (always a) = prefix_level
own_level (eventually_within d a) = prefix_level
own_level (always_within d a) = prefix_level
own_level (conj a b) = and_level
own_level (disj a b) = or_level
own_level (implies a b) = implies_level
own_level (iff a b) = iff_level
own_level (entails a b) = whole_level
own_level (until a b) = tempo_level
own_level (unless a b) = tempo_level
own_level (release a b) = tempo_level
own_level (until_within d a b) = tempo_level
own_level (unless_within d a b) = tempo_level
own_level (release_within d a b) = tempo_level
