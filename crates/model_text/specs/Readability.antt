-- When a text is readable, and why it is refused where it is not. Of the causes the first that applies is answered.
use Rattle.std.specs.Prelude.{◌≡◌, ℕ, ◌<◌, ◌≤◌, Bool, true, false, List, [], ◌∷◌, Option, Some, None, if◌then◌else◌}
use Rattle.model_text.specs.declared.limits.LimitKind.{LimitKind}
use Rattle.model_text.specs.declared.limits.LimitKind.TheVariants.{Operators}
use Rattle.model_text.specs.declared.text.TextRefusal.{TextRefusal}
use Rattle.model_text.specs.declared.text.TextRefusal.TheVariants.{BadByte, Limit, Syntax}
use Rattle.model_tokens.specs.Tokens.{TokenForm, bad_byte, Placed}
use Rattle.model_tokens.specs.Lexing.{tokens_of}
use Rattle.model_tokens.specs.Versions.{text_forms}
use Rattle.model_text.specs.Statements.{StatementForm}
use Rattle.model_text.specs.Grammar.{Spells}
use Rattle.model_text.specs.Places.{IsFaultPlace}
use Rattle.model_text.specs.Limits.{most_operators, passed_limit}

-- a byte that no token can have
abbrev pub is_bad : TokenForm → Bool
is_bad bad_byte = true
is_bad _ = false

-- the place of the first byte that no token has, outside comments
abbrev pub first_bad : List Placed → Option ℕ
first_bad [] = None
first_bad (t ∷ ts) = if is_bad t.form then Some t.at else first_bad ts

-- a text whose bytes may all stand in a text
abbrev pub HasNoBadByte : List ℕ → Type 0
HasNoBadByte bytes = first_bad (tokens_of bytes) ≡ None

-- no byte of the text is bad, the bytes spell this list of statements, and no limit is passed
pub record IsReadable (bytes : List ℕ) (statements : List StatementForm) : Type 0 where
  pub no_bad_byte : HasNoBadByte bytes
  pub spelled : Spells bytes statements
  pub few_operators : most_operators 0 (text_forms bytes) ≤ 500
  pub within_limits : passed_limit (text_forms bytes) statements ≡ None

-- why a text is refused: a bad byte, by its place; too many operators; no statements, by the place of the fault; another limit
pub data Refuses (bytes : List ℕ) : TextRefusal → Type 0 where
  a_bad_byte : (at : ℕ) → first_bad (tokens_of bytes) ≡ Some at → Refuses bytes (BadByte at)
  many_operators : HasNoBadByte bytes → 500 < most_operators 0 (text_forms bytes) → Refuses bytes (Limit Operators)
  no_statements : (at : ℕ) → HasNoBadByte bytes → most_operators 0 (text_forms bytes) ≤ 500 → ((ss : List StatementForm) → Spells bytes ss → ⊥) → IsFaultPlace bytes at
      → Refuses bytes (Syntax at)
  a_limit : (ss : List StatementForm) (kind : LimitKind) → HasNoBadByte bytes → most_operators 0 (text_forms bytes) ≤ 500 → Spells bytes ss → passed_limit (text_forms bytes) ss ≡ Some kind
      → Refuses bytes (Limit kind)
