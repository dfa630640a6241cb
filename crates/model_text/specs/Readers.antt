-- Readers made of readers: one part behind another, one way or another, and lists.
use Rattle.std.specs.Prelude.{ℕ, zero, suc, List, [], ◌∷◌, ◌++◌, length, Ok, Err}
use Rattle.state_space.specs.declared.keyword.Keyword.{Keyword}
use Rattle.model_tokens.specs.declared.token.Sign.{Sign}
use Rattle.model_tokens.specs.declared.token.Sign.TheVariants.{Comma}
use Rattle.model_tokens.specs.Tokens.{TokenForm}
use Rattle.model_text.specs.Reading.{Reading, and_then, behind_keyword, behind_mark}
use Rattle.model_text.specs.FormulaReading.{if_behind, read_as}

-- what is read from the front of the tokens
abbrev pub Reader : Type 0 → Type 0
Reader A = List TokenForm → Reading A

-- a part, and the next one behind it
unfoldable pub after : {A B : Type 0} → Reader A → (A → Reader B) → Reader B
after read next ts = and_then (read ts) next

-- what is read counts as something else
unfoldable pub counted : {A B : Type 0} → (A → B) → Reader A → Reader B
counted make read ts = read_as make (read ts)

-- one way behind a keyword, and another where it does not come
unfoldable pub if_word : {A : Type 0} → Keyword → (here other : Reader A) → Reader A
if_word word here other ts = if_behind (behind_keyword word ts) here (other ts)

-- one way behind a sign, and another where it does not come
unfoldable pub if_sign : {A : Type 0} → Sign → (here other : Reader A) → Reader A
if_sign sign here other ts = if_behind (behind_mark sign ts) here (other ts)

-- nothing is read
abbrev pub giving : {A : Type 0} → A → Reader A
giving x ts = Ok (x, ts)

-- no text goes on here
abbrev pub nowhere : {A : Type 0} → Reader A
nowhere ts = Err ts

-- parts behind those that are read already, each behind a sign: the number bounds how many
unfoldable pub more_at : {A : Type 0} → Sign → Reader A → ℕ → List A → Reader (List A)
more_at sign one zero front ts = Ok (front, ts)
more_at sign one (suc n) front ts =
    if_behind (behind_mark sign ts) (λ us. and_then (one us) (λ x rest. more_at sign one n (front ++ x ∷ []) rest)) (Ok (front, ts))

-- parts with commas between them
unfoldable pub listed_at : {A : Type 0} → Reader A → Reader (List A)
listed_at one ts = and_then (one ts) (λ x rest. more_at Comma one (length rest) (x ∷ []) rest)
