-- Reading from the front of a list of tokens.
use Rattle.std.specs.Prelude.{◌≡◌, ℕ, List, ◌∷◌, map, Option, Some, None, Result, Ok, Err, ⊤, ◌==◌, if◌then◌else◌}
use Rattle.state_space.specs.declared.keyword.Keyword.{Keyword}
use Rattle.state_space.specs.Keywords.{number as keyword_number}
use Rattle.model_tokens.specs.declared.token.Sign.{Sign}
use Rattle.model_tokens.specs.declared.token.Further.{Further}
use Rattle.model_text.specs.declared.cursor.Fault.{Fault}
use Rattle.model_text.specs.declared.cursor.Fault.TheVariants.{Syntax, Memory}
use Rattle.model_text.specs.declared.cursor.Cursor.{Cursor}
use Rattle.model_tokens.specs.Tokens.{TokenForm, keyword, mark, name, further, number_of, further_number, form_of}
use Rattle.model_tokens.specs.Values.{cut_name}

-- what is read and the tokens behind it, or the tokens that are left at the fault
abbrev pub Reading : Type 0 → Type 0
Reading A = Result (A × List TokenForm) (List TokenForm)

-- the next part is read from what the one before left
abbrev pub and_then : {A B : Type 0} → Reading A → (A → List TokenForm → Reading B) → Reading B
and_then (Ok x) next = next x.0 x.1
and_then (Err rest) next = Err rest

-- the tokens behind a keyword that is wanted, if it stands here
abbrev pub behind_keyword : Keyword → List TokenForm → Option (List TokenForm)
behind_keyword wanted (keyword found ∷ ts) = if keyword_number found == keyword_number wanted then Some ts else None
behind_keyword wanted _ = None

-- the tokens behind a sign that is wanted
abbrev pub behind_mark : Sign → List TokenForm → Option (List TokenForm)
behind_mark wanted (mark found ∷ ts) = if number_of found == number_of wanted then Some ts else None
behind_mark wanted _ = None

-- the tokens behind one that only version 2 has, and that is wanted
abbrev pub behind_further : Further → List TokenForm → Option (List TokenForm)
behind_further wanted (further found ∷ ts) = if further_number found == further_number wanted then Some ts else None
behind_further wanted _ = None

-- what is read where a token has to stand, and a fault where it does not
abbrev pub required : Option (List TokenForm) → List TokenForm → Reading (Unit {0})
required (Some rest) ts = Ok (tt, rest)
required None ts = Err ts

-- a keyword that has to stand here
abbrev pub keyword_at : Keyword → List TokenForm → Reading (Unit {0})
keyword_at wanted ts = required (behind_keyword wanted ts) ts

-- a sign that has to stand here
abbrev pub mark_at : Sign → List TokenForm → Reading (Unit {0})
mark_at wanted ts = required (behind_mark wanted ts) ts

-- a token that only version 2 has, and that has to stand here
abbrev pub further_at : Further → List TokenForm → Reading (Unit {0})
further_at wanted ts = required (behind_further wanted ts) ts

-- a name, by its first 40 bytes
unfoldable pub name_at : List TokenForm → Reading (List ℕ)
name_at (name bytes ∷ ts) = Ok (cut_name bytes, ts)
name_at ts = Err ts

-- the tokens that a cursor has left
abbrev pub left : Cursor → List TokenForm
left cursor = map (λ t. form_of t.kind) cursor.rest.now

-- what the code read is what the definition reads, and a fault stands at the same place; `seen` is how the definition sees it
abbrev pub Gives : {A B : Type 0} → (A → B) → Result A Fault → List TokenForm → Reading B → Type 0
Gives seen (Ok a) rest expected = expected ≡ Ok (seen a, rest)
Gives seen (Err Syntax) rest expected = expected ≡ Err rest
Gives seen (Err Memory) rest expected = ⊤
