-- Which bytes are a name: their form, their length, and no keyword.
use Rattle.std.specs.Prelude.{◌≡◌, ℕ, ◌≤◌, Bool, true, false, ◌&&◌, ◌||◌, List, [], ◌∷◌, length, None, ◌==◌}
use Rattle.std.specs.Char.{is_ascii_alphabetic, is_ascii_alphanumeric}
use Rattle.std.specs.List.{list_all}
use Rattle.state_space.specs.Keywords.{keyword_of}

-- a letter, a digit or `_`
abbrev pub is_word_byte : ℕ → Bool
is_word_byte b = is_ascii_alphanumeric b || b == 95

-- a letter, and then letters, digits and `_`
abbrev pub has_name_form : List ℕ → Bool
has_name_form [] = false
has_name_form (b ∷ bs) = is_ascii_alphabetic b && list_all is_word_byte bs

-- at most 40 bytes of the form of a name, and no keyword
pub record IsName (bytes : List ℕ) : Type 0 where
  pub form : has_name_form bytes ≡ true
  pub short : length bytes ≤ 40
  pub free : keyword_of bytes ≡ None
