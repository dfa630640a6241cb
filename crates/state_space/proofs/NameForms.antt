-- The form of a name, by the first byte and the others.
use Rattle.std.proofs.Common.{◌≡◌, ℕ, ◌≤◌, ◌&&◌, List, [], ◌∷◌, length, drop, slice_index_or, refl, arith}
use Rattle.std.specs.Char.{is_ascii_alphabetic}
use Rattle.std.specs.List.{list_all}
use Rattle.state_space.specs.Names.{is_word_byte, has_name_form}

pub form_by_parts : (bytes : List ℕ) → 1 ≤ length bytes → has_name_form bytes ≡ (is_ascii_alphabetic (slice_index_or bytes 0 0) && list_all is_word_byte (drop 1 bytes))
form_by_parts [] h = absurd (omega arith)
form_by_parts (b ∷ bs) h = refl
