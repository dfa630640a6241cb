-- What is still to be written of a list, behind a part of it.
use Rattle.std.specs.Prelude.{ℕ, ◌+◌, Bool, true, false, List, [], ◌∷◌, Option, None, Some}
use Rattle.std.specs.List.{flat_map}
use Rattle.tableau_rules.specs.Sets.{numbers_from}
use Rattle.elimination_cert.specs.CertTexts.{or_dash}

-- the texts that come, the first of the whole list or not
abbrev pub more_texts : Bool → List (List ℕ) → List ℕ
more_texts true texts = or_dash texts
more_texts false texts = flat_map (λ y. 44 ∷ y) texts

-- the numbers of a set from the next one on, if there is one
abbrev pub numbers_left : List ℕ → Option ℕ → List ℕ
numbers_left set None = []
numbers_left set (Some y) = y ∷ numbers_from (y + 1) set
