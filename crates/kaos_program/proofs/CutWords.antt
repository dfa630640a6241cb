-- A word that is cut at its first `=`, as the reader cuts it.
use Rattle.std.proofs.Common.{◌≡◌, refl, sym, ap, ◌∙◌, ℕ, ◌+◌, ◌<◌, lit<, Bool, true, false, cond, not, ◌||◌, List, [], ◌∷◌, ◌++◌, map, length, get_or, append_assoc, Option, Some, None, MatchOption, option_map, Bor, String, string_bytes, arith}
use Rattle.std.specs.Prelude.{codes}
use Rattle.std.specs.Global.{Global}
use Rattle.std.specs.List.{list_any, position_or_len, before_first, after_first}
use Rattle.std.proofs.lemmas.Bool.{eqb-true}
use Rattle.std.proofs.lemmas.List.Sums.{split_at_first, passes_at_first}
use Rattle.std.proofs.lemmas.Str.Pattern.{IsSplitOnceResult, split_once_first}
use Rattle.kaos_program.specs.Options.{is_equals_sign, option_of, first_option, option_in_two}

-- an element passes where the first such place is inside
any_inside : (p : ℕ → Bool) (xs : List ℕ) → position_or_len p xs < length xs → list_any p xs ≡ true
any_inside p [] inside = let never : ⊥ = omega arith in absurd never
any_inside p (x ∷ xs) inside = here (p x) (any_inside p xs) inside
  where
    here : (b : Bool) → (position_or_len p xs < length xs → list_any p xs ≡ true)
        → cond (not b) (1 + position_or_len p xs) 0 < length (x ∷ xs) → (b || list_any p xs) ≡ true
    here true later inside = refl
    here false later inside = later (omega arith)

-- and none where it is the length
any_outside : (p : ℕ → Bool) (xs : List ℕ) → position_or_len p xs ≡ length xs → list_any p xs ≡ false
any_outside p [] outside = refl
any_outside p (x ∷ xs) outside = here (p x) (any_outside p xs) outside
  where
    here : (b : Bool) → (position_or_len p xs ≡ length xs → list_any p xs ≡ false)
        → cond (not b) (1 + position_or_len p xs) 0 ≡ length (x ∷ xs) → (b || list_any p xs) ≡ false
    here true later outside = let never : ⊥ = omega arith in absurd never
    here false later outside = later (omega arith)

-- where an element passes, the first such place is inside
any_place : (p : ℕ → Bool) (xs : List ℕ) → list_any p xs ≡ true → position_or_len p xs < length xs
any_place p [] any = cc
any_place p (x ∷ xs) any = here (p x) (any_place p xs) any
  where
    here : (b : Bool) → (list_any p xs ≡ true → position_or_len p xs < length xs)
        → (b || list_any p xs) ≡ true → cond (not b) (1 + position_or_len p xs) 0 < length (x ∷ xs)
    here true later any = omega arith
    here false later any = let lt = later any in omega arith

-- a word with an `=` is what stands before the first one, it, and what stands behind it
pub equals_first : (word : List ℕ) → list_any is_equals_sign word ≡ true
    → word ≡ before_first is_equals_sign word ++ codes "=" ++ after_first is_equals_sign word
equals_first word any =
    let inside = any_place is_equals_sign word any in
    let sign = eqb-true (get_or word (position_or_len is_equals_sign word) 0) 61 (passes_at_first is_equals_sign word 0 inside) in
    split_at_first is_equals_sign word 0 inside
    ∙ ap (λ (byte : ℕ). before_first is_equals_sign word ++ (byte ∷ after_first is_equals_sign word)) sign
    ∙ sym (append_assoc (before_first is_equals_sign word) (codes "=") (after_first is_equals_sign word))

-- a name and a value stand round the first `=` of a word
abbrev pub AreParts : (word name value : List ℕ) → Type 0
AreParts word name value =
    (list_any is_equals_sign word ≡ true) × (name ≡ before_first is_equals_sign word) × (value ≡ after_first is_equals_sign word)

-- a word is cut into its parts, and not where it has no `=`
abbrev pub IsCut : List ℕ → Option (Bor (List ℕ) × Bor (List ℕ)) → Type 0
IsCut word parts = MatchOption parts (list_any is_equals_sign word ≡ false) (λ x. AreParts word x.0.now x.1.now)

-- so does `split_once` cut it
pub cut : (word : List ℕ) (parts : Option (Bor (List ℕ) × Bor (List ℕ))) → IsSplitOnceResult 61 word parts → IsCut word parts
cut word parts cuts = by parts (split_once_first 61 word parts cuts (lit< tt))
  where
    by : (parts : Option (Bor (List ℕ) × Bor (List ℕ)))
        → MatchOption parts (position_or_len is_equals_sign word ≡ length word)
        (λ x. (position_or_len is_equals_sign word < length word)
        × (x.0.now ≡ before_first is_equals_sign word) × (x.1.now ≡ after_first is_equals_sign word))
        → IsCut word parts
    by None outside = any_outside is_equals_sign word outside
    by (Some x) (inside, name, value) = (any_inside is_equals_sign word inside, name, value)

-- the first word is an option with its value
pub in_one : (words : List (String Global)) (word : String Global) (behind : List (String Global)) (bytes name value : List ℕ)
    → words ≡ word ∷ behind → bytes ≡ string_bytes word → AreParts bytes name value
    → first_option (map string_bytes words) ≡ option_map (λ o. (o, map string_bytes behind)) (option_of name value)
in_one words word behind bytes name value words_are bytes_are (any, name_is, value_is) =
    rw (words_are, name_is, value_is, ← bytes_are, any) refl

-- the first word is a name
pub in_two : (words : List (String Global)) (word : String Global) (behind : List (String Global)) (bytes : List ℕ)
    → words ≡ word ∷ behind → bytes ≡ string_bytes word → list_any is_equals_sign bytes ≡ false
    → first_option (map string_bytes words) ≡ option_in_two bytes (map string_bytes behind)
in_two words word behind bytes words_are bytes_are none = rw (words_are, ← bytes_are, none) refl
