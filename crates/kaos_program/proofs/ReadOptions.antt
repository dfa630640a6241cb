-- Options, read one after the other.
use Rattle.std.proofs.Common.{◌≡◌, refl, ℕ, ◌<◌, arith, Bool, true, false, if◌then◌else◌, List, [], ◌∷◌, length, map, String, string_bytes, Option, Some, None, option_map, option_and_then}
use Rattle.std.specs.Global.{Global}
use Rattle.std.specs.List.{list_any}
use Rattle.kaos_program.specs.Commands.{OptionForm}
use Rattle.kaos_program.specs.Options.{OptionsForm, is_equals_sign, option_of, option_in_one, first_option, before, options_in, with_option, with_options}

-- an option, and those of the words behind it
abbrev and_behind : OptionForm × List (List ℕ) → Option (List OptionForm)
and_behind (o, behind) = option_map (λ os. o ∷ os) (options_in behind)

-- an option is before others, or there is none
before_behind : (first : Option OptionForm) (behind : List (List ℕ))
    → before first (options_in behind) ≡ option_and_then and_behind (option_map (λ o. (o, behind)) first)
before_behind None behind = refl
before_behind (Some o) behind = refl

-- the options of words are the first one, and those of the words behind it
first_and_behind : (word : List ℕ) (words : List (List ℕ))
    → options_in (word ∷ words) ≡ option_and_then and_behind (first_option (word ∷ words))
first_and_behind word [] = by (list_any is_equals_sign word)
  where
    by : (b : Bool) → (if b then before (option_in_one word) (Some []) else None)
        ≡ option_and_then and_behind (if b then option_map (λ o. (o, [])) (option_in_one word) else None)
    by true = before_behind (option_in_one word) []
    by false = refl
first_and_behind word (value ∷ words) = by (list_any is_equals_sign word)
  where
    by : (b : Bool) → (if b then before (option_in_one word) (options_in (value ∷ words)) else before (option_of word value) (options_in words))
        ≡ option_and_then and_behind
        (if b then option_map (λ o. (o, value ∷ words)) (option_in_one word) else option_map (λ o. (o, words)) (option_of word value))
    by true = before_behind (option_in_one word) (value ∷ words)
    by false = before_behind (option_of word value) words

-- words that begin with no option give nothing
pub none_first : (options : OptionsForm) (words : List (String Global))
    → 0 < length words → None ≡ first_option (map string_bytes words)
    → option_and_then (with_options options) (options_in (map string_bytes words)) ≡ None
none_first options [] some none = let never : ⊥ = omega arith in absurd never
none_first options (word ∷ words) some none = rw (first_and_behind (string_bytes word) (map string_bytes words), ← none) refl

-- words that begin with an option give what the words behind it give with it
pub one_first : (options : OptionsForm) (words : List (List ℕ)) (o : OptionForm) (behind : List (List ℕ))
    → Some (o, behind) ≡ first_option words
    → option_and_then (with_options options) (options_in words)
    ≡ option_and_then (λ more. option_and_then (with_options more) (options_in behind)) (with_option options o)
one_first options [] o behind first = cc
one_first options (word ∷ words) o behind first =
    rw (first_and_behind word words, ← first) (by (options_in behind) (with_option options o) refl)
  where
    by : (rest : Option (List OptionForm)) (more : Option OptionsForm) → with_option options o ≡ more
        → option_and_then (with_options options) (option_map (λ os. o ∷ os) rest)
        ≡ option_and_then (λ more. option_and_then (with_options more) rest) more
    by None None e = refl
    by None (Some more) e = refl
    by (Some os) more e = rw e refl
