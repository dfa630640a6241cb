-- The options that the reader finds are those that the words spell.
use Rattle.std.proofs.Common.{◌≡◌, refl, sym, ap, subst, ◌∙◌, ℕ, ⊎_elim, Bool, true, false, if◌then◌else◌, List, [], ◌∷◌, ◌++◌, Option, Some, None, option_map, bytes_eq}
use Rattle.std.specs.Prelude.{codes}
use Rattle.std.specs.List.{list_any, before_first, after_first}
use Rattle.std.proofs.lemmas.Slice.Eq.{bytes_eq-Decides}
use Rattle.kaos_program.specs.Commands.{OptionForm, a_budget, a_form, a_goal, a_depth, name_of, SpellsValue, SpellsOption, two_words, one_word, SpellsOptions, no_option, an_option}
use Rattle.kaos_program.specs.Options.{number_named, form_named, option_of, is_equals_sign, option_in_one, before, options_in}
use Rattle.kaos_program.proofs.FoundValues.{value_in, chosen, mapped}
use Rattle.kaos_program.proofs.SpelledValues.{number_spelled, number_read, form_spelled, form_read}
use Rattle.kaos_program.proofs.CutWords.{equals_first}

-- a name and a value that spell an option
abbrev AreOf : OptionForm → (name value : List ℕ) → Type 0
AreOf o name value = (name ≡ codes "--" ++ name_of o) × SpellsValue o value

-- an option that is read of a name and a value is spelled so
option_spelled : (name value : List ℕ) (o : OptionForm) → option_of name value ≡ Some o → AreOf o name value
option_spelled name value o e =
    ⊎_elim budget (λ other. ⊎_elim form (λ other. ⊎_elim goal (λ other. ⊎_elim depth (λ none. let never : None ≡ Some o = none.1 in cc)
    (chosen (bytes_eq name (codes "--depth")) _ _ o other.1)) (chosen (bytes_eq name (codes "--goal")) _ _ o other.1))
    (chosen (bytes_eq name (codes "--form")) _ _ o other.1)) (chosen (bytes_eq name (codes "--budget")) _ _ o e)
  where
    named : (word : List ℕ) → bytes_eq name word ≡ true → name ≡ word
    named word is = (bytes_eq-Decides name word).0 is

    budget : (bytes_eq name (codes "--budget") ≡ true) × (option_map a_budget (number_named 200000 value) ≡ Some o) → AreOf o name value
    budget (is, e) =
        let read = mapped a_budget (number_named 200000 value) o e in
        subst (λ (p : OptionForm). AreOf p name value) (sym read.2) (named (codes "--budget") is, number_spelled 200000 value read.0 read.1)

    form : (bytes_eq name (codes "--form") ≡ true) × (option_map a_form (form_named value) ≡ Some o) → AreOf o name value
    form (is, e) =
        let read = mapped a_form (form_named value) o e in
        subst (λ (p : OptionForm). AreOf p name value) (sym read.2) (named (codes "--form") is, form_spelled value read.0 read.1)

    goal : (bytes_eq name (codes "--goal") ≡ true) × (Some (a_goal value) ≡ Some o) → AreOf o name value
    goal (is, e) = subst (λ (p : OptionForm). AreOf p name value) (value_in (a_goal value) o e) (named (codes "--goal") is, refl)

    depth : (bytes_eq name (codes "--depth") ≡ true) × (option_map a_depth (number_named 6 value) ≡ Some o) → AreOf o name value
    depth (is, e) =
        let read = mapped a_depth (number_named 6 value) o e in
        subst (λ (p : OptionForm). AreOf p name value) (sym read.2) (named (codes "--depth") is, number_spelled 6 value read.0 read.1)

-- an option that is spelled so is read of its name and value
option_read : (o : OptionForm) (value : List ℕ) → SpellsValue o value → option_of (codes "--" ++ name_of o) value ≡ Some o
option_read (a_budget nodes) value spelled = ap (option_map a_budget) (number_read 200000 value nodes spelled)
option_read (a_form form) value spelled = rw spelled (ap (option_map a_form) (form_read form))
option_read (a_goal name) value spelled = ap (λ (v : List ℕ). Some (a_goal v)) spelled
option_read (a_depth levels) value spelled = ap (option_map a_depth) (number_read 6 value levels spelled)

-- a name has no `=`
name_whole : (o : OptionForm) → list_any is_equals_sign (codes "--" ++ name_of o) ≡ false
name_whole (a_budget nodes) = refl
name_whole (a_form form) = refl
name_whole (a_goal name) = refl
name_whole (a_depth levels) = refl

-- an option in one word has one, and is cut there into its name and value
one_cut : (o : OptionForm) (value : List ℕ) → let word : List ℕ = codes "--" ++ name_of o ++ codes "=" ++ value in
    (list_any is_equals_sign word ≡ true)
    × (before_first is_equals_sign word ≡ codes "--" ++ name_of o) × (after_first is_equals_sign word ≡ value)
one_cut (a_budget nodes) value = (refl, refl, refl)
one_cut (a_form form) value = (refl, refl, refl)
one_cut (a_goal name) value = (refl, refl, refl)
one_cut (a_depth levels) value = (refl, refl, refl)

-- and so read
one_read : (o : OptionForm) (value : List ℕ) → SpellsValue o value
    → option_in_one (codes "--" ++ name_of o ++ codes "=" ++ value) ≡ Some o
one_read o value spelled = rw ((one_cut o value).1, (one_cut o value).2) (option_read o value spelled)

-- an option that is read of one word is spelled so
one_spelled : (word : List ℕ) (o : OptionForm)
    → list_any is_equals_sign word ≡ true → option_in_one word ≡ Some o → SpellsOption o (word ∷ [])
one_spelled word o any e =
    let value : List ℕ = after_first is_equals_sign word in
    let spelled = option_spelled (before_first is_equals_sign word) value o e in
    let word_is : word ≡ codes "--" ++ name_of o ++ codes "=" ++ value =
    equals_first word any ∙ ap (λ (name : List ℕ). name ++ codes "=" ++ value) spelled.0 in
    subst (λ (w : List ℕ). SpellsOption o (w ∷ [])) (sym word_is) (one_word value spelled.1)

-- so is one of two words
two_spelled : (name value : List ℕ) (o : OptionForm) → option_of name value ≡ Some o → SpellsOption o (name ∷ value ∷ [])
two_spelled name value o e =
    let spelled = option_spelled name value o e in
    subst (λ (n : List ℕ). SpellsOption o (n ∷ value ∷ [])) (sym spelled.0) (two_words value spelled.1)

-- an option before others, and the others
fronted : (first : Option OptionForm) (rest : Option (List OptionForm)) (os : List OptionForm) → before first rest ≡ Some os
    → (o : OptionForm) × (more : List OptionForm) × (first ≡ Some o) × (rest ≡ Some more) × (os ≡ o ∷ more)
fronted None rest os e = cc
fronted (Some o) None os e = cc
fronted (Some o) (Some more) os e = (o, more, refl, refl, value_in os (o ∷ more) (sym e))

-- options that are read are spelled so
pub options_spelled : (words : List (List ℕ)) (os : List OptionForm) → options_in words ≡ Some os → SpellsOptions os words
options_spelled [] os e = subst (λ (os : List OptionForm). SpellsOptions os []) (value_in [] os e) no_option
options_spelled (word ∷ []) os e = by (list_any is_equals_sign word) refl e
  where
    by : (b : Bool) → list_any is_equals_sign word ≡ b
        → (if b then before (option_in_one word) (Some []) else None) ≡ Some os → SpellsOptions os (word ∷ [])
    by true any e =
        let parts = fronted (option_in_one word) (Some []) os e in
        let rest = subst (λ (os : List OptionForm). SpellsOptions os []) (value_in [] parts.1 parts.3) no_option in
        subst (λ (os : List OptionForm). SpellsOptions os (word ∷ [])) (sym parts.4)
        (an_option parts.0 (word ∷ []) parts.1 [] (one_spelled word parts.0 any parts.2) rest)
    by false any e = cc
options_spelled (word ∷ value ∷ words) os e =
    by (list_any is_equals_sign word) refl e (options_spelled (value ∷ words)) (options_spelled words)
  where
    by : (b : Bool) → list_any is_equals_sign word ≡ b
        → (if b then before (option_in_one word) (options_in (value ∷ words)) else before (option_of word value) (options_in words)) ≡ Some os
        → ((os : List OptionForm) → options_in (value ∷ words) ≡ Some os → SpellsOptions os (value ∷ words))
        → ((os : List OptionForm) → options_in words ≡ Some os → SpellsOptions os words)
        → SpellsOptions os (word ∷ value ∷ words)
    by true any e behind_one behind_two =
        let parts = fronted (option_in_one word) (options_in (value ∷ words)) os e in
        subst (λ (os : List OptionForm). SpellsOptions os (word ∷ value ∷ words)) (sym parts.4)
        (an_option parts.0 (word ∷ []) parts.1 (value ∷ words) (one_spelled word parts.0 any parts.2) (behind_one parts.1 parts.3))
    by false any e behind_one behind_two =
        let parts = fronted (option_of word value) (options_in words) os e in
        subst (λ (os : List OptionForm). SpellsOptions os (word ∷ value ∷ words)) (sym parts.4)
        (an_option parts.0 (word ∷ value ∷ []) parts.1 words (two_spelled word value parts.0 parts.2) (behind_two parts.1 parts.3))

-- an option in one word, before others
one_before : (word : List ℕ) (words : List (List ℕ)) (o : OptionForm) (os : List OptionForm)
    → list_any is_equals_sign word ≡ true → option_in_one word ≡ Some o → options_in words ≡ Some os
    → options_in (word ∷ words) ≡ Some (o ∷ os)
one_before word [] o os any one rest = rw (any, one) (ap (λ (os : List OptionForm). Some (o ∷ os)) (value_in [] os rest))
one_before word (value ∷ words) o os any one rest = rw (any, one, rest) refl

-- options that are spelled so are read
pub options_read : (os : List OptionForm) (words : List (List ℕ)) → SpellsOptions os words → options_in words ≡ Some os
options_read _ _ no_option = refl
options_read _ _ (an_option o front os rest first more) = by front first (options_read os rest more)
  where
    by : (front : List (List ℕ)) → SpellsOption o front → options_in rest ≡ Some os → options_in (front ++ rest) ≡ Some (o ∷ os)
    by front (two_words value spelled) behind = rw (name_whole o, option_read o value spelled, behind) refl
    by front (one_word value spelled) behind =
        one_before (codes "--" ++ name_of o ++ codes "=" ++ value) rest o os (one_cut o value).0 (one_read o value spelled) behind
