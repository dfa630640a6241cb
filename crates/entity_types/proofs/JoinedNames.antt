-- Joined names: each is a name, and they are distinct where the members are.
use Rattle.std.proofs.Common.{◌≡◌, ◌≢◌, ℕ, ◌<◌, ◌≤◌, Bool, true, false, ◌||◌, List, [], ◌∷◌, ◌++◌, length, map, take, get_or, Option, Some, None, refl, sym, ap, ◌∙◌, subst, arith, ⊎_elim, ◌↔◌, Contains, AllPairs, bytes_eq}
use Rattle.std.specs.Prelude.{◌==◌}
use Rattle.std.specs.Char.{is_ascii_alphabetic, is_ascii_digit, is_ascii_uppercase, is_ascii_lowercase}
use Rattle.std.specs.List.{list_any, list_all, position_or_len}
use Rattle.std.proofs.lemmas.Bool.{false≢true, true≢false, and_parts, and_from, or_right, ltb-false, lt-ltb, cases_lt, cond-true, false_from_ne_true}
use Rattle.std.proofs.lemmas.List.{append_cancel_left, length-map, get_or-map, get_or-take, length-take-le}
use Rattle.std.proofs.lemmas.List.Elements.{Contains-append_cases}
use Rattle.std.proofs.lemmas.List.Folds.{list_all-append, list_any_at}
use Rattle.std.proofs.lemmas.List.Sums.{fails_before_first}
use Rattle.std.proofs.lemmas.Map.Views.{Contains-from_any}
use Rattle.std.proofs.lemmas.Option.{none-some}
use Rattle.std.proofs.lemmas.Slice.Eq.{bytes_eq-Decides}
use Rattle.state_space.specs.declared.keyword.Keyword.{Keyword}
use Rattle.state_space.specs.declared.keyword.Keyword.TheVariants as keys
use Rattle.state_space.specs.Keywords.{spelling, keyword_of}
use Rattle.state_space.specs.Names.{IsName, is_word_byte, has_name_form}
use Rattle.state_space.proofs.Spellings.{spelling_of_keyword}
use Rattle.entity_types.specs.Joined.{joined_name, joined_names, is_long, first_taken}
use Rattle.entity_types.specs.Attributes.{is_some_long}

-- ---- a joined name is a name
-- 95 is `_`, which no keyword has
keyword_byte : (k : Keyword) → list_any (λ b. b == 95) (spelling k) ≡ false
keyword_byte keys.Kaos = refl
keyword_byte _ = refl

-- a joined name has one
joined_byte : (attr member : List ℕ) → list_any (λ b. b == 95) (joined_name attr member) ≡ true
joined_byte [] member = refl
joined_byte (b ∷ bs) member = or_right (b == 95) (list_any (λ c. c == 95) (joined_name bs member)) (joined_byte bs member)

-- no keyword is found where none can be
none_from : (found : Option Keyword) → ((k : Keyword) → found ≡ Some k → ⊥) → found ≡ None
none_from (Some k) h = absurd (h k refl)
none_from None h = refl

-- so it is no keyword
joined_keyword : (attr member : List ℕ) → keyword_of (joined_name attr member) ≡ None
joined_keyword attr member =
    none_from (keyword_of (joined_name attr member))
    (λ k e. true≢false (sym (joined_byte attr member) ∙ ap (list_any (λ b. b == 95)) (spelling_of_keyword (joined_name attr member) k e) ∙ keyword_byte k))

-- a letter is one of a word's bytes
letter_passes : (digit upper lower line : Bool) → (upper || lower) ≡ true → (((digit || upper) || lower) || line) ≡ true
letter_passes true upper lower line h = refl
letter_passes false true lower line h = refl
letter_passes false false true line h = refl
letter_passes false false false line h = absurd (false≢true h)

-- a name's bytes are those of words
name_bytes : (name : List ℕ) → has_name_form name ≡ true → list_all is_word_byte name ≡ true
name_bytes [] h = refl
name_bytes (b ∷ bs) h =
    let parts = and_parts (is_ascii_alphabetic b) (list_all is_word_byte bs) h in
    and_from (is_word_byte b) (list_all is_word_byte bs) (letter_passes (is_ascii_digit b) (is_ascii_uppercase b) (is_ascii_lowercase b) (b == 95) parts.0) parts.1

-- it has the form of a name
joined_form : (attr member : List ℕ) → has_name_form attr ≡ true → has_name_form member ≡ true → has_name_form (joined_name attr member) ≡ true
joined_form [] member h g = absurd (false≢true h)
joined_form (b ∷ bs) member h g =
    let parts = and_parts (is_ascii_alphabetic b) (list_all is_word_byte bs) h in
    and_from (is_ascii_alphabetic b) (list_all is_word_byte (bs ++ 95 ∷ member)) parts.0 (list_all-append is_word_byte bs (95 ∷ member) ∙ and_from (list_all is_word_byte bs) (list_all is_word_byte (95 ∷ member)) parts.1 (name_bytes member g))

-- where it is not too long, it is a name
pub joined_is_name : (attr member : List ℕ) → IsName attr → IsName member → is_long (joined_name attr member) ≡ false → IsName (joined_name attr member)
joined_is_name attr member a m short =
    record {
      form = joined_form attr member a.form m.form;
      short = ltb-false 40 (length (joined_name attr member)) short;
      free = joined_keyword attr member;
    }

-- ---- the joined names of a type
-- a joined name tells its member
joined_same : (attr a b : List ℕ) → joined_name attr a ≡ joined_name attr b → a ≡ b
joined_same attr a b e = let behind : 95 ∷ a ≡ 95 ∷ b = append_cancel_left attr (95 ∷ a) (95 ∷ b) e in cc

-- members of distinct names have distinct joined names
pub joined_apart : (attr : List ℕ) (members : List (List ℕ)) → AllPairs (λ a b. a ≢ b) members → AllPairs (λ a b. a ≢ b) (joined_names attr members)
joined_apart attr members apart i j d l inside e =
    let late : j < length members = omega (arith, length-map members (joined_name attr)) in
    let early : i < length members = omega arith in
    apart i j d l late (joined_same attr (get_or members i d) (get_or members j d) (sym (get_or-map (joined_name attr) members i d d early) ∙ e ∙ get_or-map (joined_name attr) members j d d late))

-- as many copies of one value
pub same_copies : {X : Type 0} (x : X) (attr : List ℕ) (members : List (List ℕ)) → map (λ n. x) (joined_names attr members) ≡ map (λ m. x) members
same_copies x attr [] = refl
same_copies x attr (m ∷ ms) = ap (λ xs. x ∷ xs) (same_copies x attr ms)

-- where no joined name is long, each is short
pub short_at : (attr : List ℕ) (members : List (List ℕ)) (i : ℕ) (member : List ℕ) → is_some_long attr members ≡ false → i < length members → member ≡ get_or members i member → is_long (joined_name attr member) ≡ false
short_at attr members i member short l is =
    let test = λ (m : List ℕ). is_long (joined_name attr m) in
    false_from_ne_true (test member)
    (λ e. true≢false (sym (list_any_at test members i member l (ap test (sym is) ∙ e)) ∙ short))

-- ---- joined names in a space
-- a test of names finds one exactly where it is there
pub found_among : (names : List (List ℕ)) (name : List ℕ) (found : Bool) → (found ≡ true) ↔ Contains names name → found ≡ list_any (bytes_eq name) names
found_among names name true h =
    let has = h.0 refl in
    sym (list_any_at (bytes_eq name) names has.0 name has.1 ((bytes_eq-Decides name (get_or names has.0 name)).1 (sym has.2)))
found_among names name false h =
    sym (false_from_ne_true (list_any (bytes_eq name) names) (λ e. false≢true (h.1 (Contains-from_any (λ x y. (bytes_eq-Decides x y).0) name names e))))

-- where no joined name is taken, none is in the space
none_taken : (names joined : List (List ℕ)) → first_taken names joined ≡ None → (k : ℕ) (d : List ℕ) → k < length joined → ¬ (Contains names (get_or joined k d))
none_taken names joined free k d l has =
    ⊎_elim here past (cases_lt (position_or_len (λ j. list_any (bytes_eq j) names) joined) (length joined))
  where
    here : position_or_len (λ j. list_any (bytes_eq j) names) joined < length joined → ⊥
    here s = none-some (position_or_len (λ j. list_any (bytes_eq j) names) joined) (sym free ∙ cond-true _ _ _ (lt-ltb _ _ s))

    past : length joined ≤ position_or_len (λ j. list_any (bytes_eq j) names) joined → ⊥
    past g =
        let fails = fails_before_first (λ j. list_any (bytes_eq j) names) joined k d (omega arith) in
        let name = get_or joined k d in
        false≢true (sym fails ∙ list_any_at (bytes_eq name) names has.0 name has.1 ((bytes_eq-Decides name (get_or names has.0 name)).1 (sym has.2)))

-- the next of the joined names, where those before it are in the space
pub next_free : (names joined : List (List ℕ)) (i : ℕ) (name : List ℕ) → first_taken names joined ≡ None → AllPairs (λ a b. a ≢ b) joined → i < length joined → name ≡ get_or joined i name → ¬ (Contains (names ++ take i joined) name)
next_free names joined i name free apart l is has = ⊎_elim old new (Contains-append_cases names (take i joined) name has)
  where
    old : Contains names name → ⊥
    old h = none_taken names joined free i name l (subst (Contains names) is h)

    new : Contains (take i joined) name → ⊥
    new h =
        let within : i ≤ length joined = omega arith in
        let early : h.0 < i = omega (arith, h.1, length-take-le i joined within) in
        apart h.0 i name early l (sym (get_or-take i joined h.0 name early) ∙ h.2 ∙ is)
