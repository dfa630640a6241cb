-- How the levels of formulas go on.
use Rattle.std.proofs.Common.{◌≡◌, ℕ, zero, suc, ◌≤◌, Bool, true, false, List, [], ◌∷◌, ◌++◌, length, Option, Some, None, Ok, Err, refl, sym, ap, ◌∙◌, arith}
use Rattle.std.specs.Prelude.{◌&&◌, is_none}
use Rattle.state_space.specs.declared.keyword.Keyword.{Keyword}
use Rattle.state_space.specs.declared.keyword.Keyword.TheVariants as keywords
use Rattle.temporal_logic.specs.Ltl.{Relation}
use Rattle.model_tokens.specs.declared.token.Sign.{Sign}
use Rattle.model_tokens.specs.declared.token.Sign.TheVariants.{Colon, Comma, OpenParenthesis, CloseParenthesis, OpenBrace, CloseBrace}
use Rattle.model_tokens.specs.declared.token.Further.TheVariants as furthers
use Rattle.model_text.specs.declared.formula_reader.Opening.{Opening}
use Rattle.model_text.specs.declared.formula_reader.Opening.TheVariants as openings
use Rattle.model_text.specs.declared.formula_reader.Joining.{Joining}
use Rattle.model_text.specs.declared.formula_reader.Joining.TheVariants as joinings
use Rattle.model_tokens.specs.Tokens.{TokenForm, keyword, mark, name, number, further, stray, bad_byte}
use Rattle.model_text.specs.RawTrees.{WrittenValue, a_truth, a_number, a_word, an_attribute, RawTree, truth, falsity, for_all, for_some, conj, disj, implies, iff, entails}
use Rattle.model_tokens.specs.Values.{bound_value}
use Rattle.model_text.specs.Leaves.{relation_of, value_of}
use Rattle.model_text.specs.FormulaGrammar.{Level, or_level, and_level, tempo_level, prefix_level}
use Rattle.model_text.specs.Reading.{Reading, and_then, behind_keyword, behind_mark, behind_further, mark_at, further_at, name_at}
use Rattle.model_text.specs.FormulaReading.{Reads, if_behind, read_as, steps_at, bound_at, value_or_fault, value_at, with_rest, comparison_at, more_values_at, values_at, choice_at, argument_at, right_with, right_behind, right_at, bare_with, compares_with, among_with, atom_by, atom_at, primary_with, head_at, quantified_with, simple_with, opening_at, opened, prefix_behind, prefix_with, joining_at, joined, tempo_behind, tempo_with, chain, and_with, or_with, with_right, implies_from, implies_with, iff_with, whole_with, prefix_at, iff_at, whole_at, ends_atom, ends_tempo, ends_and, ends_or, ends_implies, ends_iff, ends_whole}
use Rattle.model_text.specs.Readers.{Reader, after, counted, if_word, if_sign, giving, nowhere, more_at, listed_at}
use Rattle.model_text.specs.StatementReading.{body_at, side_at}
use Rattle.model_text.proofs.FormulaTokens.{both_left, both_right, none_is}
use Rattle.model_text.proofs.FormulaFound.{Finds, tempo_found, and_found, or_found, prefix_at_found}
use Rattle.model_text.proofs.FormulaFuel.{AgreeTo, same_then, shorter, keyword_shorter, whole_same, iff_same, prefix_same, prefix_fuel}
use Rattle.model_text.proofs.ReaderLaws.{Ends, anything, Law, law_as, law_before, law_below, law_of_none, giving_law, after_law, then_law, counted_law, Passes, Picked, lead_by, lead, lead_law}
use Rattle.model_text.proofs.TokenJudged.{behind_by, further_law_at, further_law, unless_further, is_keyword, behind_keyword_by, keyword_plain, by_sign_same, word_law, word_law_at, sign_law_at, mark_law, one_token, given, token_law, some_name, name_law, turns, Shrinks, shrinks_by, all_turns, turns_law, unless_sign, unless_word, listed_law}
use Rattle.model_text.proofs.FormulaRead.{atom_of_tempo}

-- the shortest formula
abbrev pub start : List TokenForm
start = some_name ∷ []

-- ---- bounds and values

abbrev taken_steps : TokenForm → Option ℕ
taken_steps (number negative digits) = Some (bound_value negative digits)
taken_steps _ = None

-- a number of one digit
abbrev pub some_number : TokenForm
some_number = number false (49 ∷ [])

steps_law : {v : Bool} {n : ℕ} {e : Ends} → Law v n e (some_number ∷ []) steps_at
steps_law = token_law taken_steps some_number (bound_value false (49 ∷ [])) ((omega arith, refl), tt) refl refl refl by_token
  where
    by_token : (ts : List TokenForm) → steps_at ts ≡ one_token taken_steps ts
    by_token [] = refl
    by_token (keyword k ∷ ts) = refl
    by_token (mark m ∷ ts) = refl
    by_token (name x ∷ ts) = refl
    by_token (number s d ∷ ts) = refl
    by_token (further f ∷ ts) = refl
    by_token (stray ∷ ts) = refl
    by_token (bad_byte ∷ ts) = refl

bound_law : {v : Bool} {n : ℕ} → Law v n (unless_word keywords.Within) [] bound_at
unfolding bound_at if_word counted
bound_law =
    law_as {same = if_word keywords.Within (counted (λ d. Some d) steps_at) (giving None)} (λ ts. refl)
    (word_law keywords.Within (counted_law (λ d. Some d) steps_law) (giving_law None) (λ us h. h))

pub value_law : {v : Bool} {n : ℕ} {e : Ends} → Law v n e (keyword keywords.True ∷ []) value_at
unfolding value_at
value_law = token_law value_of (keyword keywords.True) (a_truth true) (tt, tt) refl refl refl by_token
  where
    by_value : (o : Option WrittenValue) (t : TokenForm) (ts : List TokenForm) → value_or_fault o t ts ≡ lead_by (given o) nowhere t ts
    by_value None t ts = refl
    by_value (Some v) t ts = refl

    by_token : (ts : List TokenForm) → value_at ts ≡ one_token value_of ts
    by_token [] = refl
    by_token (t ∷ ts) = by_value (value_of t) t ts

values_more : (n : ℕ) (front : List WrittenValue) (ts : List TokenForm) → more_values_at n front ts ≡ more_at Comma value_at n front ts
unfolding more_values_at more_at
values_more zero front ts = refl
values_more (suc n) front ts = by_rest (behind_mark Comma ts) (λ rest. same_then (value_at rest) (λ v more. more_values_at n (front ++ v ∷ []) more) (λ v more. more_at Comma value_at n (front ++ v ∷ []) more) (λ v more e. values_more n (front ++ v ∷ []) more))
  where
    by_rest : (o : Option (List TokenForm)) → ((rest : List TokenForm) → and_then (value_at rest) (λ v more. more_values_at n (front ++ v ∷ []) more) ≡ and_then (value_at rest) (λ v more. more_at Comma value_at n (front ++ v ∷ []) more))
        → if_behind o (λ rest. and_then (value_at rest) (λ v more. more_values_at n (front ++ v ∷ []) more)) (Ok (front, ts)) ≡ if_behind o (λ rest. and_then (value_at rest) (λ v more. more_at Comma value_at n (front ++ v ∷ []) more)) (Ok (front, ts))
    by_rest None e = refl
    by_rest (Some rest) e = e rest

values_law : {v : Bool} {n : ℕ} → Law v n (unless_sign Comma) (keyword keywords.True ∷ []) values_at
unfolding values_at listed_at
values_law =
    law_as {same = listed_at value_at}
    (λ ts. same_then (value_at ts) (λ v rest. more_values_at (length rest) (v ∷ []) rest) (λ v rest. more_at Comma value_at (length rest) (v ∷ []) rest) (λ v rest e. values_more (length rest) (v ∷ []) rest))
    (listed_law (shrinks_by (λ n. value_law {e = anything})) (λ us h. refl) (value_law {e = anything}))

choice_law : {v : Bool} {n : ℕ} {e : Ends} → Law v n e (mark OpenBrace ∷ keyword keywords.True ∷ mark CloseBrace ∷ []) choice_at
unfolding choice_at after counted
choice_law =
    law_as {same = after (mark_at OpenBrace) (λ _. after values_at (λ vs. counted (λ _. vs) (mark_at CloseBrace)))} (λ ts. refl)
    (then_law (mark_law OpenBrace) (λ _. after_law values_law (λ vs. counted_law (λ _. vs) (mark_law CloseBrace)) (λ us h. refl)))

-- ---- attributes of names

abbrev no_argument : Ends
no_argument = unless_further furthers.OpenArgument

argument_law : {v : Bool} {n : ℕ} → Law v n no_argument [] argument_at
unfolding argument_at after counted
argument_law {n = n} =
    law_as {same = λ ts. if_behind (behind_further furthers.OpenArgument ts) (after name_at (λ x. counted (λ _. Some x) (mark_at CloseParenthesis))) (giving None ts)} (λ ts. refl)
    (further_law_at {m = n} furthers.OpenArgument (omega arith) (λ second. then_law name_law (λ x. counted_law (λ _. Some x) (mark_law CloseParenthesis))) (giving_law None) (λ us h. h))

abbrev right_rest : WrittenValue → Reader WrittenValue
right_rest (a_word f) = counted (right_with f) argument_at
right_rest w = giving w

right_rest_law : {v : Bool} {n : ℕ} (w : WrittenValue) → Law v n no_argument [] (right_rest w)
right_rest_law (a_word f) = counted_law (right_with f) argument_law
right_rest_law (a_truth b) = giving_law (a_truth b)
right_rest_law (a_number i) = giving_law (a_number i)
right_rest_law (an_attribute f x) = giving_law (an_attribute f x)

right_law : {v : Bool} {n : ℕ} → Law v n no_argument (keyword keywords.True ∷ []) right_at
unfolding right_at after counted
right_law = law_as {same = after value_at right_rest} (λ ts. same_then (value_at ts) right_behind right_rest (λ w rest e. by_value w rest)) (then_law value_law right_rest_law)
  where
    by_value : (w : WrittenValue) (rest : List TokenForm) → right_behind w rest ≡ right_rest w rest
    by_value (a_word f) rest = refl
    by_value (a_truth b) rest = refl
    by_value (a_number i) rest = refl
    by_value (an_attribute f x) rest = refl

-- ---- atoms

abbrev picked_relation : List ℕ → Option (List ℕ) → Option Relation → Option (Reader RawTree)
picked_relation x a (Some r) = Some (counted (compares_with x a r) right_at)
picked_relation x a None = None

abbrev pick_comparison : List ℕ → Option (List ℕ) → TokenForm → Option (Reader RawTree)
pick_comparison x a (mark m) = picked_relation x a (relation_of m)
pick_comparison x a _ = None

abbrev no_comparison : List ℕ → Option (List ℕ) → Reader RawTree
no_comparison x a = if_word keywords.In (counted (among_with x a) choice_at) (giving (bare_with x a))

-- neither `in` nor an attribute's `(` comes
atom_words : (us : List TokenForm) → ends_atom us ≡ true → (is_none (behind_keyword keywords.In us) ≡ true) × (no_argument us ≡ true)
atom_words us h =
    let u = is_none (behind_keyword keywords.In us) in
    let more = both_right (is_none (comparison_at us)) (u && no_argument us) h in
    (both_left u (no_argument us) more, both_right u (no_argument us) more)

atom_rest_law : {v : Bool} {n : ℕ} (x : List ℕ) (a : Option (List ℕ)) → Law v n ends_atom [] (λ ts. atom_by x a ts (comparison_at ts))
unfolding if_word counted
atom_rest_law {v} {n} x a =
    law_as {same = lead (pick_comparison x a) (no_comparison x a)} by_token
    (lead_law (pick_comparison x a) (no_comparison x a) (omega arith) picked (word_law keywords.In (counted_law (among_with x a) choice_law) (giving_law (bare_with x a)) (λ us h. (atom_words us h).0)) passes)
  where
    by_relation : (o : Option Relation) (m : Sign) (ts : List TokenForm) → atom_by x a (mark m ∷ ts) (with_rest o ts) ≡ lead_by (picked_relation x a o) (no_comparison x a) (mark m) ts
    by_relation (Some r) m ts = refl
    by_relation None m ts = refl

    by_token : (ts : List TokenForm) → atom_by x a ts (comparison_at ts) ≡ lead (pick_comparison x a) (no_comparison x a) ts
    by_token [] = refl
    by_token (mark m ∷ ts) = by_relation (relation_of m) m ts
    by_token (keyword k ∷ ts) = refl
    by_token (name y ∷ ts) = refl
    by_token (number s d ∷ ts) = refl
    by_token (further f ∷ ts) = refl
    by_token (stray ∷ ts) = refl
    by_token (bad_byte ∷ ts) = refl

    picked_by : (o : Option Relation) (m : Sign) → Picked v n ends_atom (mark m) (picked_relation x a o)
    picked_by (Some r) m = (tt, λ i. record { start = keyword keywords.True ∷ []; law = counted_law (compares_with x a r) (law_before (λ us h. (atom_words us h).1) right_law) })
    picked_by None m = tt

    picked : (t : TokenForm) → Picked v n ends_atom t (pick_comparison x a t)
    picked (mark m) = picked_by (relation_of m) m
    picked (keyword k) = tt
    picked (name y) = tt
    picked (number s d) = tt
    picked (further f) = tt
    picked stray = tt
    picked bad_byte = tt

    passes_by : (o : Option Relation) (ts : List TokenForm) → is_none (with_rest o ts) ≡ true → ◌≡◌ {A = Option (Reader RawTree)} (picked_relation x a o) None
    passes_by (Some r) ts h = absurd cc
    passes_by None ts h = refl

    passes : (us : List TokenForm) → ends_atom us ≡ true → Passes (pick_comparison x a) us
    passes [] h = tt
    passes (mark m ∷ us) h = passes_by (relation_of m) us (both_left (is_none (with_rest (relation_of m) us)) true h)
    passes (keyword k ∷ us) h = refl
    passes (name y ∷ us) h = refl
    passes (number s d ∷ us) h = refl
    passes (further f ∷ us) h = refl
    passes (stray ∷ us) h = refl
    passes (bad_byte ∷ us) h = refl

atom_law : {v : Bool} {n : ℕ} → Law v n ends_atom start atom_at
unfolding atom_at after
atom_law =
    law_as {same = after name_at (λ x. after argument_at (λ a ts. atom_by x a ts (comparison_at ts)))} (λ ts. refl)
    (then_law name_law (λ x. after_law argument_law (atom_rest_law x) (λ us h. (atom_words us h).1)))

-- ---- primaries and prefixes

abbrev closed_at : Reads → Reader RawTree
closed_at whole = after whole (λ f. counted (λ _. f) (mark_at CloseParenthesis))

primary_law : {v : Bool} {m n : ℕ} {whole : Reads} → n ≤ suc m → Law v m ends_whole start whole → Law v n ends_atom start (primary_with whole)
unfolding primary_with if_word if_sign after counted
primary_law {whole = whole} deep law =
    law_as {same = if_word keywords.True (giving truth) (if_word keywords.False (giving falsity) (if_sign OpenParenthesis (closed_at whole) atom_at))} (λ ts. refl)
    (word_law keywords.True (giving_law truth)
    (word_law keywords.False (giving_law falsity)
    (sign_law_at OpenParenthesis deep (after_law law (λ f. counted_law (λ _. f) (mark_law CloseParenthesis)) (λ us h. refl)) atom_law (λ us h. refl)) (λ us h. refl)) (λ us h. refl))

-- name ":" name "(" formula ")", of version 2
quantified_law : {v : Bool} {m : ℕ} {e : Ends} {whole : Reads} (make : List ℕ → List ℕ → RawTree → RawTree) → v ≡ true → Law v m ends_whole start whole
    → Law v m e (some_name ∷ mark Colon ∷ some_name ∷ further furthers.OpenArgument ∷ some_name ∷ mark CloseParenthesis ∷ []) (quantified_with make whole)
unfolding quantified_with head_at after counted
quantified_law {v} {m} {whole = whole} make second law =
    law_as {same = after head_at (λ p. counted (make p.0 p.1) (closed_at whole))} (λ ts. refl)
    (then_law head_law (λ p. counted_law (make p.0 p.1) (after_law law (λ f. counted_law (λ _. f) (mark_law CloseParenthesis)) (λ us h. refl))))
  where
    head_law : {e : Ends} → Law v m e (some_name ∷ mark Colon ∷ some_name ∷ further furthers.OpenArgument ∷ []) head_at
    head_law =
        law_as {same = after name_at (λ x. after (mark_at Colon) (λ _. after name_at (λ k. counted (λ _. (x, k)) (further_at furthers.OpenArgument))))} (λ ts. refl)
        (then_law name_law (λ x. then_law (mark_law Colon) (λ _. then_law name_law (λ k. counted_law (λ _. (x, k)) (further_law furthers.OpenArgument second)))))

simple_law : {v : Bool} {m n : ℕ} {whole : Reads} → n ≤ suc m → Law v m ends_whole start whole → Law v n ends_atom start (simple_with whole)
unfolding simple_with
simple_law {whole = whole} deep law =
    law_as
    {same = λ ts. if_behind (behind_further furthers.All ts) (quantified_with for_all whole) (if_behind (behind_further furthers.Some ts) (quantified_with for_some whole) (primary_with whole ts))} (λ ts. refl)
    (further_law_at {other = λ ts. if_behind (behind_further furthers.Some ts) (quantified_with for_some whole) (primary_with whole ts)} furthers.All deep (λ second. quantified_law for_all second law)
    (further_law_at {other = primary_with whole} furthers.Some deep (λ second. quantified_law for_some second law) (primary_law deep law) (λ us h. refl)) (λ us h. refl))

bounded : {A B : Type 0} (o : Reading (Option ℕ)) (make : Option ℕ → A) (k : A → List TokenForm → Reading B) → and_then (read_as make o) k ≡ and_then o (λ d more. k (make d) more)
bounded (Ok x) make k = refl
bounded (Err rest) make k = refl

abbrev opened_by : Reads → (Option ℕ → Opening) → Reader RawTree
opened_by prefix make = after bound_at (λ d. counted (opened (make d)) prefix)

prefix_parts : (prefix whole : Reads) (ts : List TokenForm) (a b c d : Option (List TokenForm)) →
    and_then (if_behind a (λ rest. Ok (Some openings.Not, rest)) (if_behind b (λ rest. Ok (Some openings.Next, rest)) (
    if_behind c (λ rest. read_as (λ d. Some (openings.Eventually d)) (bound_at rest)) (if_behind d (λ rest. read_as (λ d. Some (openings.Always d)) (bound_at rest)) (Ok (None, ts)))))) (prefix_behind prefix whole)
    ≡ if_behind a (counted (opened openings.Not) prefix) (if_behind b (counted (opened openings.Next) prefix) (
    if_behind c (opened_by prefix openings.Eventually) (if_behind d (opened_by prefix openings.Always) (simple_with whole ts))))
unfolding after counted
prefix_parts prefix whole ts (Some us) b c d = refl
prefix_parts prefix whole ts None (Some us) c d = refl
prefix_parts prefix whole ts None None (Some us) d = bounded (bound_at us) (λ d. Some (openings.Eventually d)) (prefix_behind prefix whole)
prefix_parts prefix whole ts None None None (Some us) = bounded (bound_at us) (λ d. Some (openings.Always d)) (prefix_behind prefix whole)
prefix_parts prefix whole ts None None None None = refl

opened_law : {v : Bool} {m : ℕ} {prefix : Reads} (make : Option ℕ → Opening) → Law v m ends_atom start prefix → Law v m ends_atom start (opened_by prefix make)
opened_law make law = after_law bound_law (λ d. counted_law (opened (make d)) law) (λ us h. refl)

prefix_with_law : {v : Bool} {m n : ℕ} {prefix whole : Reads} → n ≤ suc m → Law v m ends_atom start prefix → Law v m ends_whole start whole → Law v n ends_atom start (prefix_with prefix whole)
unfolding prefix_with opening_at if_word
prefix_with_law {prefix = prefix} {whole = whole} deep law inside =
    law_as {same = if_word keywords.Not (counted (opened openings.Not) prefix) (if_word keywords.Next (counted (opened openings.Next) prefix) (
    if_word keywords.Eventually (opened_by prefix openings.Eventually) (if_word keywords.Always (opened_by prefix openings.Always) (simple_with whole))))}
    (λ ts. prefix_parts prefix whole ts (behind_keyword keywords.Not ts) (behind_keyword keywords.Next ts) (behind_keyword keywords.Eventually ts) (behind_keyword keywords.Always ts))
    (word_law_at keywords.Not deep (counted_law (opened openings.Not) law)
    (word_law_at keywords.Next deep (counted_law (opened openings.Next) law)
    (word_law_at keywords.Eventually deep (opened_law openings.Eventually law)
    (word_law_at keywords.Always deep (opened_law openings.Always law) (simple_law deep inside) (λ us h. refl)) (λ us h. refl)) (λ us h. refl)) (λ us h. refl))

-- ---- operators over time

abbrev joined_by : Reads → RawTree → (Option ℕ → Joining) → Reader RawTree
joined_by prefix f make = after bound_at (λ d. counted (joined (make d) f) prefix)

tempo_parts : (prefix : Reads) (f : RawTree) (ts : List TokenForm) (a b c : Option (List TokenForm)) →
    and_then (if_behind a (λ rest. read_as (λ d. Some (joinings.Until d)) (bound_at rest)) (if_behind b (λ rest. read_as (λ d. Some (joinings.Unless d)) (bound_at rest)) (
    if_behind c (λ rest. read_as (λ d. Some (joinings.Release d)) (bound_at rest)) (Ok (None, ts))))) (tempo_behind prefix f)
    ≡ if_behind a (joined_by prefix f joinings.Until) (if_behind b (joined_by prefix f joinings.Unless) (if_behind c (joined_by prefix f joinings.Release) (giving f ts)))
unfolding after counted
tempo_parts prefix f ts (Some us) b c = bounded (bound_at us) (λ d. Some (joinings.Until d)) (tempo_behind prefix f)
tempo_parts prefix f ts None (Some us) c = bounded (bound_at us) (λ d. Some (joinings.Unless d)) (tempo_behind prefix f)
tempo_parts prefix f ts None None (Some us) = bounded (bound_at us) (λ d. Some (joinings.Release d)) (tempo_behind prefix f)
tempo_parts prefix f ts None None None = refl

tempo_words : (us : List TokenForm) → ends_tempo us ≡ true
    → (is_none (behind_keyword keywords.Until us) ≡ true) × (is_none (behind_keyword keywords.Unless us) ≡ true) × (is_none (behind_keyword keywords.Release us) ≡ true)
tempo_words us h =
    let u = is_none (behind_keyword keywords.Until us) in
    let v = is_none (behind_keyword keywords.Unless us) in
    let w = is_none (behind_keyword keywords.Release us) in
    let all = both_right (ends_atom us) (u && (v && w)) h in
    let more = both_right u (v && w) all in
    (both_left u (v && w) all, both_left v w more, both_right v w more)

joined_law : {v : Bool} {n : ℕ} {prefix : Reads} (f : RawTree) (make : Option ℕ → Joining) → Law v n ends_atom start prefix → Law v n ends_tempo start (joined_by prefix f make)
joined_law f make law = after_law bound_law (λ d. counted_law (joined (make d) f) (law_before atom_of_tempo law)) (λ us h. refl)

abbrev tempo_rest : Reads → RawTree → Reader RawTree
tempo_rest prefix f = if_word keywords.Until (joined_by prefix f joinings.Until) (if_word keywords.Unless (joined_by prefix f joinings.Unless) (if_word keywords.Release (joined_by prefix f joinings.Release) (giving f)))

tempo_law : {v : Bool} {n : ℕ} {prefix : Reads} → Law v n ends_atom start prefix → Law v n ends_tempo start (tempo_with prefix)
unfolding tempo_with joining_at after if_word
tempo_law {prefix = prefix} law =
    law_as {same = after prefix (tempo_rest prefix)}
    (λ ts. same_then (prefix ts) (λ f rest. and_then (joining_at rest) (tempo_behind prefix f)) (tempo_rest prefix)
    (λ f rest e. tempo_parts prefix f rest (behind_keyword keywords.Until rest) (behind_keyword keywords.Unless rest) (behind_keyword keywords.Release rest)))
    (after_law law
    (λ f.
    word_law keywords.Until (joined_law f joinings.Until law)
    (word_law keywords.Unless (joined_law f joinings.Unless law)
    (word_law keywords.Release (joined_law f joinings.Release law) (giving_law f) (λ us h. (tempo_words us h).2)) (λ us h. (tempo_words us h).1)) (λ us h. (tempo_words us h).0))
    atom_of_tempo)

-- ---- operators that group to the left

chain_turns : (word : Keyword) (make : RawTree → RawTree → RawTree) (operand : Reads) (n : ℕ) (f : RawTree) (ts : List TokenForm)
    → chain (behind_keyword word) make operand n f ts ≡ turns (is_keyword word) make operand n f ts
unfolding chain turns
chain_turns word make operand zero f ts = refl
chain_turns word make operand (suc n) f ts =
    ap (λ (o : Option (List TokenForm)). if_behind o (λ rest. and_then (operand rest) (λ g more. chain (behind_keyword word) make operand n (make f g) more)) (Ok (f, ts))) (behind_keyword_by word ts)
    ∙ by_sign_same (is_keyword word) operand (λ g more. chain (behind_keyword word) make operand n (make f g) more) (λ g more. turns (is_keyword word) make operand n (make f g) more) (Ok (f, ts)) ts (λ g more. chain_turns word make operand n (make f g) more)

abbrev chained : Keyword → (RawTree → RawTree → RawTree) → Reads → Reads
chained word make operand ts = and_then (operand ts) (λ f rest. chain (behind_keyword word) make operand (length rest) f rest)

chained_law : {v : Bool} {n : ℕ} {e : Ends} {operand : Reads} (word : Keyword) (make : RawTree → RawTree → RawTree) → Shrinks operand → Law v n e start operand
    → Law v n (λ us. e us && is_none (behind_keyword word us)) start (chained word make operand)
unfolding after
chained_law {v} {n} {e} {operand} word make shrinks law =
    law_as {same = after operand (all_turns (is_keyword word) make operand)}
    (λ ts. same_then (operand ts) (λ f rest. chain (behind_keyword word) make operand (length rest) f rest) (all_turns (is_keyword word) make operand) (λ f rest is. chain_turns word make operand (length rest) f rest))
    (after_law law (turns_law (is_keyword word) make (keyword_plain word) shrinks first last n law) first)
  where
    first : (us : List TokenForm) → (e us && is_none (behind_keyword word us)) ≡ true → e us ≡ true
    first us h = both_left (e us) (is_none (behind_keyword word us)) h

    last : (us : List TokenForm) → (e us && is_none (behind_keyword word us)) ≡ true → behind_by (is_keyword word) us ≡ None
    last us h = sym (behind_keyword_by word us) ∙ none_is (behind_keyword word us) (both_right (e us) (is_none (behind_keyword word us)) h)

shrinks_found : (l : Level) (reader : Reads) → Finds l reader → Shrinks reader
shrinks_found l reader finds ts f rest e = let less = shorter l reader finds ts f rest e in omega arith

and_law : {v : Bool} {n : ℕ} {prefix : Reads} → Finds prefix_level prefix → Law v n ends_atom start prefix → Law v n ends_and start (and_with prefix)
unfolding and_with
and_law {prefix = prefix} finds law =
    law_as {same = chained keywords.And conj (tempo_with prefix)} (λ ts. refl) (chained_law keywords.And conj (shrinks_found tempo_level (tempo_with prefix) (tempo_found prefix finds)) (tempo_law law))

or_law : {v : Bool} {n : ℕ} {prefix : Reads} → Finds prefix_level prefix → Law v n ends_atom start prefix → Law v n ends_or start (or_with prefix)
unfolding or_with
or_law {prefix = prefix} finds law =
    law_as {same = chained keywords.Or disj (and_with prefix)} (λ ts. refl) (chained_law keywords.Or disj (shrinks_found and_level (and_with prefix) (and_found prefix finds)) (and_law finds law))

-- ---- operators that have a right operand at most once, or group to the right

abbrev sided : Keyword → (RawTree → RawTree → RawTree) → (first second : Reads) → Reads
sided word make first second ts = and_then (first ts) (λ f rest. with_right (make f) second f rest (behind_keyword word rest))

sided_law : {v : Bool} {m n : ℕ} {e : Ends} {first second : Reads} (word : Keyword) (make : RawTree → RawTree → RawTree) → n ≤ suc m → Law v n e start first → Law v m (λ us. e us && is_none (behind_keyword word us)) start second
    → Law v n (λ us. e us && is_none (behind_keyword word us)) start (sided word make first second)
unfolding after if_word counted
sided_law {v} {m} {n} {e} {first} {second} word make deep law other =
    law_as {same = after first (λ f. if_word word (counted (make f) second) (giving f))} (λ ts. same_then (first ts) (λ f rest. with_right (make f) second f rest (behind_keyword word rest)) (λ f. if_word word (counted (make f) second) (giving f)) (λ f rest is. by_rest f rest (behind_keyword word rest)))
    (after_law law (λ f. word_law_at word deep (counted_law (make f) other) (giving_law f) (λ us h. both_right (e us) (is_none (behind_keyword word us)) h)) (λ us h. both_left (e us) (is_none (behind_keyword word us)) h))
  where
    by_rest : (f : RawTree) (rest : List TokenForm) (o : Option (List TokenForm)) → with_right (make f) second f rest o ≡ if_behind o (counted (make f) second) (giving f rest)
    by_rest f rest None = refl
    by_rest f rest (Some more) = refl

none_longer : (word : Keyword) (make : RawTree → RawTree) (second : Reads) (f : RawTree) (rest : List TokenForm) → length rest ≤ 0 → with_right make second f rest (behind_keyword word rest) ≡ Ok (f, rest)
none_longer word make second f [] h = refl
none_longer word make second f (t ∷ rest) h = absurd (omega arith)

pub and_then_giving : {A : Type 0} (o : Reading A) (k : A → List TokenForm → Reading A) → ((x : A) (rest : List TokenForm) → o ≡ Ok (x, rest) → k x rest ≡ Ok (x, rest)) → and_then o k ≡ o
and_then_giving (Ok x) k e = e x.0 x.1 refl
and_then_giving (Err rest) k e = refl

implies_fuel : (prefix : Reads) → Shrinks (or_with prefix) → (n m : ℕ) (ts : List TokenForm) → length ts ≤ n → length ts ≤ m → implies_from prefix n ts ≡ implies_from prefix m ts
unfolding implies_from
implies_fuel prefix shrinks zero zero ts a b = refl
implies_fuel prefix shrinks zero (suc m) ts a b =
    sym (and_then_giving (or_with prefix ts) (λ f rest. with_right (implies f) (implies_from prefix m) f rest (behind_keyword keywords.Implies rest))
    (λ f rest e. let less = shrinks ts f rest e in none_longer keywords.Implies (implies f) (implies_from prefix m) f rest (omega arith)))
implies_fuel prefix shrinks (suc n) zero ts a b =
    and_then_giving (or_with prefix ts) (λ f rest. with_right (implies f) (implies_from prefix n) f rest (behind_keyword keywords.Implies rest))
    (λ f rest e. let less = shrinks ts f rest e in none_longer keywords.Implies (implies f) (implies_from prefix n) f rest (omega arith))
implies_fuel prefix shrinks (suc n) (suc m) ts a b =
    same_then (or_with prefix ts) (λ f rest. with_right (implies f) (implies_from prefix n) f rest (behind_keyword keywords.Implies rest)) (λ f rest. with_right (implies f) (implies_from prefix m) f rest (behind_keyword keywords.Implies rest))
    (λ f rest e. let less = shrinks ts f rest e in by_rest f rest (omega arith) (omega arith) (behind_keyword keywords.Implies rest) refl (λ us c d. implies_fuel prefix shrinks n m us c d))
  where
    by_rest : (f : RawTree) (rest : List TokenForm) → length rest ≤ suc n → length rest ≤ suc m → (o : Option (List TokenForm)) → behind_keyword keywords.Implies rest ≡ o
        → ((us : List TokenForm) → length us ≤ n → length us ≤ m → implies_from prefix n us ≡ implies_from prefix m us) → with_right (implies f) (implies_from prefix n) f rest o ≡ with_right (implies f) (implies_from prefix m) f rest o
    by_rest f rest c d None is same = refl
    by_rest f rest c d (Some us) is same =
        let less = keyword_shorter keywords.Implies rest us is in ap (λ (o : Reading RawTree). read_as (implies f) o) (same us (omega arith) (omega arith))

implies_next : (prefix : Reads) → Shrinks (or_with prefix) → (ts : List TokenForm) → implies_with prefix ts ≡ sided keywords.Implies implies (or_with prefix) (implies_with prefix) ts
unfolding implies_with implies_from
implies_next prefix shrinks ts =
    implies_fuel prefix shrinks (length ts) (suc (length ts)) ts (omega arith) (omega arith)
    ∙ same_then (or_with prefix ts) (λ f rest. with_right (implies f) (implies_from prefix (length ts)) f rest (behind_keyword keywords.Implies rest)) (λ f rest. with_right (implies f) (implies_with prefix) f rest (behind_keyword keywords.Implies rest))
    (λ f rest e. let less = shrinks ts f rest e in by_rest f rest less (behind_keyword keywords.Implies rest) refl)
  where
    by_rest : (f : RawTree) (rest : List TokenForm) → length rest ≤ length ts → (o : Option (List TokenForm)) → behind_keyword keywords.Implies rest ≡ o
        → with_right (implies f) (implies_from prefix (length ts)) f rest o ≡ with_right (implies f) (λ us. implies_from prefix (length us) us) f rest o
    by_rest f rest c None is = refl
    by_rest f rest c (Some us) is =
        let less = keyword_shorter keywords.Implies rest us is in
        ap (λ (o : Reading RawTree). read_as (implies f) o) (implies_fuel prefix shrinks (length ts) (length us) us (omega arith) (omega arith))

sided_none : {v : Bool} {e : Ends} {first : Reads} (word : Keyword) (make : RawTree → RawTree → RawTree) (second : Reads) → Law v zero e start first → Law v zero (λ us. e us && is_none (behind_keyword word us)) start (sided word make first second)
sided_none {v} {e} {first} word make second law =
    law_of_none law.value law.writable (λ us h. rw (law.begins us (both_left (e us) (is_none (behind_keyword word us)) h)) (by_rest us (behind_keyword word us) (both_right (e us) (is_none (behind_keyword word us)) h)))
  where
    by_rest : (us : List TokenForm) (o : Option (List TokenForm)) → is_none o ≡ true → with_right (make law.value) second law.value us o ≡ Ok (law.value, us)
    by_rest us None h = refl
    by_rest us (Some more) h = absurd cc

implies_law : {v : Bool} (n : ℕ) {prefix : Reads} → Finds prefix_level prefix → Law v n ends_atom start prefix → Law v n ends_implies start (implies_with prefix)
implies_law zero {prefix = prefix} finds law =
    law_as (implies_next prefix (shrinks_found or_level (or_with prefix) (or_found prefix finds))) (sided_none keywords.Implies implies (implies_with prefix) (or_law finds law))
implies_law (suc n) {prefix = prefix} finds law =
    law_as (implies_next prefix (shrinks_found or_level (or_with prefix) (or_found prefix finds)))
    (sided_law keywords.Implies implies (omega arith) (or_law finds law) (implies_law n finds (law_below (omega arith) law)))

iff_law : {v : Bool} {n : ℕ} {prefix : Reads} → Finds prefix_level prefix → Law v n ends_atom start prefix → Law v n ends_iff start (iff_with prefix)
unfolding iff_with
iff_law {v} {n} {prefix} finds law =
    law_as {same = sided keywords.Iff iff (implies_with prefix) (implies_with prefix)} (λ ts. refl)
    (sided_law keywords.Iff iff (omega arith) (implies_law n finds law) (law_before (λ us h. both_left (ends_implies us) (is_none (behind_keyword keywords.Iff us)) h) (implies_law n finds law)))

whole_law : {v : Bool} {n : ℕ} {prefix : Reads} → Finds prefix_level prefix → Law v n ends_atom start prefix → Law v n ends_whole start (whole_with prefix)
unfolding whole_with
whole_law {v} {n} {prefix} finds law =
    law_as {same = sided keywords.Entails entails (iff_with prefix) (iff_with prefix)} (λ ts. refl)
    (sided_law keywords.Entails entails (omega arith) (iff_law finds law) (law_before (λ us h. both_left (ends_iff us) (is_none (behind_keyword keywords.Entails us)) h) (iff_law finds law)))

-- ---- whole formulas

-- a prefix, with a number that is enough
abbrev prefix_here : Reads
prefix_here ts = prefix_at (length ts) ts

prefix_here_found : Finds prefix_level prefix_here
prefix_here_found ts f rest e = prefix_at_found (length ts) ts f rest e

prefix_agrees : (n : ℕ) → AgreeTo n (prefix_at n) prefix_here
prefix_agrees n ts h = prefix_fuel (length ts) n (length ts) h (omega arith) ts (omega arith)

prefix_next : (ts : List TokenForm) → prefix_here ts ≡ prefix_with prefix_here (whole_with prefix_here) ts
unfolding prefix_at prefix_with opening_at simple_with primary_with atom_at name_at
prefix_next [] = refl
prefix_next (t ∷ ts) = prefix_same (length ts) (prefix_at (length ts)) prefix_here (prefix_at_found (length ts)) (prefix_agrees (length ts)) (t ∷ ts) (omega arith)

prefix_begins : (v : Bool) (us : List TokenForm) → ends_atom us ≡ true → prefix_here (start ++ us) ≡ Ok ((atom_law {v = v} {n = 0}).value, us)
unfolding prefix_with opening_at simple_with primary_with
prefix_begins v us h = prefix_next (start ++ us) ∙ (atom_law {v = v} {n = 0}).begins us h

prefix_law : {v : Bool} (n : ℕ) → Law v n ends_atom start prefix_here
prefix_law {v} zero = law_of_none (atom_law {v = v} {n = 0}).value (atom_law {v = v} {n = 0}).writable (prefix_begins v)
prefix_law (suc n) = law_as prefix_next (prefix_with_law (omega arith) (prefix_law n) (whole_law prefix_here_found (prefix_law n)))

pub body_law : {v : Bool} {n : ℕ} → Law v n ends_whole start body_at
unfolding whole_at
body_law {v} {n} =
    law_as {same = whole_with prefix_here} (λ ts. whole_same (length ts) (prefix_at (length ts)) prefix_here (prefix_at_found (length ts)) (prefix_agrees (length ts)) ts (omega arith))
    (whole_law prefix_here_found (prefix_law n))

pub side_law : {v : Bool} {n : ℕ} → Law v n ends_iff start side_at
unfolding iff_at
side_law {v} {n} =
    law_as {same = iff_with prefix_here} (λ ts. iff_same (length ts) (prefix_at (length ts)) prefix_here (prefix_at_found (length ts)) (prefix_agrees (length ts)) ts (omega arith))
    (iff_law prefix_here_found (prefix_law n))
