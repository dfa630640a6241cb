-- What tokens add to a line, one after another.
use Rattle.std.proofs.Common.{◌≡◌, ℕ, ◌+◌, ◌-◌, ◌<◌, Bool, true, false, List, [], ◌∷◌, ◌++◌, length, get_or, take, drop, refl, sym, ap, ◌∙◌, append_assoc, arith}
use Rattle.std.proofs.lemmas.List.{append-nil, flat_map_more, take_more, take_all}
use Rattle.std.proofs.lemmas.Simd.{map-map}
use Rattle.model_text.specs.declared.raw_formula.RawValue.{RawValue}
use Rattle.model_text.specs.RawView.{written}
use Rattle.std.specs.Prelude.{ℤ, pos, negsuc, flat_map, map}
use Rattle.std.specs.Fmt.{signed_decimal}
use Rattle.state_space.specs.declared.keyword.Keyword.{Keyword}
use Rattle.std.proofs.lemmas.List.Folds.{flat_map-map}
use Rattle.model_text.specs.declared.statement.Statement as code
use Rattle.model_text.specs.declared.statement.RawState.{RawState}
use Rattle.model_text.specs.Statements.{StatementForm, settings_of, statement_of, all_statements}
use Rattle.model_text.specs.StatementReading.{setting_of}
use Rattle.model_tokens.specs.Tokens.{TokenForm, keyword, mark}
use Rattle.model_tokens.specs.declared.token.Sign.TheVariants.{Comma, Semicolon}
use Rattle.model_text.specs.Layout.{written_statement, written_text, laid, gap, token_bytes, holds_on}
use Rattle.model_text.specs.Writing.{statement_tokens, number_token, value_token, separated, names_tokens, values_tokens, part_tokens, set_tokens, state_tokens}
use Rattle.model_text.specs.Lines.{LineForm, with_bytes, with_token, with_tokens, behind_commas}

pub number_behind : (line : LineForm) (value : ℤ) → with_token line (number_token value) ≡ with_bytes line false (signed_decimal value) false
unfolding with_token
number_behind line (pos n) = refl
number_behind line (negsuc n) = refl

pub with_both : (line : LineForm) (ts us : List TokenForm) → with_tokens line (ts ++ us) ≡ with_tokens (with_tokens line ts) us
with_both line [] us = refl
with_both line (t ∷ ts) us = with_both (with_token line t) ts us

pub separated_parts : {A : Type 0} (tokens : A → List TokenForm) (x : A) (xs : List A) → separated (map tokens (x ∷ xs)) ≡ tokens x ++ behind_commas tokens xs
separated_parts tokens x [] = sym (append-nil (tokens x))
separated_parts tokens x (y ∷ xs) = ap (λ (us : List TokenForm). tokens x ++ mark Comma ∷ us) (separated_parts tokens y xs)

-- parts with commas between them, behind the first of them
pub listed : {A : Type 0} (tokens : A → List TokenForm) (line first : LineForm) (xs : List A) (x : A) → 0 < length xs → x ≡ get_or xs 0 x
    → first ≡ with_tokens line (tokens x) → with_tokens first (behind_commas tokens (take (length xs - 1) (drop 1 xs))) ≡ with_tokens line (separated (map tokens xs))
listed tokens line first [] x h e is = absurd (omega arith)
listed {A = A} tokens line first (y ∷ xs) x h e is =
    let all : take (length (y ∷ xs) - 1) xs ≡ xs = take_all (length (y ∷ xs) - 1) xs (omega arith) in
    let front : with_tokens first (behind_commas tokens xs) ≡ with_tokens line (tokens x ++ behind_commas tokens xs) =
    ap (λ (l : LineForm). with_tokens l (behind_commas tokens xs)) is ∙ sym (with_both line (tokens x) (behind_commas tokens xs)) in
    ap (λ (ys : List A). with_tokens first (behind_commas tokens ys)) all ∙ front ∙ ap (λ (z : A). with_tokens line (tokens z ++ behind_commas tokens xs)) e ∙ sym (ap (with_tokens line) (separated_parts tokens y xs))

pub values_listed : (line first : LineForm) (vs : List RawValue) (v : RawValue) → 0 < length vs → v ≡ get_or vs 0 v → first ≡ with_token line (value_token (written v))
    → with_tokens first (behind_commas (λ v. value_token (written v) ∷ []) (take (length vs - 1) (drop 1 vs))) ≡ with_tokens line (values_tokens (map written vs))
values_listed line first vs v h e is = listed (λ v. value_token (written v) ∷ []) line first vs v h e is ∙ sym (ap (λ (parts : List (List TokenForm)). with_tokens line (separated parts)) (map-map (λ v. value_token v ∷ []) written vs))

pub sets_listed : (line first : LineForm) (xs : List (List ℕ × RawValue)) (x : List ℕ × RawValue) → 0 < length xs → x ≡ get_or xs 0 x → first ≡ with_tokens line (set_tokens (setting_of x))
    → with_tokens first (behind_commas (λ s. set_tokens (setting_of s)) (take (length xs - 1) (drop 1 xs))) ≡ with_tokens line (separated (map set_tokens (map setting_of xs)))
sets_listed line first xs x h e is = listed (λ s. set_tokens (setting_of s)) line first xs x h e is ∙ sym (ap (λ (parts : List (List TokenForm)). with_tokens line (separated parts)) (map-map set_tokens setting_of xs))

pub some_part : (word : Keyword) (xs : List (List ℕ)) → 0 < length xs → part_tokens word xs ≡ keyword word ∷ names_tokens xs
some_part word [] h = absurd (omega arith)
some_part word (x ∷ xs) h = refl

-- statements, one line behind another
pub written_lines : (ss : List code.Statement) → written_text (all_statements ss) ≡ flat_map (λ s. written_statement (statement_of s.kind)) ss
written_lines ss = flat_map-map written_statement (λ s. statement_of s.kind) ss

pub written_states : (ss : List RawState) → flat_map state_tokens (map settings_of ss) ≡ flat_map (λ s. state_tokens (settings_of s)) ss
written_states ss = flat_map-map state_tokens settings_of ss

-- one more part of a list
pub next_part : {A : Type 0} (tokens : A → List TokenForm) (line here : LineForm) (xs : List A) (i : ℕ) (x : A) → i < length xs → x ≡ get_or xs i x
    → here ≡ with_tokens line (flat_map tokens (take i xs)) → with_tokens here (tokens x) ≡ with_tokens line (flat_map tokens (take (i + 1) xs))
next_part {A = A} tokens line here xs i x h is so_far =
    let more = take_more xs i x h ∙ ap (λ (y : A). take i xs ++ y ∷ []) (sym is) in
    let joined = flat_map_more tokens [] (take i xs) x in
    rw so_far (sym (with_both line (flat_map tokens (take i xs)) (tokens x)) ∙ ap (with_tokens line) (joined ∙ ap (flat_map tokens) (sym more)))

pub laid_line : (bytes : List ℕ) (held : Bool) (ts : List TokenForm) → (with_tokens (record { bytes = bytes; held = held }) ts).bytes ≡ bytes ++ laid held ts
unfolding with_token
laid_line bytes held [] = sym (append-nil bytes)
laid_line bytes held (t ∷ ts) = laid_line (bytes ++ gap held t ++ token_bytes t) (holds_on t) ts ∙ simp append_assoc

-- a statement on a line of its own
pub put_line : (front : List ℕ) (s : StatementForm) (start said ended : LineForm) → start ≡ record { bytes = []; held = true } → said ≡ with_tokens start (statement_tokens s)
    → ended ≡ with_token said (mark Semicolon) → (front ++ ended.bytes) ++ 10 ∷ [] ≡ front ++ written_statement s
put_line front s start said ended a b c =
    let begun : LineForm = record { bytes = []; held = true } in
    let whole : ended ≡ with_tokens begun (statement_tokens s ++ mark Semicolon ∷ []) =
    c ∙ ap (λ (l : LineForm). with_token l (mark Semicolon)) (b ∙ ap (λ (l : LineForm). with_tokens l (statement_tokens s)) a) ∙ sym (with_both begun (statement_tokens s) (mark Semicolon ∷ [])) in
    let bytes : ended.bytes ≡ laid true (statement_tokens s ++ mark Semicolon ∷ []) = ap (λ (l : LineForm). l.bytes) whole ∙ laid_line [] true (statement_tokens s ++ mark Semicolon ∷ []) in
    append_assoc front ended.bytes (10 ∷ []) ∙ ap (λ (line : List ℕ). front ++ (line ++ 10 ∷ [])) bytes
