-- Names and formulas, and what forms of statement make of them, are read as they are spelled.
use Rattle.std.proofs.Common.{◌≡◌, ℕ, ◌-◌, ◌≤◌, true, List, [], ◌∷◌, ◌++◌, length, Some, None, Ok, refl, ap, ◌∙◌, append_assoc, arith}
use Rattle.std.proofs.lemmas.Bool.{eq-eqb}
use Rattle.state_space.specs.declared.keyword.Keyword.{Keyword}
use Rattle.state_space.specs.declared.keyword.Keyword.TheVariants as keywords
use Rattle.state_space.specs.Keywords.{number as keyword_number}
use Rattle.model_tokens.specs.declared.token.Sign.TheVariants.{Colon, Comma}
use Rattle.model_tokens.specs.Tokens.{TokenForm, keyword, mark, name}
use Rattle.model_text.specs.RawTrees.{RawTree}
use Rattle.model_tokens.specs.Values.{cut_name}
use Rattle.model_text.specs.FormulaGrammar.{whole_level, iff_level, SpellsFormula}
use Rattle.model_text.specs.FormulaReading.{ends_iff, ends_whole}
use Rattle.model_text.specs.Grammar.{SpellsNames, one_name, more_names, SpellsPart, no_part, a_part}
use Rattle.model_text.specs.Reading.{and_then, behind_mark, behind_keyword, name_at}
use Rattle.model_text.specs.Readers.{after, counted, if_word, more_at, listed_at}
use Rattle.model_text.specs.StatementReading.{names_at, declared_name_at, pair_at, group_at, part_at, body_at, side_at, body_behind}
use Rattle.model_text.proofs.FormulaLaws.{whole_found, whole_read, iff_found, iff_read}
use Rattle.model_text.proofs.PartLaws.{Finds, IsKeyword, is_keyword, IsSign, is_mark, IsName, is_name, IsNothing, is_nothing, Both, both, Made, made, Behind, here, other, More, no_more, one_more, finds_as, finds_keyword, finds_mark, finds_name, finds_nothing, finds_after, finds_counted, finds_word, finds_listed}
use Rattle.model_text.proofs.Turns.{more_more, more_done}

-- ---- names

names_behind : (x : List ℕ) {us : List TokenForm} {xs : List (List ℕ)} → More Comma IsName us xs → SpellsNames (name x ∷ us) (cut_name x ∷ xs)
names_behind x no_more = one_name x
names_behind x (one_more (is_name y) more) = more_names x (names_behind y more)

names_spelled : {us : List TokenForm} {xs : List (List ℕ)} → Both IsName (λ x. Made (λ xs. x ∷ xs) (More Comma IsName)) us xs → SpellsNames us xs
names_spelled (both (is_name x) (made more)) = names_behind x more

pub names_found : Finds SpellsNames names_at
names_found = finds_as (λ us xs s. names_spelled s) (finds_listed finds_name)

more_read : {ts : List TokenForm} {xs : List (List ℕ)} → SpellsNames ts xs → (n : ℕ) (front : List (List ℕ)) (rest : List TokenForm) → length (ts ++ rest) ≤ n → behind_mark Comma rest ≡ None
    → and_then (name_at (ts ++ rest)) (λ x us. more_at Comma name_at n (front ++ x ∷ []) us) ≡ Ok (front ++ xs, rest)
unfolding name_at
more_read (one_name x) n front rest le ends = more_done Comma name_at n (front ++ cut_name x ∷ []) rest ends
more_read (more_names x {ts = ts} {xs = xs} s) n front rest le ends =
    more_more Comma name_at n (front ++ cut_name x ∷ []) (mark Comma ∷ ts ++ rest) (ts ++ rest) (omega arith) refl
    ∙ more_read s (n - 1) (front ++ cut_name x ∷ []) rest (omega arith) ends
    ∙ ap (λ (l : List (List ℕ)). Ok (l, rest)) (append_assoc front (cut_name x ∷ []) xs)

pub names_read : {ts : List TokenForm} {xs : List (List ℕ)} → SpellsNames ts xs → (rest : List TokenForm) → behind_mark Comma rest ≡ None → names_at (ts ++ rest) ≡ Ok (xs, rest)
unfolding listed_at name_at
names_read (one_name x) rest ends = more_done Comma name_at (length rest) (cut_name x ∷ []) rest ends
names_read (more_names x {ts = ts} {xs = xs} s) rest ends =
    more_more Comma name_at (length (mark Comma ∷ ts ++ rest)) (cut_name x ∷ []) (mark Comma ∷ ts ++ rest) (ts ++ rest) (omega arith) refl
    ∙ more_read s (length (mark Comma ∷ ts ++ rest) - 1) (cut_name x ∷ []) rest (omega arith) ends

-- ---- what stands round names

pub data IsLabel : List TokenForm → List ℕ → Type 0 where
  is_declared_name : (x : List ℕ) → IsLabel (name x ∷ mark Colon ∷ []) (cut_name x)

declared_name_spelled : {us : List TokenForm} {x : List ℕ} → Both IsName (λ x. Made (λ _. x) (IsSign Colon)) us x → IsLabel us x
declared_name_spelled (both (is_name x) (made (is_mark u))) = is_declared_name x

pub declared_name_found : Finds IsLabel declared_name_at
unfolding declared_name_at
declared_name_found = finds_as (λ us x s. declared_name_spelled s) (finds_after finds_name (λ x. finds_counted (λ _. x) (finds_mark Colon)))

pub data IsPair (between : Keyword) : List TokenForm → List ℕ × List ℕ → Type 0 where
  is_pair : (x y : List ℕ) → IsPair between (name x ∷ keyword between ∷ name y ∷ []) (cut_name x, cut_name y)

pair_spelled : (between : Keyword) {us : List TokenForm} {p : List ℕ × List ℕ} → Both IsName (λ x. Both (IsKeyword between) (λ _. Made (λ y. (x, y)) IsName)) us p → IsPair between us p
pair_spelled between (both (is_name x) (both (is_keyword u) (made (is_name y)))) = is_pair x y

pub pair_found : (between : Keyword) → Finds (IsPair between) (pair_at between)
unfolding pair_at
pair_found between = finds_as (λ us p s. pair_spelled between s) (finds_after finds_name (λ x. finds_after (finds_keyword between) (λ _. finds_counted (λ y. (x, y)) finds_name)))

pub data IsGroup : List TokenForm → List ℕ × List (List ℕ) → Type 0 where
  is_group : (x : List ℕ) {ts : List TokenForm} {xs : List (List ℕ)} → SpellsNames ts xs → IsGroup (name x ∷ keyword keywords.By ∷ ts) (cut_name x, xs)

group_spelled : {us : List TokenForm} {p : List ℕ × List (List ℕ)} → Both IsName (λ x. Both (IsKeyword keywords.By) (λ _. Made (λ xs. (x, xs)) SpellsNames)) us p → IsGroup us p
group_spelled (both (is_name x) (both (is_keyword u) (made n))) = is_group x n

pub group_found : Finds IsGroup group_at
unfolding group_at
group_found = finds_as (λ us p s. group_spelled s) (finds_after finds_name (λ x. finds_after (finds_keyword keywords.By) (λ _. finds_counted (λ xs. (x, xs)) names_found)))

pub group_read : (x : List ℕ) {ts : List TokenForm} {xs : List (List ℕ)} → SpellsNames ts xs → (rest : List TokenForm) → behind_mark Comma rest ≡ None
    → group_at (name x ∷ keyword keywords.By ∷ ts ++ rest) ≡ Ok ((cut_name x, xs), rest)
unfolding group_at after counted name_at
group_read x n rest ends = rw (names_read n rest ends) refl

part_spelled : (word : Keyword) {us : List TokenForm} {xs : List (List ℕ)} → Behind (keyword word) SpellsNames (IsNothing []) us xs → SpellsPart word us xs
part_spelled word (here n) = a_part n
part_spelled word (other is_nothing) = no_part

pub part_found : (word : Keyword) → Finds (SpellsPart word) (part_at word)
unfolding part_at
part_found word = finds_as (λ us xs s. part_spelled word s) (finds_word word names_found (finds_nothing []))

word_behind : (word : Keyword) (ts : List TokenForm) → behind_keyword word (keyword word ∷ ts) ≡ Some ts
word_behind word ts = rw (eq-eqb (keyword_number word) (keyword_number word) refl) refl

pub part_read : {word : Keyword} {ts : List TokenForm} {xs : List (List ℕ)} → SpellsPart word ts xs → (rest : List TokenForm) → behind_keyword word rest ≡ None → behind_mark Comma rest ≡ None
    → part_at word (ts ++ rest) ≡ Ok (xs, rest)
unfolding part_at if_word
part_read no_part rest ends last = rw ends refl
part_read {word} (a_part {ts = ts} n) rest ends last = rw (word_behind word (ts ++ rest)) (names_read n rest last)

-- ---- formulas

pub body_found : Finds (SpellsFormula whole_level) body_at
body_found = record { found = λ ts f rest e. let b = whole_found (length ts) ts f rest e in record { tokens = b.0; spelled = b.1; is = b.2 } }

pub side_found : Finds (SpellsFormula iff_level) side_at
side_found = record { found = λ ts f rest e. let b = iff_found (length ts) ts f rest e in record { tokens = b.0; spelled = b.1; is = b.2 } }

pub body_read : {ts : List TokenForm} {f : RawTree} → SpellsFormula whole_level ts f → (rest : List TokenForm) → ends_whole rest ≡ true → body_at (ts ++ rest) ≡ Ok (f, rest)
body_read {ts} {f} s rest ends = whole_read (length (ts ++ rest)) ts f rest s (omega arith) ends

pub side_read : {ts : List TokenForm} {f : RawTree} → SpellsFormula iff_level ts f → (rest : List TokenForm) → ends_iff rest ≡ true → side_at (ts ++ rest) ≡ Ok (f, rest)
side_read {ts} {f} s rest ends = iff_read (length (ts ++ rest)) ts f rest s (omega arith) ends

pub data IsBodyBehind (word : Keyword) : List TokenForm → RawTree → Type 0 where
  is_body_behind : {ts : List TokenForm} {f : RawTree} → SpellsFormula whole_level ts f → IsBodyBehind word (keyword word ∷ ts) f

body_behind_spelled : (word : Keyword) {us : List TokenForm} {f : RawTree} → Both (IsKeyword word) (λ _. SpellsFormula whole_level) us f → IsBodyBehind word us f
body_behind_spelled word (both (is_keyword u) s) = is_body_behind s

pub body_behind_found : (word : Keyword) → Finds (IsBodyBehind word) (body_behind word)
unfolding body_behind
body_behind_found word = finds_as (λ us f s. body_behind_spelled word s) (finds_after (finds_keyword word) (λ _. body_found))
