-- The first 40 bytes of a word that is a name but for its length are a name.
use Rattle.std.proofs.Common.{◌≡◌, ℕ, zero, suc, ◌<◌, ◌≤◌, Bool, true, false, List, [], ◌∷◌, length, take, Option, Some, None, refl, sym, ap, subst, ◌∙◌, ⊎_elim, arith, lit<, codes, if◌then◌else◌}
use Rattle.std.specs.Prelude.{◌&&◌, is_none, min, bytes_eq}
use Rattle.std.specs.List.{list_all}
use Rattle.std.specs.Char.{is_ascii_alphabetic}
use Rattle.std.proofs.lemmas.List.{length-take, length-take-le, take_all}
use Rattle.std.proofs.lemmas.Bool.{cases_lt}
use Rattle.std.proofs.lemmas.Slice.Eq.{bytes_eq-Decides}
use Rattle.state_space.specs.declared.keyword.Keyword.{Keyword}
use Rattle.state_space.specs.declared.keyword.Keyword.TheVariants as keys
use Rattle.state_space.specs.Keywords.{spelling, keyword_of}
use Rattle.state_space.specs.Names.{IsName, has_name_form, is_word_byte}
use Rattle.state_space.proofs.Spellings.{spelling_of_keyword}
use Rattle.model_tokens.specs.declared.token.Further.{Further}
use Rattle.model_tokens.specs.declared.token.Further.TheVariants as furthers
use Rattle.model_tokens.specs.Values.{cut_name}
use Rattle.model_tokens.specs.Versions.{further_word}

short_spelling : (k : Keyword) → length (spelling k) < 40
short_spelling keys.Kaos = lit< tt
short_spelling keys.Var = lit< tt
short_spelling keys.Domain = lit< tt
short_spelling keys.Rule = lit< tt
short_spelling keys.Goal = lit< tt
short_spelling keys.Obstacle = lit< tt
short_spelling keys.Refine = lit< tt
short_spelling keys.Obstruct = lit< tt
short_spelling keys.Conflict = lit< tt
short_spelling keys.Agent = lit< tt
short_spelling keys.Assign = lit< tt
short_spelling keys.Expect = lit< tt
short_spelling keys.Operation = lit< tt
short_spelling keys.Require = lit< tt
short_spelling keys.Operationalise = lit< tt
short_spelling keys.Trace = lit< tt
short_spelling keys.Bool = lit< tt
short_spelling keys.By = lit< tt
short_spelling keys.Using = lit< tt
short_spelling keys.Boundary = lit< tt
short_spelling keys.Monitors = lit< tt
short_spelling keys.Controls = lit< tt
short_spelling keys.To = lit< tt
short_spelling keys.Of = lit< tt
short_spelling keys.Dompre = lit< tt
short_spelling keys.Dompost = lit< tt
short_spelling keys.On = lit< tt
short_spelling keys.Pre = lit< tt
short_spelling keys.Trig = lit< tt
short_spelling keys.Post = lit< tt
short_spelling keys.Exact = lit< tt
short_spelling keys.Loop = lit< tt
short_spelling keys.Entails = lit< tt
short_spelling keys.Iff = lit< tt
short_spelling keys.Implies = lit< tt
short_spelling keys.Or = lit< tt
short_spelling keys.And = lit< tt
short_spelling keys.Until = lit< tt
short_spelling keys.Unless = lit< tt
short_spelling keys.Release = lit< tt
short_spelling keys.Within = lit< tt
short_spelling keys.Not = lit< tt
short_spelling keys.Next = lit< tt
short_spelling keys.Eventually = lit< tt
short_spelling keys.Always = lit< tt
short_spelling keys.In = lit< tt
short_spelling keys.True = lit< tt
short_spelling keys.False = lit< tt

both_front : (here all front : Bool) → (all ≡ true → front ≡ true) → (here && all) ≡ true → (here && front) ≡ true
both_front true all front more e = more e
both_front false all front more e = e

all_front : (bytes : List ℕ) (n : ℕ) → list_all is_word_byte bytes ≡ true → list_all is_word_byte (take n bytes) ≡ true
all_front bytes zero e = refl
all_front [] (suc n) e = refl
all_front (b ∷ bytes) (suc n) e = both_front (is_word_byte b) (list_all is_word_byte bytes) (list_all is_word_byte (take n bytes)) (all_front bytes n) e

form_front : (bytes : List ℕ) → has_name_form bytes ≡ true → has_name_form (cut_name bytes) ≡ true
form_front [] e = e
form_front (b ∷ bytes) e = both_front (is_ascii_alphabetic b) (list_all is_word_byte bytes) (list_all is_word_byte (take 39 bytes)) (all_front bytes 39) e

none_is : (o : Option Keyword) → is_none o ≡ true → o ≡ None
none_is None e = refl
none_is (Some k) e = absurd cc

-- a word of 40 bytes is longer than each keyword
long_word : (word : List ℕ) → length word ≡ 40 → (o : Option Keyword) → keyword_of word ≡ o → o ≡ None
long_word word long None e = refl
long_word word long (Some k) e =
    let short = short_spelling k in
    let same = ap length (spelling_of_keyword word k e) in
    let never : ⊥ = omega (arith, short, same, long) in
    absurd never

pub cut_is_name : (bytes : List ℕ) → has_name_form bytes ≡ true → is_none (keyword_of bytes) ≡ true → IsName (cut_name bytes)
cut_is_name bytes form free = record {
  form = form_front bytes form;
  short = omega (arith, length-take 40 bytes);
  free = ⊎_elim long short (cases_lt 40 (length bytes));
}
  where
    long : 40 < length bytes → keyword_of (cut_name bytes) ≡ None
    long l = long_word (cut_name bytes) (length-take-le 40 bytes (omega arith)) (keyword_of (cut_name bytes)) refl

    short : length bytes ≤ 40 → keyword_of (cut_name bytes) ≡ None
    short s = ap keyword_of (take_all 40 bytes s) ∙ none_is (keyword_of bytes) free

pub cut_by_length : (bytes : List ℕ) (n : ℕ) → n ≡ min (length bytes) 40 → take n bytes ≡ cut_name bytes
cut_by_length bytes n e = ⊎_elim long short (cases_lt 40 (length bytes))
  where
    long : 40 < length bytes → take n bytes ≡ cut_name bytes
    long l = let is : n ≡ 40 = omega arith in ap (λ (k : ℕ). take k bytes) is

    short : length bytes ≤ 40 → take n bytes ≡ cut_name bytes
    short s = let le : length bytes ≤ n = omega arith in take_all n bytes le ∙ sym (take_all 40 bytes s)

-- what is so of the four keywords of version 2 and their words is so of each of these words
pub further_word-cases : (P : Further → List ℕ → Type 0) → P furthers.Entity (codes "entity") → P furthers.Attr (codes "attr") → P furthers.All (codes "all") → P furthers.Some (codes "some")
    → (word : List ℕ) (f : Further) → further_word word ≡ Some f → P f word
unfolding further_word
further_word-cases P entity attr all some word f e = by_entity (bytes_eq word (codes "entity")) (bytes_eq word (codes "attr")) (bytes_eq word (codes "all")) (bytes_eq word (codes "some")) (bytes_eq-Decides word (codes "entity")).0 (bytes_eq-Decides word (codes "attr")).0 (bytes_eq-Decides word (codes "all")).0 (bytes_eq-Decides word (codes "some")).0 e
  where
    spelled : (g : Further) (other : List ℕ) → P g other → word ≡ other → g ≡ f → P f word
    spelled g other is same found = subst (λ (h : Further). P h word) found (subst (P g) (sym same) is)

    by_entity : (a b c d : Bool) → (a ≡ true → word ≡ codes "entity") → (b ≡ true → word ≡ codes "attr") → (c ≡ true → word ≡ codes "all") → (d ≡ true → word ≡ codes "some")
        → (if a then Some furthers.Entity else (if b then Some furthers.Attr else (if c then Some furthers.All else (if d then Some furthers.Some else None)))) ≡ Some f → P f word
    by_entity true b c d p q r s e = spelled furthers.Entity (codes "entity") entity (p refl) cc
    by_entity false true c d p q r s e = spelled furthers.Attr (codes "attr") attr (q refl) cc
    by_entity false false true d p q r s e = spelled furthers.All (codes "all") all (r refl) cc
    by_entity false false false true p q r s e = spelled furthers.Some (codes "some") some (s refl) cc
    by_entity false false false false p q r s e = absurd cc

-- a word of 40 bytes is longer than each keyword of version 2
further_spelled : (word : List ℕ) (f : Further) → further_word word ≡ Some f → length word < 40
further_spelled word f e = further_word-cases (λ g w. length w < 40) (lit< tt) (lit< tt) (lit< tt) (lit< tt) word f e

long_further : (word : List ℕ) → length word ≡ 40 → (o : Option Further) → further_word word ≡ o → o ≡ None
long_further word long None e = refl
long_further word long (Some f) e = let short = further_spelled word f e in let never : ⊥ = omega (arith, short, long) in absurd never

pub cut_further : (bytes : List ℕ) → further_word bytes ≡ None → further_word (cut_name bytes) ≡ None
cut_further bytes free = ⊎_elim long short (cases_lt 40 (length bytes))
  where
    long : 40 < length bytes → further_word (cut_name bytes) ≡ None
    long l = long_further (cut_name bytes) (length-take-le 40 bytes (omega arith)) (further_word (cut_name bytes)) refl

    short : length bytes ≤ 40 → further_word (cut_name bytes) ≡ None
    short s = ap further_word (take_all 40 bytes s) ∙ free
