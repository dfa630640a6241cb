-- The tokens that a version makes of those of version 1.
use Rattle.std.proofs.Common.{◌≡◌, ℕ, Bool, true, false, List, [], ◌∷◌, ◌++◌, length, map, Option, Some, None, refl, sym, ap, ◌∙◌, arith}
use Rattle.std.specs.Prelude.{if◌then◌else◌}
use Rattle.state_space.specs.declared.keyword.Keyword.TheVariants as keywords
use Rattle.model_tokens.specs.declared.token.Sign.TheVariants.{OpenParenthesis}
use Rattle.model_tokens.specs.declared.token.Further.{Further}
use Rattle.model_tokens.specs.Tokens.{TokenForm, keyword, mark, name, number, further, stray, bad_byte}
use Rattle.model_tokens.specs.Versions.{further_word, word_or_name, second_form, is_name, second_forms, is_second_number, is_second, version_forms}
use Rattle.model_text.specs.Writable.{plain}
use Rattle.model_tokens.proofs.CutNames.{further_word-cases}
use Rattle.model_text.proofs.ReadTokens.{AllOf, IsLexed}

-- ---- as version 1 has them again

further_plain : (word : List ℕ) (f : Further) → further_word word ≡ Some f → plain (further f) ≡ name word
further_plain word f e = further_word-cases (λ g w. plain (further g) ≡ name w) refl refl refl refl word f e

plain_word : (o : Option Further) (word : List ℕ) → further_word word ≡ o → plain (word_or_name o word) ≡ name word
plain_word (Some f) word e = further_plain word f e
plain_word None word e = refl

plain_second : (b : Bool) (t : TokenForm) → IsLexed t → plain (second_form b t) ≡ t
plain_second b (name x) p = plain_word (further_word x) x refl
plain_second b (keyword k) p = refl
plain_second true (mark OpenParenthesis) p = refl
plain_second b (mark m) p = refl
plain_second b (number s d) p = refl
plain_second b (further f) p = absurd p
plain_second b stray p = refl
plain_second b bad_byte p = refl

plain_first : (t : TokenForm) → IsLexed t → plain t ≡ t
plain_first (name x) p = refl
plain_first (keyword k) p = refl
plain_first (mark m) p = refl
plain_first (number s d) p = refl
plain_first (further f) p = absurd p
plain_first stray p = refl
plain_first bad_byte p = refl

all_plain_second : (b : Bool) (ts : List TokenForm) → AllOf IsLexed ts → map plain (second_forms b ts) ≡ ts
all_plain_second b [] a = refl
all_plain_second b (t ∷ ts) a =
    let rest = second_forms (is_name (second_form b t)) ts in
    ap (λ (u : TokenForm). u ∷ map plain rest) (plain_second b t a.0) ∙ ap (λ (us : List TokenForm). t ∷ us) (all_plain_second (is_name (second_form b t)) ts a.1)

all_plain_first : (ts : List TokenForm) → AllOf IsLexed ts → map plain ts ≡ ts
all_plain_first [] a = refl
all_plain_first (t ∷ ts) a = ap (λ (u : TokenForm). u ∷ map plain ts) (plain_first t a.0) ∙ ap (λ (us : List TokenForm). t ∷ us) (all_plain_first ts a.1)

-- a version's tokens, as version 1 has them, are those that it was given
pub plain_version : (ts : List TokenForm) → AllOf IsLexed ts → map plain (version_forms ts) ≡ ts
plain_version ts a = by_version (is_second ts)
  where
    by_version : (b : Bool) → map plain (if b then second_forms false ts else ts) ≡ ts
    by_version true = all_plain_second false ts a
    by_version false = all_plain_first ts a

-- ---- what a front decides

-- the first two tokens decide the version
pub second_same : (t u : TokenForm) (xs ys : List TokenForm) → is_second (t ∷ u ∷ xs) ≡ is_second (t ∷ u ∷ ys)
second_same (keyword keywords.Kaos) (number s d) xs ys = refl
second_same t u xs ys = refl

-- and the first one stays as it is
first_kept : (t : TokenForm) (q : List TokenForm) → (us : List TokenForm) × (version_forms (t ∷ q) ≡ t ∷ us)
first_kept (keyword keywords.Kaos) (number s d ∷ q) = by_version (is_second_number s d)
  where
    by_version : (b : Bool)
        → (us : List TokenForm) × ((if b then second_forms false (keyword keywords.Kaos ∷ number s d ∷ q) else (keyword keywords.Kaos ∷ number s d ∷ q)) ≡ keyword keywords.Kaos ∷ us)
    by_version true = (second_forms false (number s d ∷ q), refl)
    by_version false = (number s d ∷ q, refl)
first_kept t q = (q, refl)

second_start : (b : Bool) (p : List TokenForm) (t : TokenForm) (q o front : List TokenForm) (r : TokenForm) (rest : List TokenForm) → second_forms b (p ++ t ∷ q) ≡ front ++ r ∷ rest → length p ≡ length front
    → (us : List TokenForm) × (second_forms b (p ++ t ∷ o) ≡ front ++ r ∷ us)
second_start b [] t q o [] r rest e n =
    let head : second_form b t ≡ r = cc in
    let more = second_forms (is_name (second_form b t)) o in
    (more, ap (λ (u : TokenForm). u ∷ more) head)
second_start b [] t q o (f ∷ front) r rest e n = absurd (omega arith)
second_start b (p ∷ ps) t q o [] r rest e n = absurd (omega arith)
second_start b (p ∷ ps) t q o (f ∷ front) r rest e n =
    let head : second_form b p ≡ f = cc in
    let tail : second_forms (is_name (second_form b p)) (ps ++ t ∷ q) ≡ front ++ r ∷ rest = cc in
    let many : length ps ≡ length front = omega arith in
    let more = second_start (is_name (second_form b p)) ps t q o front r rest tail many in
    (more.0, ap (λ (us : List TokenForm). second_form b p ∷ us) more.1 ∙ ap (λ (u : TokenForm). u ∷ (front ++ r ∷ more.0)) head)

first_start : (p : List TokenForm) (t : TokenForm) (q o front : List TokenForm) (r : TokenForm) (rest : List TokenForm) → p ++ t ∷ q ≡ front ++ r ∷ rest → length p ≡ length front
    → (us : List TokenForm) × (p ++ t ∷ o ≡ front ++ r ∷ us)
first_start [] t q o [] r rest e n = let head : t ≡ r = cc in (o, ap (λ (u : TokenForm). u ∷ o) head)
first_start [] t q o (f ∷ front) r rest e n = absurd (omega arith)
first_start (p ∷ ps) t q o [] r rest e n = absurd (omega arith)
first_start (p ∷ ps) t q o (f ∷ front) r rest e n =
    let head : p ≡ f = cc in
    let tail : ps ++ t ∷ q ≡ front ++ r ∷ rest = cc in
    let many : length ps ≡ length front = omega arith in
    let more = first_start ps t q o front r rest tail many in
    (more.0, ap (λ (us : List TokenForm). p ∷ us) more.1 ∙ ap (λ (u : TokenForm). u ∷ (front ++ r ∷ more.0)) head)

either_start : (b c : Bool) (p : List TokenForm) (t : TokenForm) (q o front : List TokenForm) (r : TokenForm) (rest : List TokenForm) → b ≡ c → (if b then second_forms false (p ++ t ∷ q) else (p ++ t ∷ q)) ≡ front ++ r ∷ rest
    → length p ≡ length front → (us : List TokenForm) × ((if c then second_forms false (p ++ t ∷ o) else (p ++ t ∷ o)) ≡ front ++ r ∷ us)
either_start true true p t q o front r rest same e n = second_start false p t q o front r rest e n
either_start false false p t q o front r rest same e n = first_start p t q o front r rest e n
either_start true false p t q o front r rest same e n = absurd cc
either_start false true p t q o front r rest same e n = absurd cc

-- lists that begin with the same tokens do so in their version
pub version_start : (p : List TokenForm) (t : TokenForm) (q o front : List TokenForm) (r : TokenForm) (rest : List TokenForm) → version_forms (p ++ t ∷ q) ≡ front ++ r ∷ rest → length p ≡ length front
    → (us : List TokenForm) × (version_forms (p ++ t ∷ o) ≡ front ++ r ∷ us)
version_start [] t q o [] r rest e n =
    let kept = first_kept t q in
    let other = first_kept t o in
    let both : t ∷ kept.0 ≡ r ∷ rest = sym kept.1 ∙ e in
    let head : t ≡ r = cc in
    (other.0, other.1 ∙ ap (λ (u : TokenForm). u ∷ other.0) head)
version_start [] t q o (f ∷ front) r rest e n = absurd (omega arith)
version_start (p ∷ []) t q o front r rest e n = either_start (is_second (p ∷ t ∷ q)) (is_second (p ∷ t ∷ o)) (p ∷ []) t q o front r rest (second_same p t q o) e n
version_start (p ∷ u ∷ ps) t q o front r rest e n =
    either_start (is_second (p ∷ u ∷ (ps ++ t ∷ q))) (is_second (p ∷ u ∷ (ps ++ t ∷ o))) (p ∷ u ∷ ps) t q o front r rest (second_same p u (ps ++ t ∷ q) (ps ++ t ∷ o)) e n
