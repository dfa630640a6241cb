-- What stands before the tokens behind a wanted token, and what a step that did not fail has read.
use Rattle.std.proofs.Common.{◌≡◌, ℕ, List, [], ◌∷◌, Option, Some, None, Ok, Err, refl, sym, ap}
use Rattle.state_space.specs.declared.keyword.Keyword.{Keyword}
use Rattle.model_tokens.specs.Tokens.{TokenForm, keyword, mark, name, number, further, stray, bad_byte}
use Rattle.model_tokens.specs.Values.{cut_name}
use Rattle.model_text.specs.Reading.{Reading, and_then, behind_keyword, required, keyword_at, name_at}
use Rattle.model_text.proofs.FormulaTokens.{keyword_is, ok_parts}

-- the value of a step that did not fail
pub and_then-ok : {A B : Type 0} (r : Reading A) (next : A → List TokenForm → Reading B) (y : B × List TokenForm) → and_then r next ≡ Ok y → (x : A × List TokenForm) × (r ≡ Ok x) × (next x.0 x.1 ≡ Ok y)
and_then-ok (Ok x) next y e = (x, refl, e)
and_then-ok (Err rest) next y e = absurd cc

required-ok : (o : Option (List TokenForm)) (ts : List TokenForm) (u : Unit {0}) (rest : List TokenForm) → required o ts ≡ Ok (u, rest) → o ≡ Some rest
required-ok (Some us) ts u rest e = ap (λ (vs : List TokenForm). Some vs) (ok_parts tt u us rest e).1
required-ok None ts u rest e = absurd cc

pub keyword_at-ok : (k : Keyword) (ts : List TokenForm) (u : Unit {0}) (rest : List TokenForm) → keyword_at k ts ≡ Ok (u, rest) → ts ≡ keyword k ∷ rest
keyword_at-ok k ts u rest e = keyword_is k ts rest (required-ok (behind_keyword k ts) ts u rest e)

-- a name was found, and counts by its first 40 bytes
pub record FindsName (ts : List TokenForm) (x : List ℕ) (rest : List TokenForm) : Type 0 where
  pub bytes : List ℕ
  pub cut : x ≡ cut_name bytes
  pub is : ts ≡ name bytes ∷ rest

pub name_at-ok : (ts : List TokenForm) (x : List ℕ) (rest : List TokenForm) → name_at ts ≡ Ok (x, rest) → FindsName ts x rest
unfolding name_at
name_at-ok [] x rest e = absurd cc
name_at-ok (name y ∷ ts) x rest e = let p = ok_parts (cut_name y) x ts rest e in record { bytes = y; cut = sym p.0; is = ap (λ (us : List TokenForm). name y ∷ us) p.1 }
name_at-ok (keyword k ∷ ts) x rest e = absurd cc
name_at-ok (mark m ∷ ts) x rest e = absurd cc
name_at-ok (number s d ∷ ts) x rest e = absurd cc
name_at-ok (further f ∷ ts) x rest e = absurd cc
name_at-ok (stray ∷ ts) x rest e = absurd cc
name_at-ok (bad_byte ∷ ts) x rest e = absurd cc

pub name_at-name : (x : List ℕ) (rest : List TokenForm) → name_at (name x ∷ rest) ≡ Ok (cut_name x, rest)
unfolding name_at
name_at-name x rest = refl
