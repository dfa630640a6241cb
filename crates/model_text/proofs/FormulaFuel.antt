-- What is read does not depend on the number that bounds how deep constructs open.
use Rattle.std.proofs.Common.{◌≡◌, ℕ, zero, suc, ◌<◌, ◌≤◌, List, [], ◌∷◌, length, Option, Some, None, Ok, Err, refl, sym, ap, ◌∙◌, length-append, arith}
use Rattle.state_space.specs.declared.keyword.Keyword.{Keyword}
use Rattle.state_space.specs.declared.keyword.Keyword.TheVariants as keywords
use Rattle.model_tokens.specs.declared.token.Sign.TheVariants.{OpenParenthesis}
use Rattle.model_tokens.specs.declared.token.Further.TheVariants as furthers
use Rattle.model_text.specs.declared.formula_reader.Opening.{Opening}
use Rattle.model_text.specs.declared.formula_reader.Joining.{Joining}
use Rattle.model_tokens.specs.Tokens.{TokenForm}
use Rattle.model_text.specs.RawTrees.{RawTree, truth, falsity, conj, disj, implies, iff, entails, for_all, for_some}
use Rattle.model_text.specs.FormulaGrammar.{Level, iff_level, implies_level, or_level, and_level, tempo_level, prefix_level}
use Rattle.model_text.specs.Reading.{Reading, and_then, behind_keyword, behind_mark, behind_further, name_at}
use Rattle.model_text.specs.FormulaReading.{Reads, if_behind, read_as, atom_at, closed, primary_with, head_at, quantified_with, simple_with, opening_at, opened, prefix_behind, prefix_with, joining_at, joined, tempo_behind, tempo_with, chain, and_with, or_with, with_right, implies_from, implies_with, iff_with, whole_with, prefix_at, iff_at, whole_at}
use Rattle.model_text.proofs.FormulaTokens.{keyword_is, mark_is, further_is}
use Rattle.model_text.proofs.FormulaFound.{Finds, head_shorter, opening_shorter, opening_none, joining_shorter, tempo_found, and_found, or_found, implies_found, iff_with_found, prefix_at_found}
use Rattle.model_text.proofs.FormulaLaws.{some_token}

-- two readers read the same of at most so many tokens
abbrev pub AgreeTo : ℕ → (p q : Reads) → Type 0
AgreeTo k p q = (ts : List TokenForm) → length ts ≤ k → p ts ≡ q ts

pub same_then : {A B : Type 0} (o : Reading A) (k l : A → List TokenForm → Reading B) → ((x : A) (more : List TokenForm) → o ≡ Ok (x, more) → k x more ≡ l x more) → and_then o k ≡ and_then o l
same_then (Ok x) k l e = e x.0 x.1 refl
same_then (Err rest) k l e = refl

pub same_behind : {B : Type 0} (o : Option (List TokenForm)) (go gone : List TokenForm → B) (otherwise other : B) → ((rest : List TokenForm) → o ≡ Some rest → go rest ≡ gone rest) → otherwise ≡ other → if_behind o go otherwise ≡ if_behind o gone other
same_behind (Some rest) go gone otherwise other e same = e rest refl
same_behind None go gone otherwise other e same = same

-- what is read takes a token
pub shorter : (l : Level) (reader : Reads) → Finds l reader → (ts : List TokenForm) (f : RawTree) (rest : List TokenForm) → reader ts ≡ Ok (f, rest) → length rest < length ts
shorter l reader finds ts f rest e = let part = finds ts f rest e in omega (arith, some_token part.1, ap length part.2, length-append part.0 rest)

pub keyword_shorter : (k : Keyword) (ts rest : List TokenForm) → behind_keyword k ts ≡ Some rest → length rest < length ts
keyword_shorter k ts rest e = omega (arith, ap length (keyword_is k ts rest e))

tempo_same : (k : ℕ) (p q : Reads) → Finds prefix_level p → AgreeTo k p q → AgreeTo k (tempo_with p) (tempo_with q)
unfolding tempo_with
tempo_same k p q finds agree ts h =
    same_then (p ts) (λ f rest. and_then (joining_at rest) (tempo_behind p f)) (λ f rest. and_then (joining_at rest) (tempo_behind q f))
    (λ f rest e. same_then (joining_at rest) (tempo_behind p f) (tempo_behind q f) (λ o more s. by_joining f rest (shorter prefix_level p finds ts f rest e) o more s))
    ∙ ap (λ (o : Reading RawTree). and_then o (λ f rest. and_then (joining_at rest) (tempo_behind q f))) (agree ts h)
  where
    by_joining : (f : RawTree) (rest : List TokenForm) → length rest < length ts → (o : Option Joining) (more : List TokenForm) → joining_at rest ≡ Ok (o, more) → tempo_behind p f o more ≡ tempo_behind q f o more
    by_joining f rest less None more s = refl
    by_joining f rest less (Some j) more s = ap (λ (o : Reading RawTree). read_as (joined j f) o) (agree more (omega (arith, joining_shorter rest j more s)))

chain_same : (keyword_before : Keyword) (make : RawTree → RawTree → RawTree) (l : Level) (k : ℕ) (p q : Reads) → Finds l p → AgreeTo k p q
    → (n : ℕ) (f : RawTree) (ts : List TokenForm) → length ts ≤ k → chain (behind_keyword keyword_before) make p n f ts ≡ chain (behind_keyword keyword_before) make q n f ts
unfolding chain
chain_same before make l k p q finds agree zero f ts h = refl
chain_same before make l k p q finds agree (suc n) f ts h =
    same_behind (behind_keyword before ts) (λ rest. and_then (p rest) (λ g more. chain (behind_keyword before) make p n (make f g) more)) (λ rest. and_then (q rest) (λ g more. chain (behind_keyword before) make q n (make f g) more)) (Ok (f, ts)) (Ok (f, ts))
    (λ rest e.
    let less = keyword_shorter before ts rest e in
    same_then (p rest) (λ g more. chain (behind_keyword before) make p n (make f g) more) (λ g more. chain (behind_keyword before) make q n (make f g) more)
    (λ g more s. chain_same before make l k p q finds agree n (make f g) more (omega (arith, shorter l p finds rest g more s)))
    ∙ ap (λ (o : Reading RawTree). and_then o (λ g more. chain (behind_keyword before) make q n (make f g) more)) (agree rest (omega arith)))
    refl

and_same : (k : ℕ) (p q : Reads) → Finds prefix_level p → AgreeTo k p q → AgreeTo k (and_with p) (and_with q)
unfolding and_with
and_same k p q finds agree ts h =
    let operands = tempo_same k p q finds agree in
    let found = tempo_found p finds in
    same_then (tempo_with p ts) (λ f rest. chain (behind_keyword keywords.And) conj (tempo_with p) (length rest) f rest) (λ f rest. chain (behind_keyword keywords.And) conj (tempo_with q) (length rest) f rest)
    (λ f rest e. chain_same keywords.And conj tempo_level k (tempo_with p) (tempo_with q) found operands (length rest) f rest (omega (arith, shorter tempo_level (tempo_with p) found ts f rest e)))
    ∙ ap (λ (o : Reading RawTree). and_then o (λ f rest. chain (behind_keyword keywords.And) conj (tempo_with q) (length rest) f rest)) (operands ts h)

or_same : (k : ℕ) (p q : Reads) → Finds prefix_level p → AgreeTo k p q → AgreeTo k (or_with p) (or_with q)
unfolding or_with
or_same k p q finds agree ts h =
    let operands = and_same k p q finds agree in
    let found = and_found p finds in
    same_then (and_with p ts) (λ f rest. chain (behind_keyword keywords.Or) disj (and_with p) (length rest) f rest) (λ f rest. chain (behind_keyword keywords.Or) disj (and_with q) (length rest) f rest)
    (λ f rest e. chain_same keywords.Or disj and_level k (and_with p) (and_with q) found operands (length rest) f rest (omega (arith, shorter and_level (and_with p) found ts f rest e)))
    ∙ ap (λ (o : Reading RawTree). and_then o (λ f rest. chain (behind_keyword keywords.Or) disj (and_with q) (length rest) f rest)) (operands ts h)

pub right_same : (make : RawTree → RawTree) (before : Keyword) (k : ℕ) (p q : Reads) → AgreeTo k p q → (f : RawTree) (ts : List TokenForm) → length ts ≤ k → with_right make p f ts (behind_keyword before ts) ≡ with_right make q f ts (behind_keyword before ts)
right_same make before k p q agree f ts h = by_rest (behind_keyword before ts) refl
  where
    by_rest : (o : Option (List TokenForm)) → behind_keyword before ts ≡ o → with_right make p f ts o ≡ with_right make q f ts o
    by_rest None e = refl
    by_rest (Some rest) e = ap (λ (o : Reading RawTree). read_as make o) (agree rest (omega (arith, keyword_shorter before ts rest e)))

-- operands with an operator between them, each by the same reader
sides_same : (make : RawTree → RawTree → RawTree) (before : Keyword) (l : Level) (k : ℕ) (p q r s : Reads) → Finds l p → AgreeTo k p q → AgreeTo k r s
    → (ts : List TokenForm) → length ts ≤ k → and_then (p ts) (λ f rest. with_right (make f) r f rest (behind_keyword before rest)) ≡ and_then (q ts) (λ f rest. with_right (make f) s f rest (behind_keyword before rest))
sides_same make before l k p q r s finds agree right ts h =
    same_then (p ts) (λ f rest. with_right (make f) r f rest (behind_keyword before rest)) (λ f rest. with_right (make f) s f rest (behind_keyword before rest))
    (λ f rest e. right_same (make f) before k r s right f rest (omega (arith, shorter l p finds ts f rest e)))
    ∙ ap (λ (o : Reading RawTree). and_then o (λ f rest. with_right (make f) s f rest (behind_keyword before rest))) (agree ts h)

implies_from_same : (k : ℕ) (p q : Reads) → Finds prefix_level p → AgreeTo k p q → (n : ℕ) → AgreeTo k (implies_from p n) (implies_from q n)
unfolding implies_from
implies_from_same k p q finds agree zero ts h = or_same k p q finds agree ts h
implies_from_same k p q finds agree (suc n) ts h = sides_same implies keywords.Implies or_level k (or_with p) (or_with q) (implies_from p n) (implies_from q n) (or_found p finds) (or_same k p q finds agree) (implies_from_same k p q finds agree n) ts h

implies_same : (k : ℕ) (p q : Reads) → Finds prefix_level p → AgreeTo k p q → AgreeTo k (implies_with p) (implies_with q)
unfolding implies_with
implies_same k p q finds agree ts h = implies_from_same k p q finds agree (length ts) ts h

pub iff_same : (k : ℕ) (p q : Reads) → Finds prefix_level p → AgreeTo k p q → AgreeTo k (iff_with p) (iff_with q)
unfolding iff_with
iff_same k p q finds agree ts h = let sides = implies_same k p q finds agree in sides_same iff keywords.Iff implies_level k (implies_with p) (implies_with q) (implies_with p) (implies_with q) (implies_found p finds) sides sides ts h

pub whole_same : (k : ℕ) (p q : Reads) → Finds prefix_level p → AgreeTo k p q → AgreeTo k (whole_with p) (whole_with q)
unfolding whole_with
whole_same k p q finds agree ts h = let sides = iff_same k p q finds agree in sides_same entails keywords.Entails iff_level k (iff_with p) (iff_with q) (iff_with p) (iff_with q) (iff_with_found p finds) sides sides ts h

primary_same : (k : ℕ) (p q : Reads) → Finds prefix_level p → AgreeTo k p q → (ts : List TokenForm) → length ts ≤ suc k → primary_with (whole_with p) ts ≡ primary_with (whole_with q) ts
unfolding primary_with
primary_same k p q finds agree ts h =
    same_behind (behind_keyword keywords.True ts) (λ rest. Ok (truth, rest)) (λ rest. Ok (truth, rest)) _ _ (λ rest e. refl) (
    same_behind (behind_keyword keywords.False ts) (λ rest. Ok (falsity, rest)) (λ rest. Ok (falsity, rest)) _ _ (λ rest e. refl) (
    same_behind (behind_mark OpenParenthesis ts) (λ rest. closed (whole_with p rest)) (λ rest. closed (whole_with q rest)) (atom_at ts) (atom_at ts)
    (λ rest e. ap (λ (o : Reading RawTree). closed o) (whole_same k p q finds agree rest (omega (arith, ap length (mark_is OpenParenthesis ts rest e))))) refl
    )
    )

quantified_same : (make : List ℕ → List ℕ → RawTree → RawTree) (k : ℕ) (p q : Reads) → Finds prefix_level p → AgreeTo k p q → (ts : List TokenForm) → length ts ≤ k → quantified_with make (whole_with p) ts ≡ quantified_with make (whole_with q) ts
unfolding quantified_with
quantified_same make k p q finds agree ts h =
    same_then (head_at ts) (λ n inner. read_as (make n.0 n.1) (closed (whole_with p inner))) (λ n inner. read_as (make n.0 n.1) (closed (whole_with q inner)))
    (λ n inner e. ap (λ (o : Reading RawTree). read_as (make n.0 n.1) (closed o)) (whole_same k p q finds agree inner (omega (arith, head_shorter ts n inner e))))

simple_same : (k : ℕ) (p q : Reads) → Finds prefix_level p → AgreeTo k p q → (ts : List TokenForm) → length ts ≤ suc k → simple_with (whole_with p) ts ≡ simple_with (whole_with q) ts
unfolding simple_with
simple_same k p q finds agree ts h =
    same_behind (behind_further furthers.All ts) (quantified_with for_all (whole_with p)) (quantified_with for_all (whole_with q)) _ _
    (λ rest e. quantified_same for_all k p q finds agree rest (omega (arith, ap length (further_is furthers.All ts rest e)))) (
    same_behind (behind_further furthers.Some ts) (quantified_with for_some (whole_with p)) (quantified_with for_some (whole_with q)) _ _
    (λ rest e. quantified_same for_some k p q finds agree rest (omega (arith, ap length (further_is furthers.Some ts rest e))))
    (primary_same k p q finds agree ts h)
    )

pub prefix_same : (k : ℕ) (p q : Reads) → Finds prefix_level p → AgreeTo k p q → AgreeTo (suc k) (prefix_with p (whole_with p)) (prefix_with q (whole_with q))
unfolding prefix_with
prefix_same k p q finds agree ts h = same_then (opening_at ts) (prefix_behind p (whole_with p)) (prefix_behind q (whole_with q)) by_opening
  where
    by_opening : (o : Option Opening) (more : List TokenForm) → opening_at ts ≡ Ok (o, more) → prefix_behind p (whole_with p) o more ≡ prefix_behind q (whole_with q) o more
    by_opening None more e = simple_same k p q finds agree more (omega (arith, ap length (opening_none ts more e)))
    by_opening (Some o) more e = ap (λ (r : Reading RawTree). read_as (opened o) r) (agree more (omega (arith, opening_shorter ts o more e)))

prefix_nothing : (n : ℕ) → prefix_at n [] ≡ Err []
unfolding prefix_at prefix_with opening_at simple_with primary_with atom_at name_at
prefix_nothing zero = refl
prefix_nothing (suc n) = refl

deeper : (k n m : ℕ) → suc k ≤ n → suc k ≤ m → ((i j : ℕ) → k ≤ i → k ≤ j → AgreeTo k (prefix_at i) (prefix_at j)) → AgreeTo (suc k) (prefix_at n) (prefix_at m)
unfolding prefix_at
deeper k zero m le_n le_m below ts h = let never : ⊥ = omega arith in absurd never
deeper k (suc n) zero le_n le_m below ts h = let never : ⊥ = omega arith in absurd never
deeper k (suc n) (suc m) le_n le_m below ts h = prefix_same k (prefix_at n) (prefix_at m) (prefix_at_found n) (below n m (omega arith) (omega arith)) ts h

pub prefix_fuel : (k n m : ℕ) → k ≤ n → k ≤ m → AgreeTo k (prefix_at n) (prefix_at m)
prefix_fuel zero n m le_n le_m [] h = prefix_nothing n ∙ sym (prefix_nothing m)
prefix_fuel zero n m le_n le_m (t ∷ ts) h = let never : ⊥ = omega arith in absurd never
prefix_fuel (suc k) n m le_n le_m ts h = deeper k n m le_n le_m (prefix_fuel k) ts h

pub whole_fuel : (n m : ℕ) (ts : List TokenForm) → length ts ≤ n → length ts ≤ m → whole_at n ts ≡ whole_at m ts
unfolding whole_at
whole_fuel n m ts le_n le_m = whole_same (length ts) (prefix_at n) (prefix_at m) (prefix_at_found n) (prefix_fuel (length ts) n m le_n le_m) ts (omega arith)

pub iff_fuel : (n m : ℕ) (ts : List TokenForm) → length ts ≤ n → length ts ≤ m → iff_at n ts ≡ iff_at m ts
unfolding iff_at
iff_fuel n m ts le_n le_m = iff_same (length ts) (prefix_at n) (prefix_at m) (prefix_at_found n) (prefix_fuel (length ts) n m le_n le_m) ts (omega arith)
