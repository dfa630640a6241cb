-- What a reader made of readers has read, by what its parts have read.
use Rattle.std.proofs.Common.{◌≡◌, ℕ, zero, suc, List, [], ◌∷◌, ◌++◌, length, Option, Some, None, Ok, refl, sym, ap, subst, ◌∙◌, append_assoc, inl, inr}
use Rattle.std.proofs.lemmas.List.{append-nil}
use Rattle.state_space.specs.declared.keyword.Keyword.{Keyword}
use Rattle.model_tokens.specs.declared.token.Sign.{Sign}
use Rattle.model_tokens.specs.declared.token.Sign.TheVariants.{Comma}
use Rattle.model_tokens.specs.Tokens.{TokenForm, keyword, mark, name}
use Rattle.model_tokens.specs.Values.{cut_name}
use Rattle.model_text.specs.Reading.{Reading, and_then, behind_keyword, behind_mark, keyword_at, mark_at, name_at}
use Rattle.model_text.specs.FormulaReading.{if_behind}
use Rattle.model_text.specs.Readers.{Reader, after, counted, if_word, if_sign, giving, nowhere, more_at, listed_at}
use Rattle.model_text.proofs.FormulaTokens.{keyword_is, mark_is, ok_parts, and_then_ok, read_as_ok, if_behind_cases, mark_at_is}
use Rattle.model_text.proofs.TokenLaws.{keyword_at-ok, name_at-ok}

-- a front of the tokens spells what was read
pub record Found {A : Type 0} (S : List TokenForm → A → Type 0) (ts : List TokenForm) (x : A) (rest : List TokenForm) : Type 0 where
  pub tokens : List TokenForm
  pub spelled : S tokens x
  pub is : ts ≡ tokens ++ rest

-- what a reader reads is spelled
pub record Finds {A : Type 0} (S : List TokenForm → A → Type 0) (read : Reader A) : Type 0 where
  pub found : (ts : List TokenForm) (x : A) (rest : List TokenForm) → read ts ≡ Ok (x, rest) → Found S ts x rest

-- ---- what spells a part

pub data IsKeyword (k : Keyword) : List TokenForm → Unit {0} → Type 0 where
  is_keyword : (u : Unit {0}) → IsKeyword k (keyword k ∷ []) u

pub data IsSign (m : Sign) : List TokenForm → Unit {0} → Type 0 where
  is_mark : (u : Unit {0}) → IsSign m (mark m ∷ []) u

pub data IsName : List TokenForm → List ℕ → Type 0 where
  is_name : (bytes : List ℕ) → IsName (name bytes ∷ []) (cut_name bytes)

pub data IsNothing {A : Type 0} (x : A) : List TokenForm → A → Type 0 where
  is_nothing : IsNothing x [] x

pub data Never {A : Type 0} : List TokenForm → A → Type 0 where
  never : (ts : List TokenForm) (x : A) → ⊥ → Never ts x

pub data Both {A B : Type 0} (S : List TokenForm → A → Type 0) (T : A → List TokenForm → B → Type 0) : List TokenForm → B → Type 0 where
  both : {us vs : List TokenForm} {x : A} {y : B} → S us x → T x vs y → Both S T (us ++ vs) y

pub data Made {A B : Type 0} (make : A → B) (S : List TokenForm → A → Type 0) : List TokenForm → B → Type 0 where
  made : {us : List TokenForm} {x : A} → S us x → Made make S us (make x)

pub data Behind {A : Type 0} (t : TokenForm) (S T : List TokenForm → A → Type 0) : List TokenForm → A → Type 0 where
  here : {us : List TokenForm} {x : A} → S us x → Behind t S T (t ∷ us) x
  other : {us : List TokenForm} {x : A} → T us x → Behind t S T us x

pub data More {A : Type 0} (sign : Sign) (S : List TokenForm → A → Type 0) : List TokenForm → List A → Type 0 where
  no_more : More sign S [] []
  one_more : {us vs : List TokenForm} {x : A} {xs : List A} → S us x → More sign S vs xs → More sign S (mark sign ∷ us ++ vs) (x ∷ xs)

-- ---- what a part reads

pub finds_as : {A : Type 0} {S T : List TokenForm → A → Type 0} {read : Reader A} → ((us : List TokenForm) (x : A) → S us x → T us x) → Finds S read → Finds T read
finds_as way part = record { found = λ ts x rest e. let f = part.found ts x rest e in record { tokens = f.tokens; spelled = way f.tokens x f.spelled; is = f.is } }

pub finds_keyword : (k : Keyword) → Finds (IsKeyword k) (keyword_at k)
finds_keyword k = record { found = λ ts u rest e. record { tokens = keyword k ∷ []; spelled = is_keyword u; is = keyword_at-ok k ts u rest e } }

pub finds_mark : (m : Sign) → Finds (IsSign m) (mark_at m)
finds_mark m = record { found = λ ts u rest e. record { tokens = mark m ∷ []; spelled = is_mark u; is = mark_at_is m ts u rest e } }

pub finds_name : Finds IsName name_at
finds_name = record { found = λ ts x rest e. let f = name_at-ok ts x rest e in record { tokens = name f.bytes ∷ []; spelled = subst (IsName (name f.bytes ∷ [])) (sym f.cut) (is_name f.bytes); is = f.is } }

pub finds_nothing : {A : Type 0} (x : A) → Finds (IsNothing x) (giving x)
finds_nothing x = record { found = λ ts y rest e. let p = ok_parts x y ts rest e in record { tokens = []; spelled = subst (IsNothing x []) p.0 is_nothing; is = p.1 } }

pub finds_nowhere : {A : Type 0} → Finds (Never {A = A}) nowhere
finds_nowhere = record { found = λ ts x rest e. absurd cc }

pub finds_after : {A B : Type 0} {S : List TokenForm → A → Type 0} {T : A → List TokenForm → B → Type 0} {read : Reader A} {next : A → Reader B}
    → Finds S read → ((x : A) → Finds (T x) (next x)) → Finds (Both S T) (after read next)
unfolding after
finds_after {read = read} {next = next} first second = record {
  found = λ ts y rest e.
      let x = and_then_ok (read ts) next y rest e in
      let f = first.found ts x.0 x.1 x.2 in
      let s = (second x.0).found x.1 y rest x.3 in
      record { tokens = f.tokens ++ s.tokens; spelled = both f.spelled s.spelled; is = f.is ∙ ap (λ (vs : List TokenForm). f.tokens ++ vs) s.is ∙ sym (append_assoc f.tokens s.tokens rest) };
}

pub finds_counted : {A B : Type 0} {S : List TokenForm → A → Type 0} {read : Reader A} (make : A → B) → Finds S read → Finds (Made make S) (counted make read)
unfolding counted
finds_counted {S = S} {read = read} make part = record {
  found = λ ts y rest e.
      let x = read_as_ok make (read ts) y rest e in
      let f = part.found ts x.0 rest x.1 in
      record { tokens = f.tokens; spelled = subst (Made make S f.tokens) x.2 (made f.spelled); is = f.is };
}

-- either way, whatever token tells them apart
behind_found : {A : Type 0} (S T : List TokenForm → A → Type 0) (t : TokenForm) (o : Option (List TokenForm)) (first second : Reader A) (ts : List TokenForm) (x : A) (rest : List TokenForm)
    → ((us : List TokenForm) → o ≡ Some us → ts ≡ t ∷ us) → Finds S first → Finds T second → if_behind o first (second ts) ≡ Ok (x, rest) → Found (Behind t S T) ts x rest
behind_found S T t (Some us) first second ts x rest is f g e =
    let p = f.found us x rest e in
    record { tokens = t ∷ p.tokens; spelled = here p.spelled; is = is us refl ∙ ap (λ (vs : List TokenForm). t ∷ vs) p.is }
behind_found S T t None first second ts x rest is f g e =
    let p = g.found ts x rest e in
    record { tokens = p.tokens; spelled = other p.spelled; is = p.is }

pub finds_word : {A : Type 0} {S T : List TokenForm → A → Type 0} {first second : Reader A} (word : Keyword) → Finds S first → Finds T second → Finds (Behind (keyword word) S T) (if_word word first second)
unfolding if_word
finds_word {S = S} {T = T} {first = first} {second = second} word f g = record {
  found = λ ts x rest e. behind_found S T (keyword word) (behind_keyword word ts) first second ts x rest (λ us is. keyword_is word ts us is) f g e;
}

pub finds_sign : {A : Type 0} {S T : List TokenForm → A → Type 0} {first second : Reader A} (sign : Sign) → Finds S first → Finds T second → Finds (Behind (mark sign) S T) (if_sign sign first second)
unfolding if_sign
finds_sign {S = S} {T = T} {first = first} {second = second} sign f g = record {
  found = λ ts x rest e. behind_found S T (mark sign) (behind_mark sign ts) first second ts x rest (λ us is. mark_is sign ts us is) f g e;
}

-- ---- parts behind others

-- more parts were read behind those of the front
pub record FindsMore {A : Type 0} (sign : Sign) (S : List TokenForm → A → Type 0) (front : List A) (ts : List TokenForm) (ys : List A) (rest : List TokenForm) : Type 0 where
  pub tokens : List TokenForm
  pub more : List A
  pub spelled : More sign S tokens more
  pub all : ys ≡ front ++ more
  pub is : ts ≡ tokens ++ rest

none_found : {A : Type 0} (sign : Sign) (S : List TokenForm → A → Type 0) (front : List A) (ts : List TokenForm) (ys : List A) (rest : List TokenForm)
    → ◌≡◌ {A = Reading (List A)} (Ok (front, ts)) (Ok (ys, rest)) → FindsMore sign S front ts ys rest
none_found sign S front ts ys rest e =
    let p = ok_parts front ys ts rest e in
    record { tokens = []; more = []; spelled = no_more; all = sym p.0 ∙ sym (append-nil front); is = p.1 }

pub more_found : {A : Type 0} (sign : Sign) (S : List TokenForm → A → Type 0) (one : Reader A) → Finds S one → (n : ℕ) (front : List A) (ts : List TokenForm) (ys : List A) (rest : List TokenForm)
    → more_at sign one n front ts ≡ Ok (ys, rest) → FindsMore sign S front ts ys rest
unfolding more_at
more_found sign S one finds zero front ts ys rest e = none_found sign S front ts ys rest e
more_found {A} sign S one finds (suc n) front ts ys rest e =
    elim (if_behind_cases (behind_mark sign ts) (λ us. and_then (one us) (λ x more. more_at sign one n (front ++ x ∷ []) more)) (Ok (front, ts)) (Ok (ys, rest)) e) [
      | inl h ↦
          let x = and_then_ok (one h.0) (λ x more. more_at sign one n (front ++ x ∷ []) more) ys rest h.2 in
          let f = finds.found h.0 x.0 x.1 x.2 in
          let m = more_found sign S one finds n (front ++ x.0 ∷ []) x.1 ys rest x.3 in
          record {
            tokens = mark sign ∷ f.tokens ++ m.tokens;
            more = x.0 ∷ m.more;
            spelled = one_more f.spelled m.spelled;
            all = m.all ∙ append_assoc front (x.0 ∷ []) m.more;
            is = mark_is sign ts h.0 h.1 ∙ ap (λ (us : List TokenForm). mark sign ∷ us) (f.is ∙ ap (λ (us : List TokenForm). f.tokens ++ us) m.is ∙ sym (append_assoc f.tokens m.tokens rest));
          }
      | inr h ↦ none_found sign S front ts ys rest h.1
    ]

pub finds_listed : {A : Type 0} {S : List TokenForm → A → Type 0} {one : Reader A} → Finds S one → Finds (Both S (λ x. Made (λ xs. x ∷ xs) (More Comma S))) (listed_at one)
unfolding listed_at
finds_listed {S = S} {one = one} finds = record {
  found = λ ts ys rest e.
      let x = and_then_ok (one ts) (λ x more. more_at Comma one (length more) (x ∷ []) more) ys rest e in
      let f = finds.found ts x.0 x.1 x.2 in
      let m = more_found Comma S one finds (length x.1) (x.0 ∷ []) x.1 ys rest x.3 in
      record {
        tokens = f.tokens ++ m.tokens;
        spelled = subst (Both S (λ x. Made (λ xs. x ∷ xs) (More Comma S)) (f.tokens ++ m.tokens)) (sym m.all) (both f.spelled (made m.spelled));
        is = f.is ∙ ap (λ (us : List TokenForm). f.tokens ++ us) m.is ∙ sym (append_assoc f.tokens m.tokens rest);
      };
}
