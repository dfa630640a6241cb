-- An index of names: what is found by it, and how it grows with the names.
use Rattle.std.proofs.Common.{◌≡◌, ℕ, ◌+◌, Bool, true, false, cond, if◌then◌else◌, List, [], ◌∷◌, ◌++◌, length, map, Option, Some, None, is_some, refl, sym, ap, ap₂, subst, ◌∙◌, arith, bytes_eq, nat_eq, position, Vec, Global}
use Rattle.std.specs.Cmp.Lexicographic.{pointwise, bytes_decides}
use Rattle.std.specs.List.{position_from}
use Rattle.std.specs.Map.{lookup}
use Rattle.std.specs.Option.{option_or}
use Rattle.std.proofs.lemmas.Bool.{false≢true}
use Rattle.std.proofs.lemmas.Iterator.Adapters.{position_from-zero}
use Rattle.std.proofs.lemmas.Slice.Eq.{bytes_eq-Decides}
use Rattle.indexmap.specs.IndexMap.{insert_entry}

abbrev pub Entries : Type 0
Entries = List (Vec ℕ Global × ℕ)

-- the entries of a map of the code, by their bytes
abbrev pub pairs : Entries → List (List ℕ × ℕ)
pairs es = map (λ e. (e.0.items, e.1)) es

-- each name is found among the pairs at its first place
abbrev Finds : List (List ℕ × ℕ) → List (List ℕ) → Type 0
Finds ps names = (x : List ℕ) → lookup (λ n. bytes_eq n x) ps ≡ position (λ n. bytes_eq n x) names

same_tests : (b c : Bool) → (b ≡ true → c ≡ true) → (c ≡ true → b ≡ true) → b ≡ c
same_tests true c there back = sym (there refl)
same_tests false true there back = back refl
same_tests false false there back = refl

-- the two tests of bytes are one
pub same_bytes : (x n : List ℕ) → pointwise nat_eq x n ≡ bytes_eq n x
same_bytes x n = same_tests (pointwise nat_eq x n) (bytes_eq n x) (λ e. (bytes_eq-Decides n x).1 (sym ((bytes_decides x n).0 e))) (λ e. (bytes_decides x n).1 (sym ((bytes_eq-Decides n x).0 e)))

-- what the map answers for a name
pub looked_up : (x : List ℕ) (es : Entries) → lookup (λ k. pointwise nat_eq x k.items) es ≡ lookup (λ n. bytes_eq n x) (pairs es)
looked_up x [] = refl
looked_up x (e ∷ es) = ap₂ (λ b o. cond b (Some e.1) o) (same_bytes x e.0.items) (looked_up x es)

place_pushed : (t : List ℕ → Bool) (ns : List (List ℕ)) (i : ℕ) (n : List ℕ) → position_from t i (ns ++ n ∷ []) ≡ option_or (position_from t i ns) (cond (t n) (Some (i + length ns)) None)
place_pushed t [] i n = let whole : i ≡ i + 0 = omega arith in ap (λ k. cond (t n) (Some k) None) whole
place_pushed t (m ∷ ms) i n = by (t m) (place_pushed t ms (i + 1) n)
  where
    by : (b : Bool) → position_from t (i + 1) (ms ++ n ∷ []) ≡ option_or (position_from t (i + 1) ms) (cond (t n) (Some (i + 1 + length ms)) None)
        → cond b (Some i) (position_from t (i + 1) (ms ++ n ∷ [])) ≡ option_or (cond b (Some i) (position_from t (i + 1) ms)) (cond (t n) (Some (i + length (m ∷ ms))) None)
    by true later = refl
    by false later = let more : i + 1 + length ms ≡ i + length (m ∷ ms) = omega arith in later ∙ ap (λ k. option_or (position_from t (i + 1) ms) (cond (t n) (Some k) None)) more

-- the place of a name behind one more
position_pushed : (t : List ℕ → Bool) (ns : List (List ℕ)) (n : List ℕ) → position t (ns ++ n ∷ []) ≡ option_or (position t ns) (cond (t n) (Some (length ns)) None)
position_pushed t ns n =
    position_from-zero t (ns ++ n ∷ []) ∙ place_pushed t ns 0 n ∙ ap₂ (λ o k. option_or o (cond (t n) (Some k) None)) (sym (position_from-zero t ns)) whole
  where
    whole : 0 + length ns ≡ length ns
    whole = omega arith

lookup_pushed : (t : List ℕ → Bool) (ps : List (List ℕ × ℕ)) (p : List ℕ × ℕ) → lookup t (ps ++ p ∷ []) ≡ option_or (lookup t ps) (cond (t p.0) (Some p.1) None)
lookup_pushed t [] p = refl
lookup_pushed t (q ∷ qs) p = by (t q.0) (lookup_pushed t qs p)
  where
    by : (b : Bool) → lookup t (qs ++ p ∷ []) ≡ option_or (lookup t qs) (cond (t p.0) (Some p.1) None) → cond b (Some q.1) (lookup t (qs ++ p ∷ [])) ≡ option_or (cond b (Some q.1) (lookup t qs)) (cond (t p.0) (Some p.1) None)
    by true later = refl
    by false later = later

found_first : (o last : Option ℕ) → is_some o ≡ true → option_or o last ≡ o
found_first (Some k) last h = refl
found_first None last h = absurd (false≢true h)

-- a name that is there comes again
pub index_stays : (ps : List (List ℕ × ℕ)) (ns : List (List ℕ)) (n : List ℕ) → Finds ps ns → is_some (lookup (λ m. bytes_eq m n) ps) ≡ true → Finds ps (ns ++ n ∷ [])
index_stays ps ns n index there x = index x ∙ sym (position_pushed (λ m. bytes_eq m x) ns n ∙ by (bytes_eq n x) refl)
  where
    place : Option ℕ
    place = position (λ m. bytes_eq m x) ns

    no_last : (o : Option ℕ) → option_or o None ≡ o
    no_last (Some k) = refl
    no_last None = refl

    by : (b : Bool) → bytes_eq n x ≡ b → option_or place (cond b (Some (length ns)) None) ≡ place
    by true is = found_first place (Some (length ns)) (ap is_some (sym (index x)) ∙ ap (λ y. is_some (lookup (λ m. bytes_eq m y) ps)) (sym ((bytes_eq-Decides n x).0 is)) ∙ there)
    by false is = no_last place

-- a new name
more_found : (ps : List (List ℕ × ℕ)) (ns : List (List ℕ)) (n : List ℕ) → Finds ps ns → Finds (ps ++ (n, length ns) ∷ []) (ns ++ n ∷ [])
more_found ps ns n index x =
    lookup_pushed (λ m. bytes_eq m x) ps (n, length ns)
    ∙ ap (λ o. option_or o (cond (bytes_eq n x) (Some (length ns)) None)) (index x)
    ∙ sym (position_pushed (λ m. bytes_eq m x) ns n)

abbrev key_eq : Vec ℕ Global → Vec ℕ Global → Bool
key_eq a b = pointwise nat_eq a.items b.items

put_last : (es : Entries) (k : Vec ℕ Global) (v : ℕ) → lookup (λ n. bytes_eq n k.items) (pairs es) ≡ None → pairs (insert_entry key_eq es k v) ≡ pairs es ++ (k.items, v) ∷ []
put_last [] k v none = refl
put_last (e ∷ es) k v none = by (bytes_eq e.0.items k.items) (same_bytes k.items e.0.items) none (put_last es k v)
  where
    by : (b : Bool) → key_eq k e.0 ≡ b → cond b (Some e.1) (lookup (λ n. bytes_eq n k.items) (pairs es)) ≡ None → (lookup (λ n. bytes_eq n k.items) (pairs es) ≡ None → pairs (insert_entry key_eq es k v) ≡ pairs es ++ (k.items, v) ∷ [])
        → pairs (insert_entry key_eq (e ∷ es) k v) ≡ pairs (e ∷ es) ++ (k.items, v) ∷ []
    by true same h later = absurd cc
    by false same h later = ap (λ b. pairs (if b then (e.0, v) ∷ es else e ∷ insert_entry key_eq es k v)) same ∙ ap (λ ps. (e.0.items, e.1) ∷ ps) (later h)

pub index_grows : (es more : Entries) (ns : List (List ℕ)) (n : List ℕ) (key : Vec ℕ Global) (place : ℕ) → Finds (pairs es) ns → lookup (λ k. pointwise nat_eq n k.items) es ≡ None → key.items ≡ n → length ns ≡ place
    → more ≡ insert_entry key_eq es key place → Finds (pairs more) (ns ++ n ∷ [])
index_grows es more ns n key place index none same at is =
    subst (λ ps. Finds ps (ns ++ n ∷ [])) (sym (ap pairs is ∙ put_last es key place absent ∙ ap₂ (λ m k. pairs es ++ (m, k) ∷ []) same (sym at))) (more_found (pairs es) ns n index)
  where
    absent : lookup (λ m. bytes_eq m key.items) (pairs es) ≡ None
    absent = ap (λ x. lookup (λ m. bytes_eq m x) (pairs es)) same ∙ sym (looked_up n es) ∙ none

-- the same entries
pub index_kept : (es more : Entries) (ns : List (List ℕ)) → Finds (pairs es) ns → more ≡ es → Finds (pairs more) ns
index_kept es more ns index same = subst (λ (e : Entries). Finds (pairs e) ns) (sym same) index

pub no_value : {X : Type 0} (o : Option X) → false ≡ is_some o → o ≡ None
no_value (Some x) h = absurd (false≢true h)
no_value None h = refl
