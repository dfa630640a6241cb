-- Bytes that are cut at a byte.
use Rattle.std.proofs.Common.{◌≡◌, ◌≢◌, ℕ, suc, ◌+◌, ◌<◌, ◌≤◌, Bool, true, false, List, [], ◌∷◌, ◌++◌, length, take, drop, None, Some, refl, sym, ap, ap₂, ◌∙◌, append-nil, add-one, arith, cond, true≢false}
use Rattle.std.specs.Prelude.{◌==◌, if◌then◌else◌, nat_lt, not, position}
use Rattle.std.specs.List.{AllByRecursion as Each, flat_map, onto_first, position_or_len}
use Rattle.std.proofs.lemmas.Bool.{cond-true, cond-false, ne_eqb, eq-eqb}
use Rattle.std.proofs.lemmas.Bool.Decides.{nat_tests}
use Rattle.elimination_cert.specs.CertTexts.{joined}
use Rattle.elimination_cert.specs.Guesses.{before, behind, pieces}

-- the bytes have not this one
abbrev pub Lacks : ℕ → List ℕ → Type 0
Lacks byte bytes = Each (λ b. b ≢ byte) bytes

eq_same : (a : ℕ) → (a == a) ≡ true
eq_same a = eq-eqb a a refl

pub before_first : (byte : ℕ) (xs ys : List ℕ) → Lacks byte xs → before byte (xs ++ byte ∷ ys) ≡ xs
before_first byte [] ys h = cond-true (byte == byte) _ _ (eq_same byte)
before_first byte (x ∷ xs) ys h = cond-false (x == byte) _ _ (ne_eqb x byte h.0) ∙ ap (λ zs. x ∷ zs) (before_first byte xs ys h.1)

pub behind_first : (byte : ℕ) (xs ys : List ℕ) → Lacks byte xs → behind byte (xs ++ byte ∷ ys) ≡ ys
behind_first byte [] ys h = cond-true (byte == byte) _ _ (eq_same byte)
behind_first byte (x ∷ xs) ys h = cond-false (x == byte) _ _ (ne_eqb x byte h.0) ∙ behind_first byte xs ys h.1

pub before_none : (byte : ℕ) (xs : List ℕ) → Lacks byte xs → before byte xs ≡ xs
before_none byte [] h = refl
before_none byte (x ∷ xs) h = cond-false (x == byte) _ _ (ne_eqb x byte h.0) ∙ ap (λ zs. x ∷ zs) (before_none byte xs h.1)

pub behind_none : (byte : ℕ) (xs : List ℕ) → Lacks byte xs → behind byte xs ≡ []
behind_none byte [] h = refl
behind_none byte (x ∷ xs) h = cond-false (x == byte) _ _ (ne_eqb x byte h.0) ∙ behind_none byte xs h.1

-- the first piece, and the others
pub first_piece : (byte : ℕ) (xs : List ℕ) → 0 < length xs → pieces byte xs ≡ before byte xs ∷ pieces byte (behind byte xs)
first_piece byte [] l = absurd (omega arith)
first_piece byte (x ∷ xs) l = by_test (x == byte) xs (λ g. first_piece byte xs g)
  where
    by_test : (b : Bool) (ys : List ℕ) → (0 < length ys → pieces byte ys ≡ before byte ys ∷ pieces byte (behind byte ys)) → (if b then [] ∷ pieces byte ys else onto_first x (pieces byte ys)) ≡ (if b then [] else x ∷ before byte ys) ∷ pieces byte (if b then ys else behind byte ys)
    by_test true ys h = refl
    by_test false [] h = refl
    by_test false (y ∷ ys) h = ap (onto_first x) (h (omega arith))

pub behind_shorter : (byte : ℕ) (xs : List ℕ) → 0 < length xs → length (behind byte xs) < length xs
behind_shorter byte [] l = absurd (omega arith)
behind_shorter byte (x ∷ xs) l = by_test (x == byte) (no_longer xs)
  where
    no_longer : (ys : List ℕ) → length (behind byte ys) ≤ length ys
    no_longer [] = omega arith
    no_longer (y ∷ ys) = step (y == byte) (no_longer ys)
      where
        step : (b : Bool) → length (behind byte ys) ≤ length ys → length (if b then ys else behind byte ys) ≤ suc (length ys)
        step true h = omega arith
        step false h = omega arith

    by_test : (b : Bool) → length (behind byte xs) ≤ length xs → length (if b then xs else behind byte xs) < suc (length xs)
    by_test true h = omega arith
    by_test false h = omega arith

-- texts that are joined by a byte which none of them has are cut there again
abbrev pub ArePieces : ℕ → List (List ℕ) → Type 0
ArePieces byte texts = Each (λ text. Lacks byte text × (0 < length text)) texts

pieces_again : (byte : ℕ) (text : List ℕ) (texts : List (List ℕ)) → Lacks byte text → 0 < length text → ArePieces byte texts → pieces byte (text ++ flat_map (λ y. byte ∷ y) texts) ≡ text ∷ texts
pieces_again byte text [] h l a =
    ap (pieces byte) (append-nil text) ∙ first_piece byte text l ∙ ap₂ (λ x xs. x ∷ pieces byte xs) (before_none byte text h) (behind_none byte text h)
pieces_again byte text (next ∷ texts) h l a =
    let rest = next ++ flat_map (λ y. byte ∷ y) texts in
    let long : 0 < length (text ++ byte ∷ rest) = longer text (byte ∷ rest) l in
    first_piece byte (text ++ byte ∷ rest) long
    ∙ ap₂ (λ x xs. x ∷ pieces byte xs) (before_first byte text rest h) (behind_first byte text rest h)
    ∙ ap (λ xs. text ∷ xs) (pieces_again byte next texts a.0.0 a.0.1 a.1)
  where
    longer : (xs ys : List ℕ) → 0 < length xs → 0 < length (xs ++ ys)
    longer [] ys g = absurd (omega arith)
    longer (x ∷ xs) ys g = omega arith

pub pieces_joined : (byte : ℕ) (texts : List (List ℕ)) → ArePieces byte texts → pieces byte (joined byte texts) ≡ texts
pieces_joined byte [] a = refl
pieces_joined byte (text ∷ texts) a = pieces_again byte text texts a.0.0 a.0.1 a.1

-- ---- what is cut by place
abbrev place : ℕ → List ℕ → ℕ
place byte xs = position_or_len (λ b. b == byte) xs

before_place : (byte : ℕ) (xs : List ℕ) → before byte xs ≡ take (place byte xs) xs
before_place byte [] = refl
before_place byte (x ∷ xs) = by_test (x == byte) (before_place byte xs)
  where
    by_test : (b : Bool) → before byte xs ≡ take (place byte xs) xs → (if b then [] else x ∷ before byte xs) ≡ take (cond (not b) (1 + place byte xs) 0) (x ∷ xs)
    by_test true h = refl
    by_test false h = let e : 1 + place byte xs ≡ suc (place byte xs) = omega arith in rw e (ap (λ zs. x ∷ zs) h)

behind_place : (byte : ℕ) (xs : List ℕ) → behind byte xs ≡ drop (suc (place byte xs)) xs
behind_place byte [] = refl
behind_place byte (x ∷ xs) = by_test (x == byte) (behind_place byte xs)
  where
    by_test : (b : Bool) → behind byte xs ≡ drop (suc (place byte xs)) xs → (if b then xs else behind byte xs) ≡ drop (suc (cond (not b) (1 + place byte xs) 0)) (x ∷ xs)
    by_test true h = refl
    by_test false h = let e : 1 + place byte xs ≡ suc (place byte xs) = omega arith in rw e h

lacks_place : (byte : ℕ) (xs : List ℕ) → length xs ≤ place byte xs → Lacks byte xs
lacks_place byte [] l = tt
lacks_place byte (x ∷ xs) l = by_test (x == byte) refl (λ g. lacks_place byte xs g) l
  where
    by_test : (b : Bool) → (x == byte) ≡ b → (length xs ≤ place byte xs → Lacks byte xs) → suc (length xs) ≤ cond (not b) (1 + place byte xs) 0 → Lacks byte (x ∷ xs)
    by_test true e h g = absurd (omega arith)
    by_test false e h g = (λ q. true≢false (sym (eq-eqb x byte q) ∙ e), h (omega arith))

some_place : (n k at : ℕ) → cond (nat_lt n k) (Some n) None ≡ Some at → (n ≡ at) × (n < k)
some_place n k at e = by_test (nat_lt n k) refl e
  where
    by_test : (b : Bool) → nat_lt n k ≡ b → cond b (Some n) None ≡ Some at → (n ≡ at) × (n < k)
    by_test true q h = (cc, grind (arith, nat_tests))
    by_test false q h = absurd cc

no_place : (n k : ℕ) → cond (nat_lt n k) (Some n) None ≡ None → k ≤ n
no_place n k e = by_test (nat_lt n k) refl e
  where
    by_test : (b : Bool) → nat_lt n k ≡ b → cond b (Some n) None ≡ None → k ≤ n
    by_test true q h = absurd cc
    by_test false q h = grind (arith, nat_tests)

pub cut_before : (byte : ℕ) (xs : List ℕ) (at : ℕ) → position (λ b. b == byte) xs ≡ Some at → before byte xs ≡ take at xs
cut_before byte xs at e = before_place byte xs ∙ ap (λ n. take n xs) (some_place (place byte xs) (length xs) at e).0

pub cut_behind : (byte : ℕ) (xs : List ℕ) (at : ℕ) → position (λ b. b == byte) xs ≡ Some at → behind byte xs ≡ drop (at + 1) xs
cut_behind byte xs at e = behind_place byte xs ∙ ap (λ n. drop (suc n) xs) (some_place (place byte xs) (length xs) at e).0 ∙ ap (λ n. drop n xs) (sym (add-one at))

pub cut_none : (byte : ℕ) (xs : List ℕ) → position (λ b. b == byte) xs ≡ None → Lacks byte xs
cut_none byte xs e = lacks_place byte xs (no_place (place byte xs) (length xs) e)
