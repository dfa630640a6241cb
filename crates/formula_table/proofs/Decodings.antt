-- Shapes with their operands before them, and the formulas that they stand for.
use Rattle.std.proofs.Common.{◌≡◌, ◌↔◌, ℕ, zero, suc, ◌+◌, ◌<◌, ◌≤◌, Bool, true, false, cond, ◌||◌, not, List, [], ◌∷◌, ◌++◌, IsTrue, length, refl, sym, ap, ap₂, ◌∙◌, subst, true≢false, append_assoc, append-nil, length-append, arith}
use Rattle.std.specs.List.{list_any, position_or_len}
use Rattle.std.specs.Prelude.{slice_index_or}
use Rattle.bound_unfolding.specs.CoreForm.{CoreForm, both, either, after, core_until, core_release}
use Rattle.formula_table.specs.declared.shape.Shape.{Shape}
use Rattle.formula_table.specs.declared.shape.Shape.TheVariants.{True, False, Lit, And, Or, Next, Until, Release}
use Rattle.formula_table.specs.declared.shape.FormulaId.{FormulaId}
use Rattle.formula_table.specs.Closures.{is_same, formula_at, number_in, with_formula}
use Rattle.formula_table.specs.Decoding.{formula_of, OperandsBelow, decoded_over, decoded, OperandsFirst}
use Rattle.formula_table.specs.Distinct.{IsDistinct}
use Rattle.formula_table.proofs.Members.{same_eq, same_self, at_more, at_distinct}

-- ---- one more shape
decoded_more : (cl : List CoreForm) (ss : List Shape) (s : Shape) → decoded_over cl (ss ++ s ∷ []) ≡ decoded_over cl ss ++ formula_of (decoded_over cl ss) s ∷ []
decoded_more cl [] s = refl
decoded_more cl (t ∷ ss) s = decoded_more (cl ++ formula_of cl t ∷ []) ss s

decoded_over_length : (cl : List CoreForm) (ss : List Shape) → length (decoded_over cl ss) ≡ length cl + length ss
decoded_over_length cl [] = omega arith
decoded_over_length cl (s ∷ ss) =
    let h = decoded_over_length (cl ++ formula_of cl s ∷ []) ss in
    let g = length-append cl (formula_of cl s ∷ []) in
    omega (arith, h, g)

pub decoded_length : (ss : List Shape) → length (decoded ss) ≡ length ss
decoded_length ss = let h = decoded_over_length [] ss in omega (arith, h)

first_more : (n : ℕ) (ss : List Shape) (s : Shape) → OperandsFirst n ss → OperandsBelow (n + length ss) s → OperandsFirst n (ss ++ s ∷ [])
first_more n [] s o b = (subst (λ m. OperandsBelow m s) (omega arith) b, tt)
first_more n (t ∷ ss) s o b = (o.0, first_more (suc n) ss s o.1 (subst (λ m. OperandsBelow m s) (omega arith) b))

-- ---- shapes over a closure are of different formulas
module _ (cl : List CoreForm) (o : IsDistinct cl) where
  pub id_once : (a b : FormulaId) → a.0 < length cl → b.0 < length cl → formula_at cl a.0 ≡ formula_at cl b.0 → a ≡ b
  id_once a b l m e = ap (λ (n : ℕ). let id : FormulaId = record { 0 = n } in id) (at_distinct cl o a.0 b.0 l m e)

  shape_once : (s t : Shape) → OperandsBelow (length cl) s → OperandsBelow (length cl) t → formula_of cl s ≡ formula_of cl t → s ≡ t
  shape_once True True b c e = refl
  shape_once False False b c e = refl
  shape_once (Lit v s) (Lit w u) b c e =
      let p : v.0 ≡ w.0 = cc in
      let q : s.0 ≡ u.0 = cc in
      ap₂ (λ (n m : ℕ). let r : Shape = Lit (record { 0 = n }) (record { 0 = m }) in r) p q
  shape_once (And x y) (And z w) b c e =
      let p : formula_at cl x.0 ≡ formula_at cl z.0 = cc in
      let q : formula_at cl y.0 ≡ formula_at cl w.0 = cc in
      ap₂ And (id_once x z b.0 c.0 p) (id_once y w b.1 c.1 q)
  shape_once (Or x y) (Or z w) b c e =
      let p : formula_at cl x.0 ≡ formula_at cl z.0 = cc in
      let q : formula_at cl y.0 ≡ formula_at cl w.0 = cc in
      ap₂ Or (id_once x z b.0 c.0 p) (id_once y w b.1 c.1 q)
  shape_once (Next x) (Next z) b c e =
      let p : formula_at cl x.0 ≡ formula_at cl z.0 = cc in
      ap Next (id_once x z b c p)
  shape_once (Until x y) (Until z w) b c e =
      let p : formula_at cl x.0 ≡ formula_at cl z.0 = cc in
      let q : formula_at cl y.0 ≡ formula_at cl w.0 = cc in
      ap₂ Until (id_once x z b.0 c.0 p) (id_once y w b.1 c.1 q)
  shape_once (Release x y) (Release z w) b c e =
      let p : formula_at cl x.0 ≡ formula_at cl z.0 = cc in
      let q : formula_at cl y.0 ≡ formula_at cl w.0 = cc in
      ap₂ Release (id_once x z b.0 c.0 p) (id_once y w b.1 c.1 q)
  shape_once _ _ b c e = absurd (cc)

-- ---- a formula stays as more come
formula_more : (cl ds : List CoreForm) (s : Shape) → OperandsBelow (length cl) s → formula_of (cl ++ ds) s ≡ formula_of cl s
formula_more cl ds True b = refl
formula_more cl ds False b = refl
formula_more cl ds (Lit v s) b = refl
formula_more cl ds (And x y) b = ap₂ both (at_more cl ds x.0 b.0) (at_more cl ds y.0 b.1)
formula_more cl ds (Or x y) b = ap₂ either (at_more cl ds x.0 b.0) (at_more cl ds y.0 b.1)
formula_more cl ds (Next x) b = ap after (at_more cl ds x.0 b)
formula_more cl ds (Until x y) b = ap₂ core_until (at_more cl ds x.0 b.0) (at_more cl ds y.0 b.1)
formula_more cl ds (Release x y) b = ap₂ core_release (at_more cl ds x.0 b.0) (at_more cl ds y.0 b.1)

below_more : (n m : ℕ) (s : Shape) → n ≤ m → OperandsBelow n s → OperandsBelow m s
below_more n m True l b = tt
below_more n m False l b = tt
below_more n m (Lit v s) l b = tt
below_more n m (And x y) l b = (omega (arith, b.0), omega (arith, b.1))
below_more n m (Or x y) l b = (omega (arith, b.0), omega (arith, b.1))
below_more n m (Next x) l b = omega (arith, b)
below_more n m (Until x y) l b = (omega (arith, b.0), omega (arith, b.1))
below_more n m (Release x y) l b = (omega (arith, b.0), omega (arith, b.1))

-- ---- the formulas of shapes, each over a whole closure
abbrev AreOf : List CoreForm → List Shape → List CoreForm → Type 0
AreOf cl [] [] = Unit {0}
AreOf cl (s ∷ ss) (c ∷ cs) = (c ≡ formula_of cl s) × OperandsBelow (length cl) s × AreOf cl ss cs
AreOf cl _ _ = ⊥

of_more : (cl ds : List CoreForm) (ss : List Shape) (cs : List CoreForm) → AreOf cl ss cs → AreOf (cl ++ ds) ss cs
of_more cl ds [] [] t = tt
of_more cl ds [] (c ∷ cs) t = t
of_more cl ds (s ∷ ss) [] t = t
of_more cl ds (s ∷ ss) (c ∷ cs) t =
    let g = length-append cl ds in
    (t.0 ∙ sym (formula_more cl ds s t.1), below_more (length cl) (length (cl ++ ds)) s (omega (arith, g)) t.1, of_more cl ds ss cs t.2)

of_last : (cl : List CoreForm) (ss : List Shape) (cs : List CoreForm) (s : Shape) (c : CoreForm) → AreOf cl ss cs → c ≡ formula_of cl s → OperandsBelow (length cl) s → AreOf cl (ss ++ s ∷ []) (cs ++ c ∷ [])
of_last cl [] [] s c t e b = (e, b, tt)
of_last cl [] (d ∷ cs) s c t e b = absurd t
of_last cl (r ∷ ss) [] s c t e b = absurd t
of_last cl (r ∷ ss) (d ∷ cs) s c t e b = (t.0, t.1, of_last cl ss cs s c t.2 e b)

decoded_over_of : (cl : List CoreForm) (done ss : List Shape) → AreOf cl done cl → OperandsFirst (length cl) ss → AreOf (decoded_over cl ss) (done ++ ss) (decoded_over cl ss)
decoded_over_of cl done [] t o = subst (λ xs. AreOf cl xs cl) (sym (append-nil done)) t
decoded_over_of cl done (s ∷ ss) t o =
    let c = formula_of cl s in
    let cl' = cl ++ c ∷ [] in
    let g = length-append cl (c ∷ []) in
    let len : suc (length cl) ≡ length cl' = omega (arith, g) in
    let t' = of_last cl' done cl s c (of_more cl (c ∷ []) done cl t) (sym (formula_more cl (c ∷ []) s o.0)) (below_more (length cl) (length cl') s (omega arith) o.0) in
    subst (λ xs. AreOf (decoded_over cl' ss) xs (decoded_over cl' ss)) (append_assoc done (s ∷ []) ss) (decoded_over_of cl' (done ++ s ∷ []) ss t' (subst (λ n. OperandsFirst n ss) len o.1))

decoded_of : (ss : List Shape) → OperandsFirst 0 ss → AreOf (decoded ss) ss (decoded ss)
decoded_of ss o = decoded_over_of [] [] ss tt o

-- ---- formulas over a closure are of one list of shapes
of_once : (cl : List CoreForm) → IsDistinct cl → (ss ts : List Shape) (cs : List CoreForm) → AreOf cl ss cs → AreOf cl ts cs → ss ≡ ts
of_once cl o [] [] [] p q = refl
of_once cl o (s ∷ ss) (t ∷ ts) (c ∷ cs) p q = ap₂ (λ x xs. x ∷ xs) (shape_once cl o s t p.1 q.1 (sym p.0 ∙ q.0)) (of_once cl o ss ts cs p.2 q.2)
of_once cl o [] [] (c ∷ cs) p q = absurd p
of_once cl o [] (t ∷ ts) [] p q = absurd q
of_once cl o [] (t ∷ ts) (c ∷ cs) p q = absurd p
of_once cl o (s ∷ ss) ts [] p q = absurd p
of_once cl o (s ∷ ss) [] (c ∷ cs) p q = absurd q

-- a closure is that of one list of shapes
pub decoded_once : (ss ts : List Shape) → OperandsFirst 0 ss → OperandsFirst 0 ts → IsDistinct (decoded ss) → decoded ss ≡ decoded ts → ss ≡ ts
decoded_once ss ts o u d e = of_once (decoded ss) d ss ts (decoded ss) (decoded_of ss o) (subst (λ cs. AreOf cs ts cs) (sym e) (decoded_of ts u))

-- ---- the shape of a number
shape_of_number : (cl : List CoreForm) (ss : List Shape) (cs : List CoreForm) → AreOf cl ss cs → (k : ℕ) → k < length ss → formula_of cl (slice_index_or ss k True) ≡ formula_at cs k
shape_of_number cl [] cs t k l = absurd (omega arith)
shape_of_number cl (r ∷ ss) [] t k l = absurd t
shape_of_number cl (r ∷ ss) (c ∷ cs) t zero l = sym t.0
shape_of_number cl (r ∷ ss) (c ∷ cs) t (suc k) l = shape_of_number cl ss cs t.2 k (omega arith)

pub shape_formula : (ss : List Shape) → OperandsFirst 0 ss → (k : ℕ) → k < length (decoded ss) → formula_of (decoded ss) (slice_index_or ss k True) ≡ formula_at (decoded ss) k
shape_formula ss o k l = let e = decoded_length ss in shape_of_number (decoded ss) ss (decoded ss) (decoded_of ss o) k (omega (arith, e))

below_behind : (n : ℕ) (ss : List Shape) → OperandsFirst n ss → (k : ℕ) → k < length ss → OperandsBelow (n + k) (slice_index_or ss k True)
below_behind n [] o k l = absurd (omega arith)
below_behind n (r ∷ ss) o zero l = subst (λ m. OperandsBelow m r) (omega arith) o.0
below_behind n (r ∷ ss) o (suc k) l = subst (λ m. OperandsBelow m (slice_index_or ss k True)) (omega arith) (below_behind (suc n) ss o.1 k (omega arith))

pub shape_below : (ss : List Shape) → OperandsFirst 0 ss → (k : ℕ) → k < length (decoded ss) → OperandsBelow k (slice_index_or ss k True)
shape_below ss o k l =
    let e = decoded_length ss in
    subst (λ m. OperandsBelow m (slice_index_or ss k True)) (omega arith) (below_behind 0 ss o k (omega (arith, e)))

-- ---- a shape is among those of a table where its formula is in the closure, and at the same place
module _ (eq : Shape → Shape → Bool) (eq_is : (s t : Shape) → IsTrue (eq s t) ↔ (s ≡ t)) (cl : List CoreForm) (once : IsDistinct cl) (s : Shape) (below : OperandsBelow (length cl) s) where
  one_same : (t : Shape) (c : CoreForm) → c ≡ formula_of cl t → OperandsBelow (length cl) t → eq s t ≡ is_same (formula_of cl s) c
  one_same t c e b = go (eq s t) (is_same (formula_of cl s) c) refl refl
    where
      go : (x y : Bool) → eq s t ≡ x → is_same (formula_of cl s) c ≡ y → x ≡ y
      go true true p q = refl
      go false false p q = refl
      go true false p q = absurd (true≢false (sym (subst (λ z. IsTrue (is_same (formula_of cl s) z)) (ap (formula_of cl) ((eq_is s t).0 p) ∙ sym e) (same_self (formula_of cl s))) ∙ q))
      go false true p q = absurd (true≢false (sym ((eq_is s t).1 (shape_once cl once s t below b (same_eq (formula_of cl s) c q ∙ e))) ∙ p))

  any_same : (ss : List Shape) (cs : List CoreForm) → AreOf cl ss cs → list_any (eq s) ss ≡ list_any (is_same (formula_of cl s)) cs
  any_same [] [] t = refl
  any_same [] (c ∷ cs) t = absurd t
  any_same (r ∷ ss) [] t = absurd t
  any_same (r ∷ ss) (c ∷ cs) t = ap₂ (λ a b. a || b) (one_same r c t.0 t.1) (any_same ss cs t.2)

  place_same : (ss : List Shape) (cs : List CoreForm) → AreOf cl ss cs → position_or_len (eq s) ss ≡ number_in cs (formula_of cl s)
  place_same [] [] t = refl
  place_same [] (c ∷ cs) t = absurd t
  place_same (r ∷ ss) [] t = absurd t
  place_same (r ∷ ss) (c ∷ cs) t = turned (eq s r) (position_or_len (eq s) ss) ∙ ap₂ (λ a b. cond a 0 (suc b)) (one_same r c t.0 t.1) (place_same ss cs t.2)
    where
      turned : (b : Bool) (n : ℕ) → cond (not b) (1 + n) 0 ≡ cond b 0 (suc n)
      turned true n = refl
      turned false n = omega arith

-- ---- the table after a shape is put
module _ (eq : Shape → Shape → Bool) (eq_is : (s t : Shape) → IsTrue (eq s t) ↔ (s ≡ t)) (ss : List Shape) (s : Shape) (o : OperandsFirst 0 ss) (d : IsDistinct (decoded ss)) (b : OperandsBelow (length (decoded ss)) s) where
  pub put_any : list_any (eq s) ss ≡ list_any (is_same (formula_of (decoded ss) s)) (decoded ss)
  put_any = any_same eq eq_is (decoded ss) d s b ss (decoded ss) (decoded_of ss o)

  pub put_place : position_or_len (eq s) ss ≡ number_in (decoded ss) (formula_of (decoded ss) s)
  put_place = place_same eq eq_is (decoded ss) d s b ss (decoded ss) (decoded_of ss o)

  pub put_closure : decoded (cond (list_any (eq s) ss) ss (ss ++ s ∷ [])) ≡ with_formula (formula_of (decoded ss) s) (decoded ss)
  put_closure = go (list_any (eq s) ss) (list_any (is_same (formula_of (decoded ss) s)) (decoded ss)) put_any
    where
      go : (x y : Bool) → x ≡ y → decoded (cond x ss (ss ++ s ∷ [])) ≡ cond y (decoded ss) (decoded ss ++ formula_of (decoded ss) s ∷ [])
      go true true e = refl
      go false false e = decoded_more [] ss s
      go true false e = absurd (true≢false e)
      go false true e = absurd (true≢false (sym e))

pub put_first : (x : Bool) (ss : List Shape) (s : Shape) → OperandsFirst 0 ss → OperandsBelow (length (decoded ss)) s → OperandsFirst 0 (cond x ss (ss ++ s ∷ []))
put_first true ss s o b = o
put_first false ss s o b = let e = decoded_length ss in first_more 0 ss s o (subst (λ n. OperandsBelow n s) (omega (arith, e)) b)
