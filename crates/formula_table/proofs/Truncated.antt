-- The first formulas of a table, without the others.
use Rattle.std.proofs.Common.{◌≡◌, ℕ, zero, suc, ◌+◌, inl, inr, List, [], ◌∷◌, ◌++◌, length, take, sym, ap, ◌∙◌, append_assoc, append-nil, length-append, true≢false, arith}
use Rattle.std.proofs.Math.Seq.{take-append_seam}
use Rattle.std.proofs.lemmas.List.{take_all}
use Rattle.bound_unfolding.specs.CoreForm.{CoreForm}
use Rattle.formula_table.specs.declared.shape.Shape.{Shape}
use Rattle.formula_table.specs.Closures.{is_same}
use Rattle.formula_table.specs.Decoding.{formula_of, decoded_over, decoded, OperandsFirst}
use Rattle.formula_table.specs.Distinct.{IsMember, IsDistinct}
use Rattle.formula_table.proofs.Tests.{or_left, or_right, or_true}

-- the formulas of shapes come behind those of the closure
decoded_behind : (cl : List CoreForm) (ss : List Shape) → (rest : List CoreForm) × (decoded_over cl ss ≡ cl ++ rest)
decoded_behind cl [] = ([], sym (append-nil cl))
decoded_behind cl (s ∷ ss) =
    let c = formula_of cl s in
    let (rest, e) = decoded_behind (cl ++ c ∷ []) ss in
    (c ∷ rest, e ∙ append_assoc cl (c ∷ []) rest)

-- the formulas of the first shapes are the first formulas
taken_over : (cl : List CoreForm) (ss : List Shape) (n m : ℕ) → m ≡ length cl + n → decoded_over cl (take n ss) ≡ take m (decoded_over cl ss)
taken_over cl [] zero m e = sym (take_all m cl (omega arith))
taken_over cl [] (suc n) m e = sym (take_all m cl (omega arith))
taken_over cl (s ∷ ss) zero m e =
    let (rest, h) = decoded_behind cl (s ∷ ss) in
    let k : m ≡ length cl = omega arith in
    sym (ap (take m) h ∙ ap (λ i. take i (cl ++ rest)) k ∙ take-append_seam cl rest)
taken_over cl (s ∷ ss) (suc n) m e =
    let g = length-append cl (formula_of cl s ∷ []) in
    taken_over (cl ++ formula_of cl s ∷ []) ss n m (omega (arith, g))

-- the same of a whole table
pub decoded-take : (n : ℕ) (ss : List Shape) → decoded (take n ss) ≡ take n (decoded ss)
decoded-take n ss = taken_over [] ss n n (omega arith)

-- the first shapes have their operands before them
pub OperandsFirst-take : (k n : ℕ) (ss : List Shape) → OperandsFirst k ss → OperandsFirst k (take n ss)
OperandsFirst-take k zero [] o = tt
OperandsFirst-take k zero (s ∷ ss) o = tt
OperandsFirst-take k (suc n) [] o = tt
OperandsFirst-take k (suc n) (s ∷ ss) o = (o.0, OperandsFirst-take (suc k) n ss o.1)

-- what is among the first is among all
member_of_first : (n : ℕ) (cl : List CoreForm) (c : CoreForm) → IsMember (take n cl) c → IsMember cl c
member_of_first zero [] c h = h
member_of_first zero (d ∷ ds) c h = absurd (true≢false (sym h))
member_of_first (suc n) [] c h = h
member_of_first (suc n) (d ∷ ds) c h = elim (or_true (is_same c d) _ h) [ inl e ↦ or_left (is_same c d) _ e | inr m ↦ or_right (is_same c d) _ (member_of_first n ds c m) ]

-- no formula stands twice among the first
pub IsDistinct-take : (n : ℕ) (cl : List CoreForm) → IsDistinct cl → IsDistinct (take n cl)
IsDistinct-take zero [] o = tt
IsDistinct-take zero (d ∷ ds) o = tt
IsDistinct-take (suc n) [] o = tt
IsDistinct-take (suc n) (d ∷ ds) o = (λ m. o.0 (member_of_first n ds d m), IsDistinct-take n ds o.1)
