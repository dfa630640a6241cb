-- Texts of certificates: no two certificates have one text, and where other bytes part from all texts.
use Rattle.std.proofs.Common.{◌≡◌, ◌≢◌, ℕ, zero, suc, ◌^◌, ◌<◌, ◌≤◌, List, [], ◌∷◌, ◌++◌, length, refl, sym, subst, ap, ap₂, ◌∙◌, append_assoc, arith, lit<}
use Rattle.std.specs.Prelude.{codes, Contains}
use Rattle.std.specs.List.{All, AllByRecursion as Each, flat_map}
use Rattle.std.specs.Fmt.{decimal}
use Rattle.std.proofs.lemmas.List.{length-append}
use Rattle.tableau_rules.specs.Certificates.{CertNodeForm}
use Rattle.elimination_cert.specs.CertTexts.{first_line, node_text, FitsSizes}
use Rattle.elimination_cert.specs.Readings.{Spells, HasTooMany, IsLine}
use Rattle.elimination_cert.specs.Guesses.{before, behind, number_in, node_in, count_in}
use Rattle.elimination_cert.proofs.Cuts.{Lacks, before_first, behind_first}
use Rattle.elimination_cert.proofs.Numerals.{each_joined, lacks_decimal, below_digits, number_again}
use Rattle.elimination_cert.proofs.ListLaws.{each_of_all}
use Rattle.elimination_cert.proofs.NodeLaws.{AreFew, HasLine, lacks_test, node_again, node_line}

-- ---- lines
pub lines_same : (a b x y : List ℕ) → HasLine a → HasLine b → a ++ x ≡ b ++ y → (a ≡ b) × (x ≡ y)
lines_same a b x y g h e =
    let p = g.0 in
    let q = h.0 in
    let left : a ++ x ≡ p ++ 10 ∷ x = ap (λ z. z ++ x) g.1 ∙ append_assoc p (10 ∷ []) x in
    let right : b ++ y ≡ q ++ 10 ∷ y = ap (λ z. z ++ y) h.1 ∙ append_assoc q (10 ∷ []) y in
    let same : p ++ 10 ∷ x ≡ q ++ 10 ∷ y = sym left ∙ e ∙ right in
    let fronts : p ≡ q = sym (before_first 10 p x g.2) ∙ ap (before 10) same ∙ before_first 10 q y h.2 in
    (g.1 ∙ ap (λ z. z ++ 10 ∷ []) fronts ∙ sym h.1, sym (behind_first 10 p x g.2) ∙ ap (behind 10) same ∙ behind_first 10 q y h.2)

-- what has no line feed is the front of no line
no_line : (p x : List ℕ) → Lacks 10 (p ++ 10 ∷ x) → ⊥
no_line [] x h = h.0 refl
no_line (b ∷ p) x h = no_line p x h.1

pub line_lacks : (a x : List ℕ) → HasLine a → Lacks 10 (a ++ x) → ⊥
line_lacks a x g h = no_line g.0 x (subst (Lacks 10) (ap (λ z. z ++ x) g.1 ∙ append_assoc g.0 (10 ∷ []) x) h)

pub line_long : (a : List ℕ) → HasLine a → 0 < length a
line_long a g = omega (arith, ap length g.1, length-append g.0 (10 ∷ []))

pub not_empty : (a x : List ℕ) → HasLine a → [] ≡ a ++ x → ⊥
not_empty a x g e = omega (arith, line_long a g, ap length e, length-append a x)

-- ---- lines as they are said in specs/
pub lacks_to : (byte : ℕ) (xs : List ℕ) → Lacks byte xs → ¬ (Contains xs byte)
lacks_to byte [] h c = omega (arith, c.1)
lacks_to byte (x ∷ xs) h (zero, l, e) = h.0 e
lacks_to byte (x ∷ xs) h (suc k, l, e) = lacks_to byte xs h.1 (k, omega arith, e)

pub lacks_from : (byte : ℕ) (xs : List ℕ) → ¬ (Contains xs byte) → Lacks byte xs
lacks_from byte [] h = tt
lacks_from byte (x ∷ xs) h = (λ e. h (0, omega arith, e), lacks_from byte xs (λ c. h (suc c.0, omega (arith, c.1), c.2)))

pub is_line : (line : List ℕ) → HasLine line → IsLine line
is_line line h = (h.0, h.1, lacks_to 10 h.0 h.2)

pub has_line : (line : List ℕ) → IsLine line → HasLine line
has_line line h = (h.0, h.1, lacks_from 10 h.0 h.2)

-- ---- the first line
pub first_has_line : (count : ℕ) → count < 2 ^ 32 → HasLine (first_line count)
first_has_line count l = (codes "certificate " ++ decimal count, refl, each_joined (λ b. b ≢ 10) (codes "certificate ") (decimal count) (lacks_test 10 (codes "certificate ") refl) (lacks_decimal 10 count (below_digits 10 (lit< tt)) (omega arith)))

pub count_again : (count : ℕ) → count < 2 ^ 32 → count_in (first_line count) ≡ count
count_again count l = ap number_in (before_first 10 (decimal count) [] (lacks_decimal 10 count (below_digits 10 (lit< tt)) (omega arith))) ∙ number_again count l

pub first_same : (m n : ℕ) (x y : List ℕ) → m < 2 ^ 32 → n < 2 ^ 32 → first_line m ++ x ≡ first_line n ++ y → (m ≡ n) × (x ≡ y)
first_same m n x y g h e =
    let same = lines_same (first_line m) (first_line n) x y (first_has_line m g) (first_has_line n h) e in
    (sym (count_again m g) ∙ ap count_in same.0 ∙ count_again n h, same.1)

-- ---- nodes
abbrev pub nodes_text : List ℕ → List CertNodeForm → List ℕ
nodes_text sizes nodes = flat_map (node_text sizes) nodes

nodes_same : (sizes : List ℕ) (a b : List CertNodeForm) → AreFew sizes → Each (FitsSizes sizes) a → Each (FitsSizes sizes) b → nodes_text sizes a ≡ nodes_text sizes b → a ≡ b
nodes_same sizes [] [] few f g e = refl
nodes_same sizes [] (d ∷ ds) few f g e = absurd (not_empty (node_text sizes d) _ (node_line sizes d few g.0) e)
nodes_same sizes (c ∷ cs) [] few f g e = absurd (not_empty (node_text sizes c) _ (node_line sizes c few f.0) (sym e))
nodes_same sizes (c ∷ cs) (d ∷ ds) few f g e =
    let same = lines_same (node_text sizes c) (node_text sizes d) _ _ (node_line sizes c few f.0) (node_line sizes d few g.0) e in
    ap₂ (λ x xs. x ∷ xs) (sym (node_again sizes c few f.0) ∙ ap (node_in sizes) same.0 ∙ node_again sizes d few g.0) (nodes_same sizes cs ds few f.1 g.1 same.1)

each_size : (sizes : List ℕ) → All (λ size. size ≤ 64) sizes → length sizes ≤ 64 → AreFew sizes
each_size sizes h l = record { count = l; each = each_of_all (λ size. size ≤ 64) sizes h }

pub one_law : (sizes : List ℕ) → length sizes ≤ 64 → All (λ size. size ≤ 64) sizes → (bytes : List ℕ) (a b : List CertNodeForm) → Spells sizes bytes a → Spells sizes bytes b → a ≡ b
one_law sizes l small bytes a b s t =
    let few = each_size sizes small l in
    let same = first_same (length a) (length b) _ _ (omega (arith, s.few)) (omega (arith, t.few)) (sym s.text ∙ t.text) in
    nodes_same sizes a b few (each_of_all (FitsSizes sizes) a s.fits) (each_of_all (FitsSizes sizes) b t.fits) same.1

pub few_law : (sizes bytes : List ℕ) (a : List CertNodeForm) (count : ℕ) → Spells sizes bytes a → ¬ (HasTooMany bytes count)
few_law sizes bytes a count s t =
    let same = first_same (length a) count _ _ (omega (arith, s.few)) t.small (sym s.text ∙ t.first) in
    omega (arith, s.few, t.more, same.0)
