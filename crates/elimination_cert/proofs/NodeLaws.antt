-- The line of a node is read again, and has one line feed, at its end.
use Rattle.std.proofs.Common.{◌≡◌, ◌≢◌, ℕ, ◌^◌, ◌<◌, ◌≤◌, Bool, true, false, List, [], ◌∷◌, ◌++◌, length, map, refl, sym, ap, ap₂, ◌∙◌, append_assoc, arith, lit<, lit≤}
use Rattle.std.specs.Prelude.{◌==◌, ◌&&◌, not, if◌then◌else◌, codes, bytes_eq}
use Rattle.std.specs.List.{All, AllByRecursion as Each, list_all}
use Rattle.std.specs.Fmt.{decimal}
use Rattle.std.proofs.lemmas.Bool.{eq-eqb, true≢false}
use Rattle.tableau_rules.specs.Certificates.{ReasonForm, clash, dead, wait, CertNodeForm}
use Rattle.elimination_cert.specs.CertTexts.{or_dash, list_text, set_texts, now_text, reason_text, node_text, IsSmall, FitsSizes}
use Rattle.elimination_cert.specs.Guesses.{before, behind, number_in, small_in, formulas_in, kids_in, now_in, reason_in, behind_reason, field, behind_field, node_behind, node_in}
use Rattle.elimination_cert.proofs.Cuts.{Lacks, before_first, behind_first}
use Rattle.elimination_cert.proofs.Numerals.{each_joined, each_mapped, lacks_decimal, below_digits, number_again, small_again, number_fits, small_fits}
use Rattle.elimination_cert.proofs.ListLaws.{each_of_all, formulas_again, formulas_fit, kids_again, kids_fit}
use Rattle.elimination_cert.proofs.SetLaws.{lacks_joined, lacks_sets, now_again, now_fits}
use Rattle.tableau_rules.proofs.Lists.{each_map}

-- at most 64 variables of at most 64 values
pub record AreFew (sizes : List ℕ) : Type 0 where
  pub count : length sizes ≤ 64
  pub each : Each (λ size. size ≤ 64) sizes

-- ---- bytes that a field has not
pub lacks_test : (byte : ℕ) (bytes : List ℕ) → list_all (λ b. not (b == byte)) bytes ≡ true → Lacks byte bytes
lacks_test byte [] h = tt
lacks_test byte (b ∷ bytes) h = by_test (b == byte) refl h (λ g. lacks_test byte bytes g)
  where
    by_test : (t : Bool) → (b == byte) ≡ t → (not t && list_all (λ k. not (k == byte)) bytes) ≡ true → (list_all (λ k. not (k == byte)) bytes ≡ true → Lacks byte bytes) → Lacks byte (b ∷ bytes)
    by_test true e g f = absurd (true≢false (sym g))
    by_test false e g f = (λ q. true≢false (sym (eq-eqb b byte q) ∙ e), f g)

lacks_dash : (byte : ℕ) (texts : List (List ℕ)) → byte < 43 → Each (Lacks byte) texts → Lacks byte (or_dash texts)
lacks_dash byte [] l h = (λ q. omega arith, tt)
lacks_dash byte (text ∷ texts) l h = lacks_joined byte 44 (text ∷ texts) (λ q. omega arith) h

lacks_list : (byte bound : ℕ) (numbers : List ℕ) → byte < 43 → bound ≤ 2 ^ 64 → All (λ n. n < bound) numbers → Lacks byte (list_text numbers)
lacks_list byte bound numbers l b h =
    lacks_dash byte (map decimal numbers) l (each_mapped (λ n. n < bound) (Lacks byte) decimal numbers (λ n g. lacks_decimal byte n (below_digits byte (omega arith)) (omega arith)) (each_of_all (λ n. n < bound) numbers h))

lacks_now : (byte : ℕ) (sizes now : List ℕ) → byte < 43 → AreFew sizes → Lacks byte (now_text sizes now)
lacks_now byte sizes now l few =
    lacks_dash byte (set_texts 0 sizes now) l (each_map (λ text. Lacks byte text × (0 < length text)) (Lacks byte) (set_texts 0 sizes now) (λ text g. g.0)
    (lacks_sets byte 0 sizes now (below_digits byte (omega arith)) (λ q. omega arith) (λ q. omega arith) (omega (arith, few.count)) few.each))

-- ---- the reason
pub reason_again : (reason : ReasonForm) (rest : List ℕ) → IsSmall reason → reason_in (reason_text reason ++ 32 ∷ rest) ≡ reason
unfolding reason_in
reason_again clash rest s = refl
reason_again dead rest s = refl
reason_again (wait e) rest s = ap (λ t. wait (small_in t)) (before_first 32 (decimal e) rest (lacks_decimal 32 e (below_digits 32 (omega arith)) (omega arith))) ∙ ap wait (small_again e s)

pub reason_passed : (reason : ReasonForm) (rest : List ℕ) → IsSmall reason → behind_reason (reason_text reason ++ 32 ∷ rest) ≡ rest
unfolding behind_reason
reason_passed clash rest s = refl
reason_passed dead rest s = refl
reason_passed (wait e) rest s = behind_first 32 (decimal e) rest (lacks_decimal 32 e (below_digits 32 (omega arith)) (omega arith))

reason_fits : (bytes : List ℕ) → IsSmall (reason_in bytes)
unfolding reason_in
reason_fits bytes = by_tests (bytes_eq (before 32 bytes) (codes "clash")) (bytes_eq (before 32 bytes) (codes "dead"))
  where
    by_tests : (a b : Bool) → IsSmall (if a then clash else if b then dead else wait (small_in (before 32 (behind 32 bytes))))
    by_tests true b = tt
    by_tests false true = tt
    by_tests false false = small_fits (before 32 (behind 32 bytes))

-- ---- the node
-- the line from the word `todo` on
abbrev kids_line : List ℕ → List ℕ
kids_line kids = codes "kids " ++ (list_text kids ++ 10 ∷ [])

abbrev next_line : List ℕ → List ℕ → List ℕ
next_line next kids = codes "next " ++ (list_text next ++ 32 ∷ kids_line kids)

abbrev now_line : List ℕ → List ℕ → List ℕ → List ℕ → List ℕ
now_line sizes now next kids = codes "now " ++ (now_text sizes now ++ 32 ∷ next_line next kids)

abbrev todo_line : List ℕ → List ℕ → List ℕ → List ℕ → List ℕ → List ℕ
todo_line sizes todo now next kids = codes "todo " ++ (list_text todo ++ 32 ∷ now_line sizes now next kids)

line_parts : (r q t n x k : List ℕ) → r ++ codes " " ++ q ++ codes " todo " ++ t ++ codes " now " ++ n ++ codes " next " ++ x ++ codes " kids " ++ k ++ codes "\n"
    ≡ r ++ 32 ∷ (q ++ 32 ∷ (codes "todo " ++ (t ++ 32 ∷ (codes "now " ++ (n ++ 32 ∷ (codes "next " ++ (x ++ 32 ∷ (codes "kids " ++ (k ++ 10 ∷ [])))))))))
line_parts r q t n x k = simp append_assoc

abbrev made : ℕ → ReasonForm → List ℕ → List ℕ → List ℕ → List ℕ → CertNodeForm
made rank reason todo now next kids = record { node = record { todo = todo; now = now; next = next }; kids = kids; rank = rank; reason = reason }

behind_again : (sizes : List ℕ) (rank : ℕ) (reason : ReasonForm) (c : CertNodeForm) → AreFew sizes → FitsSizes sizes c
    → node_behind sizes rank reason (todo_line sizes c.node.todo c.node.now c.node.next c.kids) ≡ record { node = c.node; kids = c.kids; rank = rank; reason = reason }
behind_again sizes rank reason c few fits =
    let kids : List ℕ = kids_line c.kids in
    let next : List ℕ = next_line c.node.next c.kids in
    let now : List ℕ = now_line sizes c.node.now c.node.next c.kids in
    let todo : List ℕ = todo_line sizes c.node.todo c.node.now c.node.next c.kids in
    let in_todo = lacks_list 32 (2 ^ 16) c.node.todo (lit< tt) (lit≤ tt) fits.todo_small in
    let in_now = lacks_now 32 sizes c.node.now (lit< tt) few in
    let in_next = lacks_list 32 (2 ^ 16) c.node.next (lit< tt) (lit≤ tt) fits.next_small in
    let in_kids = lacks_list 10 (2 ^ 32) c.kids (lit< tt) (lit≤ tt) fits.kids_small in
    let first : formulas_in (field todo) ≡ c.node.todo = ap formulas_in (before_first 32 (list_text c.node.todo) now in_todo) ∙ formulas_again c.node.todo fits.todo fits.todo_small in
    let second : now_in sizes (field now) ≡ c.node.now = ap (now_in sizes) (before_first 32 (now_text sizes c.node.now) next in_now) ∙ now_again sizes c.node.now few.count few.each fits.variables fits.indexes in
    let third : formulas_in (field next) ≡ c.node.next = ap formulas_in (before_first 32 (list_text c.node.next) kids in_next) ∙ formulas_again c.node.next fits.next fits.next_small in
    let fourth : kids_in (before 10 (behind 32 kids)) ≡ c.kids = ap kids_in (before_first 10 (list_text c.kids) [] in_kids) ∙ kids_again c.kids fits.few fits.kids_small in
    ap (λ xs. made rank reason (formulas_in (field todo)) (now_in sizes (field xs)) (formulas_in (field (behind_field xs))) (kids_in (before 10 (behind 32 (behind_field (behind_field xs)))))) (behind_first 32 (list_text c.node.todo) now in_todo)
    ∙ ap (λ xs. made rank reason (formulas_in (field todo)) (now_in sizes (field now)) (formulas_in (field xs)) (kids_in (before 10 (behind 32 (behind_field xs))))) (behind_first 32 (now_text sizes c.node.now) next in_now)
    ∙ ap (λ xs. made rank reason (formulas_in (field todo)) (now_in sizes (field now)) (formulas_in (field next)) (kids_in (before 10 (behind 32 xs)))) (behind_first 32 (list_text c.node.next) kids in_next)
    ∙ ap₂ (λ t n. made rank reason t n (formulas_in (field next)) (kids_in (before 10 (behind 32 kids)))) first second
    ∙ ap₂ (λ x k. made rank reason c.node.todo c.node.now x k) third fourth

pub node_again : (sizes : List ℕ) (c : CertNodeForm) → AreFew sizes → FitsSizes sizes c → node_in sizes (node_text sizes c) ≡ c
node_again sizes c few fits =
    let rest = todo_line sizes c.node.todo c.node.now c.node.next c.kids in
    let line = decimal c.rank ++ 32 ∷ (reason_text c.reason ++ 32 ∷ rest) in
    let rank_far : c.rank < 2 ^ 64 = omega (arith, fits.rank) in
    let blank = lacks_decimal 32 c.rank (below_digits 32 (omega arith)) rank_far in
    let first = before_first 32 (decimal c.rank) (reason_text c.reason ++ 32 ∷ rest) blank in
    let others = behind_first 32 (decimal c.rank) (reason_text c.reason ++ 32 ∷ rest) blank in
    ap (node_in sizes) (line_parts (decimal c.rank) (reason_text c.reason) (list_text c.node.todo) (now_text sizes c.node.now) (list_text c.node.next) (list_text c.kids))
    ∙ ap₂ (λ r xs. node_behind sizes r (reason_in xs) (behind_reason xs)) (ap number_in first ∙ number_again c.rank fits.rank) others
    ∙ ap₂ (λ q xs. node_behind sizes c.rank q xs) (reason_again c.reason rest fits.reason) (reason_passed c.reason rest fits.reason)
    ∙ behind_again sizes c.rank c.reason c few fits

pub node_fits : (sizes line : List ℕ) → FitsSizes sizes (node_in sizes line)
node_fits sizes line =
    let rest = behind_reason (behind 32 line) in
    let now = now_fits sizes (field (behind_field rest)) in
    let todo = formulas_fit (field rest) in
    let next = formulas_fit (field (behind_field (behind_field rest))) in
    let kids = kids_fit (before 10 (behind 32 (behind_field (behind_field (behind_field rest))))) in
    record {
      rank = number_fits (before 32 line);
      reason = reason_fits (behind 32 line);
      todo = todo.0;
      todo_small = todo.1;
      variables = now.0;
      indexes = now.1;
      next = next.0;
      next_small = next.1;
      few = kids.1;
      kids_small = kids.0;
    }

-- ---- the line
lacks_reason : (reason : ReasonForm) → IsSmall reason → Lacks 10 (reason_text reason)
lacks_reason clash s = lacks_test 10 (codes "clash") refl
lacks_reason dead s = lacks_test 10 (codes "dead") refl
lacks_reason (wait e) s = each_joined (λ b. b ≢ 10) (codes "wait ") (decimal e) (lacks_test 10 (codes "wait ") refl) (lacks_decimal 10 e (below_digits 10 (omega arith)) (omega arith))

-- bytes without line feed, and a line feed
abbrev pub HasLine : List ℕ → Type 0
HasLine line = (bytes : List ℕ) × (line ≡ bytes ++ 10 ∷ []) × Lacks 10 bytes

joined_lines : (xs ys : List ℕ) → Lacks 10 xs → Lacks 10 ys → Lacks 10 (xs ++ ys)
joined_lines xs ys a b = each_joined (λ k. k ≢ 10) xs ys a b

pub node_line : (sizes : List ℕ) (c : CertNodeForm) → AreFew sizes → FitsSizes sizes c → HasLine (node_text sizes c)
node_line sizes c few fits =
    let rank_far : c.rank < 2 ^ 64 = omega (arith, fits.rank) in
    let rank = lacks_decimal 10 c.rank (below_digits 10 (lit< tt)) rank_far in
    let todo = lacks_list 10 (2 ^ 16) c.node.todo (lit< tt) (lit≤ tt) fits.todo_small in
    let now = lacks_now 10 sizes c.node.now (lit< tt) few in
    let next = lacks_list 10 (2 ^ 16) c.node.next (lit< tt) (lit≤ tt) fits.next_small in
    let kids = lacks_list 10 (2 ^ 32) c.kids (lit< tt) (lit≤ tt) fits.kids_small in
    let to_reason = joined_lines _ (reason_text c.reason) (joined_lines (decimal c.rank) (codes " ") rank (lacks_test 10 (codes " ") refl)) (lacks_reason c.reason fits.reason) in
    let to_todo = joined_lines _ (list_text c.node.todo) (joined_lines _ (codes " todo ") to_reason (lacks_test 10 (codes " todo ") refl)) todo in
    let to_now = joined_lines _ (now_text sizes c.node.now) (joined_lines _ (codes " now ") to_todo (lacks_test 10 (codes " now ") refl)) now in
    let to_next = joined_lines _ (list_text c.node.next) (joined_lines _ (codes " next ") to_now (lacks_test 10 (codes " next ") refl)) next in
    (_, refl, joined_lines _ (list_text c.kids) (joined_lines _ (codes " kids ") to_next (lacks_test 10 (codes " kids ") refl)) kids)
