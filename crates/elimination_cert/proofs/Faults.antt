-- Where bytes part from every text of a certificate.
use Rattle.std.proofs.Common.{◌≡◌, ◌≢◌, ℕ, zero, suc, ◌+◌, ◌-◌, ◌^◌, ◌<◌, ◌≤◌, ◌⊎◌, List, [], ◌∷◌, ◌++◌, length, take, drop, refl, sym, subst, ap, ap₂, ◌∙◌, ⊎_elim, inl, inr, append_assoc, append-nil, arith}
use Rattle.std.specs.Prelude.{Contains, replicate}
use Rattle.std.specs.List.{AllByRecursion as Each}
use Rattle.std.proofs.lemmas.Bool.{cases_eq}
use Rattle.std.proofs.lemmas.Grind.{flat_map-append}
use Rattle.std.proofs.lemmas.List.{length-append, length-take, length-drop, length-replicate, take-append-drop, take_all}
use Rattle.state_space.specs.Members.{full_of}
use Rattle.state_space.specs.Spaces.{sizes}
use Rattle.tableau_rules.specs.Certificates.{clash, CertNodeForm}
use Rattle.elimination_cert.specs.declared.refusal.CertRefusal.TheVariants.{TooMany, Syntax}
use Rattle.elimination_cert.specs.CertTexts.{first_line, node_text, FitsSizes}
use Rattle.elimination_cert.specs.Readings.{Spells, HasTooMany, Begins, EndsLine, IsLine, Refuses}
use Rattle.elimination_cert.specs.Lines.{HasNoNode}
use Rattle.elimination_cert.proofs.Cuts.{Lacks}
use Rattle.elimination_cert.proofs.Numerals.{each_joined}
use Rattle.elimination_cert.proofs.ListLaws.{each_of_all, all_of_each}
use Rattle.elimination_cert.proofs.SetLaws.{full_fits}
use Rattle.elimination_cert.proofs.NodeLaws.{AreFew, HasLine, node_line}
use Rattle.elimination_cert.proofs.TextLaws.{lines_same, line_lacks, not_empty, is_line, has_line, lacks_to, lacks_from, first_has_line, first_same, nodes_text}

-- the first line and the nodes that were read
abbrev pub so_far : List ℕ → ℕ → List CertNodeForm → List ℕ
so_far sizes count nodes = first_line count ++ nodes_text sizes nodes

-- ---- what a text has left
left_over : (sizes : List ℕ) (nodes cert : List CertNodeForm) (x : List ℕ) → AreFew sizes → Each (FitsSizes sizes) nodes → Each (FitsSizes sizes) cert → nodes_text sizes nodes ++ x ≡ nodes_text sizes cert
    → (left : List CertNodeForm) × (x ≡ nodes_text sizes left) × Each (FitsSizes sizes) left × (length nodes + length left ≡ length cert)
left_over sizes [] cert x few f g e = (cert, e, g, omega arith)
left_over sizes (n ∷ ns) [] x few f g e = absurd (not_empty (node_text sizes n) (nodes_text sizes ns ++ x) (node_line sizes n few f.0) (sym e ∙ append_assoc (node_text sizes n) (nodes_text sizes ns) x))
left_over sizes (n ∷ ns) (c ∷ cs) x few f g e =
    let same = lines_same (node_text sizes n) (node_text sizes c) (nodes_text sizes ns ++ x) (nodes_text sizes cs) (node_line sizes n few f.0) (node_line sizes c few g.0) (sym (append_assoc (node_text sizes n) (nodes_text sizes ns) x) ∙ e) in
    let rest = left_over sizes ns cs x few f.1 g.1 same.1 in
    (rest.0, rest.1, rest.2, omega (arith, rest.3))

-- nodes were read of a certificate of this number of nodes
pub record Reading (sizes : List ℕ) (count : ℕ) (nodes : List CertNodeForm) : Type 0 where
  pub few : AreFew sizes
  pub count_few : count ≤ 200000
  pub fits : Each (FitsSizes sizes) nodes
  pub inside : length nodes ≤ count

text_left : (sizes : List ℕ) (count : ℕ) (nodes cert : List CertNodeForm) (bytes x : List ℕ) → Reading sizes count nodes → bytes ≡ so_far sizes count nodes ++ x → Spells sizes bytes cert
    → (left : List CertNodeForm) × (x ≡ nodes_text sizes left) × Each (FitsSizes sizes) left × (length nodes + length left ≡ count)
text_left sizes count nodes cert bytes x r e s =
    let same = first_same count (length cert) (nodes_text sizes nodes ++ x) (nodes_text sizes cert) (omega (arith, r.count_few)) (omega (arith, s.few))
    (sym (append_assoc (first_line count) (nodes_text sizes nodes) x) ∙ sym e ∙ s.text) in
    let left = left_over sizes nodes cert x r.few r.fits (each_of_all (FitsSizes sizes) cert s.fits) same.1 in
    (left.0, left.1, left.2, omega (arith, left.3, same.0))

-- a line that goes on with no node of the certificate
IsWrong : List ℕ → ℕ → List CertNodeForm → List ℕ → Type 0
IsWrong sizes count nodes line = (length nodes ≡ count) ⊎ ((c : CertNodeForm) → FitsSizes sizes c → ¬ (line ≡ node_text sizes c))

no_text : (sizes : List ℕ) (count : ℕ) (nodes cert : List CertNodeForm) (bytes line after : List ℕ) → Reading sizes count nodes → bytes ≡ so_far sizes count nodes ++ (line ++ after) → HasLine line
    → IsWrong sizes count nodes line → ¬ (Spells sizes bytes cert)
unfolding IsWrong
no_text sizes count nodes cert bytes line after r e h w s = by_left (text_left sizes count nodes cert bytes (line ++ after) r e s)
  where
    by_left : (left : List CertNodeForm) × (line ++ after ≡ nodes_text sizes left) × Each (FitsSizes sizes) left × (length nodes + length left ≡ count) → ⊥
    by_left ([], q, f, n) = not_empty line after h (sym q)
    by_left (c ∷ cs, q, f, n) = ⊎_elim (λ all. omega arith) (λ none. none c f.0 (lines_same line (node_text sizes c) after (nodes_text sizes cs) h (node_line sizes c r.few f.0) q).0) w

no_text_piece : (sizes : List ℕ) (count : ℕ) (nodes cert : List CertNodeForm) (bytes piece : List ℕ) → Reading sizes count nodes → bytes ≡ so_far sizes count nodes ++ piece → 0 < length piece → Lacks 10 piece → ¬ (Spells sizes bytes cert)
no_text_piece sizes count nodes cert bytes piece r e l h s = by_left (text_left sizes count nodes cert bytes piece r e s)
  where
    by_left : (left : List CertNodeForm) × (piece ≡ nodes_text sizes left) × Each (FitsSizes sizes) left × (length nodes + length left ≡ count) → ⊥
    by_left ([], q, f, n) = omega (arith, ap length q)
    by_left (c ∷ cs, q, f, n) = line_lacks (node_text sizes c) (nodes_text sizes cs) (node_line sizes c r.few f.0) (subst (Lacks 10) q h)

no_text_end : (sizes : List ℕ) (count : ℕ) (nodes cert : List CertNodeForm) (bytes : List ℕ) → Reading sizes count nodes → bytes ≡ so_far sizes count nodes → length nodes < count → ¬ (Spells sizes bytes cert)
no_text_end sizes count nodes cert bytes r e l s = by_left (text_left sizes count nodes cert bytes [] r (e ∙ sym (append-nil (so_far sizes count nodes))) s)
  where
    by_left : (left : List CertNodeForm) × ([] ≡ nodes_text sizes left) × Each (FitsSizes sizes) left × (length nodes + length left ≡ count) → ⊥
    by_left ([], q, f, n) = omega arith
    by_left (c ∷ cs, q, f, n) = not_empty (node_text sizes c) (nodes_text sizes cs) (node_line sizes c r.few f.0) q

not_too_many : (sizes : List ℕ) (count : ℕ) (nodes : List CertNodeForm) (bytes x : List ℕ) (n : ℕ) → Reading sizes count nodes → bytes ≡ so_far sizes count nodes ++ x → ¬ (HasTooMany bytes n)
not_too_many sizes count nodes bytes x n r e t =
    let same = first_same count n (nodes_text sizes nodes ++ x) t.rest (omega (arith, r.count_few)) t.small (sym (append_assoc (first_line count) (nodes_text sizes nodes) x) ∙ sym e ∙ t.first) in
    omega (arith, r.count_few, t.more, same.0)

-- ---- whole lines that begin a text
ends_more : (a b : List ℕ) → HasLine a → EndsLine b → EndsLine (a ++ b)
ends_more a b h (inl e) = inr (h.0, ap (λ z. a ++ z) e ∙ append-nil a ∙ h.1)
ends_more a b h (inr l) = inr (a ++ l.0, ap (λ z. a ++ z) l.1 ∙ sym (append_assoc a l.0 (10 ∷ [])))

ends_nodes : (sizes : List ℕ) (nodes : List CertNodeForm) → AreFew sizes → Each (FitsSizes sizes) nodes → EndsLine (nodes_text sizes nodes)
ends_nodes sizes [] few f = inl refl
ends_nodes sizes (n ∷ ns) few f = ends_more (node_text sizes n) (nodes_text sizes ns) (node_line sizes n few f.0) (ends_nodes sizes ns few f.1)

ends_so_far : (sizes : List ℕ) (count : ℕ) (nodes : List CertNodeForm) → Reading sizes count nodes → EndsLine (so_far sizes count nodes)
ends_so_far sizes count nodes r = ends_more (first_line count) (nodes_text sizes nodes) (first_has_line count (omega (arith, r.count_few))) (ends_nodes sizes nodes r.few r.fits)

-- a node that fits, to fill up with
blank_node : List ℕ → CertNodeForm
blank_node sizes = record { node = record { todo = []; now = full_of sizes; next = [] }; kids = []; rank = 0; reason = clash }

blank_fits : (sizes : List ℕ) → FitsSizes sizes (blank_node sizes)
unfolding blank_node
blank_fits sizes =
    let full = full_fits sizes in
    record {
      rank = omega arith;
      reason = tt;
      todo = λ k l. absurd (omega arith);
      todo_small = λ k d l. absurd (omega arith);
      variables = full.0;
      indexes = full.1;
      next = λ k l. absurd (omega arith);
      next_small = λ k d l. absurd (omega arith);
      few = omega arith;
      kids_small = λ k d l. absurd (omega arith);
    }

each_copy : {X : Type 0} (P : X → Type 0) (n : ℕ) (x : X) → P x → Each P (replicate n x)
each_copy P zero x h = tt
each_copy P (suc n) x h = (h, each_copy P n x h)

begins_so_far : (sizes : List ℕ) (count : ℕ) (nodes : List CertNodeForm) → Reading sizes count nodes → Begins sizes (so_far sizes count nodes)
begins_so_far sizes count nodes r =
    let more : List CertNodeForm = replicate (count - length nodes) (blank_node sizes) in
    let cert : List CertNodeForm = nodes ++ more in
    let whole : length cert ≡ count = omega (arith, length-append nodes more, length-replicate (count - length nodes) (blank_node sizes), r.inside) in (
      nodes_text sizes more,
      cert,
      record {
        few = omega (arith, whole, r.count_few);
        fits = all_of_each (FitsSizes sizes) cert (each_joined (FitsSizes sizes) nodes more r.fits (each_copy (FitsSizes sizes) (count - length nodes) (blank_node sizes) (blank_fits sizes)));
        text =
            append_assoc (first_line count) (nodes_text sizes nodes) (nodes_text sizes more)
            ∙ ap₂ (λ n xs. first_line n ++ xs) (sym whole) (sym (flat_map-append (node_text sizes) nodes more));
      },
    )

-- ---- refusals behind a first line
-- the bytes up to a place are what was read
pub record ReadTo (sizes : List ℕ) (count : ℕ) (nodes : List CertNodeForm) (bytes : List ℕ) (at : ℕ) : Type 0 where
  pub reading : Reading sizes count nodes
  pub within : at ≤ length bytes
  pub text : take at bytes ≡ so_far sizes count nodes

parted : (sizes : List ℕ) (count : ℕ) (nodes : List CertNodeForm) (bytes : List ℕ) (at : ℕ) (x : List ℕ) → ReadTo sizes count nodes bytes at → drop at bytes ≡ x → bytes ≡ so_far sizes count nodes ++ x
parted sizes count nodes bytes at x r e = sym (take-append-drop at bytes) ∙ ap₂ (λ a b. a ++ b) r.text e

placed : (sizes : List ℕ) (count : ℕ) (nodes : List CertNodeForm) (bytes : List ℕ) (at : ℕ) → ReadTo sizes count nodes bytes at → at ≡ length (so_far sizes count nodes)
placed sizes count nodes bytes at r = omega (arith, ap length r.text, length-take at bytes, r.within)

refused_line : (sizes : List ℕ) (count : ℕ) (nodes : List CertNodeForm) (bytes : List ℕ) (at : ℕ) (line after : List ℕ) → ReadTo sizes count nodes bytes at → drop at bytes ≡ line ++ after → HasLine line
    → IsWrong sizes count nodes line → Refuses sizes bytes (Syntax at)
refused_line sizes count nodes bytes at line after r e h w =
    let are = parted sizes count nodes bytes at (line ++ after) r e in
    let front = so_far sizes count nodes in (
      λ cert. no_text sizes count nodes cert bytes line after r.reading are h w,
      λ n. not_too_many sizes count nodes bytes (line ++ after) n r.reading are,
      inl (record {
        before = front;
        line = line;
        after = after;
        bytes_are = are ∙ sym (append_assoc front line after);
        place = placed sizes count nodes bytes at r;
        whole = ends_so_far sizes count nodes r.reading;
        begins = begins_so_far sizes count nodes r.reading;
        how = inl (is_line line h, λ b. no_text sizes count nodes b.1 _ line b.0 r.reading (append_assoc front line b.0) h w b.2);
      }),
    )

refused_piece : (sizes : List ℕ) (count : ℕ) (nodes : List CertNodeForm) (bytes : List ℕ) (at : ℕ) (piece : List ℕ) → ReadTo sizes count nodes bytes at → drop at bytes ≡ piece → 0 < length piece → Lacks 10 piece
    → Refuses sizes bytes (Syntax at)
refused_piece sizes count nodes bytes at piece r e l h =
    let are = parted sizes count nodes bytes at piece r e in
    let front = so_far sizes count nodes in (
      λ cert. no_text_piece sizes count nodes cert bytes piece r.reading are l h,
      λ n. not_too_many sizes count nodes bytes piece n r.reading are,
      inl (record {
        before = front;
        line = piece;
        after = [];
        bytes_are = are ∙ sym (append-nil (front ++ piece));
        place = placed sizes count nodes bytes at r;
        whole = ends_so_far sizes count nodes r.reading;
        begins = begins_so_far sizes count nodes r.reading;
        how = inr (refl, l, lacks_to 10 piece h);
      }),
    )

pub refused_end : (sizes : List ℕ) (count : ℕ) (nodes : List CertNodeForm) (bytes : List ℕ) (at : ℕ) → ReadTo sizes count nodes bytes at → length bytes ≤ at → length nodes < count → Refuses sizes bytes (Syntax at)
refused_end sizes count nodes bytes at r l n =
    let are : bytes ≡ so_far sizes count nodes = sym (take_all at bytes l) ∙ r.text in (
      λ cert. no_text_end sizes count nodes cert bytes r.reading are n,
      λ k. not_too_many sizes count nodes bytes [] k r.reading (are ∙ sym (append-nil (so_far sizes count nodes))),
      inr (record {
        place = omega (arith, r.within);
        whole = subst EndsLine (sym are) (ends_so_far sizes count nodes r.reading);
        begins = subst (Begins sizes) (sym are) (begins_so_far sizes count nodes r.reading);
      }),
    )

-- bytes have a first line, or no line feed
split_line : (xs : List ℕ) → Lacks 10 xs ⊎ ((line : List ℕ) × (after : List ℕ) × (xs ≡ line ++ after) × HasLine line)
split_line [] = inl tt
split_line (x ∷ xs) = by_first (cases_eq x 10) (split_line xs)
  where
    by_first : (x ≡ 10) ⊎ (x ≢ 10) → Lacks 10 xs ⊎ ((line : List ℕ) × (after : List ℕ) × (xs ≡ line ++ after) × HasLine line) → Lacks 10 (x ∷ xs) ⊎ ((line : List ℕ) × (after : List ℕ) × (x ∷ xs ≡ line ++ after) × HasLine line)
    by_first (inl e) rest = inr (10 ∷ [], xs, ap (λ b. b ∷ xs) e, ([], refl, tt))
    by_first (inr n) (inl lacks) = inl (n, lacks)
    by_first (inr n) (inr (line, after, e, h)) = inr (x ∷ line, after, ap (λ bs. x ∷ bs) e, (x ∷ h.0, ap (λ bs. x ∷ bs) h.1, (n, h.2)))

pub refused_surplus : (sizes : List ℕ) (count : ℕ) (nodes : List CertNodeForm) (bytes : List ℕ) (at : ℕ) → ReadTo sizes count nodes bytes at → at < length bytes → length nodes ≡ count → Refuses sizes bytes (Syntax at)
unfolding IsWrong
refused_surplus sizes count nodes bytes at r l n =
    ⊎_elim
    (λ lacks. refused_piece sizes count nodes bytes at (drop at bytes) r refl (omega (arith, length-drop at bytes)) lacks)
    (λ h. refused_line sizes count nodes bytes at h.0 h.1 r h.2 h.3 (inl n))
    (split_line (drop at bytes))

pub refused_none : (sizes : List ℕ) (count : ℕ) (nodes : List CertNodeForm) (bytes : List ℕ) (at : ℕ) → ReadTo sizes count nodes bytes at → at < length bytes → HasNoNode sizes (drop at bytes) → Refuses sizes bytes (Syntax at)
unfolding IsWrong
refused_none sizes count nodes bytes at r l (inl h) = refused_line sizes count nodes bytes at h.0 h.1 r h.2 (has_line h.0 h.3) (inr h.4)
refused_none sizes count nodes bytes at r l (inr h) = refused_piece sizes count nodes bytes at (drop at bytes) r refl (omega (arith, length-drop at bytes)) (lacks_from 10 (drop at bytes) h)

-- ---- refusals of the first line
begins_empty : (sizes : List ℕ) → Begins sizes []
begins_empty sizes = (first_line 0, [], record { few = omega arith; fits = λ k d l. absurd (omega arith); text = sym (append-nil (first_line 0)) })

pub refused_no_line : (sizes bytes : List ℕ) → ¬ (Contains bytes 10) → Refuses sizes bytes (Syntax 0)
refused_no_line sizes [] h = (
  λ cert s. not_empty (first_line (length cert)) _ (first_has_line (length cert) (omega (arith, s.few))) s.text,
  λ n t. not_empty (first_line n) t.rest (first_has_line n t.small) t.first,
  inr (record { place = refl; whole = inl refl; begins = begins_empty sizes }),
)
refused_no_line sizes (b ∷ bytes) h =
    let lacks = lacks_from 10 (b ∷ bytes) h in (
      λ cert s. line_lacks (first_line (length cert)) _ (first_has_line (length cert) (omega (arith, s.few))) (subst (Lacks 10) s.text lacks),
      λ n t. line_lacks (first_line n) t.rest (first_has_line n t.small) (subst (Lacks 10) t.first lacks),
      inl (record {
        before = [];
        line = b ∷ bytes;
        after = [];
        bytes_are = sym (append-nil (b ∷ bytes));
        place = refl;
        whole = inl refl;
        begins = begins_empty sizes;
        how = inr (refl, omega arith, h);
      }),
    )

pub refused_first : (sizes bytes : List ℕ) (len : ℕ) → IsLine (take len bytes) → ((n : ℕ) → n < 2 ^ 32 → ¬ (take len bytes ≡ first_line n)) → Refuses sizes bytes (Syntax 0)
refused_first sizes bytes len l none =
    let line = take len bytes in
    let h = has_line line l in
    let are : bytes ≡ line ++ drop len bytes = sym (take-append-drop len bytes) in (
      λ cert s. none (length cert) (omega (arith, s.few)) (lines_same line (first_line (length cert)) _ _ h (first_has_line (length cert) (omega (arith, s.few))) (sym are ∙ s.text)).0,
      λ n t. none n t.small (lines_same line (first_line n) _ t.rest h (first_has_line n t.small) (sym are ∙ t.first)).0,
      inl (record {
        before = [];
        line = line;
        after = drop len bytes;
        bytes_are = are;
        place = refl;
        whole = inl refl;
        begins = begins_empty sizes;
        how = inl (l, λ b. none (length b.1) (omega (arith, b.2.few)) (lines_same line (first_line (length b.1)) b.0 _ h (first_has_line (length b.1) (omega (arith, b.2.few))) b.2.text).0);
      }),
    )

pub refused_many : (sizes bytes : List ℕ) (len count : ℕ) → take len bytes ≡ first_line count → 200000 < count → count < 2 ^ 32 → Refuses sizes bytes (TooMany count)
refused_many sizes bytes len count e more small = record { more = more; small = small; rest = drop len bytes; first = sym (take-append-drop len bytes) ∙ ap (λ xs. xs ++ drop len bytes) e }
