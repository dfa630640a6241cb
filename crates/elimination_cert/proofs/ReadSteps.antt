-- Lines that are found, guesses that are compared, and nodes that are read one after the other.
use Rattle.std.proofs.Common.{◌≡◌, ℕ, suc, ◌+◌, ◌^◌, ◌<◌, ◌≤◌, Bool, true, false, List, [], ◌∷◌, ◌++◌, length, map, take, drop, get_or, refl, sym, subst, ap, ap₂, ◌∙◌, inl, append_assoc, append-nil, add-one, arith}
use Rattle.std.specs.Prelude.{◌==◌, if◌then◌else◌, Contains, Option, Some, None, MatchOption, bytes_eq, position, slice_index}
use Rattle.std.specs.List.{All, AllByRecursion as Each}
use Rattle.std.proofs.lemmas.Bool.{eq-eqb, eqb-true, true≢false}
use Rattle.std.proofs.lemmas.List.Quantifiers.{position-Some}
use Rattle.std.proofs.lemmas.Grind.{flat_map-append}
use Rattle.std.proofs.lemmas.List.{length-append, length-map, length-drop, map_push, take-append-drop}
use Rattle.std.proofs.lemmas.Slice.Eq.{bytes_eq-Decides}
use Rattle.std.proofs.Math.Seq.{take-add, take-suc}
use Rattle.state_space.specs.declared.space.Space.{Space}
use Rattle.state_space.specs.declared.values.Values.{Values}
use Rattle.state_space.specs.Spaces.{sizes}
use Rattle.state_space.proofs.SpaceFacts.{as_many_sizes, few_variables, good_size}
use Rattle.tableau_rules.specs.declared.certificate.CertNode.{CertNode}
use Rattle.tableau_rules.specs.CertView.{cert_node_of}
use Rattle.tableau_rules.specs.Certificates.{CertNodeForm}
use Rattle.elimination_cert.specs.CertTexts.{first_line, node_text, FitsSizes}
use Rattle.elimination_cert.specs.Readings.{IsLine}
use Rattle.elimination_cert.specs.Lines.{HasNoNode}
use Rattle.elimination_cert.specs.Guesses.{before, node_in, count_in}
use Rattle.elimination_cert.proofs.Cuts.{Lacks, cut_before, cut_none}
use Rattle.elimination_cert.proofs.Numerals.{each_joined}
use Rattle.elimination_cert.proofs.ListLaws.{each_of_all}
use Rattle.elimination_cert.proofs.NodeLaws.{AreFew, node_again, node_fits}
use Rattle.elimination_cert.proofs.TextLaws.{is_line, lacks_to, count_again, nodes_text}
use Rattle.elimination_cert.proofs.Faults.{ReadTo, so_far}

-- ---- lines of bytes
lacks_before : (byte : ℕ) (xs : List ℕ) → Lacks byte (before byte xs)
lacks_before byte [] = tt
lacks_before byte (x ∷ xs) = by_first (x == byte) refl (lacks_before byte xs)
  where
    by_first : (b : Bool) → (x == byte) ≡ b → Lacks byte (before byte xs) → Lacks byte (if b then [] else x ∷ before byte xs)
    by_first true e h = tt
    by_first false e h = (λ q. true≢false (sym (eq-eqb x byte q) ∙ e), h)

pub line_found : (bytes : List ℕ) (end : ℕ) → position (λ b. b == 10) bytes ≡ Some end → (0 < end + 1) × (end + 1 ≤ length bytes) × IsLine (take (end + 1) bytes)
line_found bytes end e =
    let found = position-Some (λ b. b == 10) bytes end 0 e in
    let last : get_or bytes end 0 ≡ 10 = eqb-true (get_or bytes end 0) 10 found.1 in
    let cut : before 10 bytes ≡ take end bytes = cut_before 10 bytes end e in
    let line : take (end + 1) bytes ≡ take end bytes ++ 10 ∷ [] = ap (λ n. take n bytes) (add-one end) ∙ take-suc bytes end 0 found.0 ∙ ap (λ b. take end bytes ++ b ∷ []) last in
    let some : 0 < end + 1 = omega arith in
    (some, omega (arith, found.0), is_line (take (end + 1) bytes) (take end bytes, line, subst (Lacks 10) cut (lacks_before 10 bytes)))

pub no_line_found : (bytes : List ℕ) → position (λ b. b == 10) bytes ≡ None → ¬ (Contains bytes 10)
no_line_found bytes e = lacks_to 10 bytes (cut_none 10 bytes e)

same_bytes : (a b : List ℕ) → a ≡ b → bytes_eq a b ≡ true
same_bytes a b e = (bytes_eq-Decides a b).1 e

pub other_count : (line text : List ℕ) (count n : ℕ) → count ≡ count_in line → text ≡ first_line count → bytes_eq text line ≡ false → n < 2 ^ 32 → ¬ (line ≡ first_line n)
other_count line text count n c t other l e =
    let same : count ≡ n = c ∙ ap count_in e ∙ count_again n l in
    true≢false (sym (same_bytes text line (t ∙ ap first_line same ∙ sym e)) ∙ other)

pub other_node : (sizes line text : List ℕ) (guess c : CertNodeForm) → AreFew sizes → guess ≡ node_in sizes line → text ≡ node_text sizes guess → bytes_eq text line ≡ false → FitsSizes sizes c → ¬ (line ≡ node_text sizes c)
other_node sizes line text guess c few g t other fits e =
    let same : guess ≡ c = g ∙ ap (node_in sizes) e ∙ node_again sizes c few fits in
    true≢false (sym (same_bytes text line (t ∙ ap (node_text sizes) same ∙ sym e)) ∙ other)

pub guess_fits : (sizes line : List ℕ) (guess : CertNodeForm) → guess ≡ node_in sizes line → FitsSizes sizes guess
guess_fits sizes line guess e = subst (FitsSizes sizes) (sym e) (node_fits sizes line)

pub guess_length : (sizes line : List ℕ) (entry : CertNode) → cert_node_of entry ≡ node_in sizes line → length entry.node.now.items ≡ length sizes
guess_length sizes line entry e =
    let fits = guess_fits sizes line (cert_node_of entry) e in
    sym (length-map entry.node.now.items (λ (set : Values). set.0)) ∙ fits.variables

pub few_sizes : (space : Space) → AreFew (sizes space)
few_sizes space = record {
  count = omega (arith, as_many_sizes space, few_variables space);
  each = each_by_index (λ size. size ≤ 64) (sizes space) (λ k l. (good_size space k l).1);
}
  where
    each_by_index : (P : ℕ → Type 0) (xs : List ℕ) → ((k : ℕ) → k < length xs → P (slice_index xs k)) → Each P xs
    each_by_index P [] h = tt
    each_by_index P (x ∷ xs) h = (h 0 (omega arith), each_by_index P xs (λ k l. h (suc k) (omega arith)))

pub no_node_found : (sizes bytes : List ℕ) (len : ℕ) (entry : Option CertNode) → IsLine (take len bytes) → entry ≡ None
    → MatchOption entry ((c : CertNodeForm) → FitsSizes sizes c → ¬ (take len bytes ≡ node_text sizes c)) (λ e. FitsSizes sizes (cert_node_of e) × (take len bytes ≡ node_text sizes (cert_node_of e)))
    → HasNoNode sizes bytes
no_node_found sizes bytes len None line e m = inl (take len bytes, drop len bytes, sym (take-append-drop len bytes), line, m)
no_node_found sizes bytes len (Some entry) line e m = absurd cc

-- ---- steps of the loop
pub read_to : (sizes : List ℕ) (count : ℕ) (nodes : List CertNode) (bytes : List ℕ) (at : ℕ) → AreFew sizes → count ≤ 200000 → at ≤ length bytes → take at bytes ≡ so_far sizes count (map cert_node_of nodes)
    → All (FitsSizes sizes) (map cert_node_of nodes) → length nodes ≤ count → ReadTo sizes count (map cert_node_of nodes) bytes at
read_to sizes count nodes bytes at few small within text fits inside =
    record {
      reading = record { few = few; count_few = small; fits = each_of_all (FitsSizes sizes) (map cert_node_of nodes) fits; inside = omega (arith, length-map nodes cert_node_of) };
      within = within;
      text = text;
    }

read_more : (sizes : List ℕ) (count : ℕ) (nodes : List CertNodeForm) (bytes : List ℕ) (at len : ℕ) (entry : CertNodeForm) → ReadTo sizes count nodes bytes at → FitsSizes sizes entry → len ≤ length (drop at bytes)
    → take len (drop at bytes) ≡ node_text sizes entry → length nodes < count → ReadTo sizes count (nodes ++ entry ∷ []) bytes (at + len)
read_more sizes count nodes bytes at len entry r fits l e n =
    record {
      reading = record {
        few = r.reading.few;
        count_few = r.reading.count_few;
        fits = each_joined (FitsSizes sizes) nodes (entry ∷ []) r.reading.fits (fits, tt);
        inside = omega (arith, length-append nodes (entry ∷ []));
      };
      within = omega (arith, length-drop at bytes, r.within);
      text =
          take-add at len bytes ∙ ap₂ (λ a b. a ++ b) r.text e ∙ append_assoc (first_line count) (nodes_text sizes nodes) (node_text sizes entry)
          ∙ ap (λ xs. first_line count ++ xs) (ap (λ xs. nodes_text sizes nodes ++ xs) (sym (append-nil (node_text sizes entry))) ∙ sym (flat_map-append (node_text sizes) nodes (entry ∷ [])));
    }

pub read_next : (sizes : List ℕ) (count : ℕ) (nodes more : List CertNode) (bytes : List ℕ) (at len : ℕ) (entry : CertNode) → ReadTo sizes count (map cert_node_of nodes) bytes at → FitsSizes sizes (cert_node_of entry)
    → len ≤ length (drop at bytes) → take len (drop at bytes) ≡ node_text sizes (cert_node_of entry) → length nodes < count → more ≡ nodes ++ entry ∷ [] → ReadTo sizes count (map cert_node_of more) bytes (at + len)
read_next sizes count nodes more bytes at len entry r fits l e n m =
    let inside : length (map cert_node_of nodes) < count = omega (arith, length-map nodes cert_node_of) in
    subst (λ ns. ReadTo sizes count ns bytes (at + len)) (sym (ap (map cert_node_of) m ∙ map_push cert_node_of nodes entry))
    (read_more sizes count (map cert_node_of nodes) bytes at len (cert_node_of entry) r fits l e inside)
