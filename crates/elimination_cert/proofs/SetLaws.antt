-- Sets of indexes are read again as they were written.
use Rattle.std.proofs.Common.{◌≡◌, ◌≢◌, ℕ, zero, suc, ◌+◌, ◌-◌, ◌^◌, ◌<◌, ◌≤◌, ◌↔◌, Bool, true, false, List, [], ◌∷◌, ◌++◌, length, map, refl, sym, subst, ap, ap₂, ◌∙◌, ⊎_elim, inl, inr, append_assoc, arith, set, true≢false}
use Rattle.std.specs.Prelude.{◌==◌, if◌then◌else◌, codes, nat_lt, bit_or, slice_index}
use Rattle.std.specs.List.{AllByRecursion as Each, flat_map}
use Rattle.std.specs.Fmt.{decimal}
use Rattle.std.specs.Int.{bit_at}
use Rattle.std.proofs.lemmas.Bool.{cond-true, cases_lt, cases_eq, eq-eqb, eqb-true}
use Rattle.std.proofs.lemmas.Bool.Decides.{nat_tests}
use Rattle.std.proofs.lemmas.List.{length-map, length-append, length-set, get_or-map, get_or-set_same, get_or-set_other, map_push}
use Rattle.std.proofs.lemmas.Fmt.{decimal_nonempty}
use Rattle.std.proofs.lemmas.Nat.{or_lt, pow_below, pow_pos}
use Rattle.std.proofs.lemmas.Nat.Bits.{bit_at-lt, bit_at_above, bit_at-zero, same_from_bits}
use Rattle.std.proofs.Math.Seq.{set-append_seam}
use Rattle.state_space.specs.ValueTexts.{members}
use Rattle.state_space.specs.Members.{full_of}
use Rattle.state_space.proofs.BitSets.{with_has}
use Rattle.elimination_cert.specs.CertTexts.{joined, set_text, set_texts, now_text}
use Rattle.elimination_cert.specs.Guesses.{before, behind, pieces, number_in, listed_in, with_value, with_values, set_in, with_entry, with_entries, now_in}
use Rattle.elimination_cert.proofs.Cuts.{Lacks, before_first, behind_first, pieces_joined}
use Rattle.elimination_cert.proofs.Numerals.{IsNoDigit, each_joined, each_mapped, lacks_decimal, below_digits, above_digits, pieces_decimal, number_again}
use Rattle.elimination_cert.proofs.ListLaws.{listed_again}
use Rattle.tableau_rules.proofs.Lists.{each_map}

-- ---- the indexes of one set
with_values_push : (size : ℕ) (texts : List (List ℕ)) (text : List ℕ) (indexes : ℕ) → with_values size (texts ++ text ∷ []) indexes ≡ with_value size text (with_values size texts indexes)
with_values_push size [] text indexes = refl
with_values_push size (t ∷ texts) text indexes = with_values_push size texts text (with_value size t indexes)

-- what is read of the members below n
abbrev read_below : ℕ → ℕ → ℕ → ℕ
read_below size indexes n = with_values size (map decimal (members indexes n)) 0

-- and has these indexes
abbrev HasMembers : ℕ → ℕ → ℕ → Type 0
HasMembers read indexes n = (i : ℕ) → (bit_at read i ≡ 1) ↔ ((i < n) × (bit_at indexes i ≡ 1))

members_read : (size indexes n : ℕ) → size ≤ 64 → n ≤ size → HasMembers (with_values size (map decimal (members indexes n)) 0) indexes n
members_read size indexes zero few l = λ i. (λ h. absurd (omega (arith, bit_at-zero i, h)), λ h. absurd (omega (arith, h.0)))
members_read size indexes (suc n) few l = by_test (bit_at indexes n == 1) refl (members_read size indexes n few (omega arith))
  where
    by_test : (b : Bool) → (bit_at indexes n == 1) ≡ b → HasMembers (with_values size (map decimal (members indexes n)) 0) indexes n
        → HasMembers (with_values size (map decimal (if b then members indexes n ++ n ∷ [] else members indexes n)) 0) indexes (suc n)
    by_test false e h = λ i. (
      λ g. let p = (h i).0 g in (omega (arith, p.0), p.1),
      λ g. (h i).1 (below i g.0 g.1, g.1),
    )
      where
        below : (i : ℕ) → i < suc n → bit_at indexes i ≡ 1 → i < n
        below i l g = ⊎_elim (λ k. k) (λ k. let same : i ≡ n = omega arith in absurd (true≢false (sym (eq-eqb (bit_at indexes n) 1 (ap (bit_at indexes) (sym same) ∙ g)) ∙ e))) (cases_lt i n)
    by_test true e h = λ i. subst (λ r. (bit_at r i ≡ 1) ↔ ((i < suc n) × (bit_at indexes i ≡ 1))) (sym more) (
      λ g. ⊎_elim (λ q. (omega arith, subst (λ k. bit_at indexes k ≡ 1) (sym q) has)) (λ r. let p = (h i).0 r in (omega (arith, p.0), p.1)) ((with_has (read_below size indexes n) n i).0 g),
      λ g. (with_has (read_below size indexes n) n i).1 (⊎_elim (λ k. inr ((h i).1 (k, g.1))) (λ k. inl (omega (arith, g.0))) (cases_lt i n)),
    )
      where
        has : bit_at indexes n ≡ 1
        has = eqb-true (bit_at indexes n) 1 e

        put : (k : ℕ) → k ≡ n → (if nat_lt k size then bit_or (read_below size indexes n) (2 ^ k) else read_below size indexes n) ≡ bit_or (read_below size indexes n) (2 ^ n)
        put k q = let inside : nat_lt k size ≡ true = grind (arith, nat_tests) in cond-true (nat_lt k size) _ _ inside ∙ ap (λ j. bit_or (read_below size indexes n) (2 ^ j)) q

        more : with_values size (map decimal (members indexes n ++ n ∷ [])) 0 ≡ bit_or (read_below size indexes n) (2 ^ n)
        more =
            ap (λ ts. with_values size ts 0) (map_push decimal (members indexes n) n) ∙ with_values_push size (map decimal (members indexes n)) (decimal n) 0
            ∙ put (number_in (decimal n)) (number_again n (omega arith))

set_read : (size indexes : ℕ) → size ≤ 64 → indexes < 2 ^ size → with_values size (map decimal (members indexes size)) 0 ≡ indexes
set_read size indexes few small =
    let read = with_values size (map decimal (members indexes size)) 0 in
    let h = members_read size indexes size few (omega arith) in
    same_from_bits read indexes (λ i. same i (h i))
  where
    same : (i : ℕ) → (bit_at (with_values size (map decimal (members indexes size)) 0) i ≡ 1) ↔ ((i < size) × (bit_at indexes i ≡ 1)) → bit_at (with_values size (map decimal (members indexes size)) 0) i ≡ bit_at indexes i
    same i h =
        let a = bit_at-lt (with_values size (map decimal (members indexes size)) 0) i in
        let b = bit_at-lt indexes i in
        ⊎_elim
        (λ none. ⊎_elim (λ l. omega arith) (λ some. let p = h.0 (omega arith) in absurd (omega (arith, p.1))) (cases_lt (bit_at (with_values size (map decimal (members indexes size)) 0) i) 1))
        (λ some. let one : bit_at indexes i ≡ 1 = omega arith in ⊎_elim (λ l. h.1 (l, one) ∙ sym one) (λ above. absurd (omega (arith, bit_at_above indexes size i small above))) (cases_lt i size))
        (cases_lt (bit_at indexes i) 1)

-- ---- the text of one set
high_members : (indexes size : ℕ) → size ≤ 64 → Each (λ n. n < 2 ^ 64) (members indexes size)
high_members indexes zero few = tt
high_members indexes (suc n) few = by_test (bit_at indexes n == 1) (high_members indexes n (omega arith))
  where
    by_test : (b : Bool) → Each (λ n. n < 2 ^ 64) (members indexes n) → Each (λ n. n < 2 ^ 64) (if b then members indexes n ++ n ∷ [] else members indexes n)
    by_test true h = each_joined (λ n. n < 2 ^ 64) (members indexes n) (n ∷ []) h (omega arith, tt)
    by_test false h = h

pub set_again : (size indexes : ℕ) → size ≤ 64 → indexes < 2 ^ size → set_in size (joined 43 (map decimal (members indexes size))) ≡ indexes
unfolding set_in
set_again size indexes few small =
    ap (λ ts. with_values size ts 0) (pieces_joined 43 (map decimal (members indexes size)) (pieces_decimal 43 (members indexes size) (below_digits 43 (omega arith)) (high_members indexes size few)))
    ∙ set_read size indexes few small

-- a byte that no set's text has
pub lacks_joined : (byte divider : ℕ) (texts : List (List ℕ)) → divider ≢ byte → Each (Lacks byte) texts → Lacks byte (joined divider texts)
lacks_joined byte divider [] other h = tt
lacks_joined byte divider (text ∷ texts) other h = each_joined (λ b. b ≢ byte) text _ h.0 (rest texts h.1)
  where
    rest : (ts : List (List ℕ)) → Each (Lacks byte) ts → Lacks byte (flat_map (λ y. divider ∷ y) ts)
    rest [] g = tt
    rest (t ∷ ts) g = (other, each_joined (λ b. b ≢ byte) t _ g.0 (rest ts g.1))

set_parts : (x size indexes : ℕ) → set_text x size indexes ≡ decimal x ++ 61 ∷ joined 43 (map decimal (members indexes size))
set_parts x size indexes = append_assoc (decimal x) (codes "=") (joined 43 (map decimal (members indexes size)))

lacks_set : (byte x size indexes : ℕ) → IsNoDigit byte → 43 ≢ byte → 61 ≢ byte → x < 2 ^ 64 → size ≤ 64 → Lacks byte (set_text x size indexes)
lacks_set byte x size indexes other plus equal l few =
    subst (Lacks byte) (sym (set_parts x size indexes)) (each_joined (λ b. b ≢ byte) (decimal x) _ (lacks_decimal byte x other l)
    (equal, lacks_joined byte 43 (map decimal (members indexes size)) plus (each_mapped (λ n. n < 2 ^ 64) (Lacks byte) decimal (members indexes size) (λ n g. lacks_decimal byte n other g) (high_members indexes size few))))

long_set : (x size indexes : ℕ) → x < 2 ^ 64 → 0 < length (set_text x size indexes)
long_set x size indexes l = rw (set_parts x size indexes) (omega (arith, decimal_nonempty x l, length-append (decimal x) (61 ∷ joined 43 (map decimal (members indexes size)))))

pub lacks_sets : (byte x : ℕ) (sizes now : List ℕ) → IsNoDigit byte → 43 ≢ byte → 61 ≢ byte → x + length sizes < 2 ^ 64 → Each (λ size. size ≤ 64) sizes → Each (λ text. Lacks byte text × (0 < length text)) (set_texts x sizes now)
lacks_sets byte x [] now other plus equal l few = tt
lacks_sets byte x (size ∷ sizes) [] other plus equal l few = tt
lacks_sets byte x (size ∷ sizes) (indexes ∷ now) other plus equal l few = by_test (indexes == 2 ^ size - 1) (lacks_sets byte (suc x) sizes now other plus equal (omega arith) few.1)
  where
    by_test : (b : Bool) → Each (λ text. Lacks byte text × (0 < length text)) (set_texts (suc x) sizes now)
        → Each (λ text. Lacks byte text × (0 < length text)) (if b then set_texts (suc x) sizes now else set_text x size indexes ∷ set_texts (suc x) sizes now)
    by_test true h = h
    by_test false h = let inside : x < 2 ^ 64 = omega arith in ((lacks_set byte x size indexes other plus equal inside few.0, long_set x size indexes inside), h)

-- ---- all sets
at_seam : (xs : List ℕ) (y : ℕ) (ys : List ℕ) → slice_index (xs ++ y ∷ ys) (length xs) ≡ y
at_seam [] y ys = refl
at_seam (x ∷ xs) y ys = at_seam xs y ys

-- the sets are of the indexes of the sizes
abbrev pub AreWithin : List ℕ → List ℕ → Type 0
AreWithin [] [] = Unit {0}
AreWithin (size ∷ sizes) (indexes ∷ now) = (indexes < 2 ^ size) × AreWithin sizes now
AreWithin _ _ = ⊥

-- an entry puts its set in
entry_again : (passed sizes front rest : List ℕ) (size other indexes : ℕ) → length front ≡ length passed → length (passed ++ size ∷ sizes) ≤ 64 → size ≤ 64 → indexes < 2 ^ size
    → with_entry (passed ++ size ∷ sizes) (front ++ other ∷ rest) (set_text (length passed) size indexes) ≡ front ++ indexes ∷ rest
entry_again passed sizes front rest size other indexes e few small inside =
    let x = length passed in
    let all = passed ++ size ∷ sizes in
    let now = front ++ other ∷ rest in
    let lengths = length-append passed (size ∷ sizes) in
    let far : x < 2 ^ 64 = omega arith in
    let sign = lacks_decimal 61 x (above_digits 61 (omega arith)) far in
    let texts = joined 43 (map decimal (members indexes size)) in
    let name : number_in (before 61 (set_text x size indexes)) ≡ x = ap (λ t. number_in (before 61 t)) (set_parts x size indexes) ∙ ap number_in (before_first 61 (decimal x) texts sign) ∙ number_again x (omega arith) in
    let value : behind 61 (set_text x size indexes) ≡ texts = ap (behind 61) (set_parts x size indexes) ∙ behind_first 61 (decimal x) texts sign in
    let own : slice_index all x ≡ size = at_seam passed size sizes in
    ap₂ (λ k t. if nat_lt k (length all) then set now k (set_in (slice_index all k) t) else now) name value
    ∙ cond-true (nat_lt x (length all)) _ _ (grind (arith, nat_tests, lengths))
    ∙ ap (λ s. set now x (set_in s texts)) own
    ∙ ap (set now x) (set_again size indexes small inside)
    ∙ ap (λ k. set now k indexes) (sym e)
    ∙ set-append_seam front other rest indexes

entries_again : (passed front sizes now : List ℕ) → length front ≡ length passed → length (passed ++ sizes) ≤ 64 → Each (λ size. size ≤ 64) sizes → AreWithin sizes now
    → with_entries (passed ++ sizes) (set_texts (length passed) sizes now) (front ++ full_of sizes) ≡ front ++ now
entries_again passed front [] [] e few small within = refl
entries_again passed front [] (m ∷ now) e few small within = absurd within
entries_again passed front (size ∷ sizes) [] e few small within = absurd within
entries_again passed front (size ∷ sizes) (indexes ∷ now) e few small within =
    let all = passed ++ size ∷ sizes in
    let short : length ((passed ++ size ∷ []) ++ sizes) ≤ 64 = subst (λ (xs : List ℕ). length xs ≤ 64) (sym (seam passed size sizes)) few in
    let again = entries_again (passed ++ size ∷ []) (front ++ indexes ∷ []) sizes now (omega (arith, more front indexes, more passed size)) short small.1 within.1 in
    by_test (indexes == 2 ^ size - 1) refl (
    ap (λ xs. with_entries xs (set_texts (suc (length passed)) sizes now) (front ++ indexes ∷ full_of sizes)) (sym (seam passed size sizes))
    ∙ ap (λ k. with_entries ((passed ++ size ∷ []) ++ sizes) (set_texts k sizes now) (front ++ indexes ∷ full_of sizes)) (sym (more passed size))
    ∙ ap (with_entries ((passed ++ size ∷ []) ++ sizes) (set_texts (length (passed ++ size ∷ [])) sizes now)) (sym (seam front indexes (full_of sizes)))
    ∙ again ∙ seam front indexes now
    )
  where
    seam : (xs : List ℕ) (x : ℕ) (ys : List ℕ) → (xs ++ x ∷ []) ++ ys ≡ xs ++ x ∷ ys
    seam xs x ys = append_assoc xs (x ∷ []) ys

    more : (xs : List ℕ) (x : ℕ) → length (xs ++ x ∷ []) ≡ suc (length xs)
    more xs x = omega (arith, length-append xs (x ∷ []))

    by_test : (b : Bool) → (indexes == 2 ^ size - 1) ≡ b → with_entries (passed ++ size ∷ sizes) (set_texts (suc (length passed)) sizes now) (front ++ indexes ∷ full_of sizes) ≡ front ++ indexes ∷ now
        → with_entries (passed ++ size ∷ sizes) (if b then set_texts (suc (length passed)) sizes now else set_text (length passed) size indexes ∷ set_texts (suc (length passed)) sizes now) (front ++ (2 ^ size - 1) ∷ full_of sizes) ≡ front ++ indexes ∷ now
    by_test true q h = ap (λ f. with_entries (passed ++ size ∷ sizes) (set_texts (suc (length passed)) sizes now) (front ++ f ∷ full_of sizes)) (sym (eqb-true indexes (2 ^ size - 1) q)) ∙ h
    by_test false q h =
        ap (with_entries (passed ++ size ∷ sizes) (set_texts (suc (length passed)) sizes now)) (entry_again passed sizes front (full_of sizes) size (2 ^ size - 1) indexes e few small.0 within.0) ∙ h

pub within : (sizes now : List ℕ) → length now ≡ length sizes → ((x : ℕ) → x < length sizes → slice_index now x < 2 ^ slice_index sizes x) → AreWithin sizes now
within [] [] e h = tt
within [] (m ∷ now) e h = absurd (omega arith)
within (size ∷ sizes) [] e h = absurd (omega arith)
within (size ∷ sizes) (m ∷ now) e h = (h 0 (omega arith), within sizes now (omega arith) (λ x l. h (suc x) (omega arith)))

pub now_again : (sizes now : List ℕ) → length sizes ≤ 64 → Each (λ size. size ≤ 64) sizes → length now ≡ length sizes → ((x : ℕ) → x < length sizes → slice_index now x < 2 ^ slice_index sizes x) → now_in sizes (now_text sizes now) ≡ now
unfolding now_in
now_again sizes now few small e h =
    let texts = set_texts 0 sizes now in
    let comma = lacks_sets 44 0 sizes now (below_digits 44 (omega arith)) (λ q. omega arith) (λ q. omega arith) (omega arith) small in
    let dash = lacks_sets 45 0 sizes now (below_digits 45 (omega arith)) (λ q. omega arith) (λ q. omega arith) (omega arith) small in
    ap (λ ts. with_entries sizes ts (full_of sizes)) (listed_again texts comma (each_map (λ text. Lacks 45 text × (0 < length text)) (Lacks 45) texts (λ text g. g.0) dash))
    ∙ entries_again [] [] sizes now refl few small (within sizes now e h)

-- ---- what is read is of the sizes
with_values_fit : (size : ℕ) (texts : List (List ℕ)) (indexes : ℕ) → indexes < 2 ^ size → with_values size texts indexes < 2 ^ size
with_values_fit size [] indexes l = l
with_values_fit size (text ∷ texts) indexes l = with_values_fit size texts (with_value size text indexes) (one (nat_lt (number_in text) size) refl)
  where
    one : (b : Bool) → nat_lt (number_in text) size ≡ b → (if b then bit_or indexes (2 ^ number_in text) else indexes) < 2 ^ size
    one true e = let below : number_in text < size = grind (arith, nat_tests) in or_lt size indexes (2 ^ number_in text) l (pow_below (number_in text) size below)
    one false e = l

set_fits : (size : ℕ) (bytes : List ℕ) → set_in size bytes < 2 ^ size
unfolding set_in
set_fits size bytes = with_values_fit size (pieces 43 bytes) 0 (pow_pos size)

-- one set for each variable, of its indexes
abbrev pub IsOfSizes : List ℕ → List ℕ → Type 0
IsOfSizes sizes now = (length now ≡ length sizes) × ((x : ℕ) → x < length sizes → slice_index now x < 2 ^ slice_index sizes x)

entry_fits : (sizes now entry : List ℕ) → IsOfSizes sizes now → IsOfSizes sizes (with_entry sizes now entry)
entry_fits sizes now entry h = by_test (nat_lt (number_in (before 61 entry)) (length sizes)) refl
  where
    by_test : (b : Bool) → nat_lt (number_in (before 61 entry)) (length sizes) ≡ b → IsOfSizes sizes (if b then set now (number_in (before 61 entry)) (set_in (slice_index sizes (number_in (before 61 entry))) (behind 61 entry)) else now)
    by_test false e = h
    by_test true e =
        let x = number_in (before 61 entry) in
        let read = set_in (slice_index sizes x) (behind 61 entry) in
        let inside : x < length sizes = grind (arith, nat_tests) in
        let long : x < length now = omega (arith, h.0) in (
          length-set now x read ∙ h.0,
          λ y l. ⊎_elim
              (λ q. subst (λ k. slice_index (set now x read) k < 2 ^ slice_index sizes k) (sym q) (subst (λ k. k < 2 ^ slice_index sizes x) (sym (get_or-set_same now x read 0 long)) (set_fits (slice_index sizes x) (behind 61 entry))))
              (λ n. subst (λ k. k < 2 ^ slice_index sizes y) (sym (get_or-set_other now x y read 0 n)) (h.1 y l))
              (cases_eq y x),
        )

entries_fit : (sizes : List ℕ) (entries : List (List ℕ)) (now : List ℕ) → IsOfSizes sizes now → IsOfSizes sizes (with_entries sizes entries now)
entries_fit sizes [] now h = h
entries_fit sizes (entry ∷ entries) now h = entries_fit sizes entries (with_entry sizes now entry) (entry_fits sizes now entry h)

pub full_fits : (sizes : List ℕ) → IsOfSizes sizes (full_of sizes)
full_fits sizes = (length-map sizes (λ size. 2 ^ size - 1), λ x l. let some = pow_pos (slice_index sizes x) in rw (get_or-map (λ size. 2 ^ size - 1) sizes x 0 0 l) (omega arith))

pub now_fits : (sizes bytes : List ℕ) → (length (now_in sizes bytes) ≡ length sizes) × ((x : ℕ) → x < length sizes → slice_index (now_in sizes bytes) x < 2 ^ slice_index sizes x)
unfolding now_in
now_fits sizes bytes = entries_fit sizes (pieces 44 (listed_in bytes)) (full_of sizes) (full_fits sizes)
