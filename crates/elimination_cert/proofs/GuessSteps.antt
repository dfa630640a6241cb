-- Guesses in steps, a piece at a time.
use Rattle.std.proofs.Common.{◌≡◌, ℕ, zero, suc, ◌+◌, ◌-◌, ◌*◌, ◌<◌, ◌≤◌, true, List, [], ◌∷◌, ◌++◌, length, map, take, drop, get_or, refl, sym, subst, ap, ap₂, ◌∙◌, ⊎_elim, append-nil, add-one, drop-cons, arith, set}
use Rattle.std.specs.Prelude.{if◌then◌else◌, min, slice_index, nat_lt}
use Rattle.std.proofs.lemmas.Bool.{cases_lt, cond-true}
use Rattle.std.proofs.lemmas.Bool.Decides.{nat_tests}
use Rattle.std.proofs.lemmas.List.{map-set}
use Rattle.state_space.specs.declared.values.Values.{Values}
use Rattle.tableau_rules.specs.Sets.{with_number}
use Rattle.tableau_rules.specs.Turns.{sets_of}
use Rattle.elimination_cert.specs.Guesses.{before, behind, pieces, number_in, small_in, with_all, with_value, with_values, with_entry, with_entries, set_in}
use Rattle.elimination_cert.proofs.Cuts.{first_piece}

-- ---- pieces
pub is_nil : {X : Type 0} (xs : List X) → length xs ≡ 0 → xs ≡ []
is_nil [] e = refl
is_nil (x ∷ xs) e = absurd (omega arith)

pub formulas_step : (bytes piece rest formulas more whole : List ℕ) (number : ℕ) → 0 < length bytes → piece ≡ before 44 bytes → rest ≡ behind 44 bytes
    → number ≡ small_in piece → more ≡ with_number number formulas → with_all (pieces 44 bytes) formulas ≡ whole → with_all (pieces 44 rest) more ≡ whole
formulas_step bytes piece rest formulas more whole number l p r n m h =
    ap₂ (λ xs ys. with_all (pieces 44 xs) ys) r (m ∙ ap (λ k. with_number k formulas) (n ∙ ap small_in p)) ∙ sym (ap (λ ps. with_all ps formulas) (first_piece 44 bytes l)) ∙ h

pub kids_step : (bytes piece rest kids more whole : List ℕ) (number : ℕ) → 0 < length bytes → length kids < 2 → piece ≡ before 44 bytes → rest ≡ behind 44 bytes
    → number ≡ number_in piece → more ≡ kids ++ number ∷ [] → kids ++ take (2 - length kids) (map number_in (pieces 44 bytes)) ≡ whole
    → more ++ take (2 - length more) (map number_in (pieces 44 rest)) ≡ whole
kids_step bytes piece rest kids more whole number l few p r n m h =
    ap₂ (λ xs ys. xs ++ take (2 - length xs) (map number_in (pieces 44 ys))) (m ∙ ap (λ k. kids ++ k ∷ []) (n ∙ ap number_in p)) r
    ∙ room kids few
    ∙ sym (ap (λ ps. kids ++ take (2 - length kids) (map number_in ps)) (first_piece 44 bytes l)) ∙ h
  where
    room : (ks : List ℕ) → length ks < 2 → (ks ++ number_in (before 44 bytes) ∷ []) ++ take (2 - length (ks ++ number_in (before 44 bytes) ∷ [])) (map number_in (pieces 44 (behind 44 bytes))) ≡ ks ++ take (2 - length ks) (number_in (before 44 bytes) ∷ map number_in (pieces 44 (behind 44 bytes)))
    room [] g = refl
    room (k ∷ []) g = refl
    room (k ∷ j ∷ ks) g = absurd (omega arith)

pub values_step : (size : ℕ) (bytes piece rest : List ℕ) (indexes more whole : ℕ) → 0 < length bytes → piece ≡ before 43 bytes → rest ≡ behind 43 bytes
    → more ≡ with_value size piece indexes → with_values size (pieces 43 bytes) indexes ≡ whole → with_values size (pieces 43 rest) more ≡ whole
values_step size bytes piece rest indexes more whole l p r m h =
    ap₂ (λ xs k. with_values size (pieces 43 xs) k) r (m ∙ ap (λ t. with_value size t indexes) p) ∙ sym (ap (λ ps. with_values size ps indexes) (first_piece 43 bytes l)) ∙ h

pub entries_step : (sizes bytes piece rest now more whole : List ℕ) → 0 < length bytes → piece ≡ before 44 bytes → rest ≡ behind 44 bytes
    → more ≡ with_entry sizes now piece → with_entries sizes (pieces 44 bytes) now ≡ whole → with_entries sizes (pieces 44 rest) more ≡ whole
entries_step sizes bytes piece rest now more whole l p r m h =
    ap₂ (λ xs ys. with_entries sizes (pieces 44 xs) ys) r (m ∙ ap (with_entry sizes now) p) ∙ sym (ap (λ ps. with_entries sizes ps now) (first_piece 44 bytes l)) ∙ h

pub entry_put : (sizes : List ℕ) (now : List Values) (entry name rest : List ℕ) (x size : ℕ) (indexes : Values) → name ≡ before 61 entry → rest ≡ behind 61 entry → x ≡ number_in name → x < length sizes
    → size ≡ slice_index sizes x → indexes.0 ≡ set_in size rest → sets_of (set now x indexes) ≡ with_entry sizes (sets_of now) entry
entry_put sizes now entry name rest x size indexes n r e l s i =
    let here : x ≡ number_in (before 61 entry) = e ∙ ap number_in n in
    let own : indexes.0 ≡ set_in (slice_index sizes x) (behind 61 entry) = i ∙ ap₂ set_in s r in
    let inside : nat_lt x (length sizes) ≡ true = grind (arith, nat_tests) in
    map-set (λ (v : Values). v.0) now x indexes ∙ ap (set (sets_of now) x) own
    ∙ subst (λ k. set (sets_of now) x (set_in (slice_index sizes x) (behind 61 entry)) ≡ (if nat_lt k (length sizes) then set (sets_of now) k (set_in (slice_index sizes k) (behind 61 entry)) else sets_of now)) here
    (sym (cond-true (nat_lt x (length sizes)) _ _ inside))

-- ---- the end of the kids
no_more : (n : ℕ) → take {A = ℕ} n [] ≡ []
no_more zero = refl
no_more (suc n) = refl

pub kids_over : (kids rest whole : List ℕ) → length rest ≡ 0 → kids ++ take (2 - length kids) (map number_in (pieces 44 rest)) ≡ whole → kids ≡ whole
kids_over kids rest whole e h =
    sym (append-nil kids) ∙ ap (λ xs. kids ++ xs) (sym (no_more (2 - length kids))) ∙ ap (λ xs. kids ++ take (2 - length kids) (map number_in (pieces 44 xs))) (sym (is_nil rest e)) ∙ h

pub kids_full : (kids numbers whole : List ℕ) → length kids ≡ 2 → kids ++ take (2 - length kids) numbers ≡ whole → kids ≡ whole
kids_full kids numbers whole e h = sym (append-nil kids) ∙ ap (λ n. kids ++ take (2 - n) numbers) (sym e) ∙ h
