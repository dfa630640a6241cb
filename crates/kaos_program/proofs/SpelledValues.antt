-- The values of options: the reader finds those that the words spell.
use Rattle.std.proofs.Common.{◌≡◌, refl, subst, ℕ, ◌≤◌, Bool, true, false, ◌&&◌, if◌then◌else◌, nat_le, List, length, Some, None, bytes_eq}
use Rattle.std.specs.Prelude.{codes}
use Rattle.std.specs.Char.{is_ascii_digit}
use Rattle.std.specs.List.{list_all}
use Rattle.std.specs.Cmp.Derive.{both_true}
use Rattle.std.proofs.lemmas.Bool.{leb-true, le-leb}
use Rattle.std.proofs.lemmas.List.Elements.{All-weaker}
use Rattle.std.proofs.lemmas.List.Sums.{AllPass-from_list_all, list_all-from_AllPass}
use Rattle.std.proofs.lemmas.Slice.Eq.{bytes_eq-Decides}
use Rattle.source_sink.specs.Decimals.{value_behind}
use Rattle.verdict_report.specs.declared.form.Form.{Form}
use Rattle.verdict_report.specs.declared.form.Form.TheVariants.{Full, Brief, Lines}
use Rattle.kaos_program.specs.Commands.{IsNumber, form_word}
use Rattle.kaos_program.specs.Options.{is_number, within, number_named, form_named}
use Rattle.kaos_program.proofs.FoundValues.{both, passed, value_in}

-- a byte from `0` to `9`
abbrev IsDigit : ℕ → Type 0
IsDigit d = (48 ≤ d) × (d ≤ 57)

-- what passes as a digit is one
digit_between : (d : ℕ) → is_ascii_digit d ≡ true → IsDigit d
digit_between d e =
    let low_high = both (nat_le 48 d) (nat_le d 57) e in
    (leb-true 48 d low_high.0, leb-true d 57 low_high.1)

-- and a digit passes
digit_passes : (d : ℕ) → IsDigit d → is_ascii_digit d ≡ true
digit_passes d (low, high) = both_true (le-leb 48 d low) (le-leb d 57 high)

-- a value from 1 to the most, and no other value
inside : (most value number : ℕ) → within most value ≡ Some number → (value ≡ number) × (1 ≤ value) × (value ≤ most)
inside most value number e =
    let within = passed (nat_le 1 value && nat_le value most) (Some value) number e in
    let low_high = both (nat_le 1 value) (nat_le value most) within.0 in
    (value_in value number within.1, leb-true 1 value low_high.0, leb-true value most low_high.1)

-- a number that is read is spelled so
pub number_spelled : (most : ℕ) (word : List ℕ) (number : ℕ) → number_named most word ≡ Some number → IsNumber most word number
number_spelled most word number e =
    let read = passed (is_number word) (within most (value_behind 0 word)) number e in
    let front = both (nat_le 1 (length word) && nat_le (length word) 6) (list_all is_ascii_digit word) read.0 in
    let lengths = both (nat_le 1 (length word)) (nat_le (length word) 6) front.0 in
    let value = inside most (value_behind 0 word) number read.1 in
    record {
      some = leb-true 1 (length word) lengths.0;
      few = leb-true (length word) 6 lengths.1;
      digits = All-weaker (λ d. is_ascii_digit d ≡ true) IsDigit digit_between word (AllPass-from_list_all is_ascii_digit word front.1);
      value = value.0;
      low = subst (λ (n : ℕ). 1 ≤ n) value.0 value.1;
      high = subst (λ (n : ℕ). n ≤ most) value.0 value.2;
    }

-- a number passes
number_passes : (most : ℕ) (word : List ℕ) (number : ℕ) → IsNumber most word number → is_number word ≡ true
number_passes most word number is =
    both_true (both_true (le-leb 1 (length word) is.some) (le-leb (length word) 6 is.few))
    (list_all-from_AllPass is_ascii_digit word (All-weaker IsDigit (λ d. is_ascii_digit d ≡ true) digit_passes word is.digits))

-- a number that is spelled so is read
pub number_read : (most : ℕ) (word : List ℕ) (number : ℕ) → IsNumber most word number → number_named most word ≡ Some number
number_read most word number is =
    rw (number_passes most word number is, is.value, le-leb 1 number is.low, le-leb number most is.high) refl

-- a form that is read is spelled so
pub form_spelled : (word : List ℕ) (form : Form) → form_named word ≡ Some form → word ≡ form_word form
form_spelled word form e = full (bytes_eq word (codes "full")) ((bytes_eq-Decides word (codes "full")).0) e
  where
    lines : (b : Bool) → (b ≡ true → word ≡ codes "lines") → (if b then Some Lines else None) ≡ Some form → word ≡ form_word form
    lines true is e = subst (λ (f : Form). word ≡ form_word f) (value_in Lines form e) (is refl)
    lines false is e = cc

    brief : (b : Bool) → (b ≡ true → word ≡ codes "brief")
        → (if b then Some Brief else if bytes_eq word (codes "lines") then Some Lines else None) ≡ Some form → word ≡ form_word form
    brief true is e = subst (λ (f : Form). word ≡ form_word f) (value_in Brief form e) (is refl)
    brief false is e = lines (bytes_eq word (codes "lines")) ((bytes_eq-Decides word (codes "lines")).0) e

    full : (b : Bool) → (b ≡ true → word ≡ codes "full")
        → (if b then Some Full else if bytes_eq word (codes "brief") then Some Brief else
        if bytes_eq word (codes "lines") then Some Lines else None) ≡ Some form
        → word ≡ form_word form
    full true is e = subst (λ (f : Form). word ≡ form_word f) (value_in Full form e) (is refl)
    full false is e = brief (bytes_eq word (codes "brief")) ((bytes_eq-Decides word (codes "brief")).0) e

-- a form that is spelled so is read
pub form_read : (form : Form) → form_named (form_word form) ≡ Some form
form_read Full = refl
form_read Brief = refl
form_read Lines = refl
