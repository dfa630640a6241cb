-- The line that tells how large a certificate is, text by text.
use Rattle.std.proofs.Common.{◌≡◌, ℕ, List, ◌++◌, length, refl, ap, ap₂, ◌∙◌, append_assoc, codes, decimal}
use Rattle.tableau_rules.specs.Certificates.{CertNodeForm}
use Rattle.verdict_report.specs.ReportTexts.{highest_rank, summary_text}

-- one text more behind what was appended before
appended : (old front out text new : List ℕ) → out ≡ old ++ front → new ≡ out ++ text → new ≡ old ++ (front ++ text)
appended old front out text new e f = f ∙ ap (λ (t : List ℕ). t ++ text) e ∙ append_assoc old front text

-- the whole line
pub summary_appended : (old a b c d : List ℕ) (count rank : ℕ) (cert : List CertNodeForm) → count ≡ length cert → rank ≡ highest_rank cert
    → a ≡ old ++ codes "  certificate of " → b ≡ a ++ decimal count → c ≡ b ++ codes " nodes, highest rank " → d ≡ c ++ decimal rank
    → d ++ codes "\n" ≡ old ++ summary_text cert
unfolding summary_text
summary_appended old a b c d count rank cert many highest e f g h =
    let two = appended old (codes "  certificate of ") a (decimal count) b e f in
    let three = appended old (codes "  certificate of " ++ decimal count) b (codes " nodes, highest rank ") c two g in
    let four = appended old (codes "  certificate of " ++ decimal count ++ codes " nodes, highest rank ") c (decimal rank) d three h in
    appended old (codes "  certificate of " ++ decimal count ++ codes " nodes, highest rank " ++ decimal rank) d (codes "\n") (d ++ codes "\n") four refl
    ∙ ap₂ (λ (n r : ℕ). old ++ (codes "  certificate of " ++ decimal n ++ codes " nodes, highest rank " ++ decimal r ++ codes "\n")) many highest
