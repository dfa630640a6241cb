-- When the first line of bytes spells no node over variables of these sizes.
use Rattle.std.specs.Prelude.{◌≡◌, ◌⊎◌, ℕ, List, ◌++◌, Contains}
use Rattle.tableau_rules.specs.Certificates.{CertNodeForm}
use Rattle.elimination_cert.specs.CertTexts.{node_text, FitsSizes}
use Rattle.elimination_cert.specs.Readings.{IsLine}

-- the first line is of no node, or the bytes have no line feed
abbrev pub HasNoNode : List ℕ → List ℕ → Type 0
HasNoNode sizes bytes =
    ((line : List ℕ) × (after : List ℕ) × (bytes ≡ line ++ after) × IsLine line × ((c : CertNodeForm) → FitsSizes sizes c → ¬ (line ≡ node_text sizes c)))
    ⊎ (¬ (Contains bytes 10))
