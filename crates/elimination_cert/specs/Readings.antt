-- What bytes spell a certificate, and where bytes fail to.
use Rattle.std.specs.Prelude.{◌≡◌, ℕ, ◌^◌, ◌<◌, ◌≤◌, ◌⊎◌, List, [], ◌∷◌, ◌++◌, length, All, Contains}
use Rattle.tableau_rules.specs.Certificates.{CertNodeForm}
use Rattle.elimination_cert.specs.CertTexts.{first_line, cert_text, FitsSizes}
use Rattle.elimination_cert.specs.declared.refusal.CertRefusal.{CertRefusal}
use Rattle.elimination_cert.specs.declared.refusal.CertRefusal.TheVariants.{TooMany, Syntax, Memory}

-- the bytes are the text of the certificate, which fits the sizes and has at most 200,000 nodes
pub record Spells (sizes bytes : List ℕ) (cert : List CertNodeForm) : Type 0 where
  pub few : length cert ≤ 200000
  pub fits : All (FitsSizes sizes) cert
  pub text : bytes ≡ cert_text sizes cert

-- the first line is well formed, and has a number over 200,000
pub record HasTooMany (bytes : List ℕ) (count : ℕ) : Type 0 where
  pub more : 200000 < count
  pub small : count < 2 ^ 32
  pub rest : List ℕ
  pub first : bytes ≡ first_line count ++ rest

-- the bytes begin the text of some certificate
abbrev pub Begins : List ℕ → List ℕ → Type 0
Begins sizes bytes = (rest : List ℕ) × (cert : List CertNodeForm) × Spells sizes (bytes ++ rest) cert

-- the bytes are whole lines, or none
abbrev pub EndsLine : List ℕ → Type 0
EndsLine bytes = (bytes ≡ []) ⊎ ((line : List ℕ) × (bytes ≡ line ++ 10 ∷ []))

-- one line with its line feed
abbrev pub IsLine : List ℕ → Type 0
IsLine line = (x : List ℕ) × (line ≡ x ++ 10 ∷ []) × ¬ (Contains x 10)

-- after whole lines that begin a text comes a line that goes on with none of them, or a last piece without its line feed
pub record BreaksOff (sizes bytes : List ℕ) (at : ℕ) : Type 0 where
  pub before : List ℕ
  pub line : List ℕ
  pub after : List ℕ
  pub bytes_are : bytes ≡ before ++ line ++ after
  pub place : at ≡ length before
  pub whole : EndsLine before
  pub begins : Begins sizes before
  pub how : (IsLine line × ¬ (Begins sizes (before ++ line))) ⊎ ((after ≡ []) × (0 < length line) × ¬ (Contains line 10))

-- whole lines that begin a text, and end too early
pub record EndsEarly (sizes bytes : List ℕ) (at : ℕ) : Type 0 where
  pub place : at ≡ length bytes
  pub whole : EndsLine bytes
  pub begins : Begins sizes bytes

-- why the bytes spell no certificate, and where; only want of memory is free
abbrev pub Refuses : List ℕ → List ℕ → CertRefusal → Type 0
Refuses sizes bytes (TooMany count) = HasTooMany bytes count
Refuses sizes bytes (Syntax at) =
    ((cert : List CertNodeForm) → ¬ (Spells sizes bytes cert)) × ((count : ℕ) → ¬ (HasTooMany bytes count)) × (BreaksOff sizes bytes at ⊎ EndsEarly sizes bytes at)
Refuses sizes bytes Memory = Unit {0}
