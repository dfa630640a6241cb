-- How certificates are written: a line with the number of nodes, and a line for each node.
use Rattle.std.specs.Prelude.{◌≡◌, ℕ, suc, ◌-◌, ◌^◌, ◌<◌, ◌≤◌, ◌==◌, if◌then◌else◌, List, [], ◌∷◌, ◌++◌, length, map, slice_index, codes, All}
use Rattle.std.specs.List.{flat_map}
use Rattle.std.specs.List.Sorted.{IsStrictlyIncreasing}
use Rattle.std.specs.Fmt.{decimal}
use Rattle.state_space.specs.ValueTexts.{members}
use Rattle.tableau_rules.specs.Certificates.{ReasonForm, clash, dead, wait, CertNodeForm}

-- texts with a byte between any two
abbrev pub joined : ℕ → List (List ℕ) → List ℕ
joined byte [] = []
joined byte (x ∷ xs) = x ++ flat_map (λ y. byte ∷ y) xs

-- texts with commas, or `-` where there is none
abbrev pub or_dash : List (List ℕ) → List ℕ
or_dash [] = codes "-"
or_dash (x ∷ xs) = joined 44 (x ∷ xs)

-- `3,5,8`, or `-`
abbrev pub list_text : List ℕ → List ℕ
list_text numbers = or_dash (map decimal numbers)

-- `x=v+w`, of the set of the variable x
abbrev pub set_text : ℕ → ℕ → ℕ → List ℕ
set_text x size set = decimal x ++ codes "=" ++ joined 43 (map decimal (members set size))

-- the variables from x on whose sets are not all of their indexes
abbrev pub set_texts : ℕ → List ℕ → List ℕ → List (List ℕ)
set_texts x (size ∷ sizes) (set ∷ now) = if set == 2 ^ size - 1 then set_texts (suc x) sizes now else set_text x size set ∷ set_texts (suc x) sizes now
set_texts x _ _ = []

-- `0=1,2=0+2` of the variables of whose indexes some are gone, or `-`
abbrev pub now_text : List ℕ → List ℕ → List ℕ
now_text sizes now = or_dash (set_texts 0 sizes now)

-- `clash`, `dead`, or `wait E` of the until with the number E
abbrev pub reason_text : ReasonForm → List ℕ
reason_text clash = codes "clash"
reason_text dead = codes "dead"
reason_text (wait e) = codes "wait " ++ decimal e

-- `RANK REASON todo LIST now NOW next LIST kids LIST`, and a line feed
abbrev pub node_text : List ℕ → CertNodeForm → List ℕ
node_text sizes c =
    decimal c.rank ++ codes " " ++ reason_text c.reason ++ codes " todo " ++ list_text c.node.todo ++ codes " now " ++ now_text sizes c.node.now
    ++ codes " next " ++ list_text c.node.next ++ codes " kids " ++ list_text c.kids ++ codes "\n"

-- `certificate COUNT`, and a line feed
abbrev pub first_line : ℕ → List ℕ
first_line count = codes "certificate " ++ decimal count ++ codes "\n"

-- the first line, and one for each node in order
abbrev pub cert_text : List ℕ → List CertNodeForm → List ℕ
cert_text sizes cert = first_line (length cert) ++ flat_map (node_text sizes) cert

-- the same lines, each behind some bytes
abbrev pub indented_cert : List ℕ → List ℕ → List CertNodeForm → List ℕ
indented_cert indent sizes cert = indent ++ first_line (length cert) ++ flat_map (λ c. indent ++ node_text sizes c) cert

-- the until of a wait has a number that fits 16 bits
abbrev pub IsSmall : ReasonForm → Type 0
IsSmall (wait e) = e < 2 ^ 16
IsSmall _ = Unit {0}

-- ascending numbers of formulas, one set of its indexes for each variable, and at most two kids
pub record FitsSizes (sizes : List ℕ) (c : CertNodeForm) : Type 0 where
  pub rank : c.rank < 2 ^ 32
  pub reason : IsSmall c.reason
  pub todo : IsStrictlyIncreasing c.node.todo
  pub todo_small : All (λ f. f < 2 ^ 16) c.node.todo
  pub variables : length c.node.now ≡ length sizes
  pub indexes : (x : ℕ) → x < length sizes → slice_index c.node.now x < 2 ^ slice_index sizes x
  pub next : IsStrictlyIncreasing c.node.next
  pub next_small : All (λ f. f < 2 ^ 16) c.node.next
  pub few : length c.kids ≤ 2
  pub kids_small : All (λ k. k < 2 ^ 32) c.kids
