-- What is written in steps.
use Rattle.std.proofs.Common.{◌≡◌, ℕ, suc, ◌+◌, ◌-◌, ◌^◌, ◌<◌, Bool, List, [], ◌∷◌, ◌++◌, length, map, drop, get_or, refl, sym, subst, ap, ap₂, ◌∙◌, append-nil, append_assoc, add-one, drop-cons, arith}
use Rattle.std.specs.Prelude.{◌==◌, if◌then◌else◌, slice_index}
use Rattle.std.specs.List.{All, flat_map}
use Rattle.std.specs.Fmt.{decimal}
use Rattle.std.specs.Int.{bit_at}
use Rattle.std.proofs.lemmas.Bool.{cond-false, ne_eqb}
use Rattle.std.proofs.lemmas.List.{map_push, flat_map_more, length-map, get_or-map}
use Rattle.state_space.specs.ValueTexts.{members}
use Rattle.state_space.specs.Members.{full_of}
use Rattle.state_space.specs.declared.values.Values.{Values}
use Rattle.state_space.proofs.Listing.{members_with}
use Rattle.tableau_rules.specs.declared.certificate.CertNode.{CertNode}
use Rattle.tableau_rules.specs.CertView.{cert_node_of}
use Rattle.tableau_rules.specs.Sets.{numbers_from}
use Rattle.tableau_rules.specs.Turns.{sets_of}
use Rattle.elimination_cert.specs.CertTexts.{joined, set_text, set_texts}
use Rattle.elimination_cert.specs.Endings.{more_texts}

joined_push : (byte : ℕ) (xs : List (List ℕ)) (y : List ℕ) → joined byte (xs ++ y ∷ []) ≡ joined byte xs ++ (if length xs == 0 then y else byte ∷ y)
joined_push byte [] y = append-nil y
joined_push byte (x ∷ xs) y =
    sym (flat_map_more (λ z. byte ∷ z) x xs y)
    ∙ ap (λ zs. (x ++ flat_map (λ z. byte ∷ z) xs) ++ zs) (sym (cond-false (length (x ∷ xs) == 0) y (byte ∷ y) (ne_eqb (length (x ∷ xs)) 0 (λ e. omega arith))))

-- one index more
pub values_more : (set n : ℕ) (before now : List ℕ) (first : Bool) → bit_at set n ≡ 1 → now ≡ before ++ joined 43 (map decimal (members set n)) → first ≡ (length (members set n) == 0) → now ++ (if first then decimal n else 43 ∷ decimal n) ≡ before ++ joined 43 (map decimal (members set (n + 1)))
values_more set n before now first e h g =
    let xs = members set n in
    let push : joined 43 (map decimal (members set (n + 1))) ≡ joined 43 (map decimal xs) ++ (if length (map decimal xs) == 0 then decimal n else 43 ∷ decimal n) = ap (λ ys. joined 43 (map decimal ys)) (members_with set n e) ∙ ap (joined 43) (map_push decimal xs n) ∙ joined_push 43 (map decimal xs) (decimal n) in
    let count : (length (map decimal xs) == 0) ≡ first = ap (λ k. k == 0) (length-map xs decimal) ∙ sym g in
    ap (λ ys. ys ++ (if first then decimal n else 43 ∷ decimal n)) h
    ∙ append_assoc before (joined 43 (map decimal xs)) (if first then decimal n else 43 ∷ decimal n)
    ∙ sym (ap (λ ys. before ++ ys) (push ∙ ap (λ b. joined 43 (map decimal xs) ++ (if b then decimal n else 43 ∷ decimal n)) count))

pub no_numbers : (x : ℕ) (xs : List ℕ) → All (λ y. y < x) xs → numbers_from x xs ≡ []
no_numbers x [] h = refl
no_numbers x (y ∷ ys) h =
    let l : y < x = h 0 0 (omega arith) in
    let rest : numbers_from x ys ≡ [] = no_numbers x ys (λ k d g. h (suc k) d (omega arith)) in
    grind arith

-- one variable more
pub variable_more : (x : ℕ) (sizes now : List ℕ) → x < length sizes → length now ≡ length sizes → set_texts x (drop x sizes) (drop x now) ≡ (if slice_index now x == 2 ^ slice_index sizes x - 1 then set_texts (x + 1) (drop (x + 1) sizes) (drop (x + 1) now) else set_text x (slice_index sizes x) (slice_index now x) ∷ set_texts (x + 1) (drop (x + 1) sizes) (drop (x + 1) now))
variable_more x sizes now l e =
    let m : x < length now = omega arith in
    rw (add-one, drop-cons sizes x 0 l, drop-cons now x 0 m) refl

-- what is left to write of the sets, behind one variable more
pub now_step : (sizes : List ℕ) (now full : List Values) (x place size : ℕ) (first still : Bool) (before after whole : List ℕ)
    → x < length sizes → length now ≡ length sizes → map (λ set. set.0) full ≡ full_of sizes → size ≡ slice_index sizes x → place ≡ x
    → before ++ more_texts first (set_texts x (drop x sizes) (drop x (sets_of now))) ≡ whole
    → ((texts : List (List ℕ)) → after ++ more_texts still texts ≡ before ++ more_texts first (if (get_or now place (record { 0 = 0 })).0 == (get_or full place (record { 0 = 0 })).0 then texts else set_text x size (get_or now place (record { 0 = 0 })).0 ∷ texts))
    → after ++ more_texts still (set_texts (x + 1) (drop (x + 1) sizes) (drop (x + 1) (sets_of now))) ≡ whole
now_step sizes now full x place size first still before after whole l e f g p i s =
    let zero_set : Values = record { 0 = 0 } in
    let rest = set_texts (x + 1) (drop (x + 1) sizes) (drop (x + 1) (sets_of now)) in
    let is_set : (get_or now place zero_set).0 ≡ slice_index (sets_of now) x = ap (λ k. (get_or now k zero_set).0) p ∙ sym (get_or-map (λ (set : Values). set.0) now x zero_set 0 (omega arith)) in
    let as_many : length full ≡ length sizes = sym (length-map full (λ (set : Values). set.0)) ∙ ap length f ∙ length-map sizes (λ k. 2 ^ k - 1) in
    let is_full : (get_or full place zero_set).0 ≡ 2 ^ slice_index sizes x - 1 =
    ap (λ k. (get_or full k zero_set).0) p ∙ sym (get_or-map (λ (set : Values). set.0) full x zero_set 0 (omega arith)) ∙ ap (λ ns. slice_index ns x) f ∙ get_or-map (λ k. 2 ^ k - 1) sizes x 0 0 l in
    let length_now : length (sets_of now) ≡ length sizes = length-map now (λ (set : Values). set.0) ∙ e in
    let more = variable_more x sizes (sets_of now) l length_now in
    s rest ∙ ap₂ (λ a b. before ++ more_texts first (if a == b then rest else set_text x size a ∷ rest)) is_set is_full
    ∙ ap (λ k. before ++ more_texts first (if slice_index (sets_of now) x == 2 ^ slice_index sizes x - 1 then rest else set_text x k (slice_index (sets_of now) x) ∷ rest)) g
    ∙ ap (λ ts. before ++ more_texts first ts) (sym more) ∙ i

-- the sets of a node of which all have one for each variable
pub node_length : (sizes : List ℕ) (nodes : List CertNode) (k : ℕ) (node : CertNode) → All (λ c. length c.node.now ≡ length sizes) (map cert_node_of nodes) → k < length nodes → node ≡ get_or nodes k node → length node.node.now.items ≡ length sizes
node_length sizes nodes k node h l e =
    let inside : k < length (map cert_node_of nodes) = omega (arith, length-map nodes cert_node_of) in
    let has : length (get_or (map cert_node_of nodes) k (cert_node_of node)).node.now ≡ length sizes = h k (cert_node_of node) inside in
    let is : get_or (map cert_node_of nodes) k (cert_node_of node) ≡ cert_node_of node = get_or-map cert_node_of nodes k node (cert_node_of node) l ∙ ap cert_node_of (sym e) in
    let own : length (cert_node_of node).node.now ≡ length sizes = subst (λ c. length c.node.now ≡ length sizes) is has in
    sym (length-map node.node.now.items (λ (set : Values). set.0)) ∙ own
