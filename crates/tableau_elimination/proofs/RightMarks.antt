-- From the tests of a place that is gone to what makes its mark right.
use Rattle.std.proofs.Common.{◌≡◌, ℕ, ◌+◌, ◌<◌, ◌⊎◌, List, [], ◌∷◌, length, get_or, Bool, true, false, not, ◌&&◌, nat_lt, nat_eq, cond, take, ◌++◌, refl, sym, ap, ◌∙◌, inl, inr, arith, rules}
use Rattle.std.proofs.lemmas.List.{take_more}
use Rattle.tableau_rules.specs.declared.edges.Edges.{Edges}
use Rattle.tableau_rules.specs.Links.{Among, kids_at}
use Rattle.tableau_rules.specs.Levels.{head_is, some_is, alive_at}
use Rattle.tableau_elimination.specs.declared.cause.Cause.{Cause}
use Rattle.tableau_elimination.specs.declared.cause.Cause.TheVariants.{Dead, Wait}
use Rattle.tableau_elimination.specs.Marks.{Gone, IsRight, IsWaiting, are_joined, is_late, is_apart, cause_at, living, AreMarked}
use Rattle.tableau_rules.proofs.PlaceTests.{bool_of, below_is, head_none, some_none}
use Rattle.std.proofs.lemmas.Bool.{and_parts}

eq_is : (a b : ℕ) → nat_eq a b ≡ true → a ≡ b
eq_is a b h = search rules

not_false : (b : Bool) → not b ≡ false → b ≡ true
not_false true h = refl
not_false false h = cc

joined_is : (e : ℕ) (c : Cause) → are_joined (Wait e) c ≡ true → c ≡ Wait e
joined_is e Dead h = cc
joined_is e (Wait d) h = ap Wait (sym (eq_is e d h))

-- a place that is not apart went earlier, or for the same until at the same time
not_apart : (ranks : List ℕ) (causes : List Cause) (rank : ℕ) (cause : Cause) (p : ℕ) → is_apart ranks causes rank cause p ≡ false
    → (get_or ranks p 0 < rank) ⊎ ((get_or ranks p 0 ≡ rank) × (are_joined cause (cause_at causes p) ≡ true))
not_apart ranks causes rank cause p h = elim (bool_of (nat_lt (get_or ranks p 0) rank)) [
  | inl early ↦ inl (below_is (get_or ranks p 0) rank early)
  | inr late ↦
      let same : not (nat_eq (get_or ranks p 0) rank && are_joined cause (cause_at causes p)) ≡ false =
      ap (λ b. not b && not (nat_eq (get_or ranks p 0) rank && are_joined cause (cause_at causes p))) (sym late) ∙ h in
      let both = and_parts (nat_eq (get_or ranks p 0) rank) (are_joined cause (cause_at causes p)) (not_false _ same) in
      inr (eq_is (get_or ranks p 0) rank both.0, both.1)
]

pub right_dead : (links : List Edges) (carrying fulfilling : ℕ → ℕ → Bool) (ranks : List ℕ) (causes : List Cause) (k : ℕ) → some_is (is_apart ranks causes (get_or ranks k 0) Dead) (kids_at links k) ≡ false
    → IsRight links carrying fulfilling ranks causes k Dead
right_dead links carrying fulfilling ranks causes k none = λ p a.
    elim (not_apart ranks causes (get_or ranks k 0) Dead p (some_none (is_apart ranks causes (get_or ranks k 0) Dead) (kids_at links k) p none a)) [
      | inl early ↦ early
      | inr joined ↦ absurd (never (cause_at causes p) joined.1)
    ]
  where
    never : (c : Cause) → are_joined Dead c ≡ true → ⊥
    never Dead h = cc
    never (Wait d) h = cc

pub right_wait : (links : List Edges) (carrying fulfilling : ℕ → ℕ → Bool) (ranks : List ℕ) (causes : List Cause) (k e : ℕ) → some_is (is_apart ranks causes (get_or ranks k 0) (Wait e)) (kids_at links k) ≡ false
    → IsWaiting links carrying fulfilling ranks e k → IsRight links carrying fulfilling ranks causes k (Wait e)
right_wait links carrying fulfilling ranks causes k e none w = (
  w.carries,
  w.has_kid,
  (λ p a. elim (not_apart ranks causes (get_or ranks k 0) (Wait e) p (some_none (is_apart ranks causes (get_or ranks k 0) (Wait e)) (kids_at links k) p none a)) [
    | inl early ↦ inl early
    | inr joined ↦ inr (joined.0, joined_is e (cause_at causes p) joined.1)
  ]),
  w.later,
)

-- the number of living places, a place at a time
living_last : (xs : List Bool) (x : Bool) → living (xs ++ x ∷ []) ≡ living xs + cond x 1 0
living_last [] x = omega arith
living_last (y ∷ ys) x = let r = living_last ys x in omega (arith, r)

living_more : (xs : List Bool) (i : ℕ) → i < length xs → living (take (i + 1) xs) ≡ living (take i xs) + cond (get_or xs i false) 1 0
living_more xs i h = ap living (take_more xs i false h) ∙ living_last (take i xs) (get_or xs i false)

pub living_one : (xs : List Bool) (i : ℕ) → i < length xs → get_or xs i false ≡ true → living (take (i + 1) xs) ≡ living (take i xs) + 1
living_one xs i h e = living_more xs i h ∙ ap (λ b. living (take i xs) + cond b 1 0) e

pub living_none : (xs : List Bool) (i : ℕ) → i < length xs → get_or xs i false ≡ false → living (take (i + 1) xs) ≡ living (take i xs)
living_none xs i h e = let r = living_more xs i h ∙ ap (λ b. living (take i xs) + cond b 1 0) e in omega (arith, r)

pub some_kid : (xs : List ℕ) → 0 < length xs → (p : ℕ) × Among p xs
some_kid [] h = absurd (omega arith)
some_kid (x ∷ xs) h = (x, inl refl)

not_true : (b : Bool) → not b ≡ true → b ≡ false
not_true true h = cc
not_true false h = refl

pub waiting : (links : List Edges) (carrying fulfilling : ℕ → ℕ → Bool) (ranks : List ℕ) (e k : ℕ) → carrying e k ≡ true → 0 < length (kids_at links k)
    → not (fulfilling e k && head_is (is_late ranks (get_or ranks k 0)) (kids_at links k)) ≡ true → IsWaiting links carrying fulfilling ranks e k
waiting links carrying fulfilling ranks e k carries some none =
    let rank = get_or ranks k 0 in
    record {
      carries = carries;
      has_kid = some_kid (kids_at links k) some;
      later = λ f p h.
          let late : head_is (is_late ranks rank) (kids_at links k) ≡ false =
          ap (λ b. b && head_is (is_late ranks rank) (kids_at links k)) (sym f) ∙ not_true _ none in
          below_is (get_or ranks p 0) rank (not_false _ (head_none (is_late ranks rank) (kids_at links k) p late h));
    }

-- what is found of a place that is gone
pub record IsFound (links : List Edges) (carrying fulfilling : ℕ → ℕ → Bool) (alive : List Bool) (ranks : List ℕ) (causes : List Cause) (left k : ℕ) : Type 0 where
  pub below : get_or ranks k 0 + left < length links
  pub shut : (p : ℕ) → Among p (kids_at links k) → Gone alive p
  pub right : IsRight links carrying fulfilling ranks causes k (cause_at causes k)

pub found : (links : List Edges) (carrying fulfilling : ℕ → ℕ → Bool) (alive : List Bool) (ranks : List ℕ) (causes : List Cause) (left k : ℕ) → some_is (alive_at alive) (kids_at links k) ≡ false
    → get_or ranks k 0 + left < length links → IsRight links carrying fulfilling ranks causes k (cause_at causes k) → IsFound links carrying fulfilling alive ranks causes left k
found links carrying fulfilling alive ranks causes left k none below right =
    record { below = below; shut = λ p a. some_none (alive_at alive) (kids_at links k) p none a; right = right }

pub marked_by : (links : List Edges) (carrying fulfilling : ℕ → ℕ → Bool) (alive : List Bool) (ranks : List ℕ) (causes : List Cause) (left : ℕ) → length alive ≡ length links → length ranks ≡ length links → length causes ≡ length links
    → living alive ≡ left → ((k : ℕ) → k < length links → Gone alive k → IsFound links carrying fulfilling alive ranks causes left k) → AreMarked links carrying fulfilling alive ranks causes left
marked_by links carrying fulfilling alive ranks causes left tested ranked caused rest all =
    record {
      tested = tested;
      ranked = ranked;
      caused = caused;
      rest = rest;
      below = λ k kl g. (all k kl g).below;
      shut = λ k kl g. (all k kl g).shut;
      right = λ k kl g. (all k kl g).right;
    }
