-- The sets of a node after an effect.
use Rattle.std.proofs.Common.{◌≡◌, ◌≢◌, ◌↔◌, MatchBool, nat_eq, ℕ, zero, suc, ◌<◌, ◌≤◌, Bool, true, false, List, [], ◌∷◌, IsTrue, ◌==◌, bit_and, cond, length, set, refl, sym, ap, ap₂, ◌∙◌, subst, true≢false, arith}
use Rattle.std.specs.Cmp.Lexicographic.{pointwise, told_text}
use Rattle.std.specs.Prelude.{slice_index_or}
use Rattle.state_space.specs.declared.values.Values.{Values}
use Rattle.tableau_rules.specs.declared.effect.Effect.{Effect}
use Rattle.tableau_rules.specs.declared.effect.Effect.TheVariants.{Meets}
use Rattle.tableau_rules.specs.Nodes.{met_with}
use Rattle.tableau_rules.specs.Turns.{sets_of}
use Rattle.tableau_rules.specs.KidsView.{met_by, set_by}
use Rattle.formula_table.proofs.Tests.{cond_case}
use Rattle.tableau_rules.proofs.IndexSets.{length-met_with}

-- ---- one set is written
pub meet_at : (now : List Values) (x i m : ℕ) (d w : Values) → i ≡ x → i < length now → w.0 ≡ bit_and (slice_index_or now i d).0 m → sets_of (set now i w) ≡ met_with x m (sets_of now)
meet_at now x i m d w e l h = subst (λ y. sets_of (set now i w) ≡ met_with y m (sets_of now)) e (go now i l h)
  where
    go : (now : List Values) (i : ℕ) → i < length now → w.0 ≡ bit_and (slice_index_or now i d).0 m → sets_of (set now i w) ≡ met_with i m (sets_of now)
    go [] i l h = absurd (omega arith)
    go (s ∷ now) zero l h = ap (λ y. y ∷ sets_of now) h
    go (s ∷ now) (suc i) l h = ap (λ ys. s.0 ∷ ys) (go now i (omega arith) h)

pub meet_past : (now : List ℕ) (x m : ℕ) → length now ≤ x → now ≡ met_with x m now
meet_past [] x m l = refl
meet_past (s ∷ now) zero m l = absurd (omega arith)
meet_past (s ∷ now) (suc x) m l = ap (λ ys. s ∷ ys) (meet_past now x m (omega arith))

-- ---- all sets are compared
pub sets_length : (now : List Values) → length (sets_of now) ≡ length now
sets_length [] = refl
sets_length (s ∷ now) = ap suc (sets_length now)

met_length : (e : Effect) (now : List ℕ) → length (met_by e now) ≡ length now
met_length (Meets x m) now = length-met_with x.0 m.0 now
met_length _ now = refl

pub same_length : (e : Effect) (new old : List Values) → sets_of new ≡ met_by e (sets_of old) → length new ≡ length old
same_length e new old h =
    let a = sets_length new in
    let b = sets_length old in
    let c = met_length e (sets_of old) in
    let d = ap length h in
    omega (arith, a, b, c, d)

set_at : (now : List Values) (k : ℕ) (d : Values) → k < length now → slice_index_or (sets_of now) k 0 ≡ (slice_index_or now k d).0
set_at [] k d l = absurd (omega arith)
set_at (s ∷ now) zero d l = refl
set_at (s ∷ now) (suc k) d l = set_at now k d (omega arith)

eq_suc : (k x : ℕ) → (suc k == suc x) ≡ (k == x)
eq_suc k x = grind arith

meet_get : (x m : ℕ) (now : List ℕ) (k : ℕ) → k < length now → slice_index_or (met_with x m now) k 0 ≡ cond (k == x) (bit_and (slice_index_or now k 0) m) (slice_index_or now k 0)
meet_get x m [] k l = absurd (omega arith)
meet_get zero m (s ∷ now) zero l = refl
meet_get zero m (s ∷ now) (suc k) l = sym (cond_case (λ w. w ≡ slice_index_or now k 0) (suc k == 0) _ _ (λ e. absurd (no k e)) (λ _. refl))
  where
    no : (k : ℕ) → IsTrue (suc k == 0) → ⊥
    no k e = grind arith
meet_get (suc x) m (s ∷ now) zero l = sym (cond_case (λ w. w ≡ s) (0 == suc x) _ _ (λ e. absurd (no x e)) (λ _. refl))
  where
    no : (k : ℕ) → IsTrue (0 == suc k) → ⊥
    no k e = grind arith
meet_get (suc x) m (s ∷ now) (suc k) l = meet_get x m now k (omega arith) ∙ ap (λ b. cond b (bit_and (slice_index_or now k 0) m) (slice_index_or now k 0)) (sym (eq_suc k x))

met_get : (e : Effect) (now : List ℕ) (k : ℕ) → k < length now → slice_index_or (met_by e now) k 0 ≡ set_by e k (slice_index_or now k 0)
met_get (Meets x m) now k l = meet_get x.0 m.0 now k l
met_get _ now k l = refl

by_items : (xs ys : List ℕ) → length xs ≡ length ys → ((k : ℕ) → k < length xs → slice_index_or xs k 0 ≡ slice_index_or ys k 0) → xs ≡ ys
by_items [] [] l h = refl
by_items [] (y ∷ ys) l h = absurd (omega arith)
by_items (x ∷ xs) [] l h = absurd (omega arith)
by_items (x ∷ xs) (y ∷ ys) l h = ap₂ (λ z zs. z ∷ zs) (h 0 (omega arith)) (by_items xs ys (omega arith) (λ k m. h (suc k) (omega arith)))

-- the set at a place after the effect, and the sets from those at their places
pub met_at : (e : Effect) (new old : List Values) (k : ℕ) (d : Values) → k < length old → sets_of new ≡ met_by e (sets_of old) → (slice_index_or new k d).0 ≡ set_by e k (slice_index_or old k d).0
met_at e new old k d l h =
    let same = same_length e new old h in
    let a = sets_length old in
    sym (set_at new k d (omega (arith, l, same)))
    ∙ (ap (λ xs. slice_index_or xs k 0) h
    ∙ (met_get e (sets_of old) k (omega (arith, a, l))
    ∙ ap (set_by e k) (set_at old k d l)))

pub met_is : (e : Effect) (new old : List Values) (d : Values) → length old ≡ length new → ((k : ℕ) → k < length old → (slice_index_or new k d).0 ≡ set_by e k (slice_index_or old k d).0) → sets_of new ≡ met_by e (sets_of old)
met_is e new old d l h =
    let a = sets_length new in
    let b = sets_length old in
    let c = met_length e (sets_of old) in
    by_items (sets_of new) (met_by e (sets_of old)) (omega (arith, a, b, c, l)) (λ k m.
    let inside : k < length old = omega (arith, a, m, l) in
    set_at new k d (omega (arith, inside, l))
    ∙ (h k inside
    ∙ (ap (set_by e k) (sym (set_at old k d inside))
    ∙ sym (met_get e (sets_of old) k (omega (arith, b, inside))))))

-- ---- all sets are tested for equality
pub told_sets : (a b : List ℕ) (r : Bool) → r ≡ pointwise nat_eq a b → IsTrue r ↔ (a ≡ b)
told_sets a b r e = go r (told_text a b r e)
  where
    go : (r : Bool) → MatchBool r (a ≡ b) (a ≢ b) → IsTrue r ↔ (a ≡ b)
    go true m = (λ _. m, λ _. refl)
    go false m = (λ h. absurd (true≢false (sym h)), λ h. absurd (m h))
