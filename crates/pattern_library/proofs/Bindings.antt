-- A pattern whose placeholders all occur has one binding at most.
use Rattle.std.proofs.Common.{◌≡◌, ℕ, zero, suc, ◌<◌, ⊎_elim, List, [], ◌∷◌, ◌++◌, length, map, get_or, refl, sym, ap, ap₂, ◌∙◌, subst, arith}
use Rattle.std.specs.Prelude.{All, Contains, flat_map}
use Rattle.std.proofs.lemmas.List.Elements.{Contains-append_cases, All-head, All-tail}
use Rattle.goal_model.specs.declared.pattern.PatternKind.{PatternKind}
use Rattle.goal_model.specs.declared.pattern.PatternKind.TheVariants.{Milestone, Cases, Guard, Split, Induction}
use Rattle.temporal_logic.specs.Ltl.{Ltl, truth, falsity, flag, compares, among, relates, neg, conj, disj, implies, iff, entails, next, eventually, always, until, unless, release, eventually_within, always_within, until_within, unless_within, release_within}
use Rattle.temporal_logic.specs.Shapes.{variables_of}
use Rattle.pattern_library.specs.Patterns.{PatternForm, pattern_of}
use Rattle.pattern_library.specs.Instances.{instance_of, IsOverPlaceholders, IsPattern, AllOccur, Matches}

-- ---- the operands of a formula
abbrev first_operand : Ltl → Ltl
first_operand (neg a) = a
first_operand (next a) = a
first_operand (eventually a) = a
first_operand (always a) = a
first_operand (eventually_within d a) = a
first_operand (always_within d a) = a
first_operand (conj a b) = a
first_operand (disj a b) = a
first_operand (implies a b) = a
first_operand (iff a b) = a
first_operand (entails a b) = a
first_operand (until a b) = a
first_operand (unless a b) = a
first_operand (release a b) = a
first_operand (until_within d a b) = a
first_operand (unless_within d a b) = a
first_operand (release_within d a b) = a
first_operand f = f

abbrev second_operand : Ltl → Ltl
second_operand (conj a b) = b
second_operand (disj a b) = b
second_operand (implies a b) = b
second_operand (iff a b) = b
second_operand (entails a b) = b
second_operand (until a b) = b
second_operand (unless a b) = b
second_operand (release a b) = b
second_operand (until_within d a b) = b
second_operand (unless_within d a b) = b
second_operand (release_within d a b) = b
second_operand f = f

-- ---- lists
none_there : {A : Type 0} (k : ℕ) → Contains [] k → A
none_there k h = absurd (omega (arith, h.1))

one_there : (x k j : ℕ) → j < 1 → get_or (x ∷ []) j k ≡ k → x ≡ k
one_there x k zero l e = e
one_there x k (suc j) l e = absurd (omega arith)

abbrev front : List Ltl → Ltl
front [] = truth
front (x ∷ xs) = x

abbrev back : List Ltl → List Ltl
back [] = []
back (x ∷ xs) = xs

pub same_lists : (xs ys : List Ltl) → length xs ≡ length ys → ((k : ℕ) → k < length xs → get_or xs k truth ≡ get_or ys k truth) → xs ≡ ys
same_lists [] [] e h = refl
same_lists [] (y ∷ ys) e h = absurd (omega (arith, e))
same_lists (x ∷ xs) [] e h = absurd (omega (arith, e))
same_lists (x ∷ xs) (y ∷ ys) e h = ap₂ (λ a b. a ∷ b) (h zero (omega arith)) (same_lists xs ys (omega (arith, e)) (λ k l. h (suc k) (omega arith)))

module _ (f g : List Ltl) (n : ℕ) where
  abbrev Same : ℕ → Type 0
  Same k = get_or f k truth ≡ get_or g k truth

  of_both : (xs ys : List ℕ) → ((k : ℕ) → Contains xs k → Same k) → ((k : ℕ) → Contains ys k → Same k) → (k : ℕ) → Contains (xs ++ ys) k → Same k
  of_both xs ys p q k h = ⊎_elim (p k) (q k) (Contains-append_cases xs ys k h)

  same_at : (h : Ltl) → IsOverPlaceholders n h → instance_of f h ≡ instance_of g h → (k : ℕ) → Contains (variables_of h) k → Same k
  same_at truth o e k w = none_there k w
  same_at falsity o e k w = none_there k w
  same_at (flag x) o e k w = subst Same (one_there x k w.0 w.1 w.2) e
  same_at (compares x r v) o e k w = absurd o
  same_at (among x set) o e k w = absurd o
  same_at (relates x r y) o e k w = absurd o
  same_at (neg a) o e k w = same_at a o (ap first_operand e) k w
  same_at (next a) o e k w = same_at a o (ap first_operand e) k w
  same_at (eventually a) o e k w = same_at a o (ap first_operand e) k w
  same_at (always a) o e k w = same_at a o (ap first_operand e) k w
  same_at (eventually_within d a) o e k w = same_at a o (ap first_operand e) k w
  same_at (always_within d a) o e k w = same_at a o (ap first_operand e) k w
  same_at (conj a b) o e k w = of_both (variables_of a) (variables_of b) (same_at a o.0 (ap first_operand e)) (same_at b o.1 (ap second_operand e)) k w
  same_at (disj a b) o e k w = of_both (variables_of a) (variables_of b) (same_at a o.0 (ap first_operand e)) (same_at b o.1 (ap second_operand e)) k w
  same_at (implies a b) o e k w = of_both (variables_of a) (variables_of b) (same_at a o.0 (ap first_operand e)) (same_at b o.1 (ap second_operand e)) k w
  same_at (iff a b) o e k w = of_both (variables_of a) (variables_of b) (same_at a o.0 (ap first_operand e)) (same_at b o.1 (ap second_operand e)) k w
  same_at (entails a b) o e k w = of_both (variables_of a) (variables_of b) (same_at a o.0 (ap first_operand e)) (same_at b o.1 (ap second_operand e)) k w
  same_at (until a b) o e k w = of_both (variables_of a) (variables_of b) (same_at a o.0 (ap first_operand e)) (same_at b o.1 (ap second_operand e)) k w
  same_at (unless a b) o e k w = of_both (variables_of a) (variables_of b) (same_at a o.0 (ap first_operand e)) (same_at b o.1 (ap second_operand e)) k w
  same_at (release a b) o e k w = of_both (variables_of a) (variables_of b) (same_at a o.0 (ap first_operand e)) (same_at b o.1 (ap second_operand e)) k w
  same_at (until_within d a b) o e k w = of_both (variables_of a) (variables_of b) (same_at a o.0 (ap first_operand e)) (same_at b o.1 (ap second_operand e)) k w
  same_at (unless_within d a b) o e k w = of_both (variables_of a) (variables_of b) (same_at a o.0 (ap first_operand e)) (same_at b o.1 (ap second_operand e)) k w
  same_at (release_within d a b) o e k w = of_both (variables_of a) (variables_of b) (same_at a o.0 (ap first_operand e)) (same_at b o.1 (ap second_operand e)) k w

  same_at_all : (hs : List Ltl) → All (IsOverPlaceholders n) hs → map (instance_of f) hs ≡ map (instance_of g) hs → (k : ℕ) → Contains (flat_map variables_of hs) k → Same k
  same_at_all [] o e k w = none_there k w
  same_at_all (h ∷ hs) o e k w =
      of_both (variables_of h) (flat_map variables_of hs) (same_at h (All-head (IsOverPlaceholders n) h hs o) (ap front e)) (same_at_all hs (All-tail (IsOverPlaceholders n) h hs o) (ap back e)) k w

pub one_binding : (p : PatternForm) → IsPattern p → AllOccur p → (parent : Ltl) (subgoals f g : List Ltl) → Matches p parent subgoals f → Matches p parent subgoals g → f ≡ g
one_binding p good occur parent subgoals f g m w =
    same_lists f g (m.count ∙ sym w.count)
    (λ k l. of_both f g p.placeholders (variables_of p.parent) (flat_map variables_of p.subgoals)
    (same_at f g p.placeholders p.parent good.parent (sym m.parent_is ∙ w.parent_is))
    (same_at_all f g p.placeholders p.subgoals good.subgoals (sym m.subgoals_are ∙ w.subgoals_are))
    k (occur k (omega (arith, l, m.count))))

-- ---- the five patterns
pub library_occurs : (kind : PatternKind) → AllOccur (pattern_of kind)
library_occurs Milestone zero l = (0, omega arith, refl)
library_occurs Milestone (suc zero) l = (1, omega arith, refl)
library_occurs Milestone (suc (suc zero)) l = (3, omega arith, refl)
library_occurs Milestone (suc (suc (suc k))) l = absurd (omega (arith, l))
library_occurs Cases zero l = (0, omega arith, refl)
library_occurs Cases (suc zero) l = (1, omega arith, refl)
library_occurs Cases (suc (suc zero)) l = (3, omega arith, refl)
library_occurs Cases (suc (suc (suc zero))) l = (6, omega arith, refl)
library_occurs Cases (suc (suc (suc (suc k)))) l = absurd (omega (arith, l))
library_occurs Guard zero l = (0, omega arith, refl)
library_occurs Guard (suc zero) l = (1, omega arith, refl)
library_occurs Guard (suc (suc zero)) l = (3, omega arith, refl)
library_occurs Guard (suc (suc (suc k))) l = absurd (omega (arith, l))
library_occurs Split zero l = (0, omega arith, refl)
library_occurs Split (suc zero) l = (1, omega arith, refl)
library_occurs Split (suc (suc zero)) l = (2, omega arith, refl)
library_occurs Split (suc (suc (suc k))) l = absurd (omega (arith, l))
library_occurs Induction zero l = (0, omega arith, refl)
library_occurs Induction (suc zero) l = (1, omega arith, refl)
library_occurs Induction (suc (suc k)) l = absurd (omega (arith, l))
