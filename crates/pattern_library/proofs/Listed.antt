-- Formulas of a list, each an instance of the pattern's formula at its place.
use Rattle.std.proofs.Common.{◌≡◌, ◌↔◌, ⊎_elim, ℕ, zero, suc, ◌+◌, ◌<◌, true, false, List, [], ◌∷◌, length, get_or, map, replicate, refl, sym, ap, ◌∙◌, subst, arith}
use Rattle.std.specs.Prelude.{Option, Some, None, option_map}
use Rattle.std.proofs.lemmas.Bool.{cases_lt}
use Rattle.std.proofs.lemmas.Option.{none-some}
use Rattle.std.proofs.lemmas.List.{length-map, get_or-map, length-replicate}
use Rattle.temporal_logic.specs.Ltl.{Ltl, truth}
use Rattle.pattern_library.specs.Patterns.{PatternForm}
use Rattle.pattern_library.specs.Instances.{instance_of, Matches}
use Rattle.pattern_library.specs.Slots.{filled, Agree, Finds}
use Rattle.pattern_library.proofs.Bindings.{same_lists}
use Rattle.pattern_library.proofs.Filling.{inside, then_finds, finds_same}

module _ (patterns formulas : List Ltl) where
  -- those before a place are
  abbrev pub FirstFit : ℕ → List Ltl → Type 0
  FirstFit n bound = (k : ℕ) → k < n → instance_of bound (get_or patterns k truth) ≡ get_or formulas k truth

  abbrev FitsAt : ℕ → List Ltl → Type 0
  FitsAt n bound = instance_of bound (get_or patterns n truth) ≡ get_or formulas n truth

  one_more : (n : ℕ) (bound : List Ltl) → (FirstFit n bound × FitsAt n bound) ↔ FirstFit (n + 1) bound
  one_more n bound = (
    (λ both k l. ⊎_elim (λ before. both.0 k before) (λ behind. let same : n ≡ k = omega (arith, l, behind) in subst (λ (j : ℕ). FitsAt j bound) same both.1) (cases_lt k n)),
    (λ all. ((λ k l. all k (omega (arith, l))), all n (omega arith))),
  )

  -- the next one, behind those before it
  pub next_found : (old mid new : List (Option Ltl)) (n : ℕ) → Finds old mid (FirstFit n) true → Finds mid new (FitsAt n) true → Finds old new (FirstFit (n + 1)) true
  next_found old mid new n first second = finds_same old new (λ bound. FirstFit n bound × FitsAt n bound) (FirstFit (n + 1)) true (one_more n) (then_finds old mid new (FirstFit n) (FitsAt n) true first second)

  module _ (count : length formulas ≡ length patterns) where
    all_listed : (bound : List Ltl) → FirstFit (length patterns) bound ↔ (formulas ≡ map (instance_of bound) patterns)
    all_listed bound = (
      (λ all. same_lists formulas (map (instance_of bound) patterns) (omega (arith, count, length-map patterns (instance_of bound)))
          (λ k l. let known : k < length patterns = omega (arith, l, count) in sym (get_or-map (instance_of bound) patterns k truth truth known ∙ all k known))),
      (λ e k l. sym (get_or-map (instance_of bound) patterns k truth truth l) ∙ ap (λ (fs : List Ltl). get_or fs k truth) (sym e)),
    )

    pub list_found : (old new : List (Option Ltl)) → Finds old new (FirstFit (length patterns)) true → Finds old new (λ bound. formulas ≡ map (instance_of bound) patterns) true
    list_found old new finds = finds_same old new (FirstFit (length patterns)) (λ bound. formulas ≡ map (instance_of bound) patterns) true all_listed finds

    pub list_apart : (old mid new : List (Option Ltl)) (n : ℕ) → n < length patterns → Finds old mid (FirstFit n) true → Finds mid new (FitsAt n) false → Finds old new (λ bound. formulas ≡ map (instance_of bound) patterns) false
    list_apart old mid new n inside first second = λ bound agree e.
        let all = (all_listed bound).1 e in
        then_finds old mid new (FirstFit n) (FitsAt n) false first second bound agree ((λ k l. all k (omega (arith, l, inside))), all n inside)

-- ---- slots and the formulas in them
pub filled_agree : (slots : List (Option Ltl)) → Agree slots (map filled slots)
filled_agree [] k f e = absurd (none-some f e)
filled_agree (slot ∷ slots) zero f e = ap filled e
filled_agree (slot ∷ slots) (suc k) f e = filled_agree slots k f e

-- empty slots ask nothing
abbrev empty : Option Ltl
empty = None

pub all_empty : {X : Type 0} (f : X → Ltl) (n : ℕ) → map (option_map f) (replicate n None) ≡ replicate n empty
all_empty f zero = refl
all_empty f (suc n) = ap (λ (slots : List (Option Ltl)). empty ∷ slots) (all_empty f n)

-- what only nothing is, is nothing
pub none_only : {X : Type 0} (Is : Option X → Type 0) → ((x : X) → Is (Some x) → ⊥) → (y : Option X) → Is y → y ≡ None
none_only Is never None is = refl
none_only Is never (Some x) is = absurd (never x is)

pub count_empty : (slots : List (Option Ltl)) (n : ℕ) → slots ≡ replicate n empty → length slots ≡ n
count_empty slots n e = ap length e ∙ length-replicate n empty

still_empty : (n k : ℕ) → get_or (replicate n empty) k empty ≡ empty
still_empty zero k = refl
still_empty (suc n) zero = refl
still_empty (suc n) (suc k) = still_empty n k

pub empty_agree : (n : ℕ) (formulas : List Ltl) → Agree (replicate n empty) formulas
empty_agree n formulas k f e = absurd (none-some f (sym (still_empty n k) ∙ e))

-- ---- a whole matching, of a parent and then of its subgoals
module _ (p : PatternForm) (parent : Ltl) (subgoals : List Ltl) (old mid new : List (Option Ltl)) (start : old ≡ replicate p.placeholders empty) where
  abbrev IsParent : List Ltl → Type 0
  IsParent bound = instance_of bound p.parent ≡ parent

  abbrev AreSubgoals : List Ltl → Type 0
  AreSubgoals bound = subgoals ≡ map (instance_of bound) p.subgoals

  agree_first : (formulas : List Ltl) → Agree old formulas
  agree_first formulas = subst (λ (s : List (Option Ltl)). Agree s formulas) (sym start) (empty_agree p.placeholders formulas)

  pub no_parent : Finds old mid IsParent false → (formulas : List Ltl) → Matches p parent subgoals formulas → ⊥
  no_parent finds formulas m = finds formulas (agree_first formulas) (sym m.parent_is)

  pub no_subgoals : Finds old mid IsParent true → Finds mid new AreSubgoals false → (formulas : List Ltl) → Matches p parent subgoals formulas → ⊥
  no_subgoals first second formulas m = second formulas ((first formulas).1 (agree_first formulas, sym m.parent_is)) m.subgoals_are

  pub all_found : Finds old mid IsParent true → Finds mid new AreSubgoals true → (formulas : List Ltl) → formulas ≡ map filled new → length new ≡ p.placeholders → Matches p parent subgoals formulas
  all_found first second formulas are count =
      let agree : Agree new formulas = subst (Agree new) (sym are) (filled_agree new) in
      let behind = (second formulas).0 agree in
      let before = (first formulas).0 behind.0 in
      record {
        count = ap length are ∙ length-map new filled ∙ count;
        parent_is = sym before.1;
        subgoals_are = behind.1;
      }
