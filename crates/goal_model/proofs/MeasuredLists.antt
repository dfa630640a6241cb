-- Closures of lists of cores, a formula more at a time.
use Rattle.std.proofs.Common.{◌≡◌, ◌↔◌, ℕ, suc, ◌+◌, ◌≤◌, min, if◌then◌else◌, Bool, true, false, List, [], ◌∷◌, ◌++◌, length, take, refl, sym, ap, ap₂, subst, ◌∙◌, arith}
use Rattle.std.specs.Prelude.{All, IsTrue, IsFalse, ◌&&◌, nat_le}
use Rattle.std.specs.List.{list_all}
use Rattle.std.proofs.lemmas.Bool.{false≢true, and_parts, leb-true, le-leb}
use Rattle.std.proofs.lemmas.List.{map-append}
use Rattle.std.proofs.lemmas.List.Elements.{All-nil, All-cons, All-push}
use Rattle.temporal_logic.specs.Ltl.{Ltl}
use Rattle.bound_unfolding.specs.CoreForm.{CoreForm, levels, nodes}
use Rattle.bound_unfolding.specs.CoreTree.{core_tree}
use Rattle.bound_unfolding.specs.CoreLists.{cores_of}
use Rattle.formula_table.specs.Closures.{with_core, with_cores, closure_of}
use Rattle.formula_table.specs.SmallLists.{AreSmall}
use Rattle.formula_table.specs.Tables.{closure_in, IsKept}
use Rattle.formula_table.proofs.Cores.{core_kept}
use Rattle.formula_table.proofs.CoreLaws.{core_size}
use Rattle.goal_model.specs.declared.list_size.Measured.{Measured}
use Rattle.goal_model.specs.Items.{signed}
use Rattle.goal_model.specs.SmallLists.{is_small_list}
use Rattle.goal_model.specs.Sizes.{Measures, weight, IsBounded}

-- ---- lists of which all have something
All_tail : {X : Type 0} (P : X → Type 0) (x : X) (xs : List X) → All P (x ∷ xs) → All P xs
All_tail P x xs all k d l = all (suc k) d (omega (arith, l))

-- the element between two parts has it
All_at_split : {X : Type 0} (P : X → Type 0) (front back : List X) (x : X) → All P (front ++ x ∷ back) → P x
All_at_split P [] back x all = all 0 x (omega arith)
All_at_split P (y ∷ front) back x all = All_at_split P front back x (All_tail P y (front ++ x ∷ back) all)

All_front : {X : Type 0} (P : X → Type 0) (xs : List X) (x : X) → All P (xs ++ x ∷ []) → All P xs
All_front P [] x all = All-nil P
All_front P (y ∷ ys) x all = All-cons P y ys (all 0 y (omega arith)) (All_front P ys x (All_tail P y (ys ++ x ∷ []) all))

-- ---- measuring
closure_push : (cores : List CoreForm) (core : CoreForm) (closure : List CoreForm) → with_cores (cores ++ core ∷ []) closure ≡ with_core core (with_cores cores closure)
closure_push [] core closure = refl
closure_push (c ∷ cores) core closure = closure_push cores core (with_core c closure)

core_signed : (sizes : List ℕ) (positive : Bool) (f : Ltl) → core_tree sizes true (signed positive f) ≡ core_tree sizes positive f
core_signed sizes true f = refl
core_signed sizes false f = refl

-- what is kept is the front of what is there
take_kept : (old new : List CoreForm) → IsKept old new → take (length old) new ≡ old
take_kept [] new kept = refl
take_kept (c ∷ old) [] kept = let l = kept.0 in absurd (omega arith)
take_kept (c ∷ old) (d ∷ new) kept = ap₂ (λ x xs. x ∷ xs) (kept.1 0 (omega arith)) (take_kept old new (let l = kept.0 in omega arith, λ k l. kept.1 (suc k) (omega arith)))

module _ (sizes : List ℕ) (list : List Ltl) (positive : Bool) (f : Ltl) where
  abbrev core : CoreForm
  core = core_tree sizes positive f

  abbrev closure : List CoreForm
  closure = closure_of (cores_of sizes list)

  abbrev more : List Ltl
  more = list ++ signed positive f ∷ []

  abbrev IsShallow : Ltl → Type 0
  IsShallow g = levels (core_tree sizes true g) ≤ 1000

  closure_more : closure_of (cores_of sizes more) ≡ with_core core closure
  closure_more =
      ap closure_of (map-append (core_tree sizes true) list (signed positive f ∷ []))
      ∙ closure_push (cores_of sizes list) (core_tree sizes true (signed positive f)) []
      ∙ ap (λ c. with_core c closure) (core_signed sizes positive f)

  small_before : AreSmall sizes more → AreSmall sizes list
  small_before small = record {
    formulas =
        let grown = (core_kept core closure).0 in
        let few : length (with_core core closure) ≤ 4096 = subst (λ cl. length cl ≤ 4096) closure_more small.formulas in
        omega (arith, grown, few);
    levels = All_front IsShallow list (signed positive f) small.levels;
  }

  -- a list with one formula more is small where it was and the core has room and is not too deep
  small_more : AreSmall sizes more ↔ (AreSmall sizes list × (levels core ≤ 1000) × (length (with_core core closure) ≤ 4096))
  small_more = (
    λ small. (
      small_before small,
      subst (λ c. levels c ≤ 1000) (core_signed sizes positive f) (All_at_split IsShallow list [] (signed positive f) small.levels),
      subst (λ cl. length cl ≤ 4096) closure_more small.formulas,
    ),
    λ parts. record {
      formulas = subst (λ cl. length cl ≤ 4096) (sym closure_more) parts.2;
      levels = All-push IsShallow list (signed positive f) parts.0.levels (subst (λ c. levels c ≤ 1000) (sym (core_signed sizes positive f)) parts.1);
    },
  )

  -- a formula more on what is small
  pub measures_more : (before after : Measured) → Measures sizes list before → IsTrue before.is_small
      → IsTrue after.is_small ↔ ((levels core ≤ 1000) × (length (with_core core (closure_in before.table)) ≤ 4096))
      → (IsTrue after.is_small → closure_in after.table ≡ with_core core (closure_in before.table))
      → Measures sizes more after
  measures_more before after measured was small put =
      let whole = measured.closure was in
      record {
        small = (
          λ yes. let parts = small.0 yes in small_more.1 (measured.small.0 was, parts.0, subst (λ cl. length (with_core core cl) ≤ 4096) whole parts.1),
          λ are. let parts = small_more.0 are in small.1 (parts.1, subst (λ cl. length (with_core core cl) ≤ 4096) (sym whole) parts.2),
        );
        closure = λ yes. put yes ∙ ap (with_core core) whole ∙ sym closure_more;
      }

  -- a formula more on what is too large
  pub measures_large : (before : Measured) → Measures sizes list before → IsFalse before.is_small → Measures sizes more before
  measures_large before measured not = record {
    small = (λ yes. absurd (false≢true (sym not ∙ yes)), λ are. measured.small.1 (small_before are));
    closure = λ yes. absurd (false≢true (sym not ∙ yes));
  }

  -- a formula more where a total bounds what was there
  pub within_more : (total : ℕ) → IsBounded sizes list total → IsBounded sizes more (min (total + weight sizes positive f) 4097)
  within_more total within few = by (nat_le (levels core) 1000) refl few
    where
      by : (b : Bool) → nat_le (levels core) 1000 ≡ b → min (total + (if b then min (nodes core) 4097 else 4097)) 4097 ≤ 4096
          → (length (closure_of (cores_of sizes more)) ≤ min (total + (if b then min (nodes core) 4097 else 4097)) 4097) × All IsShallow more
      by true shallow l =
          let sum : total + nodes core ≤ 4096 = omega (arith, l) in
          let before = within (omega (arith, sum)) in
          let count = before.0 in
          let grown = core_size core closure in
          let whole : length (closure_of (cores_of sizes more)) ≤ total + nodes core = subst (λ cl. length cl ≤ total + nodes core) (sym closure_more) (omega (arith, count, grown)) in (
            omega (arith, whole, sum),
            All-push IsShallow list (signed positive f) before.1 (subst (λ c. levels c ≤ 1000) (sym (core_signed sizes positive f)) (leb-true (levels core) 1000 shallow)),
          )
      by false deep l = absurd (omega (arith, l))

-- ---- the test
both_true : (a b : Bool) → a ≡ true → b ≡ true → (a && b) ≡ true
both_true true b e f = f
both_true false b e f = absurd (false≢true e)

shallow_tested : (sizes : List ℕ) (list : List Ltl) → IsTrue (list_all (λ f. nat_le (levels (core_tree sizes true f)) 1000) list) ↔ All (λ f. levels (core_tree sizes true f) ≤ 1000) list
shallow_tested sizes [] = (λ e. All-nil (λ f. levels (core_tree sizes true f) ≤ 1000), λ all. refl)
shallow_tested sizes (f ∷ fs) =
    let here = levels (core_tree sizes true f) in
    let rest = list_all (λ g. nat_le (levels (core_tree sizes true g)) 1000) fs in (
      λ e. let parts = and_parts (nat_le here 1000) rest e in All-cons (λ g. levels (core_tree sizes true g) ≤ 1000) f fs (leb-true here 1000 parts.0) ((shallow_tested sizes fs).0 parts.1),
      λ all. both_true (nat_le here 1000) rest (le-leb here 1000 (all 0 f (omega arith))) ((shallow_tested sizes fs).1 (All_tail (λ g. levels (core_tree sizes true g) ≤ 1000) f fs all)),
    )

-- the test is true of the small lists
pub small_tested : (sizes : List ℕ) (list : List Ltl) → IsTrue (is_small_list sizes list) ↔ AreSmall sizes list
small_tested sizes list =
    let count = length (closure_of (cores_of sizes list)) in
    let shallow = list_all (λ f. nat_le (levels (core_tree sizes true f)) 1000) list in (
      λ e. let parts = and_parts (nat_le count 4096) shallow e in record { formulas = leb-true count 4096 parts.0; levels = (shallow_tested sizes list).0 parts.1 },
      λ small. both_true (nat_le count 4096) shallow (le-leb count 4096 small.formulas) ((shallow_tested sizes list).1 small.levels),
    )

same_test : (a b : Bool) → (IsTrue a → IsTrue b) → (IsTrue b → IsTrue a) → a ≡ b
same_test true b f g = sym (f refl)
same_test false true f g = g refl
same_test false false f g = refl

-- what is measured is the test
pub measured_tested : (sizes : List ℕ) (list : List Ltl) (measured : Measured) → Measures sizes list measured → measured.is_small ≡ is_small_list sizes list
measured_tested sizes list measured measures =
    same_test measured.is_small (is_small_list sizes list) (λ yes. (small_tested sizes list).1 (measures.small.0 yes)) (λ yes. measures.small.1 ((small_tested sizes list).0 yes))

-- what came behind a mark is forgotten again
pub measures_back : (sizes : List ℕ) (list : List Ltl) (before whole after : Measured) (len : ℕ) → Measures sizes list before → IsKept (closure_in before.table) (closure_in whole.table)
    → len ≡ length (closure_in before.table) → closure_in after.table ≡ take len (closure_in whole.table) → after.is_small ≡ before.is_small → Measures sizes list after
measures_back sizes list before whole after len measured kept count back small = record {
  small = (λ yes. measured.small.0 (sym small ∙ yes), λ are. small ∙ measured.small.1 are);
  closure = λ yes. back ∙ ap (λ (n : ℕ). take n (closure_in whole.table)) count ∙ take_kept (closure_in before.table) (closure_in whole.table) kept ∙ measured.closure (sym small ∙ yes);
}
