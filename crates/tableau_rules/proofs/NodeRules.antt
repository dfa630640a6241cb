-- The law of the rule, for any list of formulas that has the operands of each.
use Rattle.std.proofs.Common.{◌≡◌, ℕ, ◌+◌, ◌↔◌, List, [], ◌∷◌, IsTrue, not, refl, sym, subst, ap, true≢false, map, length}
use Rattle.std.specs.Prelude.{Any, All}
use Rattle.std.proofs.lemmas.List.Elements.{All-from_recursion, recursion_from_All}
use Rattle.temporal_logic.specs.Truth.{Trace}
use Rattle.temporal_logic.specs.Traces.{Loops, IsPeriodic}
use Rattle.temporal_logic.proofs.Decided.{truth_decided}
use Rattle.bound_unfolding.specs.CoreForm.{CoreForm, core_release, as_ltl, CoreTruth}
use Rattle.formula_table.specs.Closures.{formula_at, closure_of}
use Rattle.tableau_rules.specs.Rules.{Change, Rule, clash, step, one, two, fulfil_only, wait_only, fulfil_or_wait, changes, is_clash, rule_of}
use Rattle.state_space.specs.Members.{full_of}
use Rattle.tableau_rules.specs.Nodes.{NodeForm, first_best, chosen, has_empty, todo_rule, node_rule, kid, stepped, kids_by, kids}
use Rattle.tableau_rules.specs.Meeting.{MeetsNode, KeepsMeeting}
use Rattle.tableau_rules.specs.Queries.{IsOver}
use Rattle.formula_table.proofs.Tests.{cond_case}
use Rattle.tableau_rules.proofs.Lists.{AnyOf, some_map, any_from_of, of_from_any}
use Rattle.tableau_rules.proofs.NumberSets.{has_first_best}
use Rattle.tableau_rules.proofs.IndexSets.{LieIn, lie_in, lie_each, empty_none, full_lies}
use Rattle.tableau_rules.proofs.RuleTruths.{Decided}
use Rattle.tableau_rules.proofs.RuleParts.{is_step, no_step, LiteralBelow, IsClosed}
use Rattle.tableau_rules.proofs.Closing.{is_closed, literals_over}
use Rattle.tableau_rules.proofs.KidMeetings.{Meets, mk, kids_forth, kids_back}

pub kids_by_changes : (closure : List CoreForm) (full : List ℕ) (n : NodeForm) (r : Rule) → IsTrue (not (is_step r)) → kids_by closure full n r ≡ map (kid closure n (chosen closure n.todo)) (changes r)
kids_by_changes closure full n step h = absurd (true≢false (sym h))
kids_by_changes closure full n clash h = refl
kids_by_changes closure full n (one c) h = refl
kids_by_changes closure full n (two c d) h = refl
kids_by_changes closure full n (fulfil_only c) h = refl
kids_by_changes closure full n (wait_only c) h = refl
kids_by_changes closure full n (fulfil_or_wait c d) h = refl

pub clash_empty : (P : NodeForm → Type 0) (f : Change → NodeForm) (r : Rule) → IsTrue (is_clash r) → AnyOf P (map f (changes r)) → ⊥
clash_empty P f clash h k = k
clash_empty P f _ h k = true≢false (sym h)

-- the law by recursion on the lists, and for any rule
abbrev pub KeepsMeets : Trace → List CoreForm → List ℕ → ℕ → NodeForm → Rule → Type 0
KeepsMeets t closure full i n clash = ¬ (Meets t closure i n)
KeepsMeets t closure full i n step = Meets t closure i n ↔ LieIn (t i) n.now × Meets t closure (i + 1) (stepped full n)
KeepsMeets t closure full i n r = Meets t closure i n ↔ AnyOf (Meets t closure i) (kids_by closure full n r)

module _ (t : Trace) (closure : List CoreForm) (full : List ℕ) (i : ℕ) where
  lawful : (n : NodeForm) (r : Rule) → IsTrue (not (is_step r)) → Meets t closure i n ↔ AnyOf (Meets t closure i) (map (kid closure n (chosen closure n.todo)) (changes r))
      → KeepsMeets t closure full i n r
  lawful n step h e = absurd (true≢false (sym h))
  lawful n clash h e = e.0
  lawful n (one c) h e = e
  lawful n (two c d) h e = e
  lawful n (fulfil_only c) h e = e
  lawful n (wait_only c) h e = e
  lawful n (fulfil_or_wait c d) h e = e

  module _ (closed : IsClosed closure) (lies : LieIn (t (i + 1)) full) where
    law_todo : (todo now next : List ℕ) → ((g : ℕ) → LiteralBelow (length now) (formula_at closure g)) → ((g : ℕ) → Decided t i (formula_at closure g))
        → KeepsMeets t closure full i (mk todo now next) (todo_rule closure now todo)
    law_todo [] now next o d =
        ((λ m. (m.now, record { now = lies; todo = m.next; next = tt })), (λ p. record { now = p.0; todo = tt; next = p.1.todo }))
    law_todo (f ∷ fs) now next o d =
        let g = first_best closure f fs in
        let n = mk (f ∷ fs) now next in
        lawful n (rule_of now (formula_at closure g)) (no_step now (formula_at closure g))
        (kids_forth t closure i n g closed (has_first_best closure f fs) (d g), kids_back t closure i n g closed (o g))

    pub keeps_meets : (n : NodeForm) → ((g : ℕ) → LiteralBelow (length n.now) (formula_at closure g)) → ((g : ℕ) → Decided t i (formula_at closure g))
        → KeepsMeets t closure full i n (node_rule closure n)
    keeps_meets n o d =
        cond_case (KeepsMeets t closure full i n) (has_empty n.now) _ _
        (λ e m. empty_none (t i) n.now e m.now) (λ _. law_todo n.todo n.now n.next o d)

module _ (t : Trace) (closure : List CoreForm) where
  pub meets_of : (i : ℕ) (n : NodeForm) → MeetsNode t closure i n → Meets t closure i n
  meets_of i n m = record {
    now = lie_in (t i) n.now m.now;
    todo = recursion_from_All (λ f. CoreTruth t (formula_at closure f) i) n.todo m.todo;
    next = recursion_from_All (λ f. CoreTruth t (formula_at closure f) (i + 1)) n.next m.next;
  }

  pub of_meets : (i : ℕ) (n : NodeForm) → Meets t closure i n → MeetsNode t closure i n
  of_meets i n m = record {
    now = lie_each (t i) n.now m.now;
    todo = All-from_recursion (λ f. CoreTruth t (formula_at closure f) i) n.todo m.todo;
    next = All-from_recursion (λ f. CoreTruth t (formula_at closure f) (i + 1)) n.next m.next;
  }

  module _ (full : List ℕ) (i : ℕ) (n : NodeForm) where
    to_kids : (ks : List NodeForm) → ks ≡ kids closure full n → Meets t closure i n ↔ AnyOf (Meets t closure i) ks → MeetsNode t closure i n ↔ Any (MeetsNode t closure i) (kids closure full n)
    to_kids ks e h =
        let some : AnyOf (MeetsNode t closure i) ks ↔ AnyOf (Meets t closure i) ks =
        (some_map (MeetsNode t closure i) (Meets t closure i) ks (meets_of i), some_map (Meets t closure i) (MeetsNode t closure i) ks (of_meets i)) in
        subst (λ ms. MeetsNode t closure i n ↔ Any (MeetsNode t closure i) ms) e
        ((λ m. any_from_of (MeetsNode t closure i) ks (some.1 (h.0 (meets_of i n m)))), (λ a. of_meets i n (h.1 (some.0 (of_from_any (MeetsNode t closure i) ks a)))))

    pub keeps_meeting : (r : Rule) → r ≡ node_rule closure n → KeepsMeets t closure full i n r → KeepsMeeting t closure full i n r
    keeps_meeting clash e h = λ m. h (meets_of i n m)
    keeps_meeting step e h = (
      (λ m. let r = h.0 (meets_of i n m) in (m.now, of_meets (i + 1) (stepped full n) r.1)),
      (λ r. of_meets i n (h.1 (lie_in (t i) n.now r.0, meets_of (i + 1) (stepped full n) r.1))),
    )
    keeps_meeting (one c) e h = to_kids (kids_by closure full n (one c)) (ap (kids_by closure full n) e) h
    keeps_meeting (two c d) e h = to_kids (kids_by closure full n (two c d)) (ap (kids_by closure full n) e) h
    keeps_meeting (fulfil_only c) e h = to_kids (kids_by closure full n (fulfil_only c)) (ap (kids_by closure full n) e) h
    keeps_meeting (wait_only c) e h = to_kids (kids_by closure full n (wait_only c)) (ap (kids_by closure full n) e) h
    keeps_meeting (fulfil_or_wait c d) e h = to_kids (kids_by closure full n (fulfil_or_wait c d)) (ap (kids_by closure full n) e) h

-- ---- the law
decided_at : (t : Trace) (start turn : ℕ) → Loops t start turn → (i : ℕ) (f : CoreForm) → Decided t i f
decided_at t start turn loops i (core_release a b) = truth_decided t start turn loops (as_ltl a) i
decided_at t start turn loops i _ = tt

pub rule_law : (sizes : List ℕ) (cores : List CoreForm) → All (IsOver sizes) cores → (t : Trace) → IsPeriodic sizes t → (n : NodeForm) → length n.now ≡ length sizes → (i : ℕ)
    → KeepsMeeting t (closure_of cores) (full_of sizes) i n (node_rule (closure_of cores) n)
rule_law sizes cores over t periodic n e i =
    let closure = closure_of cores in
    let full = full_of sizes in
    let lies : LieIn (t (i + 1)) full = lie_in (t (i + 1)) full (full_lies sizes t periodic.fits (i + 1)) in
    let below : (g : ℕ) → LiteralBelow (length n.now) (formula_at closure g) =
    λ g. subst (λ m. LiteralBelow m (formula_at closure g)) (sym e) (literals_over sizes cores (recursion_from_All (IsOver sizes) cores over) g) in
    keeps_meeting t closure full i n (node_rule closure n) refl
    (keeps_meets t closure full i (is_closed cores) lies n below (λ g. decided_at t periodic.start periodic.turn periodic.loops i (formula_at closure g)))
