-- A core is true where what one of its rule's choices asks is, and where nothing else is.
use Rattle.std.proofs.Common.{ℕ, ◌+◌, Bool, true, false, ◌⊎◌, List, [], ◌∷◌, ◌||◌, IsTrue, cond, refl, inl, inr, sym, true≢false}
use Rattle.std.specs.List.{AllByRecursion as Each}
use Rattle.temporal_logic.specs.Truth.{Trace}
use Rattle.bound_unfolding.specs.CoreForm.{CoreForm, core_true, core_false, lit, both, either, after, core_until, core_release, CoreTruth}
use Rattle.tableau_rules.specs.Rules.{Change, nothing, adds, waits, Rule, one, two, fulfil_only, wait_only, fulfil_or_wait, changes, decided_true, decided_false, rule_of}
use Rattle.tableau_rules.proofs.Lists.{AnyOf}
use Rattle.tableau_rules.proofs.IndexSets.{LieIn, AreIn, inside_true, apart_false}
use Rattle.tableau_rules.proofs.Positions.{until_here, until_later, until_cases, release_here, release_next, release_stop, release_later}

-- the trace does at i what a choice asks
pub record Suits (t : Trace) (i : ℕ) (c : Change) : Type 0 where
  pub todo : Each (λ f. CoreTruth t f i) c.todo
  pub next : Each (λ f. CoreTruth t f (i + 1)) c.next
  pub sets : AreIn (t i) c.sets

-- what has to be decided of the trace at i, for the rule of a core to lose nothing
abbrev pub Decided : Trace → ℕ → CoreForm → Type 0
Decided t i (core_release a b) = Dec (CoreTruth t a i)
Decided t i _ = Unit {0}

module _ (t : Trace) (i : ℕ) (now : List ℕ) (lies : LieIn (t i) now) where
  -- what the sets of now decide is so
  pub truly : (f : CoreForm) → IsTrue (decided_true now f) → CoreTruth t f i
  truly core_true h = tt
  truly (lit x set) h = inside_true (t i) now x set lies h
  truly _ h = absurd (true≢false (sym h))

  pub falsely : (f : CoreForm) → IsTrue (decided_false now f) → ¬ (CoreTruth t f i)
  falsely core_false h k = k
  falsely (lit x set) h k = apart_false (t i) now x set lies h k
  falsely _ h k = true≢false (sym h)

module _ (t : Trace) (i : ℕ) where
  pub suits_nothing : Suits t i nothing
  suits_nothing = record { todo = tt; next = tt; sets = tt }

  pub suits_one : (a : CoreForm) → CoreTruth t a i → Suits t i (adds (a ∷ []))
  suits_one a h = record { todo = (h, tt); next = tt; sets = tt }

  suits_two : (a b : CoreForm) → CoreTruth t a i → CoreTruth t b i → Suits t i (adds (a ∷ b ∷ []))
  suits_two a b h k = record { todo = (h, (k, tt)); next = tt; sets = tt }

  pub suits_wait : (a e : CoreForm) → CoreTruth t a i → CoreTruth t e (i + 1) → Suits t i (waits a e)
  suits_wait a e h k = record { todo = (h, tt); next = (k, tt); sets = tt }

module _ (t : Trace) (i : ℕ) (a b : CoreForm) where
  abbrev A : ℕ → Type 0
  A = CoreTruth t a

  abbrev B : ℕ → Type 0
  B = CoreTruth t b

  -- the rules, by the answers of their tests
  abbrev either_by : (settled no_a no_b : Bool) → Rule
  either_by settled no_a no_b =
      cond settled (one nothing) (cond no_a (one (adds (b ∷ []))) (cond no_b (one (adds (a ∷ []))) (two (adds (a ∷ [])) (adds (b ∷ [])))))

  abbrev until_by : (is_b no_b : Bool) → Rule
  until_by is_b no_b =
      cond is_b (fulfil_only (adds (b ∷ []))) (cond no_b (wait_only (waits a (core_until a b))) (fulfil_or_wait (adds (b ∷ [])) (waits a (core_until a b))))

  abbrev release_by : (is_a no_a : Bool) → Rule
  release_by is_a no_a =
      cond is_a (one (adds (a ∷ b ∷ []))) (cond no_a (one (waits b (core_release a b))) (two (adds (a ∷ b ∷ [])) (waits b (core_release a b))))

  -- ---- from the core to a choice
  either_forth : (settled no_a no_b : Bool) → (IsTrue no_a → ¬ (A i)) → (IsTrue no_b → ¬ (B i)) → A i ⊎ B i → AnyOf (Suits t i) (changes (either_by settled no_a no_b))
  either_forth true no_a no_b na nb h = inl (suits_nothing t i)
  either_forth false true no_b na nb h = elim h [ inl x ↦ absurd (na refl x) | inr y ↦ inl (suits_one t i b y) ]
  either_forth false false true na nb h = elim h [ inl x ↦ inl (suits_one t i a x) | inr y ↦ absurd (nb refl y) ]
  either_forth false false false na nb h = elim h [ inl x ↦ inl (suits_one t i a x) | inr y ↦ inr (inl (suits_one t i b y)) ]

  until_forth : (is_b no_b : Bool) → (IsTrue is_b → B i) → (IsTrue no_b → ¬ (B i)) → CoreTruth t (core_until a b) i → AnyOf (Suits t i) (changes (until_by is_b no_b))
  until_forth true no_b yb nb h = inl (suits_one t i b (yb refl))
  until_forth false true yb nb h = elim (until_cases A B i h) [ inl x ↦ absurd (nb refl x) | inr y ↦ inl (suits_wait t i a (core_until a b) y.0 y.1) ]
  until_forth false false yb nb h =
      elim (until_cases A B i h) [ inl x ↦ inl (suits_one t i b x) | inr y ↦ inr (inl (suits_wait t i a (core_until a b) y.0 y.1)) ]

  release_forth : (is_a no_a : Bool) → (IsTrue is_a → A i) → (IsTrue no_a → ¬ (A i)) → Dec (A i) → CoreTruth t (core_release a b) i → AnyOf (Suits t i) (changes (release_by is_a no_a))
  release_forth true no_a ya na d h = inl (suits_two t i a b (ya refl) (release_here A B i h))
  release_forth false true ya na d h = inl (suits_wait t i b (core_release a b) (release_here A B i h) (release_next A B i h (na refl)))
  release_forth false false ya na d h = elim d [
    | yes x ↦ inl (suits_two t i a b x (release_here A B i h))
    | no none ↦ inr (inl (suits_wait t i b (core_release a b) (release_here A B i h) (release_next A B i h none)))
  ]

  -- ---- from a choice to the core
  either_back : (is_a is_b no_a no_b : Bool) → (IsTrue is_a → A i) → (IsTrue is_b → B i) → AnyOf (Suits t i) (changes (either_by (is_a || is_b) no_a no_b)) → A i ⊎ B i
  either_back true is_b no_a no_b ya yb h = inl (ya refl)
  either_back false true no_a no_b ya yb h = inr (yb refl)
  either_back false false true no_b ya yb h = elim h [ inl c ↦ inr c.todo.0 | inr z ↦ absurd z ]
  either_back false false false true ya yb h = elim h [ inl c ↦ inl c.todo.0 | inr z ↦ absurd z ]
  either_back false false false false ya yb h = elim h [ inl c ↦ inl c.todo.0 | inr (inl c) ↦ inr c.todo.0 | inr (inr z) ↦ absurd z ]

  until_back : (is_b no_b : Bool) → AnyOf (Suits t i) (changes (until_by is_b no_b)) → CoreTruth t (core_until a b) i
  until_back true no_b h = elim h [ inl c ↦ until_here A B i c.todo.0 | inr z ↦ absurd z ]
  until_back false true h = elim h [ inl c ↦ until_later A B i c.todo.0 c.next.0 | inr z ↦ absurd z ]
  until_back false false h =
      elim h [ inl c ↦ until_here A B i c.todo.0 | inr (inl c) ↦ until_later A B i c.todo.0 c.next.0 | inr (inr z) ↦ absurd z ]

  release_back : (is_a no_a : Bool) → AnyOf (Suits t i) (changes (release_by is_a no_a)) → CoreTruth t (core_release a b) i
  release_back true no_a h = elim h [ inl c ↦ release_stop A B i c.todo.0 c.todo.1.0 | inr z ↦ absurd z ]
  release_back false true h = elim h [ inl c ↦ release_later A B i c.todo.0 c.next.0 | inr z ↦ absurd z ]
  release_back false false h =
      elim h [ inl c ↦ release_stop A B i c.todo.0 c.todo.1.0 | inr (inl c) ↦ release_later A B i c.todo.0 c.next.0 | inr (inr z) ↦ absurd z ]

module _ (t : Trace) (i : ℕ) (now : List ℕ) (lies : LieIn (t i) now) where
  -- a core that is true suits some choice of its rule
  pub forth : (f : CoreForm) → Decided t i f → CoreTruth t f i → AnyOf (Suits t i) (changes (rule_of now f))
  forth core_true d h = inl (suits_nothing t i)
  forth core_false d h = h
  forth (lit x set) d h = inl (record { todo = tt; next = tt; sets = (h, tt) })
  forth (both a b) d h = inl (suits_two t i a b h.0 h.1)
  forth (after a) d h = inl (record { todo = tt; next = (h, tt); sets = tt })
  forth (either a b) d h =
      either_forth t i a b (decided_true now a || decided_true now b) (decided_false now a) (decided_false now b) (falsely t i now lies a) (falsely t i now lies b) h
  forth (core_until a b) d h =
      until_forth t i a b (decided_true now b) (decided_false now b) (truly t i now lies b) (falsely t i now lies b) h
  forth (core_release a b) d h =
      release_forth t i a b (decided_true now a) (decided_false now a) (truly t i now lies a) (falsely t i now lies a) d h

  -- and one that suits a choice is true
  pub back : (f : CoreForm) → AnyOf (Suits t i) (changes (rule_of now f)) → CoreTruth t f i
  back core_true h = tt
  back core_false h = h
  back (lit x set) h = elim h [ inl c ↦ c.sets.0 | inr z ↦ absurd z ]
  back (both a b) h = elim h [ inl c ↦ (c.todo.0, c.todo.1.0) | inr z ↦ absurd z ]
  back (after a) h = elim h [ inl c ↦ c.next.0 | inr z ↦ absurd z ]
  back (either a b) h =
      either_back t i a b (decided_true now a) (decided_true now b) (decided_false now a) (decided_false now b) (truly t i now lies a) (truly t i now lies b) h
  back (core_until a b) h = until_back t i a b (decided_true now b) (decided_false now b) h
  back (core_release a b) h = release_back t i a b (decided_true now a) (decided_false now a) h
