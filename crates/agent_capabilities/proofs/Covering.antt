-- A covered goal names no variable that the agent does not see.
use Rattle.std.proofs.Common.{◌≡◌, ◌↔◌, ◌⊎◌, inl, inr, ⊎_elim, ℕ, zero, suc, ◌<◌, List, [], ◌∷◌, ◌++◌, length, get_or, Bool, true, false, IsTrue, IsFalse, Option, None, Some, cond, refl, ap, subst, arith}
use Rattle.std.specs.Prelude.{Contains, not, ◌||◌, ◌==◌}
use Rattle.std.specs.List.{list_any}
use Rattle.std.specs.Int.{bit_at}
use Rattle.std.proofs.lemmas.List.Elements.{Contains-append_left, Contains-append_right, Contains-append_cases}
use Rattle.temporal_logic.specs.Ltl.{Ltl, entails}
use Rattle.temporal_logic.specs.Shapes.{variables_of}
use Rattle.temporal_logic.specs.Truth.{Trace, Truth}
use Rattle.goal_model.specs.Models.{AgentForm}
use Rattle.agent_capabilities.specs.Occurrences.{AgreeOn}
use Rattle.agent_capabilities.specs.Coverage.{CoverForm, covered, not_monitored, not_controlled, is_controlled, is_seen, first_without, all_controlled, unseen_first, some_controlled, coverage, AgreeFor}
use Rattle.agent_capabilities.proofs.Occurring.{truth_occurring}

-- ---- where no variable fails a test, each one passes
module _ (test : ℕ → Bool) where
  head_passes : (b : Bool) (x : ℕ) (rest : Option ℕ) → cond (not b) (Some x) rest ≡ None → IsTrue b
  head_passes true x rest e = refl
  head_passes false x rest e = absurd (cc)

  rest_is : (b : Bool) (x : ℕ) (rest : Option ℕ) → cond (not b) (Some x) rest ≡ None → rest ≡ None
  rest_is true x rest e = e
  rest_is false x rest e = absurd (cc)

  passes_at : (xs : List ℕ) → first_without test xs ≡ None → (y k : ℕ) → k < length xs → get_or xs k y ≡ y → IsTrue (test y)
  passes_at [] e y k l h = absurd (omega arith)
  passes_at (x ∷ xs) e y zero l h = subst (λ z. IsTrue (test z)) h (head_passes (test x) x (first_without test xs) e)
  passes_at (x ∷ xs) e y (suc k) l h = passes_at xs (rest_is (test x) x (first_without test xs) e) y k (omega arith) h

  all_pass : (xs : List ℕ) → first_without test xs ≡ None → (y : ℕ) → Contains xs y → IsTrue (test y)
  all_pass xs e y h = passes_at xs e y h.0 h.1 h.2

-- ---- what is covered
none_unseen : (o : Option ℕ) (rest : CoverForm) → unseen_first o rest ≡ covered → o ≡ None
none_unseen None rest e = refl
none_unseen (Some x) rest e = absurd (cc)

rest_covered : (o : Option ℕ) (rest : CoverForm) → unseen_first o rest ≡ covered → rest ≡ covered
rest_covered None rest e = e
rest_covered (Some x) rest e = absurd (cc)

none_uncontrolled : (o : Option ℕ) → all_controlled o ≡ covered → o ≡ None
none_uncontrolled None e = refl
none_uncontrolled (Some x) e = absurd (cc)

one_of : (a b : Bool) → IsTrue (a || b) → IsTrue a ⊎ IsTrue b
one_of true b h = inl refl
one_of false b h = inr h

is_one : (x : ℕ) → IsTrue (x == 1) → x ≡ 1
is_one x h = grind arith

module _ (agent : AgentForm) (t u : Trace) (same : AgreeFor agent t u) where
  agree_controlled : (i x : ℕ) → IsTrue (is_controlled agent x) → t i x ≡ u i x
  agree_controlled i x h = same i x (inr (is_one (bit_at agent.controls x) h))

  agree_seen : (i x : ℕ) → IsTrue (is_seen agent x) → t i x ≡ u i x
  agree_seen i x h =
      ⊎_elim (λ m. same i x (inl (is_one (bit_at agent.monitors x) m))) (agree_controlled i x) (one_of (bit_at agent.monitors x == 1) (is_controlled agent x) h)

  agree_all_seen : (xs : List ℕ) → first_without (is_seen agent) xs ≡ None → AgreeOn xs t u
  agree_all_seen xs e i x h = agree_seen i x (all_pass (is_seen agent) xs e x h)

  agree_all_controlled : (xs : List ℕ) → first_without (is_controlled agent) xs ≡ None → AgreeOn xs t u
  agree_all_controlled xs e i x h = agree_controlled i x (all_pass (is_controlled agent) xs e x h)

  agree_both : (xs ys : List ℕ) → AgreeOn xs t u → AgreeOn ys t u → AgreeOn (xs ++ ys) t u
  agree_both xs ys p q i x h = ⊎_elim (p i x) (q i x) (Contains-append_cases xs ys x h)

  agree_entails : (xs ys : List ℕ) → unseen_first (first_without (is_seen agent) xs) (all_controlled (first_without (is_controlled agent) ys)) ≡ covered → AgreeOn (xs ++ ys) t u
  agree_entails xs ys e =
      let xo = first_without (is_seen agent) xs in
      let yo = first_without (is_controlled agent) ys in
      agree_both xs ys (agree_all_seen xs (none_unseen xo (all_controlled yo) e)) (agree_all_controlled ys (none_uncontrolled yo (rest_covered xo (all_controlled yo) e)))

  agree_alone : (xs : List ℕ) → unseen_first (first_without (is_seen agent) xs) (some_controlled agent xs) ≡ covered → AgreeOn xs t u
  agree_alone xs e = agree_all_seen xs (none_unseen (first_without (is_seen agent) xs) (some_controlled agent xs) e)

  agree_covered : (f : Ltl) → coverage agent f ≡ covered → AgreeOn (variables_of f) t u
  agree_covered (entails a c) e = agree_entails (variables_of a) (variables_of c) e
  agree_covered f e = agree_alone (variables_of f) e

  pub covered_truth : (f : Ltl) → coverage agent f ≡ covered → (i : ℕ) → Truth t f i ↔ Truth u f i
  covered_truth f e i = truth_occurring t u f (agree_covered f e) i

-- ---- the variable that decides
-- what a variable stands for in an answer
abbrev named : ℕ → CoverForm → ℕ
named d covered = d
named d (not_monitored x) = x
named d (not_controlled x) = x

-- the first that fails a test is one that fails it
found_head : (test : ℕ → Bool) (x y : ℕ) (xs : List ℕ) (rest : Option ℕ) → (rest ≡ Some y → Contains xs y × IsFalse (test y)) → (b : Bool) → test x ≡ b
    → cond (not b) (Some x) rest ≡ Some y → Contains (x ∷ xs) y × IsFalse (test y)
found_head test x y xs rest later true e h = let r = later h in ((suc r.0.0, omega (arith, r.0.1), r.0.2), r.1)
found_head test x y xs rest later false e h = let same : x ≡ y = cc in ((0, omega arith, same), subst (λ z. IsFalse (test z)) same e)

found_fails : (test : ℕ → Bool) (xs : List ℕ) (y : ℕ) → first_without test xs ≡ Some y → Contains xs y × IsFalse (test y)
found_fails test [] y h = absurd (cc)
found_fails test (x ∷ xs) y h = found_head test x y xs (first_without test xs) (found_fails test xs y) (test x) refl h

unseen_is : (o : Option ℕ) (rest : CoverForm) (x : ℕ) → ¬ (rest ≡ not_monitored x) → unseen_first o rest ≡ not_monitored x → o ≡ Some x
unseen_is None rest x never e = absurd (never e)
unseen_is (Some y) rest x never e = ap Some (ap (named y) e)

rest_is_answer : (o : Option ℕ) (rest : CoverForm) (x : ℕ) → unseen_first o rest ≡ not_controlled x → rest ≡ not_controlled x
rest_is_answer None rest x e = e
rest_is_answer (Some y) rest x e = absurd (cc)

uncontrolled_is : (o : Option ℕ) (x : ℕ) → all_controlled o ≡ not_controlled x → o ≡ Some x
uncontrolled_is None x e = absurd (cc)
uncontrolled_is (Some y) x e = ap Some (ap (named y) e)

never_unseen : (o : Option ℕ) (x : ℕ) → ¬ (all_controlled o ≡ not_monitored x)
never_unseen None x e = cc
never_unseen (Some y) x e = cc

module _ (agent : AgentForm) where
  some_never_unseen : (xs : List ℕ) (x : ℕ) → ¬ (some_controlled agent xs ≡ not_monitored x)
  some_never_unseen [] x e = cc
  some_never_unseen (y ∷ ys) x e = go (list_any (is_controlled agent) (y ∷ ys)) e
    where
      go : (b : Bool) → ¬ (cond b covered (not_controlled y) ≡ not_monitored x)
      go true h = cc
      go false h = cc

  some_is : (xs : List ℕ) (x : ℕ) → some_controlled agent xs ≡ not_controlled x → Contains xs x × IsFalse (is_controlled agent x)
  some_is [] x e = absurd (cc)
  some_is (y ∷ ys) x e = go (list_any (is_controlled agent) (y ∷ ys)) refl e
    where
      first_of : (b c : Bool) → IsFalse (b || c) → IsFalse b
      first_of true c h = h
      first_of false c h = refl

      go : (b : Bool) → list_any (is_controlled agent) (y ∷ ys) ≡ b → cond b covered (not_controlled y) ≡ not_controlled x → Contains (y ∷ ys) x × IsFalse (is_controlled agent x)
      go true s h = absurd (cc)
      go false s h =
          let same : y ≡ x = ap (named y) h in
          ((0, omega arith, same), subst (λ z. IsFalse (is_controlled agent z)) same (first_of (is_controlled agent y) (list_any (is_controlled agent) ys) s))

  pub unseen_named : (f : Ltl) (x : ℕ) → coverage agent f ≡ not_monitored x → Contains (variables_of f) x × IsFalse (is_seen agent x)
  unseen_named (entails a c) x e =
      let lacks = first_without (is_controlled agent) (variables_of c) in
      let r = found_fails (is_seen agent) (variables_of a) x (unseen_is (first_without (is_seen agent) (variables_of a)) (all_controlled lacks) x (never_unseen lacks x) e) in
      (Contains-append_left (variables_of a) (variables_of c) x r.0, r.1)
  unseen_named f x e =
      found_fails (is_seen agent) (variables_of f) x (unseen_is (first_without (is_seen agent) (variables_of f)) (some_controlled agent (variables_of f)) x (some_never_unseen (variables_of f) x) e)

  pub uncontrolled_named : (f : Ltl) (x : ℕ) → coverage agent f ≡ not_controlled x → Contains (variables_of f) x × IsFalse (is_controlled agent x)
  uncontrolled_named (entails a c) x e =
      let lacks = first_without (is_controlled agent) (variables_of c) in
      let r = found_fails (is_controlled agent) (variables_of c) x (uncontrolled_is lacks x (rest_is_answer (first_without (is_seen agent) (variables_of a)) (all_controlled lacks) x e)) in
      (Contains-append_right (variables_of a) (variables_of c) x r.0, r.1)
  uncontrolled_named f x e =
      some_is (variables_of f) x (rest_is_answer (first_without (is_seen agent) (variables_of f)) (some_controlled agent (variables_of f)) x e)
