-- A core that was taken, or left out, changes nothing when it comes again.
use Rattle.std.proofs.Common.{◌≡◌, ◌⊎◌, inl, inr, ℕ, ◌<◌, ◌≤◌, Bool, true, false, IsTrue, IsFalse, true≢false, List, [], ◌∷◌, ◌++◌, map, length, get_or, refl, sym, ap, ◌∙◌, subst, arith, length-append}
use Rattle.std.specs.Prelude.{All, nat_lt, ◌&&◌, ◌||◌}
use Rattle.std.specs.List.{list_any, list_all}
use Rattle.std.proofs.lemmas.Bool.{cond-true, cond-false, le-ltb, lt-ltb, cases_lt}
use Rattle.std.proofs.lemmas.List.{get_or_append_left}
use Rattle.std.proofs.lemmas.List.Elements.{All-nil, All-cons, All-head, All-tail}
use Rattle.bound_unfolding.specs.CoreForm.{CoreForm}
use Rattle.formula_table.specs.Closures.{is_same}
use Rattle.formula_table.proofs.Tests.{cond_case, and_intro}
use Rattle.formula_table.proofs.Members.{same_eq, same_self}
use Rattle.obstacle_regression.specs.Candidates.{FoundForm, is_small, with_candidate, with_candidates}

-- ---- members of lists
pub any_left : (test : CoreForm → Bool) (xs ys : List CoreForm) → IsTrue (list_any test xs) → IsTrue (list_any test (xs ++ ys))
any_left test [] ys h = absurd (true≢false (sym h))
any_left test (x ∷ xs) ys h = more (test x) (any_left test xs ys) h
  where
    more : (b : Bool) → (IsTrue (list_any test xs) → IsTrue (list_any test (xs ++ ys))) → IsTrue (b || list_any test xs) → IsTrue (b || list_any test (xs ++ ys))
    more true rest e = refl
    more false rest e = rest e

pub any_mapped : {X : Type 0} (test : CoreForm → Bool) (f : X → CoreForm) (xs : List X) → list_any test (map f xs) ≡ list_any (λ x. test (f x)) xs
any_mapped test f [] = refl
any_mapped test f (x ∷ xs) = ap (λ b. test (f x) || b) (any_mapped test f xs)

any_last : (c : CoreForm) (xs : List CoreForm) → IsTrue (list_any (is_same c) (xs ++ c ∷ []))
any_last c [] = either_true (is_same c c) (same_self c)
  where
    either_true : (b : Bool) → IsTrue b → IsTrue (b || false)
    either_true true e = refl
    either_true false e = e
any_last c (x ∷ xs) = more (is_same c x) (any_last c xs)
  where
    more : (b : Bool) → IsTrue (list_any (is_same c) (xs ++ c ∷ [])) → IsTrue (b || list_any (is_same c) (xs ++ c ∷ []))
    more true e = refl
    more false e = e

-- where all pass a test that a core fails, the core is not there
not_there : (test : CoreForm → Bool) (c : CoreForm) (xs : List CoreForm) → IsTrue (list_all test xs) → IsFalse (test c) → IsFalse (list_any (is_same c) xs)
not_there test c [] h n = refl
not_there test c (x ∷ xs) h n = go (is_same c x) (same_eq c x) (test x) refl (λ k. not_there test c xs k n) h
  where
    go : (b : Bool) → (IsTrue b → c ≡ x) → (p : Bool) → test x ≡ p → (IsTrue (list_all test xs) → IsFalse (list_any (is_same c) xs)) → IsTrue (p && list_all test xs)
        → IsFalse (b || list_any (is_same c) xs)
    go b e false q rest k = absurd (true≢false (sym k))
    go true e true q rest k = absurd (true≢false (sym q ∙ ap test (sym (e refl)) ∙ n))
    go false e true q rest k = rest k

module _ (beside : ℕ) where
  abbrev next : FoundForm → CoreForm → FoundForm
  next found c = with_candidate beside found c

  abbrev has_room : List CoreForm → CoreForm → Bool
  has_room list c = nat_lt (length list) 200 && is_small beside c

  -- a core that is too large is left out
  pub left_large : (found : FoundForm) (c : CoreForm) → IsTrue (list_all (is_small beside) found.list) → IsFalse (is_small beside c)
      → record { list = found.list; more = true } ≡ with_candidate beside found c
  left_large found c small n =
      sym (cond-false _ _ _ (not_there (is_small beside) c found.list small n) ∙ cond-false _ _ _ (no_room (nat_lt (length found.list) 200)))
    where
      no_room : (b : Bool) → IsFalse (b && is_small beside c)
      no_room true = n
      no_room false = refl

  -- one that is listed changes nothing
  pub listed_already : (found : FoundForm) (c : CoreForm) → IsTrue (list_any (is_same c) found.list) → found ≡ with_candidate beside found c
  listed_already found c there = sym (cond-true _ _ _ there)

  -- one that is new is left out where the list is full, and else comes at its end
  pub left_full : (found : FoundForm) (c : CoreForm) → IsFalse (list_any (is_same c) found.list) → 200 ≤ length found.list
      → record { list = found.list; more = true } ≡ with_candidate beside found c
  left_full found c new full =
      sym (cond-false _ _ _ new ∙ cond-false _ _ _ (subst (λ b. IsFalse (b && is_small beside c)) (sym (le-ltb (length found.list) 200 full)) refl))

  pub listed_last : (found : FoundForm) (c : CoreForm) → IsFalse (list_any (is_same c) found.list) → length found.list < 200 → IsTrue (is_small beside c)
      → record { list = found.list ++ c ∷ []; more = found.more } ≡ with_candidate beside found c
  listed_last found c new room small =
      sym (cond-false _ _ _ new ∙ cond-true _ _ _ (and_intro _ _ (lt-ltb (length found.list) 200 room) small))

  -- it is there, or one was left out and it would be
  abbrev pub IsDone : FoundForm → CoreForm → Type 0
  IsDone found c = IsTrue (list_any (is_same c) found.list) ⊎ ((found.more ≡ true) × IsFalse (has_room found.list c))

  done_here : (found : FoundForm) (c : CoreForm) → IsDone found c → next found c ≡ found
  done_here found c (inl s) = cond-true _ _ _ s
  done_here found c (inr n) =
      let left : FoundForm = record { list = found.list; more = true } in
      let same : left ≡ found = ap (λ b. let f : FoundForm = record { list = found.list; more = b } in f) (sym n.0) in
      cond_case (λ z. z ≡ found) (list_any (is_same c) found.list) found _ (λ s. refl) (λ s. cond-false _ _ _ n.1 ∙ same)

  done_after : (found : FoundForm) (c : CoreForm) → IsDone (next found c) c
  done_after found c =
      cond_case (λ z. IsDone z c) (list_any (is_same c) found.list) found _ (λ s. inl s)
      (λ n. cond_case (λ z. IsDone z c) (has_room found.list c) (record { list = found.list ++ c ∷ []; more = found.more }) (record { list = found.list; more = true }) (λ s. inl (any_last c found.list)) (λ m. inr (refl, m)))

  less_room : (xs : List CoreForm) (x c : CoreForm) → IsFalse (has_room xs c) → IsFalse (has_room (xs ++ x ∷ []) c)
  less_room xs x c n = elim (cases_lt (length xs) 200) [
    | inl l ↦ small (nat_lt (length (xs ++ x ∷ [])) 200) (subst (λ b. IsFalse (b && is_small beside c)) (lt-ltb (length xs) 200 l) n)
    | inr g ↦ full (nat_lt (length (xs ++ x ∷ [])) 200) (le-ltb (length (xs ++ x ∷ [])) 200 (omega (arith, g, length-append xs (x ∷ []))))
  ]
    where
      small : (b : Bool) → IsFalse (is_small beside c) → IsFalse (b && is_small beside c)
      small true e = e
      small false e = refl

      full : (b : Bool) → IsFalse b → IsFalse (b && is_small beside c)
      full true e = absurd (true≢false e)
      full false e = refl

  done_kept : (found : FoundForm) (x c : CoreForm) → IsDone found c → IsDone (next found x) c
  done_kept found x c done =
      cond_case (λ z. IsDone z c) (list_any (is_same x) found.list) found _ (λ s. done)
      (λ n. cond_case (λ z. IsDone z c) (has_room found.list x) (record { list = found.list ++ x ∷ []; more = found.more }) (record { list = found.list; more = true }) (λ s. appended done) (λ m. left done))
    where
      appended : IsDone found c → IsDone (record { list = found.list ++ x ∷ []; more = found.more }) c
      appended (inl s) = inl (any_left (is_same c) found.list (x ∷ []) s)
      appended (inr n) = inr (n.0, less_room found.list x c n.1)

      left : IsDone found c → IsDone (record { list = found.list; more = true }) c
      left (inl s) = inl s
      left (inr n) = inr (refl, n.1)

  abbrev many : FoundForm → List CoreForm → FoundForm
  many found cores = with_candidates beside found cores

  done_for_good : (xs : List CoreForm) (found : FoundForm) (c : CoreForm) → IsDone found c → IsDone (many found xs) c
  done_for_good [] found c done = done
  done_for_good (x ∷ xs) found c done = done_for_good xs (next found x) c (done_kept found x c done)

  pub all_done : (cs : List CoreForm) (found : FoundForm) → All (IsDone (many found cs)) cs
  all_done [] found = All-nil (IsDone found)
  all_done (c ∷ cs) found =
      All-cons (IsDone (many (next found c) cs)) c cs (done_for_good cs (next found c) c (done_after found c)) (all_done cs (next found c))

  pub nothing_new : (cs : List CoreForm) (found : FoundForm) → All (IsDone found) cs → many found cs ≡ found
  nothing_new [] found done = refl
  nothing_new (c ∷ cs) found done =
      ap (λ z. many z cs) (done_here found c (All-head (IsDone found) c cs done)) ∙ nothing_new cs found (All-tail (IsDone found) c cs done)

  pub many_then : (xs ys : List CoreForm) (found : FoundForm) → many found (xs ++ ys) ≡ many (many found xs) ys
  many_then [] ys found = refl
  many_then (x ∷ xs) ys found = many_then xs ys (next found x)

  -- ---- the list keeps its front
  next_longer : (found : FoundForm) (c : CoreForm) → length found.list ≤ length (next found c).list
  next_longer found c =
      cond_case (λ (z : FoundForm). length found.list ≤ length z.list) (list_any (is_same c) found.list) found _ (λ s. omega arith)
      (λ n. cond_case (λ (z : FoundForm). length found.list ≤ length z.list) (has_room found.list c) (record { list = found.list ++ c ∷ []; more = found.more }) (record { list = found.list; more = true }) (λ s. omega (arith, length-append found.list (c ∷ []))) (λ m. omega arith))

  next_front : (found : FoundForm) (c d : CoreForm) (k : ℕ) → k < length found.list → get_or (next found c).list k d ≡ get_or found.list k d
  next_front found c d k l =
      cond_case (λ (z : FoundForm). get_or z.list k d ≡ get_or found.list k d) (list_any (is_same c) found.list) found _ (λ s. refl)
      (λ n. cond_case (λ (z : FoundForm). get_or z.list k d ≡ get_or found.list k d) (has_room found.list c) (record { list = found.list ++ c ∷ []; more = found.more }) (record { list = found.list; more = true }) (λ s. get_or_append_left found.list (c ∷ []) d k l) (λ m. refl))

  pub many_longer : (cs : List CoreForm) (found : FoundForm) → length found.list ≤ length (many found cs).list
  many_longer [] found = omega arith
  many_longer (c ∷ cs) found = omega (arith, next_longer found c, many_longer cs (next found c))

  pub many_front : (cs : List CoreForm) (found : FoundForm) (d : CoreForm) (k : ℕ) → k < length found.list → get_or (many found cs).list k d ≡ get_or found.list k d
  many_front [] found d k l = refl
  many_front (c ∷ cs) found d k l = many_front cs (next found c) d k (omega (arith, l, next_longer found c)) ∙ next_front found c d k l

  -- a full search that has left one out is settled
  module _ (found : FoundForm) (left_one : found.more ≡ true) (full : 200 ≤ length found.list) where
    full_done : (c : CoreForm) → IsDone found c
    full_done c = by_case (list_any (is_same c) found.list) refl
      where
        by_case : (b : Bool) → list_any (is_same c) found.list ≡ b → IsDone found c
        by_case true e = inl e
        by_case false e = inr (left_one, subst (λ b. IsFalse (b && is_small beside c)) (sym (le-ltb (length found.list) 200 full)) refl)

    full_all : (cs : List CoreForm) → All (IsDone found) cs
    full_all [] = All-nil (IsDone found)
    full_all (c ∷ cs) = All-cons (IsDone found) c cs (full_done c) (full_all cs)

    pub full_settled : (cs : List CoreForm) → many found cs ≡ found
    full_settled cs = nothing_new cs found (full_all cs)
