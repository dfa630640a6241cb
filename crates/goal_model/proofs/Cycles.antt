-- The test for cycles: it passes exactly where the parent is among the subgoals, or is reached from one of them.
use Rattle.std.proofs.Common.{◌≡◌, ◌≢◌, ℕ, zero, suc, ◌<◌, ◌≤◌, ◌⊎◌, Bool, true, false, cond, List, [], ◌∷◌, length, refl, sym, ap, subst, ◌∙◌, inl, inr, ⊎_elim, arith, Contains}
use Rattle.std.specs.Prelude.{not, ◌||◌, filter, flat_map, eqb}
use Rattle.std.specs.List.{list_any}
use Rattle.std.proofs.lemmas.Bool.{false≢true, false_from_ne_true, or_cases, or_left, or_right, cases_eq, eqb-true, eq-eqb}
use Rattle.std.proofs.lemmas.List.Elements.{Contains-append_cases, Contains-append_left, Contains-append_right, Contains-push}
use Rattle.goal_model.specs.Models.{LinkForm, refine, obstruct, conflict, operationalise, assign}
use Rattle.goal_model.specs.Reachability.{subgoals_by, IsSubgoal, Reaches, in_one, in_more, IsCyclic, has_subgoal, refines_any, is_subgoal, are_refined, refines, without, is_reached, closes_cycle}

none_in : {X : Type 0} (x : X) → Contains [] x → ⊥
none_in x has = omega (arith, has.1)

front_or_behind : {X : Type 0} (y x : X) (xs : List X) → Contains (y ∷ xs) x → (y ≡ x) ⊎ Contains xs x
front_or_behind y x xs has = ⊎_elim (λ h. inl (only y x h)) (λ h. inr h) (Contains-append_cases (y ∷ []) xs x has)
  where
    only : {X : Type 0} (y x : X) → Contains (y ∷ []) x → y ≡ x
    only y x (zero, l, e) = e
    only y x (suc i, l, e) = absurd (omega (arith, l))

in_front : {X : Type 0} (x : X) (xs : List X) → Contains (x ∷ xs) x
in_front x xs = Contains-append_left (x ∷ []) xs x (Contains-push [] x)

behind : {X : Type 0} (y x : X) (xs : List X) → Contains xs x → Contains (y ∷ xs) x
behind y x xs has = Contains-append_right (y ∷ []) xs x has

-- an element that passes
any_of : {X : Type 0} (p : X → Bool) (xs : List X) → list_any p xs ≡ true → (x : X) × Contains xs x × (p x ≡ true)
any_of p [] e = absurd (false≢true e)
any_of p (x ∷ xs) e = ⊎_elim (λ h. (x, in_front x xs, h)) (λ h. let r = any_of p xs h in (r.0, behind x r.0 xs r.1, r.2)) (or_cases (p x) (list_any p xs) e)

of_any : {X : Type 0} (p : X → Bool) (xs : List X) (x : X) → Contains xs x → p x ≡ true → list_any p xs ≡ true
of_any p [] x has e = absurd (none_in x has)
of_any p (y ∷ ys) x has e =
    ⊎_elim (λ is. or_left (p y) (list_any p ys) (subst (λ z. p z ≡ true) (sym is) e)) (λ h. or_right (p y) (list_any p ys) (of_any p ys x h e)) (front_or_behind y x ys has)

-- what a filter keeps
kept : {X : Type 0} (p : X → Bool) (xs : List X) (x : X) → Contains xs x → p x ≡ true → Contains (filter p xs) x
kept p [] x has e = has
kept p (y ∷ ys) x has e = ⊎_elim here (λ h. there (p y) (kept p ys x h e)) (front_or_behind y x ys has)
  where
    here : y ≡ x → Contains (filter p (y ∷ ys)) x
    here is = subst (λ b. Contains (cond b (y ∷ filter p ys) (filter p ys)) x) (sym (ap p is ∙ e)) (subst (Contains (y ∷ filter p ys)) is (in_front y (filter p ys)))

    there : (b : Bool) → Contains (filter p ys) x → Contains (cond b (y ∷ filter p ys) (filter p ys)) x
    there true h = behind y x (filter p ys) h
    there false h = h

was_there : {X : Type 0} (p : X → Bool) (xs : List X) (x : X) → Contains (filter p xs) x → Contains xs x
was_there p [] x has = has
was_there p (y ∷ ys) x has = by (p y) (λ k. was_there p ys x k) has
  where
    by : (b : Bool) → (Contains (filter p ys) x → Contains ys x) → Contains (cond b (y ∷ filter p ys) (filter p ys)) x → Contains (y ∷ ys) x
    by true was h = ⊎_elim (λ is. subst (Contains (y ∷ ys)) is (in_front y ys)) (λ k. behind y x ys (was k)) (front_or_behind y x (filter p ys) h)
    by false was h = behind y x ys (was h)

no_more : {X : Type 0} (p : X → Bool) (xs : List X) → length (filter p xs) ≤ length xs
no_more p [] = omega arith
no_more p (y ∷ ys) = by (p y) (no_more p ys)
  where
    by : (b : Bool) → length (filter p ys) ≤ length ys → length (cond b (y ∷ filter p ys) (filter p ys)) ≤ length (y ∷ ys)
    by true h = omega (arith, h)
    by false h = omega (arith, h)

fewer : {X : Type 0} (p : X → Bool) (xs : List X) (x : X) → Contains xs x → p x ≡ false → length (filter p xs) < length xs
fewer p [] x has e = absurd (none_in x has)
fewer p (y ∷ ys) x has e = ⊎_elim here (λ h. there (p y) (fewer p ys x h e)) (front_or_behind y x ys has)
  where
    here : y ≡ x → length (filter p (y ∷ ys)) < length (y ∷ ys)
    here is = subst (λ b. length (cond b (y ∷ filter p ys) (filter p ys)) < length (y ∷ ys)) (sym (ap p is ∙ e)) (omega (arith, no_more p ys))

    there : (b : Bool) → length (filter p ys) < length ys → length (cond b (y ∷ filter p ys) (filter p ys)) < length (y ∷ ys)
    there true h = omega (arith, h)
    there false h = omega (arith, h)

-- the subgoals of a goal by all links
subgoal_listed : (links : List LinkForm) (a g : ℕ) → IsSubgoal links a g → Contains (flat_map (subgoals_by a) links) g
subgoal_listed [] a g s = absurd (none_in s.0 s.1)
subgoal_listed (l ∷ ls) a g s =
    ⊎_elim (λ is. Contains-append_left (subgoals_by a l) (flat_map (subgoals_by a) ls) g (subst (λ k. Contains (subgoals_by a k) g) (sym is) s.2))
    (λ h. Contains-append_right (subgoals_by a l) (flat_map (subgoals_by a) ls) g (subgoal_listed ls a g (s.0, h, s.2))) (front_or_behind l s.0 ls s.1)

listed_subgoal : (links : List LinkForm) (a g : ℕ) → Contains (flat_map (subgoals_by a) links) g → IsSubgoal links a g
listed_subgoal [] a g has = absurd (none_in g has)
listed_subgoal (l ∷ ls) a g has =
    ⊎_elim (λ h. (l, in_front l ls, h)) (λ h. let s = listed_subgoal ls a g h in (s.0, behind l s.0 ls s.1, s.2)) (Contains-append_cases (subgoals_by a l) (flat_map (subgoals_by a) ls) g has)

-- a link that gives a goal a subgoal refines it, and no other
given_by : (a g : ℕ) (l : LinkForm) → Contains (subgoals_by a l) g → refines a l ≡ true
given_by a g (refine s p xs k) has = by (eqb p a) has
  where
    by : (b : Bool) → Contains (cond b xs []) g → b ≡ true
    by true h = refl
    by false h = absurd (none_in g h)
given_by a g (obstruct s p xs) has = absurd (none_in g has)
given_by a g (conflict s x xs f) has = absurd (none_in g has)
given_by a g (operationalise s p xs k) has = absurd (none_in g has)
given_by a g (assign s p k) has = absurd (none_in g has)

refines_one : (a x : ℕ) (l : LinkForm) → refines a l ≡ true → refines x l ≡ true → x ≡ a
refines_one a x (refine s p xs k) e f = sym (eqb-true p x f) ∙ eqb-true p a e
refines_one a x (obstruct s p xs) e f = absurd (false≢true e)
refines_one a x (conflict s y xs f) e h = absurd (false≢true e)
refines_one a x (operationalise s p xs k) e f = absurd (false≢true e)
refines_one a x (assign s p k) e f = absurd (false≢true e)

subgoal_before : (links : List LinkForm) (a x g : ℕ) → IsSubgoal (without a links) x g → IsSubgoal links x g
subgoal_before links a x g s = (s.0, was_there (λ l. not (refines a l)) links s.0 s.1, s.2)

subgoal_without : (links : List LinkForm) (a x g : ℕ) → x ≢ a → IsSubgoal links x g → IsSubgoal (without a links) x g
subgoal_without links a x g other s = (s.0, kept (λ l. not (refines a l)) links s.0 s.1 (by (refines a s.0) refl), s.2)
  where
    by : (b : Bool) → refines a s.0 ≡ b → not (refines a s.0) ≡ true
    by true e = absurd (other (refines_one a x s.0 e (given_by x g s.0 s.2)))
    by false e = ap not e

reaches_before : (links : List LinkForm) (a x g : ℕ) → Reaches (without a links) x g → Reaches links x g
reaches_before links a x g (in_one _ _ s) = in_one x g (subgoal_before links a x g s)
reaches_before links a x g (in_more _ n _ s r) = in_more x n g (subgoal_before links a x n s) (reaches_before links a n g r)

-- what is reached, is reached by a way that leaves a goal no more, or by its last leave of it
abbrev Left : List LinkForm → ℕ → ℕ → Type 0
Left links a b = (h : ℕ) × IsSubgoal links a h × ((h ≡ b) ⊎ Reaches (without a links) h b)

last_leave : (links : List LinkForm) (a x b : ℕ) → Reaches links x b → Reaches (without a links) x b ⊎ Left links a b
last_leave links a x b (in_one _ _ s) =
    ⊎_elim (λ is. inr (b, subst (λ y. IsSubgoal links y b) is s, inl refl)) (λ other. inl (in_one x b (subgoal_without links a x b other s))) (cases_eq x a)
last_leave links a x b (in_more _ n _ s r) =
    ⊎_elim (λ w. ⊎_elim (λ is. inr (n, subst (λ y. IsSubgoal links y n) is s, inr w)) (λ other. inl (in_more x n b (subgoal_without links a x n other s) w)) (cases_eq x a)) (λ w. inr w) (last_leave links a n b r)

leaves : (links : List LinkForm) (a b : ℕ) → Reaches links a b → Left links a b
leaves links a b (in_one _ _ s) = (b, s, inl refl)
leaves links a b (in_more _ n _ s r) = ⊎_elim (λ w. (n, s, inr w)) (λ w. w) (last_leave links a n b r)

-- the test is right

further : (links : List LinkForm) (goal g : ℕ) → IsCyclic (without g links) goal (flat_map (subgoals_by g) links) → Reaches links g goal
further links goal g w =
    let first = listed_subgoal links g w.0 w.1 in
    ⊎_elim (λ is. in_one g goal (subst (IsSubgoal links g) is first)) (λ r. in_more g w.0 goal first (reaches_before links g w.0 goal r)) w.2

tested : (n : ℕ) (links : List LinkForm) (goal : ℕ) (from : List ℕ) → is_reached n links goal from ≡ true → IsCyclic links goal from
unfolding is_reached
tested zero links goal from e = let s = any_of (λ g. eqb g goal) from e in (s.0, s.1, inl (eqb-true s.0 goal s.2))
tested (suc n) links goal from e =
    let s = any_of (λ g. eqb g goal || is_reached n (without g links) goal (flat_map (subgoals_by g) links)) from e in
    (s.0, s.1, ⊎_elim (λ h. inl (eqb-true s.0 goal h)) (λ h. inr (further links goal s.0 (tested n (without s.0 links) goal (flat_map (subgoals_by s.0) links) h))) (or_cases (eqb s.0 goal) (is_reached n (without s.0 links) goal (flat_map (subgoals_by s.0) links)) s.2))

nowhere : (a b : ℕ) → Reaches [] a b → ⊥
nowhere a b (in_one _ _ s) = none_in s.0 s.1
nowhere a b (in_more _ n _ s r) = none_in s.0 s.1

no_links : (links : List LinkForm) → length links ≤ 0 → links ≡ []
no_links [] l = refl
no_links (x ∷ xs) l = absurd (omega (arith, l))

-- what is reached over some links, over those that are left behind the last leave
closer : (n : ℕ) (links : List LinkForm) (goal g : ℕ) → length links ≤ suc n → Reaches links g goal → (length (without g links) ≤ n) × IsCyclic (without g links) goal (flat_map (subgoals_by g) links)
closer n links goal g few r =
    let w = leaves links g goal r in
    let removed : refines g w.1.0 ≡ true = given_by g w.0 w.1.0 w.1.2 in
    let less = fewer (λ l. not (refines g l)) links w.1.0 w.1.1 (ap not removed) in
    (omega (arith, few, less), (w.0, subgoal_listed links g w.0 w.1, w.2))

test : (n : ℕ) (links : List LinkForm) (goal : ℕ) (from : List ℕ) → length links ≤ n → IsCyclic links goal from → is_reached n links goal from ≡ true
unfolding is_reached
test zero links goal from few c =
    ⊎_elim (λ is. of_any (λ g. eqb g goal) from c.0 c.1 (eq-eqb c.0 goal is)) (λ r. absurd (nowhere c.0 goal (subst (λ ls. Reaches ls c.0 goal) (no_links links few) r))) c.2
test (suc n) links goal from few c =
    of_any (λ g. eqb g goal || is_reached n (without g links) goal (flat_map (subgoals_by g) links)) from c.0 c.1
    (⊎_elim (λ is. or_left (eqb c.0 goal) (is_reached n (without c.0 links) goal (flat_map (subgoals_by c.0) links)) (eq-eqb c.0 goal is))
    (λ r. let w = closer n links goal c.0 few r in or_right (eqb c.0 goal) (is_reached n (without c.0 links) goal (flat_map (subgoals_by c.0) links)) (test n (without c.0 links) goal (flat_map (subgoals_by c.0) links) w.0 w.1)) c.2)

pub cycle_tested : (links : List LinkForm) (parent : ℕ) (subgoals : List ℕ) → closes_cycle links parent subgoals ≡ true → IsCyclic links parent subgoals
cycle_tested links parent subgoals e = tested (length links) links parent subgoals e

pub cycle_test : (links : List LinkForm) (parent : ℕ) (subgoals : List ℕ) → IsCyclic links parent subgoals → closes_cycle links parent subgoals ≡ true
cycle_test links parent subgoals c = test (length links) links parent subgoals (omega arith) c

-- ---- where no search is needed

pub among_is_cycle : (links : List LinkForm) (parent : ℕ) (subgoals : List ℕ) → list_any (λ g. eqb g parent) subgoals ≡ true → closes_cycle links parent subgoals ≡ true
among_is_cycle links parent subgoals e =
    let s = any_of (λ g. eqb g parent) subgoals e in
    cycle_test links parent subgoals (s.0, s.1, inl (eqb-true s.0 parent s.2))

has_given : (a g : ℕ) (l : LinkForm) → Contains (subgoals_by a l) g → has_subgoal g l ≡ true
has_given a g (refine s p xs k) has = by (eqb p a) has
  where
    by : (b : Bool) → Contains (cond b xs []) g → list_any (λ x. eqb x g) xs ≡ true
    by true h = of_any (λ x. eqb x g) xs g h (eq-eqb g g refl)
    by false h = absurd (none_in g h)
has_given a g (obstruct s p xs) has = absurd (none_in g has)
has_given a g (conflict s x xs f) has = absurd (none_in g has)
has_given a g (operationalise s p xs k) has = absurd (none_in g has)
has_given a g (assign s p k) has = absurd (none_in g has)

reached_is_subgoal : (links : List LinkForm) (a b : ℕ) → Reaches links a b → is_subgoal links b ≡ true
reached_is_subgoal links a b (in_one _ _ s) = of_any (has_subgoal b) links s.0 s.1 (has_given a b s.0 s.2)
reached_is_subgoal links a b (in_more _ n _ s r) = reached_is_subgoal links n b r

refines_given : (a : ℕ) (goals : List ℕ) (l : LinkForm) → Contains goals a → refines a l ≡ true → refines_any goals l ≡ true
refines_given a goals (refine s p xs k) has e = of_any (λ g. eqb g p) goals a has (eq-eqb a p (sym (eqb-true p a e)))
refines_given a goals (obstruct s p xs) has e = absurd (false≢true e)
refines_given a goals (conflict s x xs f) has e = absurd (false≢true e)
refines_given a goals (operationalise s p xs k) has e = absurd (false≢true e)
refines_given a goals (assign s p k) has e = absurd (false≢true e)

left_is_refined : (links : List LinkForm) (goals : List ℕ) (a b : ℕ) → Contains goals a → Reaches links a b → are_refined links goals ≡ true
left_is_refined links goals a b has r = by r
  where
    first : (g : ℕ) → IsSubgoal links a g → are_refined links goals ≡ true
    first g s = of_any (refines_any goals) links s.0 s.1 (refines_given a goals s.0 has (given_by a g s.0 s.2))

    by : Reaches links a b → are_refined links goals ≡ true
    by (in_one _ _ s) = first b s
    by (in_more _ n _ s r) = first n s

none_closed : (links : List LinkForm) (parent : ℕ) (subgoals : List ℕ) → list_any (λ g. eqb g parent) subgoals ≡ false → ((g : ℕ) → Contains subgoals g → Reaches links g parent → ⊥) → closes_cycle links parent subgoals ≡ false
none_closed links parent subgoals among none = false_from_ne_true (closes_cycle links parent subgoals) (λ e. by (cycle_tested links parent subgoals e))
  where
    by : IsCyclic links parent subgoals → ⊥
    by c = ⊎_elim (λ is. false≢true (sym among ∙ of_any (λ g. eqb g parent) subgoals c.0 c.1 (eq-eqb c.0 parent is))) (λ r. none c.0 c.1 r) c.2

pub no_subgoal : (links : List LinkForm) (parent : ℕ) (subgoals : List ℕ) → list_any (λ g. eqb g parent) subgoals ≡ false → is_subgoal links parent ≡ false → closes_cycle links parent subgoals ≡ false
no_subgoal links parent subgoals among never = none_closed links parent subgoals among (λ g has r. false≢true (sym never ∙ reached_is_subgoal links g parent r))

pub not_refined : (links : List LinkForm) (parent : ℕ) (subgoals : List ℕ) → list_any (λ g. eqb g parent) subgoals ≡ false → are_refined links subgoals ≡ false → closes_cycle links parent subgoals ≡ false
not_refined links parent subgoals among never = none_closed links parent subgoals among (λ g has r. false≢true (sym never ∙ left_is_refined links subgoals g parent has r))
