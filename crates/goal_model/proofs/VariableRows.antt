-- Lists of variables: those of an attribute, one after the other, and those of names. Each of them is there.
use Rattle.std.proofs.Common.{◌≡◌, ℕ, zero, suc, ◌+◌, ◌<◌, ◌≤◌, Bool, true, false, if◌then◌else◌, List, [], ◌∷◌, ◌++◌, length, map, get_or, drop, Some, Ok, eqb, refl, sym, ap, subst, ◌∙◌, arith}
use Rattle.std.specs.Prelude.{All, not, slice_index}
use Rattle.std.proofs.lemmas.Bool.{eq-eqb}
use Rattle.std.proofs.lemmas.List.{append-nil, get_or-map, length-map, map-append, at_drop_more, drop_all}
use Rattle.std.proofs.lemmas.List.Elements.{All-append}
use Rattle.state_space.specs.declared.values.VarId.{VarId}
use Rattle.entity_types.specs.Rows.{count_of, owner_of}
use Rattle.entity_types.specs.View.{rows_of}
use Rattle.entity_types.proofs.EntityFacts.{counts_at}
use Rattle.goal_model.specs.declared.refusal.RefusalKind.TheVariants.{DuplicateName, WrongKind}
use Rattle.goal_model.specs.declared.namespace.Kind.{Kind}
use Rattle.goal_model.specs.declared.namespace.Kind.TheVariants.{Attribute}
use Rattle.goal_model.specs.declared.namespace.Scope.{Scope}
use Rattle.goal_model.specs.Refusals.{Resolved, and_then, holds, refused}
use Rattle.goal_model.specs.Scopes.{number_of, ScopeForm, rows_in, scope_of, another, meaning_of, as_kind}
use Rattle.goal_model.specs.Terms.{entity_of, members_at}
use Rattle.goal_model.specs.VariableLists.{numbers_from, row_of, row_in, do_meet, variables_from}
use Rattle.goal_model.specs.WholeScopes.{IsScope}
use Rattle.goal_model.proofs.Places.{attribute_inside}
use Rattle.goal_model.proofs.TermParts.{owner_same, attribute_at}

numbers_length : (f : ℕ) (ms : List (List ℕ)) → length (numbers_from f ms) ≡ length ms
numbers_length f [] = refl
numbers_length f (m ∷ ms) = ap suc (numbers_length (f + 1) ms)

numbers_at : (f : ℕ) (ms : List (List ℕ)) (k d : ℕ) → k < length ms → get_or (numbers_from f ms) k d ≡ f + k
numbers_at f [] k d l = absurd (omega (arith, l))
numbers_at f (m ∷ ms) zero d l = omega arith
numbers_at f (m ∷ ms) (suc k) d l = omega (arith, numbers_at (f + 1) ms k d (omega (arith, l)))

-- one member more
pub row_more : (row more : List VarId) (v : VarId) (f m : ℕ) (ms : List (List ℕ)) → m < length ms → v.0 ≡ f + m → more ≡ row ++ v ∷ []
    → map (λ x. x.0) row ++ numbers_from (f + m) (drop m ms) ≡ map (λ x. x.0) more ++ numbers_from (f + (m + 1)) (drop (m + 1) ms)
row_more row more v f m ms l e grown =
    ap (λ (ks : List ℕ). map (λ x. x.0) row ++ ks) here ∙ pushed row ∙ ap (λ (vs : List VarId). map (λ x. x.0) vs ++ numbers_from (f + (m + 1)) (drop (m + 1) ms)) (sym grown)
  where
    here : numbers_from (f + m) (drop m ms) ≡ v.0 ∷ numbers_from (f + (m + 1)) (drop (m + 1) ms)
    here = at_drop_more (numbers_from (f + m)) ms m [] l ∙ ap (λ (k : ℕ). k ∷ numbers_from (f + m + 1) (drop (m + 1) ms)) (sym e) ∙ ap (λ (k : ℕ). v.0 ∷ numbers_from k (drop (m + 1) ms)) (omega arith)

    pushed : (vs : List VarId) → map (λ x. x.0) vs ++ v.0 ∷ numbers_from (f + (m + 1)) (drop (m + 1) ms) ≡ map (λ x. x.0) (vs ++ v ∷ []) ++ numbers_from (f + (m + 1)) (drop (m + 1) ms)
    pushed [] = refl
    pushed (w ∷ ws) = ap (λ (ks : List ℕ). w.0 ∷ ks) (pushed ws)

-- variables of these numbers are there where the numbers are
numbered_inside : (vs : List VarId) (ks : List ℕ) (n : ℕ) → map (λ x. x.0) vs ≡ ks → All (λ k. k < n) ks → All (λ x. x.0 < n) vs
numbered_inside vs ks n e all k d l =
    let same : get_or ks k 0 ≡ (get_or vs k d).0 = ap (λ (xs : List ℕ). get_or xs k 0) (sym e) ∙ get_or-map (λ (x : VarId). x.0) vs k d 0 l in
    let there : k < length ks = omega (arith, l, length-map vs (λ (x : VarId). x.0), ap (λ (xs : List ℕ). length xs) e) in
    subst (λ (j : ℕ). j < n) same (all k 0 there)

pub row_inside : (s : ScopeForm) (a : ℕ) (vs : List VarId) → IsScope s → a < length s.attributes → map (λ x. x.0) vs ≡ row_of s a → All (λ x. x.0 < length s.names) vs
row_inside s a vs h l e = numbered_inside vs (row_of s a) (length s.names) e inside
  where
    first : ℕ
    first = slice_index (rows_in s).firsts a

    members : List (List ℕ)
    members = members_at s (entity_of s a)

    inside : All (λ k. k < length s.names) (row_of s a)
    inside k d b =
        let there : k < length members = omega (arith, b, numbers_length first members) in
        subst (λ (j : ℕ). j < length s.names) (sym (numbers_at first members k d there)) (attribute_at s a h l k there)

-- all members
pub row_done : (row : List ℕ) (k m : ℕ) (ms : List (List ℕ)) (whole : List ℕ) → length ms ≤ m → row ++ numbers_from k (drop m ms) ≡ whole → row ≡ whole
row_done row k m ms whole l e =
    let done : drop m ms ≡ [] = drop_all m ms l in
    sym (append-nil row) ∙ ap (λ (rest : List (List ℕ)). row ++ numbers_from k rest) (sym done) ∙ e

-- how many members there are, as the code counts them
pub members_counted : (s : Scope) (a entity : ℕ) → entity ≡ owner_of (rows_of s.entities.now) a → entity < length (rows_of s.entities.now).counts
    → count_of (rows_of s.entities.now) entity ≡ length (members_at (scope_of s) (entity_of (scope_of s) a))
members_counted s a entity e l =
    counts_at s.entities.now.types.items entity l ∙ ap (λ (k : ℕ). length (members_at (scope_of s) k)) (e ∙ sym (owner_same s a))

-- ---- lists of names

-- an attribute by its name
pub attribute_meant : (s : ScopeForm) (x : List ℕ) (kind : Kind) (place : ℕ) → IsScope s → Some (another kind place) ≡ meaning_of s x → number_of kind ≡ 9 → place < length s.attributes
attribute_meant s x kind place h e is =
    attribute_inside s x place h (ap (as_kind Attribute x) (sym e) ∙ of_kind (eqb (number_of kind) 9) (eq-eqb (number_of kind) 9 is))
  where
    of_kind : (b : Bool) → b ≡ true → (if b then Ok place else refused WrongKind x) ≡ Ok place
    of_kind b t = rw t refl

-- a test of the same lists
pub meets_same : (row front r f : List VarId) (b : Bool) → r ≡ row → f ≡ front → do_meet (map (λ v. v.0) r) (map (λ v. v.0) f) ≡ b → do_meet (map (λ v. v.0) row) (map (λ v. v.0) front) ≡ b
meets_same row front r f b e g h =
    sym (ap (λ (vs : List VarId). do_meet (map (λ v. v.0) vs) (map (λ v. v.0) f)) e ∙ ap (λ (vs : List VarId). do_meet (map (λ v. v.0) row) (map (λ v. v.0) vs)) g) ∙ h

-- a name of which no variable stands before, and one of which some does
pub variables_more : (s : ScopeForm) (front row more : List VarId) (names : List (List ℕ)) (i : ℕ) (x : List ℕ) → i < length names → x ≡ get_or names i x → row_in s x ≡ Ok (map (λ v. v.0) row)
    → do_meet (map (λ v. v.0) row) (map (λ v. v.0) front) ≡ false → more ≡ front ++ row
    → variables_from s (map (λ v. v.0) front) (drop i names) ≡ variables_from s (map (λ v. v.0) more) (drop (i + 1) names)
unfolding variables_from
variables_more s front row more names i x l is found apart grown =
    at_drop_more (variables_from s (map (λ v. v.0) front)) names i x l
    ∙ ap read (sym is)
    ∙ next (row_in s x) found apart
    ∙ ap (λ (ks : List ℕ). variables_from s ks (drop (i + 1) names)) (sym (map-append (λ (v : VarId). v.0) front row) ∙ ap (map (λ (v : VarId). v.0)) (sym grown))
  where
    read : List ℕ → Resolved (List ℕ)
    read y = variables_from s (map (λ v. v.0) front) (y ∷ drop (i + 1) names)

    next : (o : Resolved (List ℕ)) → o ≡ Ok (map (λ v. v.0) row) → do_meet (map (λ v. v.0) row) (map (λ v. v.0) front) ≡ false
        → and_then o (λ ks. and_then (holds (not (do_meet ks (map (λ v. v.0) front))) DuplicateName x) (λ _. variables_from s (map (λ v. v.0) front ++ ks) (drop (i + 1) names)))
        ≡ variables_from s (map (λ v. v.0) front ++ map (λ v. v.0) row) (drop (i + 1) names)
    next o e f = rw (e, f) refl

pub variables_refused : (s : ScopeForm) (front row : List VarId) (names : List (List ℕ)) (i : ℕ) (x : List ℕ) → i < length names → x ≡ get_or names i x → row_in s x ≡ Ok (map (λ v. v.0) row)
    → do_meet (map (λ v. v.0) row) (map (λ v. v.0) front) ≡ true → variables_from s (map (λ v. v.0) front) (drop i names) ≡ refused DuplicateName x
unfolding variables_from
variables_refused s front row names i x l is found meet =
    at_drop_more (variables_from s (map (λ v. v.0) front)) names i x l ∙ ap read (sym is) ∙ next (row_in s x) found meet
  where
    read : List ℕ → Resolved (List ℕ)
    read y = variables_from s (map (λ v. v.0) front) (y ∷ drop (i + 1) names)

    next : (o : Resolved (List ℕ)) → o ≡ Ok (map (λ v. v.0) row) → do_meet (map (λ v. v.0) row) (map (λ v. v.0) front) ≡ true
        → and_then o (λ ks. and_then (holds (not (do_meet ks (map (λ v. v.0) front))) DuplicateName x) (λ _. variables_from s (map (λ v. v.0) front ++ ks) (drop (i + 1) names)))
        ≡ refused DuplicateName x
    next o e f = rw (e, f) refl

-- lists of variables that are there
pub both_inside : (n : ℕ) (vs ws more : List VarId) → All (λ x. x.0 < n) vs → All (λ x. x.0 < n) ws → more ≡ vs ++ ws → All (λ x. x.0 < n) more
both_inside n vs ws more h g e = subst (All (λ (x : VarId). x.0 < n)) (sym e) (All-append (λ (x : VarId). x.0 < n) vs ws h g)
