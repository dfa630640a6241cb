-- Each name that a resolved formula or state uses has a meaning in its scope.
use Rattle.std.proofs.Common.{◌≡◌, ℕ, true, List, [], ◌∷◌, ◌++◌, map, Option, Some, None, Ok, Err, refl, subst}
use Rattle.std.specs.Prelude.{All, is_some, not, set}
use Rattle.std.proofs.lemmas.List.Elements.{All-nil, All-cons, All-append}
use Rattle.state_space.specs.Ranges.{RangeForm, truth_values, named, span}
use Rattle.temporal_logic.specs.Ltl.{Relation}
use Rattle.model_text.specs.RawTrees.{WrittenValue, a_word, a_number, a_truth, an_attribute, RawTree}
use Rattle.model_text.specs.RawTrees as raw
use Rattle.model_text.specs.Statements.{Setting}
use Rattle.entity_types.specs.declared.written.Opening.{Opening}
use Rattle.entity_types.specs.declared.written.Opening.TheVariants.{Not, Next, Eventually, Always, EventuallyWithin, AlwaysWithin}
use Rattle.entity_types.specs.declared.written.Joining.{Joining}
use Rattle.entity_types.specs.declared.written.Joining.TheVariants.{And, Or, Implies, Iff, Entails, Until, Unless, Release, UntilWithin, UnlessWithin, ReleaseWithin}
use Rattle.entity_types.specs.WrittenTrees.{TermForm, plain, WrittenTree}
use Rattle.entity_types.specs.WrittenTrees as trees
use Rattle.goal_model.specs.declared.refusal.RefusalKind.TheVariants.{DuplicateName}
use Rattle.goal_model.specs.declared.namespace.Kind.{Kind}
use Rattle.goal_model.specs.declared.namespace.Kind.TheVariants.{EntityType, Attribute}
use Rattle.goal_model.specs.Names.{is_among}
use Rattle.goal_model.specs.Refusals.{Resolved, and_then, holds}
use Rattle.goal_model.specs.ValueIndexes.{index_in, index_of}
use Rattle.goal_model.specs.Scopes.{ScopeForm, Meaning, meaning_of, range_at, as_variable, as_kind, variable_in, used, level_of, fresh_bound, binds}
use Rattle.goal_model.specs.Terms.{bracketed, term_in, range_of}
use Rattle.goal_model.specs.Formulas.{flag_in, related_in, compared_with, compared_in, among_in, one_in, both_in, each_in, written_in}
use Rattle.goal_model.specs.States.{set_from, state_in, states_from, states_in}
use Rattle.goal_model.specs.Declarations.{used_behind, used_in, set_by}
use Rattle.goal_model.proofs.Found.{then_ok}

-- the name means something
abbrev IsNamed : ScopeForm → List ℕ → Type 0
IsNamed s x = is_some (meaning_of s x) ≡ true

-- each of the names does
abbrev pub AreNamed : ScopeForm → List (List ℕ) → Type 0
AreNamed s xs = All (λ x. is_some (meaning_of s x) ≡ true) xs

none_named : (s : ScopeForm) → AreNamed s []
none_named s = All-nil (λ x. is_some (meaning_of s x) ≡ true)

and_named : (s : ScopeForm) (x : List ℕ) (xs : List (List ℕ)) → IsNamed s x → AreNamed s xs → AreNamed s (x ∷ xs)
and_named s x xs h all = All-cons (λ x. is_some (meaning_of s x) ≡ true) x xs h all

one_named : (s : ScopeForm) (x : List ℕ) → IsNamed s x → AreNamed s (x ∷ [])
one_named s x h = and_named s x [] h (none_named s)

both_named : (s : ScopeForm) (xs ys : List (List ℕ)) → AreNamed s xs → AreNamed s ys → AreNamed s (xs ++ ys)
both_named s xs ys first second = All-append (λ x. is_some (meaning_of s x) ≡ true) xs ys first second

-- ---- names that are looked up

-- a variable
variable_named : (s : ScopeForm) (x : List ℕ) (k : ℕ) → variable_in s x ≡ Ok k → IsNamed s x
variable_named s x k e = by (meaning_of s x) e
  where
    by : (o : Option Meaning) → as_variable x o ≡ Ok k → is_some o ≡ true
    by None h = absurd cc
    by (Some m) h = refl

-- a name of a kind
used_named : (s : ScopeForm) (kind : Kind) (x : List ℕ) (p : ℕ) → used s kind x ≡ Ok p → IsNamed s x
used_named s kind x p e = by (meaning_of s x) e
  where
    by : (o : Option Meaning) → as_kind kind x o ≡ Ok p → is_some o ≡ true
    by None h = absurd cc
    by (Some m) h = refl

-- the attribute of a term
term_named : (s : ScopeForm) (f y : List ℕ) (t : TermForm) → term_in s f y ≡ Ok t → IsNamed s f
term_named s f y t e =
    let u = then_ok (used s Attribute f) (λ a. bracketed s a y (level_of s y)) t e in
    used_named s Attribute f u.0 u.1

-- ---- atoms

-- no range has an attribute as a value
no_index : (r : RangeForm) (f y : List ℕ) → index_in r (an_attribute f y) ≡ None
no_index truth_values f y = refl
no_index (named xs) f y = refl
no_index (span low high) f y = refl

-- what stands behind a comparison
behind_named : (s : ScopeForm) (x : List ℕ) (t : TermForm) (r : Relation) (v : WrittenValue) (w : WrittenTree) → compared_in s x t r v ≡ Ok w → AreNamed s (used_behind v)
behind_named s x t r (a_word y) w e = none_named s
behind_named s x t r (a_number n) w e = none_named s
behind_named s x t r (a_truth b) w e = none_named s
behind_named s x t r (an_attribute f y) w e =
    let h : compared_with s x t r (an_attribute f y) None ≡ Ok w = subst (λ o. compared_with s x t r (an_attribute f y) o ≡ Ok w) (no_index (range_of s t) f y) e in
    let u = then_ok (term_in s f y) (related_in s x t r) w h in
    one_named s f (term_named s f y u.0 u.1)

-- ---- formulas

-- an operator before one operand
one_names : (s : ScopeForm) (o : Opening) (a : Resolved WrittenTree) (w : WrittenTree) (xs : List (List ℕ)) → ((f : WrittenTree) → a ≡ Ok f → AreNamed s xs) → one_in o a ≡ Ok w → AreNamed s xs
one_names s o (Ok f) w xs is e = is f refl
one_names s o (Err x) w xs is e = absurd cc

-- an operator between two
both_names : (s : ScopeForm) (j : Joining) (a b : Resolved WrittenTree) (w : WrittenTree) (xs ys : List (List ℕ)) → ((f : WrittenTree) → a ≡ Ok f → AreNamed s xs) → ((f : WrittenTree) → b ≡ Ok f → AreNamed s ys)
    → both_in j a b ≡ Ok w → AreNamed s (xs ++ ys)
both_names s j (Ok f) (Ok g) w xs ys first second e = both_named s xs ys (first f refl) (second g refl)
both_names s j (Ok f) (Err x) w xs ys first second e = absurd cc
both_names s j (Err x) b w xs ys first second e = absurd cc

-- a quantifier: its bound name changes no meaning
each_names : (s : ScopeForm) (x entity : List ℕ) (made : ℕ → WrittenTree → WrittenTree) (body : ScopeForm → Resolved WrittenTree) (w : WrittenTree) (xs : List (List ℕ))
    → ((e : ℕ) (f : WrittenTree) → body (binds s x e) ≡ Ok f → AreNamed (binds s x e) xs) → each_in s x entity made body ≡ Ok w → AreNamed s (entity ∷ xs)
each_names s x entity made body w xs inner e =
    let a = then_ok (fresh_bound s x) (λ _. and_then (used s EntityType entity) (λ n. and_then (body (binds s x n)) (λ f. Ok (made n f)))) w e in
    let b = then_ok (used s EntityType entity) (λ n. and_then (body (binds s x n)) (λ f. Ok (made n f))) w a.2 in
    let c = then_ok (body (binds s x b.0)) (λ f. Ok (made b.0 f)) w b.2 in
    and_named s entity xs (used_named s EntityType entity b.0 b.1) (inner b.0 c.0 c.1)

-- each name that a formula uses
pub formula_named : (s : ScopeForm) (f : RawTree) (w : WrittenTree) → written_in s f ≡ Ok w → AreNamed s (used_in f)
formula_named s raw.truth w e = none_named s
formula_named s raw.falsity w e = none_named s
formula_named s (raw.bare x) w e =
    let t = then_ok (variable_in s x) (λ k. flag_in s x (plain k)) w e in
    one_named s x (variable_named s x t.0 t.1)
formula_named s (raw.compares x r v) w e =
    let t = then_ok (variable_in s x) (λ k. compared_in s x (plain k) r v) w e in
    and_named s x (used_behind v) (variable_named s x t.0 t.1) (behind_named s x (plain t.0) r v w t.2)
formula_named s (raw.among x vs) w e =
    let t = then_ok (variable_in s x) (λ k. among_in s x (plain k) vs) w e in
    one_named s x (variable_named s x t.0 t.1)
formula_named s (raw.bare_of f y) w e =
    let t = then_ok (term_in s f y) (flag_in s f) w e in
    one_named s f (term_named s f y t.0 t.1)
formula_named s (raw.compares_of f y r v) w e =
    let t = then_ok (term_in s f y) (λ t. compared_in s f t r v) w e in
    and_named s f (used_behind v) (term_named s f y t.0 t.1) (behind_named s f t.0 r v w t.2)
formula_named s (raw.among_of f y vs) w e =
    let t = then_ok (term_in s f y) (λ t. among_in s f t vs) w e in
    one_named s f (term_named s f y t.0 t.1)
formula_named s (raw.neg a) w e = one_names s Not (written_in s a) w (used_in a) (λ g h. formula_named s a g h) e
formula_named s (raw.next a) w e = one_names s Next (written_in s a) w (used_in a) (λ g h. formula_named s a g h) e
formula_named s (raw.eventually a) w e = one_names s Eventually (written_in s a) w (used_in a) (λ g h. formula_named s a g h) e
formula_named s (raw.always a) w e = one_names s Always (written_in s a) w (used_in a) (λ g h. formula_named s a g h) e
formula_named s (raw.eventually_within d a) w e = one_names s (EventuallyWithin d) (written_in s a) w (used_in a) (λ g h. formula_named s a g h) e
formula_named s (raw.always_within d a) w e = one_names s (AlwaysWithin d) (written_in s a) w (used_in a) (λ g h. formula_named s a g h) e
formula_named s (raw.conj a b) w e = both_names s And (written_in s a) (written_in s b) w (used_in a) (used_in b) (λ g h. formula_named s a g h) (λ g h. formula_named s b g h) e
formula_named s (raw.disj a b) w e = both_names s Or (written_in s a) (written_in s b) w (used_in a) (used_in b) (λ g h. formula_named s a g h) (λ g h. formula_named s b g h) e
formula_named s (raw.implies a b) w e = both_names s Implies (written_in s a) (written_in s b) w (used_in a) (used_in b) (λ g h. formula_named s a g h) (λ g h. formula_named s b g h) e
formula_named s (raw.iff a b) w e = both_names s Iff (written_in s a) (written_in s b) w (used_in a) (used_in b) (λ g h. formula_named s a g h) (λ g h. formula_named s b g h) e
formula_named s (raw.entails a b) w e = both_names s Entails (written_in s a) (written_in s b) w (used_in a) (used_in b) (λ g h. formula_named s a g h) (λ g h. formula_named s b g h) e
formula_named s (raw.until a b) w e = both_names s Until (written_in s a) (written_in s b) w (used_in a) (used_in b) (λ g h. formula_named s a g h) (λ g h. formula_named s b g h) e
formula_named s (raw.unless a b) w e = both_names s Unless (written_in s a) (written_in s b) w (used_in a) (used_in b) (λ g h. formula_named s a g h) (λ g h. formula_named s b g h) e
formula_named s (raw.release a b) w e = both_names s Release (written_in s a) (written_in s b) w (used_in a) (used_in b) (λ g h. formula_named s a g h) (λ g h. formula_named s b g h) e
formula_named s (raw.until_within d a b) w e = both_names s (UntilWithin d) (written_in s a) (written_in s b) w (used_in a) (used_in b) (λ g h. formula_named s a g h) (λ g h. formula_named s b g h) e
formula_named s (raw.unless_within d a b) w e = both_names s (UnlessWithin d) (written_in s a) (written_in s b) w (used_in a) (used_in b) (λ g h. formula_named s a g h) (λ g h. formula_named s b g h) e
formula_named s (raw.release_within d a b) w e = both_names s (ReleaseWithin d) (written_in s a) (written_in s b) w (used_in a) (used_in b) (λ g h. formula_named s a g h) (λ g h. formula_named s b g h) e
formula_named s (raw.for_all x entity a) w e = each_names s x entity trees.all (λ inner. written_in inner a) w (used_in a) (λ n f h. formula_named (binds s x n) a f h) e
formula_named s (raw.for_some x entity a) w e = each_names s x entity trees.exists (λ inner. written_in inner a) w (used_in a) (λ n f h. formula_named (binds s x n) a f h) e

-- ---- states

-- each name that a state sets
state_named : (s : ScopeForm) (front : List (List ℕ)) (row : List ℕ) (ts : List Setting) (all : List ℕ) → set_from s front row ts ≡ Ok all → AreNamed s (map (λ (t : Setting). t.variable) ts)
unfolding set_from
state_named s front row [] all e = none_named s
state_named s front row (t ∷ ts) all e =
    let v = then_ok (variable_in s t.variable) (λ k. and_then (holds (not (is_among t.variable front)) DuplicateName t.variable) (λ _. and_then (index_of t.variable (range_at s k) t.value) (λ i. set_from s (front ++ t.variable ∷ []) (set row k i) ts))) all e in
    let h = then_ok (holds (not (is_among t.variable front)) DuplicateName t.variable) (λ _. and_then (index_of t.variable (range_at s v.0) t.value) (λ i. set_from s (front ++ t.variable ∷ []) (set row v.0 i) ts)) all v.2 in
    let i = then_ok (index_of t.variable (range_at s v.0) t.value) (λ i. set_from s (front ++ t.variable ∷ []) (set row v.0 i) ts) all h.2 in
    and_named s t.variable (map (λ (t : Setting). t.variable) ts) (variable_named s t.variable v.0 v.1) (state_named s (front ++ t.variable ∷ []) (set row v.0 i.0) ts all i.2)

-- each name that states set, behind some rows
rows_named : (s : ScopeForm) (rows : List (List ℕ)) (ts : List (List Setting)) (all : List (List ℕ)) → states_from s rows ts ≡ Ok all → AreNamed s (set_by ts)
unfolding states_from
rows_named s rows [] all e = none_named s
rows_named s rows (t ∷ ts) all e =
    let r = then_ok (state_in s t) (λ row. states_from s (rows ++ row ∷ []) ts) all e in
    both_named s (map (λ (t : Setting). t.variable) t) (set_by ts) (state_named s [] _ t r.0 r.1) (rows_named s (rows ++ r.0 ∷ []) ts all r.2)

pub states_named : (s : ScopeForm) (ts : List (List Setting)) (all : List (List ℕ)) → states_in s ts ≡ Ok all → AreNamed s (set_by ts)
states_named s ts all e = rows_named s [] ts all e
