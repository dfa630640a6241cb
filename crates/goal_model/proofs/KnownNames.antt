-- Statements that make a model declare each name once, and before it is used.
use Rattle.std.proofs.Common.{◌≡◌, ◌≢◌, ℕ, zero, suc, ◌+◌, ◌-◌, ◌<◌, ◌≤◌, ⊎_elim, true, false, if◌then◌else◌, List, [], ◌∷◌, ◌++◌, length, get_or, slice_get, Option, Some, None, Result, Ok, Err, refl, sym, ap, ap₂, subst, ◌∙◌, arith, append_assoc, bytes_eq}
use Rattle.std.specs.Prelude.{All, AllPairs, IfOk, find, is_some, not, ◌||◌, ◌&&◌, nat_lt, nat_le, eqb, unwrap_or}
use Rattle.std.specs.Option.{option_or}
use Rattle.std.proofs.lemmas.Bool.{false≢true, not-true, cases_lt}
use Rattle.std.proofs.lemmas.List.{append-nil, length-append, get_or_append_left, get_or-append_right}
use Rattle.std.proofs.lemmas.List.Elements.{All-nil, All-cons, All-append, All-map}
use Rattle.std.proofs.lemmas.Option.{get_or_from_slice_get}
use Rattle.model_text.specs.Statements.{StatementForm, version, variable, entity_type, attribute, domain, rule, goal, obstacle, refinement, obstruction, conflict, agent, assignment, expectation, operation, requirement, operationalisation, trace}
use Rattle.model_text.specs.RawTrees.{RawTree}
use Rattle.temporal_logic.specs.Ltl.{Ltl, entails}
use Rattle.temporal_logic.specs.Shapes.{is_state_of}
use Rattle.state_space.specs.Ranges.{RangeForm}
use Rattle.entity_types.specs.Joined.{joined_name, joined_names}
use Rattle.entity_types.specs.Attributes.{is_some_long}
use Rattle.entity_types.proofs.JoinedNames.{joined_apart}
use Rattle.goal_model.specs.declared.refusal.RefusalKind.TheVariants.{DuplicateName, BadValue, BadRange, LongName, TooManyVars, NotState, Cycle}
use Rattle.goal_model.specs.declared.namespace.Kind.{Kind}
use Rattle.goal_model.specs.declared.namespace.Kind.TheVariants.{Property, Goal, Obstacle, Agent, Operation, Requirement, Conflict, Trace, EntityType, Attribute}
use Rattle.goal_model.specs.declared.namespace.Declared.{Declared}
use Rattle.goal_model.specs.Names.{is_among}
use Rattle.goal_model.specs.Refusals.{Resolved, and_then, holds}
use Rattle.goal_model.specs.ValueIndexes.{apart_from, values_apart, has_few_values}
use Rattle.goal_model.specs.Scopes.{number_of, Meaning, meaning_of, fresh, as_kind, used, listed_from, listed}
use Rattle.goal_model.specs.Terms.{members_at}
use Rattle.goal_model.specs.VariableLists.{as_row, row_in, do_meet, variables_from, variables_in}
use Rattle.goal_model.specs.Formulas.{written_in}
use Rattle.goal_model.specs.States.{states_in}
use Rattle.goal_model.specs.Patterns.{pattern_in}
use Rattle.goal_model.specs.declared.model.Model.{Model}
use Rattle.goal_model.specs.declared.refusal.ModelRefusal.{ModelRefusal}
use Rattle.goal_model.specs.Outcomes.{AnswersBy}
use Rattle.goal_model.specs.Models.{refine, obstruct, operationalise, assign, ModelForm}
use Rattle.goal_model.specs.ModelViews.{model_of}
use Rattle.goal_model.specs.Reachability.{closes_cycle}
use Rattle.goal_model.specs.Drafts.{DraftForm, no_draft, scope_of, keeps}
use Rattle.goal_model.specs.Declarations.{members_by, declared_by, used_in, set_by, used_by, all_declared, DeclaresApart, UsesDeclared}
use Rattle.goal_model.specs.Resolution.{Outcome, made, has_few_members, all_fresh, plain_in, one_taken, two_taken, with_variable, with_entity_type, with_attribute, with_property, with_goal, with_obstacle, with_agent, with_operation, with_requirement, with_link, with_conflict, with_expected, with_trace, uncontrolled, row_taken, taken, goes_on, outcome_from, outcome_of}
use Rattle.goal_model.proofs.KnownTypes.{or_false, or_swap, or_none, one_found, slice_get_last, type_by, typed, typed_push, members_typed, TypeIs, Knows, Adds, grows}
use Rattle.goal_model.proofs.Found.{then_ok, held}
use Rattle.goal_model.proofs.GoodRanges.{pairs_push, not_among, apart_distinct}
use Rattle.goal_model.proofs.UsedNames.{AreNamed, formula_named, states_named}

-- ---- what a statement adds

-- no type is declared by this statement
abbrev Untyped : StatementForm → Type 0
Untyped s = (y : List ℕ) → type_by s y ≡ None

-- the same names are declared, and the same types
abbrev Same : DraftForm → DraftForm → Type 0
Same d next = (next.model.names ≡ d.model.names) × (next.others ≡ d.others) × (next.model.members ≡ d.model.members)

adds_nothing : (before : List StatementForm) (s : StatementForm) (d next : DraftForm) → Untyped s → Same d next → Adds before s d next []
adds_nothing before s d next none same = record {
  variables = [];
  entries = [];
  members = [];
  names = same.0 ∙ sym (append-nil d.model.names);
  others = same.1 ∙ sym (append-nil d.others);
  lists = same.2 ∙ sym (append-nil d.model.members);
  declared = λ y. refl;
  types = λ y e found kind new. absurd cc;
  untyped = λ y h. none y;
}

-- variables alone
adds_variable : (before : List StatementForm) (s : StatementForm) (d next : DraftForm) (x : List ℕ) → Untyped s → next.model.names ≡ d.model.names ++ x ∷ [] → next.others ≡ d.others → next.model.members ≡ d.model.members → Adds before s d next (x ∷ [])
adds_variable before s d next x none names others lists = record {
  variables = x ∷ [];
  entries = [];
  members = [];
  names = names;
  others = others ∙ sym (append-nil d.others);
  lists = lists ∙ sym (append-nil d.model.members);
  declared = λ y. or_false (is_among y (x ∷ []));
  types = λ y e found kind new. absurd cc;
  untyped = λ y h. none y;
}

-- a name that is no type's, and variables behind it
adds_other : (before : List StatementForm) (s : StatementForm) (d next : DraftForm) (e : Declared) (xs : List (List ℕ)) → Untyped s → eqb (number_of e.kind) (number_of EntityType) ≡ false
    → next.model.names ≡ d.model.names ++ xs → next.others ≡ d.others ++ e ∷ [] → next.model.members ≡ d.model.members → Adds before s d next (e.name ∷ xs)
adds_other before s d next e xs none unlike names others lists = record {
  variables = xs;
  entries = e ∷ [];
  members = [];
  names = names;
  others = others;
  lists = lists ∙ sym (append-nil d.model.members);
  declared = λ y. ap (λ b. is_among y xs || b) (or_false (bytes_eq e.name y)) ∙ or_swap (is_among y xs) (bytes_eq e.name y);
  types = λ y f found kind new. absurd (false≢true (sym unlike ∙ ap (λ (g : Declared). eqb (number_of g.kind) (number_of EntityType)) (one_found (λ (g : Declared). bytes_eq g.name y) e f found).1 ∙ kind));
  untyped = λ y h. none y;
}

-- an entity type
adds_type : (before : List StatementForm) (d next : DraftForm) (x : List ℕ) (ms : List (List ℕ)) → AllPairs (λ a b. a ≢ b) ms → next ≡ with_entity_type d x ms → Adds before (entity_type x ms) d next (x ∷ [])
adds_type before d next x ms apart is = record {
  variables = [];
  entries = e ∷ [];
  members = ms ∷ [];
  names = ap (λ (n : DraftForm). n.model.names) is ∙ sym (append-nil d.model.names);
  others = ap (λ (n : DraftForm). n.others) is;
  lists = ap (λ (n : DraftForm). n.model.members) is;
  declared = λ y. refl;
  types = types;
  untyped = λ y h. ap (λ b. if b then Some ms else None) ((or_none (bytes_eq x y) false h).0);
}
  where
    e : Declared
    e = record { name = x; kind = EntityType; place = length d.model.members }

    types : (y : List ℕ) (f : Declared) → find (λ (g : Declared). bytes_eq g.name y) (e ∷ []) ≡ Some f → eqb (number_of f.kind) (number_of EntityType) ≡ true → typed before y ≡ None → TypeIs (before ++ entity_type x ms ∷ []) next y f.place
    types y f found kind new =
        let one = one_found (λ (g : Declared). bytes_eq g.name y) e f found in
        let there : slice_get next.model.members (length d.model.members) ≡ Some ms = ap (λ (n : DraftForm). slice_get n.model.members (length d.model.members)) is ∙ slice_get_last d.model.members ms in
        let said : typed (before ++ entity_type x ms ∷ []) y ≡ Some ms = typed_push before (entity_type x ms) y ∙ ap₂ (λ o b. option_or o (if b then Some ms else None)) new one.0 in
        (ms, ap (λ (g : Declared). slice_get next.model.members g.place) (sym one.1) ∙ there, said, apart)

-- ---- names that are used

new_name : (before : List StatementForm) (d : DraftForm) (known : List (List ℕ)) (x : List ℕ) (u : Unit {0}) → Knows before d known → fresh (scope_of d) x ≡ Ok u → is_among x known ≡ false
new_name before d known x u k e = sym (k.names x) ∙ not-true (is_some (meaning_of (scope_of d) x)) (held (not (is_some (meaning_of (scope_of d) x))) DuplicateName x u e)

new_names : (before : List StatementForm) (d : DraftForm) (known xs : List (List ℕ)) (u : Unit {0}) → Knows before d known → all_fresh (scope_of d) xs ≡ Ok u → All (λ x. is_among x known ≡ false) xs
unfolding all_fresh
new_names before d known [] u k e = All-nil (λ x. is_among x known ≡ false)
new_names before d known (x ∷ xs) u k e =
    let s = then_ok (fresh (scope_of d) x) (λ _. all_fresh (scope_of d) xs) u e in
    All-cons (λ x. is_among x known ≡ false) x xs (new_name before d known x s.0 k s.1) (new_names before d known xs u k s.2)

used_known : (before : List StatementForm) (d : DraftForm) (known : List (List ℕ)) (kind : Kind) (x : List ℕ) (p : ℕ) → Knows before d known → used (scope_of d) kind x ≡ Ok p → is_among x known ≡ true
used_known before d known kind x p k e = sym (k.names x) ∙ by (meaning_of (scope_of d) x) e
  where
    by : (o : Option Meaning) → as_kind kind x o ≡ Ok p → is_some o ≡ true
    by None h = absurd cc
    by (Some m) h = refl

row_known : (before : List StatementForm) (d : DraftForm) (known : List (List ℕ)) (x : List ℕ) (row : List ℕ) → Knows before d known → row_in (scope_of d) x ≡ Ok row → is_among x known ≡ true
row_known before d known x row k e = sym (k.names x) ∙ by (meaning_of (scope_of d) x) e
  where
    by : (o : Option Meaning) → as_row (scope_of d) x o ≡ Ok row → is_some o ≡ true
    by None h = absurd cc
    by (Some m) h = refl

listed_known : (P : List ℕ → Type 0) (place : List ℕ → Resolved ℕ) → ((x : List ℕ) (p : ℕ) → place x ≡ Ok p → P x) → (front : List (List ℕ)) (places : List ℕ) (xs : List (List ℕ)) (all : List ℕ) → listed_from place front places xs ≡ Ok all → All P xs
unfolding listed_from
listed_known P place found front places [] all e = All-nil P
listed_known P place found front places (x ∷ xs) all e =
    let s = then_ok (place x) (λ p. and_then (holds (not (is_among x front)) DuplicateName x) (λ _. listed_from place (front ++ x ∷ []) (places ++ p ∷ []) xs)) all e in
    let t = then_ok (holds (not (is_among x front)) DuplicateName x) (λ _. listed_from place (front ++ x ∷ []) (places ++ s.0 ∷ []) xs) all s.2 in
    All-cons P x xs (found x s.0 s.1) (listed_known P place found (front ++ x ∷ []) (places ++ s.0 ∷ []) xs all t.2)

rows_known : (before : List StatementForm) (d : DraftForm) (known : List (List ℕ)) (front : List ℕ) (xs : List (List ℕ)) (all : List ℕ) → Knows before d known → variables_from (scope_of d) front xs ≡ Ok all → All (λ x. is_among x known ≡ true) xs
unfolding variables_from
rows_known before d known front [] all k e = All-nil (λ x. is_among x known ≡ true)
rows_known before d known front (x ∷ xs) all k e =
    let s = then_ok (row_in (scope_of d) x) (λ row. and_then (holds (not (do_meet row front)) DuplicateName x) (λ _. variables_from (scope_of d) (front ++ row) xs)) all e in
    let t = then_ok (holds (not (do_meet s.0 front)) DuplicateName x) (λ _. variables_from (scope_of d) (front ++ s.0) xs) all s.2 in
    All-cons (λ x. is_among x known ≡ true) x xs (row_known before d known x s.0 k s.1) (rows_known before d known (front ++ s.0) xs all k t.2)

-- names that mean something are known
named_known : (before : List StatementForm) (d : DraftForm) (known xs : List (List ℕ)) → Knows before d known → AreNamed (scope_of d) xs → All (λ x. is_among x known ≡ true) xs
named_known before d known xs k named i e l = sym (k.names (get_or xs i e)) ∙ named i e l

-- ---- names that are apart

pairs_append : (xs ys : List (List ℕ)) → AllPairs (λ a b. a ≢ b) xs → AllPairs (λ a b. a ≢ b) ys → All (λ y. is_among y xs ≡ false) ys → AllPairs (λ a b. a ≢ b) (xs ++ ys)
pairs_append xs ys first second new i j d l h = ⊎_elim inside past (cases_lt j (length xs))
  where
    front : (k : ℕ) → k < length xs → get_or (xs ++ ys) k d ≡ get_or xs k d
    front k g = get_or_append_left xs ys d k g

    back : (k : ℕ) → length xs ≤ k → get_or (xs ++ ys) k d ≡ get_or ys (k - length xs) d
    back k g = get_or-append_right xs ys (length xs) k d refl g

    inside : j < length xs → get_or (xs ++ ys) i d ≢ get_or (xs ++ ys) j d
    inside g same = first i j d l g (sym (front i (omega (arith, l, g))) ∙ same ∙ front j g)

    past : length xs ≤ j → get_or (xs ++ ys) i d ≢ get_or (xs ++ ys) j d
    past g = ⊎_elim across behind (cases_lt i (length xs))
      where
        within : j - length xs < length ys
        within = omega (arith, g, h, length-append xs ys)

        across : i < length xs → get_or (xs ++ ys) i d ≢ get_or (xs ++ ys) j d
        across f same = not_among (get_or ys (j - length xs) d) xs (new (j - length xs) d within) i d f (sym (front i f) ∙ same ∙ back j g)

        behind : length xs ≤ i → get_or (xs ++ ys) i d ≢ get_or (xs ++ ys) j d
        behind f same = second (i - length xs) (j - length xs) d (omega (arith, f, g, l)) within (sym (back i f) ∙ same ∙ back j g)

pairs_cons : (x : List ℕ) (xs : List (List ℕ)) → All (λ y. x ≢ y) xs → AllPairs (λ a b. a ≢ b) xs → AllPairs (λ a b. a ≢ b) (x ∷ xs)
pairs_cons x xs other pairs zero zero d l h = absurd (omega (arith, l))
pairs_cons x xs other pairs zero (suc j) d l h = other j d (omega (arith, h))
pairs_cons x xs other pairs (suc i) zero d l h = absurd (omega (arith, l))
pairs_cons x xs other pairs (suc i) (suc j) d l h = pairs i j d (omega (arith, l)) (omega (arith, h))

-- a joined name is longer than its attribute's
joined_other : (f m : List ℕ) → f ≢ joined_name f m
joined_other f m same = omega (arith, ap length same, length-append f (95 ∷ m))

row_apart : (known : List (List ℕ)) (f : List ℕ) (ms : List (List ℕ)) → AllPairs (λ a b. a ≢ b) ms → is_among f known ≡ false → All (λ x. is_among x known ≡ false) (joined_names f ms) → AllPairs (λ a b. a ≢ b) known → AllPairs (λ a b. a ≢ b) (known ++ f ∷ joined_names f ms)
row_apart known f ms apart new fresh_row before =
    let row = pairs_cons f (joined_names f ms) (All-map (λ y. f ≢ y) (joined_name f) ms (λ k d l. joined_other f (get_or ms k d))) (joined_apart f ms apart) in
    pairs_append known (f ∷ joined_names f ms) before row (All-cons (λ x. is_among x known ≡ false) f (joined_names f ms) new fresh_row)

-- ---- one statement more

-- what a statement that is taken gives: what is known then, still each once, and each name that it uses was known
record Steps (before : List StatementForm) (s : StatementForm) (known : List (List ℕ)) (next : DraftForm) (declares uses : List (List ℕ)) : Type 0 where
  now : Knows (before ++ s ∷ []) next (known ++ declares)
  apart : AllPairs (λ a b. a ≢ b) known → AllPairs (λ a b. a ≢ b) (known ++ declares)
  old : All (λ x. is_among x known ≡ true) uses

-- this draft is what was answered
abbrev Answered : DraftForm → DraftForm → Type 0
Answered a b = ◌≡◌ {A = Resolved DraftForm} (Ok a) (Ok b)

same_next : (a b : DraftForm) → Answered a b → a ≡ b
same_next a b e = cc

all_known : (known : List (List ℕ)) → All (λ x. is_among x known ≡ true) []
all_known known = All-nil (λ x. is_among x known ≡ true)

and_known : (known : List (List ℕ)) (x : List ℕ) (xs : List (List ℕ)) → is_among x known ≡ true → All (λ x. is_among x known ≡ true) xs → All (λ x. is_among x known ≡ true) (x ∷ xs)
and_known known x xs h all = All-cons (λ x. is_among x known ≡ true) x xs h all

used_all : (before : List StatementForm) (d : DraftForm) (known : List (List ℕ)) (kind : Kind) (xs : List (List ℕ)) (ps : List ℕ) → Knows before d known → listed (used (scope_of d) kind) xs ≡ Ok ps → All (λ x. is_among x known ≡ true) xs
used_all before d known kind xs ps k e = listed_known (λ x. is_among x known ≡ true) (used (scope_of d) kind) (λ x p h. used_known before d known kind x p k h) [] [] xs ps e

-- nothing is declared
plain : (before : List StatementForm) (s : StatementForm) (d next after : DraftForm) (known uses : List (List ℕ)) → Untyped s → Knows before d known → Answered after next → Same d after → All (λ x. is_among x known ≡ true) uses → Steps before s known next [] uses
plain before s d next after known uses none k e same old = record {
  now = grows before s d next known [] k (adds_nothing before s d next none (subst (Same d) (same_next after next e) same));
  apart = λ h. subst (AllPairs (λ a b. a ≢ b)) (sym (append-nil known)) h;
  old = old;
}

-- a name that is no variable's is declared, where the formulas of the statement are kept
other : (before : List StatementForm) (s : StatementForm) (d kept next after : DraftForm) (known uses : List (List ℕ)) (e : Declared) → Untyped s → eqb (number_of e.kind) (number_of EntityType) ≡ false → Knows before d known → is_among e.name known ≡ false
    → Same d kept → Answered after next → after.model.names ≡ kept.model.names → after.others ≡ kept.others ++ e ∷ [] → after.model.members ≡ kept.model.members → All (λ x. is_among x known ≡ true) uses → Steps before s known next (e.name ∷ []) uses
other before s d kept next after known uses e none unlike k new same is names others lists old = record {
  now = subst (λ (n : DraftForm). Knows (before ++ s ∷ []) n (known ++ e.name ∷ [])) (same_next after next is)
      (grows before s d after known (e.name ∷ []) k (adds_other before s d after e [] none unlike (names ∙ same.0 ∙ sym (append-nil d.model.names)) (others ∙ ap (λ (os : List Declared). os ++ e ∷ []) same.1) (lists ∙ same.2)));
  apart = pairs_push known e.name (not_among e.name known new);
  old = old;
}

-- the drafts that keep a statement's formulas
one_same : (d : DraftForm) (n : ℕ) (x : List ℕ) (body : RawTree) (p : DraftForm × Ltl) → one_taken d n x body ≡ Ok p → Same d p.0
one_same d n x body p e =
    let a = then_ok (written_in (scope_of d) body) _ p e in
    let b = then_ok (plain_in d x a.0) _ p a.2 in
    let is : keeps d n (a.0 ∷ []) ≡ p.0 = cc in
    subst (Same d) is (refl, refl, refl)

two_same : (d : DraftForm) (n : ℕ) (x : List ℕ) (first second : RawTree) (p : DraftForm × Ltl × Ltl) → two_taken d n x first second ≡ Ok p → Same d p.0
two_same d n x first second p e =
    let a = then_ok (written_in (scope_of d) first) _ p e in
    let b = then_ok (written_in (scope_of d) second) _ p a.2 in
    let c = then_ok (plain_in d x a.0) _ p b.2 in
    let f = then_ok (plain_in d x b.0) _ p c.2 in
    let is : keeps d n (a.0 ∷ b.0 ∷ []) ≡ p.0 = cc in
    subst (Same d) is (refl, refl, refl)

-- the names that a statement's formulas use are known
one_known : (before : List StatementForm) (d : DraftForm) (known : List (List ℕ)) (n : ℕ) (x : List ℕ) (body : RawTree) (p : DraftForm × Ltl) → Knows before d known → one_taken d n x body ≡ Ok p → All (λ x. is_among x known ≡ true) (used_in body)
one_known before d known n x body p k e =
    let a = then_ok (written_in (scope_of d) body) _ p e in
    named_known before d known (used_in body) k (formula_named (scope_of d) body a.0 a.1)

two_known : (before : List StatementForm) (d : DraftForm) (known : List (List ℕ)) (n : ℕ) (x : List ℕ) (first second : RawTree) (p : DraftForm × Ltl × Ltl) → Knows before d known → two_taken d n x first second ≡ Ok p
    → All (λ x. is_among x known ≡ true) (used_in first ++ used_in second)
two_known before d known n x first second p k e =
    let a = then_ok (written_in (scope_of d) first) _ p e in
    let b = then_ok (written_in (scope_of d) second) _ p a.2 in
    let all = All-append (λ x. is_among x known ≡ true) (used_in first) (used_in second) in
    all (named_known before d known (used_in first) k (formula_named (scope_of d) first a.0 a.1)) (named_known before d known (used_in second) k (formula_named (scope_of d) second b.0 b.1))

abbrev entry : List ℕ → Kind → ℕ → Declared
entry x kind place = record { name = x; kind = kind; place = place }

-- an attribute is taken where its row of variables is
row_steps : (before : List StatementForm) (d next : DraftForm) (n : ℕ) (f entity : List ℕ) (r : RangeForm) (known : List (List ℕ)) (e : ℕ) → Knows before d known → is_among f known ≡ false → used (scope_of d) EntityType entity ≡ Ok e
    → row_taken d f e (members_at (scope_of d) e) r ≡ Ok next → Steps before (attribute f entity r) known next (declared_by before (attribute f entity r)) (entity ∷ [])
row_steps before d next n f entity r known e k new found taken =
    let t = k.types entity e found in
    let members : members_at (scope_of d) e ≡ t.0 = get_or_from_slice_get d.model.members e t.0 [] t.1 in
    let said : t.0 ≡ members_by before entity = sym (members_typed before entity ∙ ap (λ o. unwrap_or o []) t.2) in
    subst (λ (ms : List (List ℕ)). Steps before (attribute f entity r) known next (f ∷ joined_names f ms) (entity ∷ [])) said
    (steps t.0 t.3 (subst (λ (ms : List (List ℕ)). row_taken d f e ms r ≡ Ok next) members taken))
  where
    steps : (ms : List (List ℕ)) → AllPairs (λ a b. a ≢ b) ms → row_taken d f e ms r ≡ Ok next → Steps before (attribute f entity r) known next (f ∷ joined_names f ms) (entity ∷ [])
    steps ms apart h =
        let a = then_ok (holds (has_few_values r) BadRange f) _ next h in
        let b = then_ok (holds (not (is_some_long f ms)) LongName f) _ next a.2 in
        let c = then_ok (all_fresh (scope_of d) (joined_names f ms)) _ next b.2 in
        let g = then_ok (holds (nat_le (length d.model.names + length ms) 64) TooManyVars f) _ next c.2 in
        let after = with_attribute d f e ms r in
        record {
          now = subst (λ (n : DraftForm). Knows (before ++ attribute f entity r ∷ []) n (known ++ f ∷ joined_names f ms)) (same_next after next g.2)
              (grows before (attribute f entity r) d after known (f ∷ joined_names f ms) k (adds_other before (attribute f entity r) d after (entry f Attribute (length d.model.attributes)) (joined_names f ms) (λ y. refl) refl refl refl refl));
          apart = row_apart known f ms apart new (new_names before d known (joined_names f ms) c.0 k c.1);
          old = and_known known entity [] (used_known before d known EntityType entity e k found) (all_known known);
        }

steps : (before : List StatementForm) (d next : DraftForm) (n : ℕ) (s : StatementForm) (known : List (List ℕ)) → Knows before d known → taken d n s ≡ Ok next → Steps before s known next (declared_by before s) (used_by s)
steps before d next n (version v) known k e = plain before _ d next (record d { version = v }) known _ (λ y. refl) k e (refl, refl, refl) (all_known known)
steps before d next n (variable x r) known k e =
    let a = then_ok (fresh (scope_of d) x) _ next e in
    let b = then_ok (values_apart r) _ next a.2 in
    let c = then_ok (holds (has_few_values r) BadRange x) _ next b.2 in
    let f = then_ok (holds (nat_lt (length d.model.names) 64) TooManyVars x) _ next c.2 in
    record {
      now = subst (λ (n : DraftForm). Knows (before ++ variable x r ∷ []) n (known ++ x ∷ [])) (same_next (with_variable d x r) next f.2)
          (grows before (variable x r) d (with_variable d x r) known (x ∷ []) k (adds_variable before (variable x r) d (with_variable d x r) x (λ y. refl) refl refl refl));
      apart = pairs_push known x (not_among x known (new_name before d known x a.0 k a.1));
      old = all_known known;
    }
steps before d next n (entity_type x members) known k e =
    let a = then_ok (fresh (scope_of d) x) _ next e in
    let b = then_ok (apart_from [] members) _ next a.2 in
    let c = then_ok (holds (has_few_members members) BadRange x) _ next b.2 in
    record {
      now = grows before (entity_type x members) d next known (x ∷ []) k (adds_type before d next x members (apart_distinct [] members (λ i j d l h. absurd (omega (arith, h))) b.1) (sym (same_next (with_entity_type d x members) next c.2)));
      apart = pairs_push known x (not_among x known (new_name before d known x a.0 k a.1));
      old = all_known known;
    }
steps before d next n (attribute f entity r) known k e =
    let a = then_ok (fresh (scope_of d) f) _ next e in
    let b = then_ok (used (scope_of d) EntityType entity) _ next a.2 in
    let c = then_ok (values_apart r) _ next b.2 in
    row_steps before d next n f entity r known b.0 k (new_name before d known f a.0 k a.1) b.1 c.2
steps before d next n (domain x body) known k e =
    let a = then_ok (fresh (scope_of d) x) _ next e in
    let b = then_ok (one_taken d n x body) _ next a.2 in
    other before _ d b.0.0 next (with_property b.0.0 n x false b.0.1) known _ (entry x Property (length b.0.0.model.domains)) (λ y. refl) refl k (new_name before d known x a.0 k a.1) (one_same d n x body b.0 b.1) b.2 refl refl refl (one_known before d known n x body b.0 k b.1)
steps before d next n (rule x cause effect) known k e =
    let a = then_ok (fresh (scope_of d) x) _ next e in
    let b = then_ok (two_taken d n x cause effect) _ next a.2 in
    other before _ d b.0.0 next (with_property b.0.0 n x true (entails b.0.1 b.0.2)) known _ (entry x Property (length b.0.0.model.domains)) (λ y. refl) refl k (new_name before d known x a.0 k a.1) (two_same d n x cause effect b.0 b.1) b.2 refl refl refl (two_known before d known n x cause effect b.0 k b.1)
steps before d next n (goal x body) known k e =
    let a = then_ok (fresh (scope_of d) x) _ next e in
    let b = then_ok (one_taken d n x body) _ next a.2 in
    other before _ d b.0.0 next (with_goal b.0.0 n x b.0.1) known _ (entry x Goal (length b.0.0.model.goals)) (λ y. refl) refl k (new_name before d known x a.0 k a.1) (one_same d n x body b.0 b.1) b.2 refl refl refl (one_known before d known n x body b.0 k b.1)
steps before d next n (obstacle x body) known k e =
    let a = then_ok (fresh (scope_of d) x) _ next e in
    let b = then_ok (one_taken d n x body) _ next a.2 in
    other before _ d b.0.0 next (with_obstacle b.0.0 n x b.0.1) known _ (entry x Obstacle (length b.0.0.model.obstacles)) (λ y. refl) refl k (new_name before d known x a.0 k a.1) (one_same d n x body b.0 b.1) b.2 refl refl refl (one_known before d known n x body b.0 k b.1)
steps before d next n (refinement x xs pattern) known k e =
    let a = then_ok (used (scope_of d) Goal x) _ next e in
    let b = then_ok (listed (used (scope_of d) Goal) xs) _ next a.2 in
    let c = then_ok (pattern_in pattern) _ next b.2 in
    let f = then_ok (holds (not (closes_cycle d.model.links a.0 b.0)) Cycle x) _ next c.2 in
    plain before _ d next (with_link d (refine n a.0 b.0 c.0)) known _ (λ y. refl) k f.2 (refl, refl, refl) (and_known known x xs (used_known before d known Goal x a.0 k a.1) (used_all before d known Goal xs b.0 k b.1))
steps before d next n (obstruction x xs) known k e =
    let a = then_ok (used (scope_of d) Goal x) _ next e in
    let b = then_ok (listed (used (scope_of d) Obstacle) xs) _ next a.2 in
    plain before _ d next (with_link d (obstruct n a.0 b.0)) known _ (λ y. refl) k b.2 (refl, refl, refl) (and_known known x xs (used_known before d known Goal x a.0 k a.1) (used_all before d known Obstacle xs b.0 k b.1))
steps before d next n (conflict x xs boundary) known k e =
    let a = then_ok (fresh (scope_of d) x) _ next e in
    let b = then_ok (listed (used (scope_of d) Goal) xs) _ next a.2 in
    let c = then_ok (one_taken d n x boundary) _ next b.2 in
    other before _ d c.0.0 next (with_conflict c.0.0 n x b.0 c.0.1) known _ (entry x Conflict (length c.0.0.model.links)) (λ y. refl) refl k (new_name before d known x a.0 k a.1) (one_same d n x boundary c.0 c.1) c.2 refl refl refl (All-append (λ x. is_among x known ≡ true) xs (used_in boundary) (used_all before d known Goal xs b.0 k b.1) (one_known before d known n x boundary c.0 k c.1))
steps before d next n (agent x ms cs) known k e =
    let a = then_ok (fresh (scope_of d) x) _ next e in
    let b = then_ok (variables_in (scope_of d) ms) _ next a.2 in
    let c = then_ok (variables_in (scope_of d) cs) _ next b.2 in
    let f = then_ok (uncontrolled d.model.agents d.model.names c.0) _ next c.2 in
    other before _ d d next (with_agent d x b.0 c.0) known _ (entry x Agent (length d.model.agents)) (λ y. refl) refl k (new_name before d known x a.0 k a.1) (refl, refl, refl) f.2 refl refl refl (All-append (λ x. is_among x known ≡ true) ms cs (rows_known before d known [] ms b.0 k b.1) (rows_known before d known [] cs c.0 k c.1))
steps before d next n (assignment x y) known k e =
    let a = then_ok (used (scope_of d) Goal x) _ next e in
    let b = then_ok (used (scope_of d) Agent y) _ next a.2 in
    plain before _ d next (with_link d (assign n a.0 b.0)) known _ (λ y. refl) k b.2 (refl, refl, refl) (and_known known x (y ∷ []) (used_known before d known Goal x a.0 k a.1) (and_known known y [] (used_known before d known Agent y b.0 k b.1) (all_known known)))
steps before d next n (expectation x y) known k e =
    let a = then_ok (used (scope_of d) Goal x) _ next e in
    let b = then_ok (used (scope_of d) Agent y) _ next a.2 in
    plain before _ d next (with_expected d a.0) known _ (λ y. refl) k b.2 (refl, refl, refl) (and_known known x (y ∷ []) (used_known before d known Goal x a.0 k a.1) (and_known known y [] (used_known before d known Agent y b.0 k b.1) (all_known known)))
steps before d next n (operation x y dompre dompost) known k e =
    let a = then_ok (fresh (scope_of d) x) _ next e in
    let b = then_ok (used (scope_of d) Agent y) _ next a.2 in
    let c = then_ok (two_taken d n x dompre dompost) _ next b.2 in
    let f = then_ok (holds (is_state_of c.0.1 && is_state_of c.0.2) NotState x) _ next c.2 in
    other before _ d c.0.0 next (with_operation c.0.0 x b.0 c.0.1 c.0.2) known _ (entry x Operation (length c.0.0.model.operations)) (λ y. refl) refl k (new_name before d known x a.0 k a.1) (two_same d n x dompre dompost c.0 c.1) f.2 refl refl refl (and_known known y (used_in dompre ++ used_in dompost) (used_known before d known Agent y b.0 k b.1) (two_known before d known n x dompre dompost c.0 k c.1))
steps before d next n (requirement x y role body) known k e =
    let a = then_ok (fresh (scope_of d) x) _ next e in
    let b = then_ok (used (scope_of d) Operation y) _ next a.2 in
    let c = then_ok (one_taken d n x body) _ next b.2 in
    let f = then_ok (holds (is_state_of c.0.1) NotState x) _ next c.2 in
    other before _ d c.0.0 next (with_requirement c.0.0 x b.0 role c.0.1) known _ (entry x Requirement (length c.0.0.model.requirements)) (λ y. refl) refl k (new_name before d known x a.0 k a.1) (one_same d n x body c.0 c.1) f.2 refl refl refl (and_known known y (used_in body) (used_known before d known Operation y b.0 k b.1) (one_known before d known n x body c.0 k c.1))
steps before d next n (operationalisation x xs exact) known k e =
    let a = then_ok (used (scope_of d) Goal x) _ next e in
    let b = then_ok (listed (used (scope_of d) Requirement) xs) _ next a.2 in
    plain before _ d next (with_link d (operationalise n a.0 b.0 exact)) known _ (λ y. refl) k b.2 (refl, refl, refl) (and_known known x xs (used_known before d known Goal x a.0 k a.1) (used_all before d known Requirement xs b.0 k b.1))
steps before d next n (trace x prefix cycle) known k e =
    let a = then_ok (fresh (scope_of d) x) _ next e in
    let b = then_ok (states_in (scope_of d) prefix) _ next a.2 in
    let c = then_ok (states_in (scope_of d) cycle) _ next b.2 in
    let f = then_ok (holds (nat_lt 0 (length c.0)) BadValue x) _ next c.2 in
    other before _ d d next (with_trace d x b.0 c.0) known _ (entry x Trace (length d.model.traces)) (λ y. refl) refl k (new_name before d known x a.0 k a.1) (refl, refl, refl) f.2 refl refl refl (All-append (λ x. is_among x known ≡ true) (set_by prefix) (set_by cycle) (named_known before d known (set_by prefix) k (states_named (scope_of d) prefix b.0 b.1)) (named_known before d known (set_by cycle) k (states_named (scope_of d) cycle c.0 c.1)))

-- ---- all statements

goes_made : (n : ℕ) (o : Resolved DraftForm) (rest : DraftForm → Outcome) (m : ModelForm) → goes_on n o rest ≡ made m → (next : DraftForm) × (o ≡ Ok next) × (rest next ≡ made m)
goes_made n (Ok d) rest m e = (d, refl, e)
goes_made n (Err f) rest m e = absurd cc

walked : (before : List StatementForm) (d : DraftForm) (n : ℕ) (ss : List StatementForm) (known : List (List ℕ)) (m : ModelForm) → Knows before d known → AllPairs (λ a b. a ≢ b) known → outcome_from d n ss ≡ made m → AllPairs (λ a b. a ≢ b) (known ++ all_declared before ss) × UsesDeclared known before ss
unfolding outcome_from
walked before d n [] known m k apart e = (subst (AllPairs (λ a b. a ≢ b)) (sym (append-nil known)) apart, tt)
walked before d n (s ∷ ss) known m k apart e =
    let g = goes_made n (taken d n s) (λ next. outcome_from next (n + 1) ss) m e in
    let t = steps before d g.0 n s known k g.1 in
    let rest = walked (before ++ s ∷ []) g.0 (n + 1) ss (known ++ declared_by before s) m t.now (t.apart apart) g.2 in
    (subst (AllPairs (λ a b. a ≢ b)) (append_assoc known (declared_by before s) (all_declared (before ++ s ∷ []) ss)) rest.0, (t.old, rest.1))

-- before all statements nothing is known
nothing_known : Knows [] no_draft []
nothing_known = record { names = λ x. refl; types = λ x e h. absurd cc; untyped = λ x h. refl }

pub made_once : (ss : List StatementForm) (m : ModelForm) → outcome_of ss ≡ made m → DeclaresApart ss × UsesDeclared [] [] ss
made_once ss m e = walked [] no_draft 1 ss [] m nothing_known (λ i j d l h. absurd (omega (arith, h))) e

pub apart_if_made : (o : Result Model ModelRefusal) (ss : List StatementForm) → AnswersBy (λ m. made (model_of m)) o (outcome_of ss) → IfOk o (λ _. DeclaresApart ss)
apart_if_made (Ok m) ss e = (made_once ss (model_of m) e).0
apart_if_made (Err f) ss e = tt

pub used_if_made : (o : Result Model ModelRefusal) (ss : List StatementForm) → AnswersBy (λ m. made (model_of m)) o (outcome_of ss) → IfOk o (λ _. UsesDeclared [] [] ss)
used_if_made (Ok m) ss e = (made_once ss (model_of m) e).1
used_if_made (Err f) ss e = tt
