-- A written formula that is resolved in a scope fits its types and attributes, its plain formula fits its ranges, and this fits where further
-- variables follow.
use Rattle.std.proofs.Common.{◌≡◌, ℕ, zero, suc, ◌+◌, ◌^◌, ◌<◌, ℤ, pos, ◌+ℤ◌, ◌-ℤ◌, Bool, true, false, if◌then◌else◌, List, [], ◌∷◌, ◌++◌, length, map, set, replicate, Option, Some, None, Ok, Err, refl, sym, ap, subst, ◌∙◌, arith, slice_get, slice_index, slice_index_or, ⊎_elim}
use Rattle.std.specs.Prelude.{◌&&◌, bit_or, All, not}
use Rattle.std.specs.Int.Signed.{le_z}
use Rattle.std.proofs.lemmas.Bool.{and_parts, cases_eq}
use Rattle.std.proofs.lemmas.Nat.{or_lt, pow_below}
use Rattle.std.proofs.lemmas.Option.{none-some, same_Some, slice_get-get_or, slice_get_within, get_or_from_slice_get}
use Rattle.std.proofs.lemmas.List.{length-map, length-append, length-set, length-replicate, get_or-map, map-append, get_or_append_left, get_or-replicate, get_or-set_same, get_or-set_other}
use Rattle.std.proofs.lemmas.List.Elements.{All-push}
use Rattle.state_space.specs.Ranges.{RangeForm, truth_values, named, span, above_zero, size_of, IsGoodRange}
use Rattle.state_space.specs.Fitting.{ValuesFit}
use Rattle.temporal_logic.specs.Ltl.{Relation, Ltl}
use Rattle.temporal_logic.specs.Ltl as ltl
use Rattle.temporal_logic.specs.Fits.{size_at, Fits}
use Rattle.model_text.specs.RawTrees.{WrittenValue, a_word, a_number, a_truth, an_attribute, RawTree}
use Rattle.model_text.specs.RawTrees as raw
use Rattle.model_text.specs.Statements.{Setting}
use Rattle.entity_types.specs.declared.written.Opening.{Opening}
use Rattle.entity_types.specs.declared.written.Opening.TheVariants.{Not, Next, Eventually, Always, EventuallyWithin, AlwaysWithin}
use Rattle.entity_types.specs.declared.written.Joining.{Joining}
use Rattle.entity_types.specs.declared.written.Joining.TheVariants.{And, Or, Implies, Iff, Entails, Until, Unless, Release, UntilWithin, UnlessWithin, ReleaseWithin}
use Rattle.entity_types.specs.WrittenTrees.{TermForm, plain, of_member, of_bound, AtomForm, WrittenTree, atom, opening, joining}
use Rattle.entity_types.specs.WrittenTrees as trees
use Rattle.entity_types.specs.Operators.{opened, joined}
use Rattle.entity_types.specs.Rows.{count_of}
use Rattle.entity_types.specs.Fits.{TermFits, AtomFits, Fits as WrittenFits, AtomIsThere, IsThere}
use Rattle.entity_types.specs.WrittenTruth.{named_by, plain_atom}
use Rattle.entity_types.specs.Grounding.{grouped, over, ground_of}
use Rattle.entity_types.proofs.Choices.{whole_there}
use Rattle.goal_model.specs.declared.refusal.RefusalKind.TheVariants.{BadValue, DuplicateName}
use Rattle.goal_model.specs.declared.namespace.Kind.TheVariants.{EntityType}
use Rattle.goal_model.specs.Names.{is_among}
use Rattle.goal_model.specs.Refusals.{Resolved, and_then, holds}
use Rattle.goal_model.specs.ValueIndexes.{index_in, index_of, set_with, is_same_range}
use Rattle.goal_model.specs.Scopes.{ScopeForm, rows_in, range_at, variable_in, used, fresh_bound, binds}
use Rattle.goal_model.specs.Terms.{term_in, range_of}
use Rattle.goal_model.specs.Formulas.{flag_in, related_in, compared_with, compared_in, among_in, one_in, both_in, each_in, written_in, plain_of}
use Rattle.goal_model.specs.WholeScopes.{IsScope}
use Rattle.goal_model.specs.States.{set_from, state_in, states_from}
use Rattle.goal_model.proofs.SameRanges.{same_range_tested}
use Rattle.goal_model.proofs.Found.{then_ok, same_ok, picked, was_there, place_inside, variable_inside}
use Rattle.goal_model.proofs.Scoped.{binds_scope}
use Rattle.goal_model.proofs.ScopedTerms.{outside, bound_types, TermIsOver, type_found, term_found, outer_range, range_good, count_is, named_over}

some_chosen : {A : Type 0} (b : Bool) (o : Option A) (y : A) → (if b then o else None) ≡ Some y → (b ≡ true) × (o ≡ Some y)
some_chosen true o y e = (refl, e)
some_chosen false o y e = absurd (none-some y e)

-- the size of a variable's range
pub size_at_is : (rs : List RangeForm) (k : ℕ) → k < length rs → size_at rs k ≡ size_of (slice_index_or rs k truth_values)
size_at_is rs k l = get_or-map size_of rs k truth_values 0 l

-- ---- values

above_zero_less : (a b c : ℤ) → le_z a b ≡ true → le_z b c ≡ true → above_zero (b -ℤ a) < above_zero ((c +ℤ pos 1) -ℤ a)
above_zero_less a b c low high = grind arith

pub index_inside : (r : RangeForm) (v : WrittenValue) (i : ℕ) → IsGoodRange r → index_in r v ≡ Some i → i < size_of r
index_inside truth_values (a_truth false) i good e = subst (λ k. k < 2) (same_Some 0 i e) (omega arith)
index_inside truth_values (a_truth true) i good e = subst (λ k. k < 2) (same_Some 1 i e) (omega arith)
index_inside truth_values (a_word x) i good e = absurd (none-some i e)
index_inside truth_values (a_number n) i good e = absurd (none-some i e)
index_inside truth_values (an_attribute f x) i good e = absurd (none-some i e)
index_inside (named xs) (a_word x) i good e = place_inside x xs i e
index_inside (named xs) (a_number n) i good e = absurd (none-some i e)
index_inside (named xs) (a_truth b) i good e = absurd (none-some i e)
index_inside (named xs) (an_attribute f x) i good e = absurd (none-some i e)
index_inside (span low high) (a_number n) i good e =
    let chosen = some_chosen (le_z low n && le_z n high) (Some (above_zero (n -ℤ low))) i e in
    let both = and_parts (le_z low n) (le_z n high) chosen.0 in
    subst (λ k. k < size_of (span low high)) (same_Some (above_zero (n -ℤ low)) i chosen.1) (above_zero_less low n high both.0 both.1)
index_inside (span low high) (a_word x) i good e = absurd (none-some i e)
index_inside (span low high) (a_truth b) i good e = absurd (none-some i e)
index_inside (span low high) (an_attribute f x) i good e = absurd (none-some i e)

pub set_inside : (x : List ℕ) (r : RangeForm) (set : ℕ) (vs : List WrittenValue) (all : ℕ) → IsGoodRange r → set < 2 ^ size_of r → set_with x r set vs ≡ Ok all → all < 2 ^ size_of r
unfolding set_with
set_inside x r set [] all good l e = let same : set ≡ all = cc in subst (λ k. k < 2 ^ size_of r) same l
set_inside x r set (v ∷ vs) all good l e =
    let s = then_ok (index_of x r v) (λ i. set_with x r (bit_or set (2 ^ i)) vs) all e in
    set_inside x r (bit_or set (2 ^ s.0)) vs all good (or_lt (size_of r) set (2 ^ s.0) l (pow_below s.0 (size_of r) (index_inside r v s.0 good (was_there (index_in r v) BadValue x s.0 s.1)))) s.2

range_inside : (s : ScopeForm) (x : List ℕ) (k : ℕ) → IsScope s → variable_in s x ≡ Ok k → k < length s.ranges
range_inside s x k good e = subst (λ n. k < n) (sym good.count) (variable_inside s x k e)

-- ---- what is resolved in a scope

-- under quantifiers over these types, each term of the atom is there, and each value is of its term's range
abbrev AtomIsOver : ScopeForm → (types : List ℕ) → AtomForm → Type 0
AtomIsOver s types trees.truth = Unit {0}
AtomIsOver s types trees.falsity = Unit {0}
AtomIsOver s types (trees.flag t) = TermIsOver s types t × (range_of s t ≡ truth_values)
AtomIsOver s types (trees.compares t r v) = TermIsOver s types t × (v < size_of (range_of s t))
AtomIsOver s types (trees.among t set) = TermIsOver s types t × (set < 2 ^ size_of (range_of s t))
AtomIsOver s types (trees.relates t r u) = TermIsOver s types t × TermIsOver s types u

-- the same of each atom, and each type is there
abbrev IsOver : ScopeForm → (types : List ℕ) → WrittenTree → Type 0
IsOver s types (atom a) = AtomIsOver s types a
IsOver s types (opening o a) = IsOver s types a
IsOver s types (joining j a b) = IsOver s types a × IsOver s types b
IsOver s types (trees.all entity a) = (entity < length s.members) × IsOver s (types ++ entity ∷ []) a
IsOver s types (trees.exists entity a) = (entity < length s.members) × IsOver s (types ++ entity ∷ []) a

-- under the quantifiers of a scope
abbrev IsIn : ScopeForm → WrittenTree → Type 0
IsIn s w = IsOver (outside s) (bound_types s) w

abbrev IsTermIn : ScopeForm → TermForm → Type 0
IsTermIn s t = TermIsOver (outside s) (bound_types s) t

-- ---- atoms

flag_over : (s : ScopeForm) (x : List ℕ) (t : TermForm) (w : WrittenTree) → IsTermIn s t → flag_in s x t ≡ Ok w → IsIn s w
flag_over s x t w there e =
    let c = picked (is_same_range (range_of s t) truth_values) (atom (trees.flag t)) w BadValue x e in
    subst (IsIn s) c.1 (there, outer_range s t ∙ same_range_tested (range_of s t) truth_values c.0)

related_over : (s : ScopeForm) (x : List ℕ) (t : TermForm) (r : Relation) (u : TermForm) (w : WrittenTree) → IsTermIn s t → IsTermIn s u → related_in s x t r u ≡ Ok w → IsIn s w
related_over s x t r u w there also e =
    let c = picked (is_same_range (range_of s t) (range_of s u)) (atom (trees.relates t r u)) w BadValue x e in
    subst (IsIn s) c.1 (there, also)

compared_over : (s : ScopeForm) (x : List ℕ) (t : TermForm) (r : Relation) (v : WrittenValue) (o : Option ℕ) (w : WrittenTree) → IsScope s → IsTermIn s t → ((i : ℕ) → o ≡ Some i → i < size_of (range_of (outside s) t)) → compared_with s x t r v o ≡ Ok w → IsIn s w
compared_over s x t r v (Some i) w good there below e = let same : atom (trees.compares t r i) ≡ w = cc in subst (IsIn s) same (there, below i refl)
compared_over s x t r (a_word y) None w good there below e =
    let u = then_ok (variable_in s y) (λ k. related_in s x t r (plain k)) w e in
    related_over s x t r (plain u.0) w there (variable_inside s y u.0 u.1) u.2
compared_over s x t r (an_attribute f y) None w good there below e =
    let u = then_ok (term_in s f y) (related_in s x t r) w e in
    related_over s x t r u.0 w there (term_found s good f y u.0 u.1) u.2
compared_over s x t r (a_number n) None w good there below e = absurd cc
compared_over s x t r (a_truth b) None w good there below e = absurd cc

comparison_over : (s : ScopeForm) (x : List ℕ) (t : TermForm) (r : Relation) (v : WrittenValue) (w : WrittenTree) → IsScope s → IsTermIn s t → compared_in s x t r v ≡ Ok w → IsIn s w
comparison_over s x t r v w good there e =
    compared_over s x t r v (index_in (range_of s t) v) w good there
    (λ i h. subst (λ q. i < size_of q) (sym (outer_range s t)) (index_inside (range_of s t) v i (range_good s good (bound_types s) t there) h)) e

among_over : (s : ScopeForm) (x : List ℕ) (t : TermForm) (vs : List WrittenValue) (w : WrittenTree) → IsScope s → IsTermIn s t → among_in s x t vs ≡ Ok w → IsIn s w
among_over s x t vs w good there e =
    let good_range = range_good s good (bound_types s) t there in
    let m = then_ok (set_with x (range_of s t) 0 vs) (λ set. Ok (atom (trees.among t set))) w e in
    let same : atom (trees.among t m.0) ≡ w = same_ok (atom (trees.among t m.0)) w m.2 in
    let within : m.0 < 2 ^ size_of (range_of s t) = set_inside x (range_of s t) 0 vs m.0 good_range (omega (arith, pow_below 0 (size_of (range_of s t)) good_range.some)) m.1 in
    subst (IsIn s) same (there, subst (λ q. m.0 < 2 ^ size_of q) (sym (outer_range s t)) within)

-- ---- formulas

one_over : (s : ScopeForm) (o : Opening) (a : Resolved WrittenTree) (w : WrittenTree) → ((f : WrittenTree) → a ≡ Ok f → IsIn s f) → one_in o a ≡ Ok w → IsIn s w
one_over s o (Ok f) w is e = let same : opening o f ≡ w = cc in subst (IsIn s) same (is f refl)
one_over s o (Err x) w is e = absurd cc

both_over : (s : ScopeForm) (j : Joining) (a b : Resolved WrittenTree) (w : WrittenTree) → ((f : WrittenTree) → a ≡ Ok f → IsIn s f) → ((f : WrittenTree) → b ≡ Ok f → IsIn s f) → both_in j a b ≡ Ok w → IsIn s w
both_over s j (Ok f) (Ok g) w first second e = let same : joining j f g ≡ w = cc in subst (IsIn s) same (first f refl, second g refl)
both_over s j (Ok f) (Err x) w first second e = absurd cc
both_over s j (Err x) b w first second e = absurd cc

each_over : (s : ScopeForm) (x entity : List ℕ) (made : ℕ → WrittenTree → WrittenTree) (body : ScopeForm → Resolved WrittenTree) (w : WrittenTree) → IsScope s
    → ((e : ℕ) (f : WrittenTree) → e < length s.members → IsOver (outside s) (bound_types s ++ e ∷ []) f → IsIn s (made e f))
    → ((e : ℕ) (f : WrittenTree) → body (binds s x e) ≡ Ok f → IsIn (binds s x e) f) → each_in s x entity made body ≡ Ok w → IsIn s w
each_over s x entity made body w good whole inner e =
    let a = then_ok (fresh_bound s x) (λ _. and_then (used s EntityType entity) (λ n. and_then (body (binds s x n)) (λ f. Ok (made n f)))) w e in
    let b = then_ok (used s EntityType entity) (λ n. and_then (body (binds s x n)) (λ f. Ok (made n f))) w a.2 in
    let c = then_ok (body (binds s x b.0)) (λ f. Ok (made b.0 f)) w b.2 in
    let same : made b.0 c.0 ≡ w = same_ok (made b.0 c.0) w c.2 in
    let around : bound_types (binds s x b.0) ≡ bound_types s ++ b.0 ∷ [] = map-append (λ n. n.entity) s.bound ((record { name = x; entity = b.0 }) ∷ []) in
    subst (IsIn s) same (whole b.0 c.0 (type_found s good entity b.0 b.1) (subst (λ types. IsOver (outside s) types c.0) around (inner b.0 c.0 c.1)))

written_over : (s : ScopeForm) → IsScope s → (f : RawTree) (w : WrittenTree) → written_in s f ≡ Ok w → IsIn s w
written_over s good raw.truth w e = let same : atom trees.truth ≡ w = cc in subst (IsIn s) same tt
written_over s good raw.falsity w e = let same : atom trees.falsity ≡ w = cc in subst (IsIn s) same tt
written_over s good (raw.bare x) w e =
    let t = then_ok (variable_in s x) (λ k. flag_in s x (plain k)) w e in
    flag_over s x (plain t.0) w (variable_inside s x t.0 t.1) t.2
written_over s good (raw.compares x r v) w e =
    let t = then_ok (variable_in s x) (λ k. compared_in s x (plain k) r v) w e in
    comparison_over s x (plain t.0) r v w good (variable_inside s x t.0 t.1) t.2
written_over s good (raw.among x vs) w e =
    let t = then_ok (variable_in s x) (λ k. among_in s x (plain k) vs) w e in
    among_over s x (plain t.0) vs w good (variable_inside s x t.0 t.1) t.2
written_over s good (raw.bare_of f y) w e =
    let t = then_ok (term_in s f y) (flag_in s f) w e in
    flag_over s f t.0 w (term_found s good f y t.0 t.1) t.2
written_over s good (raw.compares_of f y r v) w e =
    let t = then_ok (term_in s f y) (λ t. compared_in s f t r v) w e in
    comparison_over s f t.0 r v w good (term_found s good f y t.0 t.1) t.2
written_over s good (raw.among_of f y vs) w e =
    let t = then_ok (term_in s f y) (λ t. among_in s f t vs) w e in
    among_over s f t.0 vs w good (term_found s good f y t.0 t.1) t.2
written_over s good (raw.neg a) w e = one_over s Not (written_in s a) w (λ g h. written_over s good a g h) e
written_over s good (raw.next a) w e = one_over s Next (written_in s a) w (λ g h. written_over s good a g h) e
written_over s good (raw.eventually a) w e = one_over s Eventually (written_in s a) w (λ g h. written_over s good a g h) e
written_over s good (raw.always a) w e = one_over s Always (written_in s a) w (λ g h. written_over s good a g h) e
written_over s good (raw.eventually_within d a) w e = one_over s (EventuallyWithin d) (written_in s a) w (λ g h. written_over s good a g h) e
written_over s good (raw.always_within d a) w e = one_over s (AlwaysWithin d) (written_in s a) w (λ g h. written_over s good a g h) e
written_over s good (raw.conj a b) w e = both_over s And (written_in s a) (written_in s b) w (λ g h. written_over s good a g h) (λ g h. written_over s good b g h) e
written_over s good (raw.disj a b) w e = both_over s Or (written_in s a) (written_in s b) w (λ g h. written_over s good a g h) (λ g h. written_over s good b g h) e
written_over s good (raw.implies a b) w e = both_over s Implies (written_in s a) (written_in s b) w (λ g h. written_over s good a g h) (λ g h. written_over s good b g h) e
written_over s good (raw.iff a b) w e = both_over s Iff (written_in s a) (written_in s b) w (λ g h. written_over s good a g h) (λ g h. written_over s good b g h) e
written_over s good (raw.entails a b) w e = both_over s Entails (written_in s a) (written_in s b) w (λ g h. written_over s good a g h) (λ g h. written_over s good b g h) e
written_over s good (raw.until a b) w e = both_over s Until (written_in s a) (written_in s b) w (λ g h. written_over s good a g h) (λ g h. written_over s good b g h) e
written_over s good (raw.unless a b) w e = both_over s Unless (written_in s a) (written_in s b) w (λ g h. written_over s good a g h) (λ g h. written_over s good b g h) e
written_over s good (raw.release a b) w e = both_over s Release (written_in s a) (written_in s b) w (λ g h. written_over s good a g h) (λ g h. written_over s good b g h) e
written_over s good (raw.until_within d a b) w e = both_over s (UntilWithin d) (written_in s a) (written_in s b) w (λ g h. written_over s good a g h) (λ g h. written_over s good b g h) e
written_over s good (raw.unless_within d a b) w e = both_over s (UnlessWithin d) (written_in s a) (written_in s b) w (λ g h. written_over s good a g h) (λ g h. written_over s good b g h) e
written_over s good (raw.release_within d a b) w e = both_over s (ReleaseWithin d) (written_in s a) (written_in s b) w (λ g h. written_over s good a g h) (λ g h. written_over s good b g h) e
written_over s good (raw.for_all x entity a) w e = each_over s x entity trees.all (λ inner. written_in inner a) w good (λ n f l h. (l, h)) (λ n f h. written_over (binds s x n) (binds_scope s x n good) a f h) e
written_over s good (raw.for_some x entity a) w e = each_over s x entity trees.exists (λ inner. written_in inner a) w good (λ n f l h. (l, h)) (λ n f h. written_over (binds s x n) (binds_scope s x n good) a f h) e

-- ---- types and attributes

module _ (s : ScopeForm) (good : IsScope s) where
  term_fits : (types : List ℕ) (t : TermForm) → TermIsOver (outside s) types t → TermFits (rows_in s) types t
  term_fits types (plain x) h = tt
  term_fits types (of_member a m) h = (omega (arith, h.0, length-map s.attributes (λ t. t.entity)), omega (arith, h.1, count_is s good a h.0))
  term_fits types (of_bound a level) h = (omega (arith, h.0, length-map s.attributes (λ t. t.entity)), h.1)

  atom_fits : (types : List ℕ) (a : AtomForm) → AtomIsOver (outside s) types a → AtomFits (rows_in s) types a
  atom_fits types trees.truth h = tt
  atom_fits types trees.falsity h = tt
  atom_fits types (trees.flag t) h = term_fits types t h.0
  atom_fits types (trees.compares t r v) h = term_fits types t h.0
  atom_fits types (trees.among t set) h = term_fits types t h.0
  atom_fits types (trees.relates t r u) h = (term_fits types t h.0, term_fits types u h.1)

  over_fits : (types : List ℕ) (w : WrittenTree) → IsOver (outside s) types w → WrittenFits (rows_in s) types w
  over_fits types (atom a) h = atom_fits types a h
  over_fits types (opening o a) h = over_fits types a h
  over_fits types (joining j a b) h = (over_fits types a h.0, over_fits types b h.1)
  over_fits types (trees.all entity a) h = (omega (arith, h.0, length-map s.members (λ xs. length xs)), over_fits (types ++ entity ∷ []) a h.1)
  over_fits types (trees.exists entity a) h = (omega (arith, h.0, length-map s.members (λ xs. length xs)), over_fits (types ++ entity ∷ []) a h.1)

pub written_fits : (s : ScopeForm) → IsScope s → (f : RawTree) (w : WrittenTree) → written_in s f ≡ Ok w → WrittenFits (rows_in s) (map (λ b. b.entity) s.bound) w
written_fits s good f w e = over_fits s good (bound_types s) w (written_over s good f w e)

-- ---- plain formulas

opened_fits : (rs : List RangeForm) (o : Opening) (f : Ltl) → Fits rs f → Fits rs (opened o f)
opened_fits rs Not f h = h
opened_fits rs Next f h = h
opened_fits rs Eventually f h = h
opened_fits rs Always f h = h
opened_fits rs (EventuallyWithin d) f h = h
opened_fits rs (AlwaysWithin d) f h = h

joined_fits : (rs : List RangeForm) (j : Joining) (f g : Ltl) → Fits rs f → Fits rs g → Fits rs (joined j f g)
joined_fits rs And f g h k = (h, k)
joined_fits rs Or f g h k = (h, k)
joined_fits rs Implies f g h k = (h, k)
joined_fits rs Iff f g h k = (h, k)
joined_fits rs Entails f g h k = (h, k)
joined_fits rs Until f g h k = (h, k)
joined_fits rs Unless f g h k = (h, k)
joined_fits rs Release f g h k = (h, k)
joined_fits rs (UntilWithin d) f g h k = (h, k)
joined_fits rs (UnlessWithin d) f g h k = (h, k)
joined_fits rs (ReleaseWithin d) f g h k = (h, k)

grouped_fits : (rs : List RangeForm) (make : Ltl → Ltl → Ltl) (f : ℕ → Ltl) (n : ℕ) → ((a b : Ltl) → Fits rs a → Fits rs b → Fits rs (make a b)) → ((m : ℕ) → m < n + 1 → Fits rs (f m)) → Fits rs (grouped make f n)
grouped_fits rs make f zero both each = each 0 (omega arith)
grouped_fits rs make f (suc n) both each = both (grouped make f n) (f (n + 1)) (grouped_fits rs make f n both (λ m l. each m (omega (arith, l)))) (each (n + 1) (omega arith))

members_fit : (rs : List RangeForm) (make : Ltl → Ltl → Ltl) (f : ℕ → Ltl) (n : ℕ) → ((a b : Ltl) → Fits rs a → Fits rs b → Fits rs (make a b)) → 0 < n → ((m : ℕ) → m < n → Fits rs (f m)) → Fits rs (over make f n)
members_fit rs make f zero both some each = absurd (omega (arith, some))
members_fit rs make f (suc n) both some each = grouped_fits rs make f n both (λ m l. each m (omega (arith, l)))

module _ (s : ScopeForm) (good : IsScope s) where
  type_has_members : (entity : ℕ) → entity < length s.members → 0 < count_of (rows_in s) entity
  type_has_members entity l = omega (arith, (good.members entity [] l).0, get_or-map (λ xs. length xs) s.members entity [] 0 l)

  -- the size of a variable that a term names
  named_size : (t : TermForm) (x : ℕ) → x < length s.ranges → range_at s x ≡ range_of s t → size_at s.ranges x ≡ size_of (range_of (outside s) t)
  named_size t x l is = size_at_is s.ranges x l ∙ ap size_of (is ∙ sym (outer_range s t))

  plain_atom_fits : (types choice : List ℕ) (a : AtomForm) → AtomIsOver (outside s) types a → AtomIsThere (rows_in s) choice a → Fits s.ranges (plain_atom (rows_in s) choice a)
  plain_atom_fits types choice trees.truth h there = tt
  plain_atom_fits types choice trees.falsity h there = tt
  plain_atom_fits types choice (trees.flag t) h there =
      let n = named_over s good types choice t h.0 there in
      slice_get-get_or s.ranges (named_by (rows_in s) choice t) truth_values n.0 ∙ ap Some (n.1 ∙ sym (outer_range s t) ∙ h.1)
  plain_atom_fits types choice (trees.compares t r v) h there =
      let n = named_over s good types choice t h.0 there in
      (n.0, subst (λ k. v < k) (sym (named_size t (named_by (rows_in s) choice t) n.0 n.1)) h.1)
  plain_atom_fits types choice (trees.among t set) h there =
      let n = named_over s good types choice t h.0 there in
      (n.0, subst (λ k. set < 2 ^ k) (sym (named_size t (named_by (rows_in s) choice t) n.0 n.1)) h.1)
  plain_atom_fits types choice (trees.relates t r u) h there = ((named_over s good types choice t h.0 there.0).0, (named_over s good types choice u h.1 there.1).0)

  plain_over : (types choice : List ℕ) (w : WrittenTree) → IsOver (outside s) types w → IsThere (rows_in s) choice w → Fits s.ranges (ground_of (rows_in s) choice w)
  plain_over types choice (atom a) h there = plain_atom_fits types choice a h there
  plain_over types choice (opening o a) h there = opened_fits s.ranges o (ground_of (rows_in s) choice a) (plain_over types choice a h there)
  plain_over types choice (joining j a b) h there =
      joined_fits s.ranges j (ground_of (rows_in s) choice a) (ground_of (rows_in s) choice b) (plain_over types choice a h.0 there.0) (plain_over types choice b h.1 there.1)
  plain_over types choice (trees.all entity a) h there =
      members_fit s.ranges ltl.conj (λ m. ground_of (rows_in s) (choice ++ m ∷ []) a) (count_of (rows_in s) entity) (λ f g k l. (k, l)) (type_has_members entity h.0)
      (λ m l. plain_over (types ++ entity ∷ []) (choice ++ m ∷ []) a h.1 (there.1 m l))
  plain_over types choice (trees.exists entity a) h there =
      members_fit s.ranges ltl.disj (λ m. ground_of (rows_in s) (choice ++ m ∷ []) a) (count_of (rows_in s) entity) (λ f g k l. (k, l)) (type_has_members entity h.0)
      (λ m l. plain_over (types ++ entity ∷ []) (choice ++ m ∷ []) a h.1 (there.1 m l))

pub plain_fits : (s : ScopeForm) → IsScope s → s.bound ≡ [] → (f : RawTree) (w : WrittenTree) → written_in s f ≡ Ok w → Fits s.ranges (plain_of s w)
plain_fits s good none f w e =
    let is : IsOver (outside s) [] w = subst (λ bound. IsOver (outside s) (map (λ b. b.entity) bound) w) none (written_over s good f w e) in
    plain_over s good [] [] w is (whole_there (rows_in s) w (over_fits s good [] w is))

-- ---- states

good_size : (rs : List RangeForm) (x : ℕ) → All IsGoodRange rs → x < length rs → 0 < slice_index (map size_of rs) x
good_size rs x good l = subst (λ n. 0 < n) (sym (size_at_is rs x l)) (good x truth_values l).some

set_fits : (sizes row : List ℕ) (k i : ℕ) → k < length sizes → i < slice_index sizes k → ValuesFit sizes row → ValuesFit sizes (set row k i)
set_fits sizes row k i l below fit = (
  length-set row k i ∙ fit.0,
  λ x inside. ⊎_elim
      (λ same. subst (λ j. slice_index (set row k i) j < slice_index sizes j) (sym same) (subst (λ n. n < slice_index sizes k) (sym (get_or-set_same row k i 0 (omega (arith, l, fit.0)))) below))
      (λ other. subst (λ n. n < slice_index sizes x) (sym (get_or-set_other row k x i 0 other)) (fit.1 x inside)) (cases_eq x k),
)

set_from_fits : (s : ScopeForm) → IsScope s → (front : List (List ℕ)) (row : List ℕ) (ts : List Setting) (all : List ℕ) → ValuesFit (map size_of s.ranges) row → set_from s front row ts ≡ Ok all → ValuesFit (map size_of s.ranges) all
unfolding set_from
set_from_fits s good front row [] all fit e = let same : row ≡ all = cc in subst (ValuesFit (map size_of s.ranges)) same fit
set_from_fits s good front row (t ∷ ts) all fit e =
    let v = then_ok (variable_in s t.variable) (λ k. and_then (holds (not (is_among t.variable front)) DuplicateName t.variable) (λ _. and_then (index_of t.variable (range_at s k) t.value) (λ i. set_from s (front ++ t.variable ∷ []) (set row k i) ts))) all e in
    let h = then_ok (holds (not (is_among t.variable front)) DuplicateName t.variable) (λ _. and_then (index_of t.variable (range_at s v.0) t.value) (λ i. set_from s (front ++ t.variable ∷ []) (set row v.0 i) ts)) all v.2 in
    let i = then_ok (index_of t.variable (range_at s v.0) t.value) (λ i. set_from s (front ++ t.variable ∷ []) (set row v.0 i) ts) all h.2 in
    let inside = range_inside s t.variable v.0 good v.1 in
    let below : i.0 < slice_index (map size_of s.ranges) v.0 = subst (λ n. i.0 < n) (sym (size_at_is s.ranges v.0 inside)) (index_inside (range_at s v.0) t.value i.0 (good.ranges v.0 truth_values inside) (was_there (index_in (range_at s v.0) t.value) BadValue t.variable i.0 i.1)) in
    set_from_fits s good (front ++ t.variable ∷ []) (set row v.0 i.0) ts all (set_fits (map size_of s.ranges) row v.0 i.0 (rw (length-map s.ranges size_of) inside) below fit) i.2

none_set_fits : (s : ScopeForm) → IsScope s → ValuesFit (map size_of s.ranges) (replicate (length s.names) 0)
none_set_fits s good = (
  length-replicate (length s.names) 0 ∙ sym good.count ∙ sym (length-map s.ranges size_of),
  λ x l.
      let inside : x < length s.ranges = rw (length-map s.ranges size_of) at l in
      subst (λ n. n < slice_index (map size_of s.ranges) x) (sym (get_or-replicate (length s.names) x 0 0 (omega (arith, inside, good.count)))) (good_size s.ranges x good.ranges inside),
)

pub states_fit : (s : ScopeForm) → IsScope s → (rows : List (List ℕ)) (ts : List (List Setting)) (all : List (List ℕ)) → All (ValuesFit (map size_of s.ranges)) rows → states_from s rows ts ≡ Ok all → All (ValuesFit (map size_of s.ranges)) all
unfolding states_from
states_fit s good rows [] all fit e = let same : rows ≡ all = cc in subst (All (ValuesFit (map size_of s.ranges))) same fit
states_fit s good rows (t ∷ ts) all fit e =
    let r = then_ok (state_in s t) (λ row. states_from s (rows ++ row ∷ []) ts) all e in
    states_fit s good (rows ++ r.0 ∷ []) ts all (All-push (ValuesFit (map size_of s.ranges)) rows r.0 fit (set_from_fits s good [] (replicate (length s.names) 0) t r.0 (none_set_fits s good) r.1)) r.2

-- ---- further variables

same_size : (rs more : List RangeForm) (x : ℕ) → x < length rs → size_at (rs ++ more) x ≡ size_at rs x
same_size rs more x l =
    let l' : x < length (map size_of rs) = rw (length-map rs size_of) l in
    ap (λ (ns : List ℕ). slice_index ns x) (map-append size_of rs more) ∙ get_or_append_left (map size_of rs) (map size_of more) 0 x l'

still_inside : (rs more : List RangeForm) (x : ℕ) → x < length rs → x < length (rs ++ more)
still_inside rs more x l = omega (arith, length-append rs more, l)

flag_more : (rs more : List RangeForm) (x : ℕ) → slice_get rs x ≡ Some truth_values → slice_get (rs ++ more) x ≡ Some truth_values
flag_more rs more x e =
    let l : x < length rs = slice_get_within rs x truth_values e in
    slice_get-get_or (rs ++ more) x truth_values (still_inside rs more x l)
    ∙ ap Some (get_or_append_left rs more truth_values x l ∙ get_or_from_slice_get rs x truth_values truth_values e)

pub fits_more : (rs more : List RangeForm) (f : Ltl) → Fits rs f → Fits (rs ++ more) f
fits_more rs more ltl.truth h = tt
fits_more rs more ltl.falsity h = tt
fits_more rs more (ltl.flag x) h = flag_more rs more x h
fits_more rs more (ltl.compares x o v) h = (still_inside rs more x h.0, subst (λ n. v < n) (sym (same_size rs more x h.0)) h.1)
fits_more rs more (ltl.among x set) h = (still_inside rs more x h.0, subst (λ n. set < 2 ^ n) (sym (same_size rs more x h.0)) h.1)
fits_more rs more (ltl.relates x o y) h = (still_inside rs more x h.0, still_inside rs more y h.1)
fits_more rs more (ltl.neg a) h = fits_more rs more a h
fits_more rs more (ltl.next a) h = fits_more rs more a h
fits_more rs more (ltl.eventually a) h = fits_more rs more a h
fits_more rs more (ltl.always a) h = fits_more rs more a h
fits_more rs more (ltl.eventually_within d a) h = fits_more rs more a h
fits_more rs more (ltl.always_within d a) h = fits_more rs more a h
fits_more rs more (ltl.conj a b) h = (fits_more rs more a h.0, fits_more rs more b h.1)
fits_more rs more (ltl.disj a b) h = (fits_more rs more a h.0, fits_more rs more b h.1)
fits_more rs more (ltl.implies a b) h = (fits_more rs more a h.0, fits_more rs more b h.1)
fits_more rs more (ltl.iff a b) h = (fits_more rs more a h.0, fits_more rs more b h.1)
fits_more rs more (ltl.entails a b) h = (fits_more rs more a h.0, fits_more rs more b h.1)
fits_more rs more (ltl.until a b) h = (fits_more rs more a h.0, fits_more rs more b h.1)
fits_more rs more (ltl.unless a b) h = (fits_more rs more a h.0, fits_more rs more b h.1)
fits_more rs more (ltl.release a b) h = (fits_more rs more a h.0, fits_more rs more b h.1)
fits_more rs more (ltl.until_within d a b) h = (fits_more rs more a h.0, fits_more rs more b h.1)
fits_more rs more (ltl.unless_within d a b) h = (fits_more rs more a h.0, fits_more rs more b h.1)
fits_more rs more (ltl.release_within d a b) h = (fits_more rs more a h.0, fits_more rs more b h.1)
