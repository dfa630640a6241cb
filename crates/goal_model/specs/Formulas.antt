-- Which formula over terms a written formula is, or the first fault from left to right; and the plain formula of that.
use Rattle.std.specs.Prelude.{ℕ, List, [], Option, Some, None, Ok, nat_le, Bool, if◌then◌else◌}
use Rattle.state_space.specs.Ranges.{truth_values}
use Rattle.temporal_logic.specs.Ltl.{Relation, Ltl}
use Rattle.model_text.specs.RawTrees.{WrittenValue, a_word, an_attribute, RawTree, truth, falsity, bare, compares, among, bare_of, compares_of, among_of, neg, next, eventually, always, eventually_within, always_within, conj, disj, implies, iff, entails, until, unless, release, until_within, unless_within, release_within, for_all, for_some}
use Rattle.entity_types.specs.declared.written.Opening.{Opening}
use Rattle.entity_types.specs.declared.written.Opening.TheVariants.{Not, Next, Eventually, Always, EventuallyWithin, AlwaysWithin}
use Rattle.entity_types.specs.declared.written.Joining.{Joining}
use Rattle.entity_types.specs.declared.written.Joining.TheVariants.{And, Or, Implies, Iff, Entails, Until, Unless, Release, UntilWithin, UnlessWithin, ReleaseWithin}
use Rattle.entity_types.specs.WrittenTrees.{TermForm, plain, WrittenTree, atom, opening, joining, all, exists}
use Rattle.entity_types.specs.WrittenTrees as trees
use Rattle.entity_types.specs.Grounding.{ground_of, nodes}
use Rattle.goal_model.specs.declared.refusal.RefusalKind.TheVariants.{BadValue}
use Rattle.goal_model.specs.declared.namespace.Kind.TheVariants.{EntityType}
use Rattle.goal_model.specs.Refusals.{Resolved, and_then, refused}
use Rattle.goal_model.specs.ValueIndexes.{index_in, set_with, is_same_range}
use Rattle.goal_model.specs.Scopes.{ScopeForm, rows_in, variable_in, used, fresh_bound, binds}
use Rattle.goal_model.specs.Terms.{term_in, range_of}

-- ---- atoms: a term `t`, and the name `x` with which a bad value is refused

-- a term alone: it has to be a truth value
abbrev pub flag_in : ScopeForm → List ℕ → TermForm → Resolved WrittenTree
flag_in s x t = if is_same_range (range_of s t) truth_values then Ok (atom (trees.flag t)) else refused BadValue x

-- a comparison with another term, whose range has to be the same
abbrev pub related_in : ScopeForm → List ℕ → TermForm → Relation → TermForm → Resolved WrittenTree
related_in s x t r u = if is_same_range (range_of s t) (range_of s u) then Ok (atom (trees.relates t r u)) else refused BadValue x

-- what stands behind a comparison is a value where the term's range has it, and else another term
abbrev pub compared_with : ScopeForm → List ℕ → TermForm → Relation → WrittenValue → Option ℕ → Resolved WrittenTree
compared_with s x t r value (Some i) = Ok (atom (trees.compares t r i))
compared_with s x t r (a_word y) None = and_then (variable_in s y) (λ k. related_in s x t r (plain k))
compared_with s x t r (an_attribute f y) None = and_then (term_in s f y) (related_in s x t r)
compared_with s x t r value None = refused BadValue x

abbrev pub compared_in : ScopeForm → List ℕ → TermForm → Relation → WrittenValue → Resolved WrittenTree
compared_in s x t r value = compared_with s x t r value (index_in (range_of s t) value)

-- one of some values
abbrev pub among_in : ScopeForm → List ℕ → TermForm → List WrittenValue → Resolved WrittenTree
among_in s x t values = and_then (set_with x (range_of s t) 0 values) (λ set. Ok (atom (trees.among t set)))

-- ---- operators

abbrev pub one_in : Opening → Resolved WrittenTree → Resolved WrittenTree
one_in o a = and_then a (λ f. Ok (opening o f))

-- operands, the first before the second
abbrev pub both_in : Joining → Resolved WrittenTree → Resolved WrittenTree → Resolved WrittenTree
both_in j a b = and_then a (λ f. and_then b (λ g. Ok (joining j f g)))

-- a quantifier: its name, its entity type, and what stands behind it
abbrev pub each_in : ScopeForm → (x entity : List ℕ) → (ℕ → WrittenTree → WrittenTree) → (ScopeForm → Resolved WrittenTree) → Resolved WrittenTree
each_in s x entity made body = and_then (fresh_bound s x) (λ _. and_then (used s EntityType entity) (λ e. and_then (body (binds s x e)) (λ f. Ok (made e f))))

-- the formula that is written so
abbrev pub written_in : ScopeForm → RawTree → Resolved WrittenTree
written_in s truth = Ok (atom trees.truth)
written_in s falsity = Ok (atom trees.falsity)
written_in s (bare x) = and_then (variable_in s x) (λ k. flag_in s x (plain k))
written_in s (compares x r v) = and_then (variable_in s x) (λ k. compared_in s x (plain k) r v)
written_in s (among x vs) = and_then (variable_in s x) (λ k. among_in s x (plain k) vs)
written_in s (bare_of f y) = and_then (term_in s f y) (flag_in s f)
written_in s (compares_of f y r v) = and_then (term_in s f y) (λ t. compared_in s f t r v)
written_in s (among_of f y vs) = and_then (term_in s f y) (λ t. among_in s f t vs)
written_in s (neg a) = one_in Not (written_in s a)
written_in s (next a) = one_in Next (written_in s a)
written_in s (eventually a) = one_in Eventually (written_in s a)
written_in s (always a) = one_in Always (written_in s a)
written_in s (eventually_within d a) = one_in (EventuallyWithin d) (written_in s a)
written_in s (always_within d a) = one_in (AlwaysWithin d) (written_in s a)
written_in s (conj a b) = both_in And (written_in s a) (written_in s b)
written_in s (disj a b) = both_in Or (written_in s a) (written_in s b)
written_in s (implies a b) = both_in Implies (written_in s a) (written_in s b)
written_in s (iff a b) = both_in Iff (written_in s a) (written_in s b)
written_in s (entails a b) = both_in Entails (written_in s a) (written_in s b)
written_in s (until a b) = both_in Until (written_in s a) (written_in s b)
written_in s (unless a b) = both_in Unless (written_in s a) (written_in s b)
written_in s (release a b) = both_in Release (written_in s a) (written_in s b)
written_in s (until_within d a b) = both_in (UntilWithin d) (written_in s a) (written_in s b)
written_in s (unless_within d a b) = both_in (UnlessWithin d) (written_in s a) (written_in s b)
written_in s (release_within d a b) = both_in (ReleaseWithin d) (written_in s a) (written_in s b)
written_in s (for_all x entity a) = each_in s x entity all (λ inner. written_in inner a)
written_in s (for_some x entity a) = each_in s x entity exists (λ inner. written_in inner a)

-- ---- plain formulas

-- the plain formula
abbrev pub plain_of : ScopeForm → WrittenTree → Ltl
plain_of s f = ground_of (rows_in s) [] f

-- whether the plain formula has at most 4,096 operators and atoms
abbrev pub is_narrow : ScopeForm → WrittenTree → Bool
is_narrow s f = nat_le (nodes (plain_of s f)) 4096
