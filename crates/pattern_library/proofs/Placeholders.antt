-- The names of placeholders, the space that they make, and what is of it.
use Rattle.std.proofs.Common.{◌≡◌, ℕ, zero, suc, ◌+◌, ◌<◌, ◌≤◌, Bool, true, false, ◌==◌, List, [], ◌∷◌, ◌++◌, map, length, replicate, Option, Some, None, refl, sym, ap, ◌∙◌, subst, arith}
use Rattle.std.specs.Prelude.{All, Contains}
use Rattle.std.specs.List.{list_all}
use Rattle.std.proofs.lemmas.Bool.{false≢true}
use Rattle.std.proofs.lemmas.List.{length-replicate, get_or-replicate, replicate-append-replicate}
use Rattle.std.proofs.lemmas.List.Elements.{All-nil, All-cons, All-head, All-tail, All-push, All-weaker, All-contains}
use Rattle.std.proofs.lemmas.Option.{slice_get-get_or}
use Rattle.state_space.specs.Names.{IsName, is_word_byte}
use Rattle.state_space.specs.Keywords.{spelling, keyword_of}
use Rattle.state_space.specs.declared.keyword.Keyword.{Keyword}
use Rattle.state_space.specs.declared.keyword.Keyword.TheVariants as keys
use Rattle.state_space.proofs.Spellings.{spelling_of_keyword}
use Rattle.state_space.specs.declared.space.Space.{Space}
use Rattle.state_space.specs.Spaces.{ranges, sizes}
use Rattle.state_space.proofs.SpaceFacts.{sizes_of_ranges}
use Rattle.state_space.specs.Ranges.{RangeForm, truth_values, size_of, IsGoodRange}
use Rattle.temporal_logic.specs.Ltl.{Ltl, truth, falsity, flag, compares, among, relates, neg, conj, disj, implies, iff, entails, next, eventually, always, until, unless, release, eventually_within, always_within, until_within, unless_within, release_within}
use Rattle.temporal_logic.specs.Truth.{Trace, Meets}
use Rattle.temporal_logic.specs.Traces.{IsPeriodic}
use Rattle.temporal_logic.specs.declared.formula.Formula.{Formula}
use Rattle.temporal_logic.specs.Trees.{tree_of}
use Rattle.temporal_logic.specs.Fits.{Fits}
use Rattle.bound_unfolding.specs.CoreLists.{cores_of}
use Rattle.tableau_rules.specs.Queries.{MeetsAll}
use Rattle.entailment.proofs.Queries.{query_law}
use Rattle.pattern_library.specs.Patterns.{PatternForm, pattern_list}
use Rattle.pattern_library.specs.Instances.{IsOverPlaceholders, IsPattern, placeholder_sizes}
use Rattle.pattern_library.specs.PatternQueries.{pattern_cores}

-- ---- names

abbrev is_letter : ℕ → Bool
is_letter b = b == 112

all_letters : (n : ℕ) → list_all is_letter (replicate n 112) ≡ true
all_letters zero = refl
all_letters (suc n) = all_letters n

all_word_bytes : (n : ℕ) → list_all is_word_byte (replicate n 112) ≡ true
all_word_bytes zero = refl
all_word_bytes (suc n) = all_word_bytes n

no_keyword : (k : Keyword) → list_all is_letter (spelling k) ≡ false
no_keyword keys.Kaos = refl
no_keyword _ = refl

-- a word of this letter alone is no keyword
free : (n : ℕ) → keyword_of (replicate n 112) ≡ None
free n = by (keyword_of (replicate n 112)) refl
  where
    by : (o : Option Keyword) → keyword_of (replicate n 112) ≡ o → keyword_of (replicate n 112) ≡ None
    by None e = e
    by (Some k) e =
        absurd (false≢true (sym (no_keyword k) ∙ ap (list_all is_letter) (sym (spelling_of_keyword (replicate n 112) k e)) ∙ all_letters n))

pub named : (n : ℕ) → n < 40 → IsName (replicate (n + 1) 112)
named n few = let next : suc n ≡ n + 1 = omega arith in subst (λ (k : ℕ). IsName (replicate k 112)) next (record {
  form = all_word_bytes n;
  short = let count = length-replicate {A = ℕ} (suc n) 112 in omega (arith, few, count);
  free = free (suc n);
})

-- a name that is longer than all others is another
pub longest_is_new : (names : List (List ℕ)) (name : List ℕ) (n : ℕ) → All (λ x. length x ≤ n) names → length name ≡ n + 1 → Contains names name → ⊥
longest_is_new names name n short long known = let no_longer = All-contains (λ (x : List ℕ). length x ≤ n) names name short known in omega (arith, no_longer, long)

-- with it all are shorter than the next
pub shorter_than_next : (names : List (List ℕ)) (name : List ℕ) (n : ℕ) → All (λ x. length x ≤ n) names → length name ≡ n + 1 → All (λ x. length x ≤ n + 1) (names ++ name ∷ [])
shorter_than_next names name n short long =
    All-push (λ (x : List ℕ). length x ≤ n + 1) names name (All-weaker (λ (x : List ℕ). length x ≤ n) (λ (x : List ℕ). length x ≤ n + 1) (λ x s. omega (arith, s)) names short) (omega (arith, long))

-- ---- the space

-- one flag more
pub flags_next : (n : ℕ) (all rs : List RangeForm) → rs ≡ replicate n truth_values → all ≡ rs ++ truth_values ∷ [] → all ≡ replicate (n + 1) truth_values
flags_next n all rs before pushed = pushed ∙ ap (λ (xs : List RangeForm). xs ++ truth_values ∷ []) before ∙ replicate-append-replicate n 1 truth_values

flag_sizes : (n : ℕ) → map size_of (replicate n truth_values) ≡ replicate n 2
flag_sizes zero = refl
flag_sizes (suc n) = ap (λ (ns : List ℕ). 2 ∷ ns) (flag_sizes n)

-- a space of flags has two values each
pub sized : (space : Space) (n : ℕ) → ranges space ≡ replicate n truth_values → sizes space ≡ replicate n 2
sized space n flags = sizes_of_ranges space ∙ ap (map size_of) flags ∙ flag_sizes n

pub good_flag : IsGoodRange truth_values
good_flag = record { some = omega arith; few = omega arith; apart = tt }

good_flags : (n : ℕ) → All IsGoodRange (replicate n truth_values)
good_flags zero = All-nil IsGoodRange
good_flags (suc n) = All-cons IsGoodRange truth_values (replicate n truth_values) good_flag (good_flags n)

-- ---- formulas over it

-- a formula over placeholders is of the space of these
over_fits : (n : ℕ) (f : Ltl) → IsOverPlaceholders n f → Fits (replicate n truth_values) f
over_fits n truth h = tt
over_fits n falsity h = tt
over_fits n (flag k) h =
    let count = length-replicate n truth_values in
    slice_get-get_or (replicate n truth_values) k truth_values (omega (arith, count, h)) ∙ ap (λ (r : RangeForm). Some r) (get_or-replicate n k truth_values truth_values h)
over_fits n (compares x r v) h = absurd h
over_fits n (among x set) h = absurd h
over_fits n (relates x r y) h = absurd h
over_fits n (neg a) h = over_fits n a h
over_fits n (conj a b) h = (over_fits n a h.0, over_fits n b h.1)
over_fits n (disj a b) h = (over_fits n a h.0, over_fits n b h.1)
over_fits n (implies a b) h = (over_fits n a h.0, over_fits n b h.1)
over_fits n (iff a b) h = (over_fits n a h.0, over_fits n b h.1)
over_fits n (entails a b) h = (over_fits n a h.0, over_fits n b h.1)
over_fits n (next a) h = over_fits n a h
over_fits n (eventually a) h = over_fits n a h
over_fits n (always a) h = over_fits n a h
over_fits n (until a b) h = (over_fits n a h.0, over_fits n b h.1)
over_fits n (unless a b) h = (over_fits n a h.0, over_fits n b h.1)
over_fits n (release a b) h = (over_fits n a h.0, over_fits n b h.1)
over_fits n (eventually_within d a) h = over_fits n a h
over_fits n (always_within d a) h = over_fits n a h
over_fits n (until_within d a b) h = (over_fits n a h.0, over_fits n b h.1)
over_fits n (unless_within d a b) h = (over_fits n a h.0, over_fits n b h.1)
over_fits n (release_within d a b) h = (over_fits n a h.0, over_fits n b h.1)

-- and so are the subgoals of a pattern and its negated parent
pub pattern_fits : (p : PatternForm) → IsPattern p → All (Fits (replicate p.placeholders truth_values)) (pattern_list p)
pattern_fits p good =
    All-push (Fits (replicate p.placeholders truth_values)) p.subgoals (neg p.parent)
    (All-weaker (IsOverPlaceholders p.placeholders) (Fits (replicate p.placeholders truth_values)) (λ f over. over_fits p.placeholders f over) p.subgoals good.subgoals) (over_fits p.placeholders p.parent good.parent)

-- a trace of the placeholders that meets the query of a pattern has its subgoals and not its parent
pub query_met : (p : PatternForm) → IsPattern p → (t : Trace) → IsPeriodic (placeholder_sizes p) t → MeetsAll t (pattern_cores p) → Meets t (pattern_list p)
query_met p good t per meets =
    let rs = replicate p.placeholders truth_values in
    (query_law rs (good_flags p.placeholders) (pattern_list p) (pattern_fits p good) t (subst (λ (ns : List ℕ). IsPeriodic ns t) (sym (flag_sizes p.placeholders)) per)).0
    (subst (λ (ns : List ℕ). MeetsAll t (cores_of ns (pattern_list p))) (sym (flag_sizes p.placeholders)) meets)

-- the formulas fit where their trees do
pub fits_unmapped : (rs : List RangeForm) (fs : List Formula) → All (Fits rs) (map tree_of fs) → All (λ f. Fits rs (tree_of f)) fs
fits_unmapped rs [] h = All-nil (λ (f : Formula). Fits rs (tree_of f))
fits_unmapped rs (f ∷ fs) h =
    All-cons (λ (f : Formula). Fits rs (tree_of f)) f fs (All-head (Fits rs) (tree_of f) (map tree_of fs) h) (fits_unmapped rs fs (All-tail (Fits rs) (tree_of f) (map tree_of fs) h))
