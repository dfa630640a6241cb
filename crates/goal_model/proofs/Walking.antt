-- Lists of names and settings, walked from left to right, and the exits of a walk.
use Rattle.std.proofs.Common.{◌≡◌, ℕ, ◌+◌, ◌<◌, List, [], ◌∷◌, ◌++◌, length, map, get_or, take, drop, set, Result, Ok, Err, refl, sym, ap, subst, ◌∙◌, bytes_eq}
use Rattle.std.specs.Prelude.{IsErrAnd, not, ◌||◌}
use Rattle.std.specs.List.{list_any}
use Rattle.std.proofs.lemmas.List.{at_drop_more, take_more, map-append}
use Rattle.goal_model.specs.declared.refusal.RefusalKind.TheVariants.{DuplicateName}
use Rattle.goal_model.specs.declared.refusal.Stop.{Stop}
use Rattle.goal_model.specs.declared.refusal.Fault.{Fault as FaultForm}
use Rattle.goal_model.specs.declared.refusal.Stop.TheVariants.{Fault, Memory}
use Rattle.goal_model.specs.Refusals.{Resolved, and_then, holds, refused, Gives}
use Rattle.goal_model.specs.Names.{is_among}
use Rattle.goal_model.specs.ValueIndexes.{index_of}
use Rattle.goal_model.specs.Scopes.{ScopeForm, range_at, variable_in}
use Rattle.goal_model.specs.States.{setting_of, set_from}
use Rattle.state_space.specs.Ranges.{RangeForm}
use Rattle.model_text.specs.declared.raw_formula.RawValue.{RawValue}
use Rattle.model_text.specs.RawView.{written}
use Rattle.goal_model.specs.declared.refusal.RefusalKind.{RefusalKind}

-- a part that stops ends the whole
pub stopped : {A B C D : Type 0} (view : A → B) (viewed_whole : C → D) (stop : Stop) (part : Resolved B) (next : B → Resolved D) (whole : Resolved D) → Gives view (Err stop) part → and_then part next ≡ whole → Gives viewed_whole (Err stop) whole
stopped view viewed_whole (Fault f) part next whole given is = sym is ∙ ap (λ p. and_then p next) given
stopped view viewed_whole Memory part next whole given is = tt

pub any_named : {X : Type 0} (x : List ℕ) (name : X → List ℕ) (xs : List X) → list_any (λ s. bytes_eq (name s) x) xs ≡ is_among x (map name xs)
any_named x name [] = refl
any_named x name (s ∷ ss) = ap (λ b. bytes_eq (name s) x || b) (any_named x name ss)

-- a refusal is the same whatever was to be made
same_fault : {A B : Type 0} (kind : RefusalKind) (x : List ℕ) (f : FaultForm) (o : Resolved A) (p : Resolved B) → o ≡ refused kind x → p ≡ refused kind x → o ≡ Err f → p ≡ Err f
same_fault kind x f o p d e given = cc

pub refused_as : {A B : Type 0} (view : A → B) (o : Result A Stop) (kind : RefusalKind) (x : List ℕ) → Gives (λ a. a) o (refused kind x) → Gives view o (refused kind x)
refused_as view (Ok a) kind x given = absurd cc
refused_as view (Err (Fault f)) kind x given = same_fault kind x f (refused kind x) (refused kind x) refl refl given
refused_as view (Err Memory) kind x given = tt

-- what stopped is handed on
pub handed_on : {C D : Type 0} (view : C → D) (o : Result C Stop) (stop : Stop) (whole : Resolved D) → IsErrAnd o (λ e. e ≡ stop) → Gives view (Err stop) whole → Gives view o whole
handed_on view (Ok c) stop whole is given = absurd is
handed_on view (Err e) stop whole is given = subst (λ (u : Stop). Gives view (Err u) whole) (sym is) given

-- the setting at a place
pub sets_at : (s : ScopeForm) (row : List ℕ) (sets : List (List ℕ × RawValue)) (i : ℕ) (t : List ℕ × RawValue) → i < length sets → t ≡ get_or sets i t
    → set_from s (map (λ u. u.0) (take i sets)) row (map setting_of (drop i sets))
    ≡ and_then (variable_in s t.0) (λ k. and_then (holds (not (is_among t.0 (map (λ u. u.0) (take i sets)))) DuplicateName t.0) (λ _.
    and_then (index_of t.0 (range_at s k) (written t.1)) (λ n. set_from s (map (λ u. u.0) (take (i + 1) sets)) (set row k n) (map setting_of (drop (i + 1) sets)))))
unfolding set_from
sets_at s row sets i t l is =
    at_drop_more (λ ts. set_from s (map (λ u. u.0) (take i sets)) row (map setting_of ts)) sets i t l
    ∙ ap (λ (u : List ℕ × RawValue). set_from s (map (λ u. u.0) (take i sets)) row (setting_of u ∷ map setting_of (drop (i + 1) sets))) (sym is)
    ∙ ap (λ front. and_then (variable_in s t.0) (λ k. and_then (holds (not (is_among t.0 (map (λ u. u.0) (take i sets)))) DuplicateName t.0) (λ _.
    and_then (index_of t.0 (range_at s k) (written t.1)) (λ n. set_from s front (set row k n) (map setting_of (drop (i + 1) sets)))))) (sym grown)
  where
    grown : map (λ u. u.0) (take (i + 1) sets) ≡ map (λ u. u.0) (take i sets) ++ t.0 ∷ []
    grown = ap (map (λ u. u.0)) (take_more sets i t l) ∙ map-append (λ u. u.0) (take i sets) (get_or sets i t ∷ []) ∙ ap (λ (u : List ℕ × RawValue). map (λ u. u.0) (take i sets) ++ u.0 ∷ []) (sym is)

-- what is left where its variable is found and was not set before
pub value_next : (s : ScopeForm) (row : List ℕ) (sets : List (List ℕ × RawValue)) (i : ℕ) (t : List ℕ × RawValue) (k : ℕ) (range : RangeForm) (whole : Resolved (List ℕ)) → i < length sets → t ≡ get_or sets i t
    → variable_in s t.0 ≡ Ok k → range_at s k ≡ range → holds (not (is_among t.0 (map (λ u. u.0) (take i sets)))) DuplicateName t.0 ≡ Ok tt
    → set_from s (map (λ u. u.0) (take i sets)) row (map setting_of (drop i sets)) ≡ whole
    → and_then (index_of t.0 range (written t.1)) (λ n. set_from s (map (λ u. u.0) (take (i + 1) sets)) (set row k n) (map setting_of (drop (i + 1) sets))) ≡ whole
value_next s row sets i t k range whole l is found there apart walked =
    sym (sets_at s row sets i t l is ∙ ap (λ o. and_then o (λ k. and_then (holds (not (is_among t.0 (map (λ u. u.0) (take i sets)))) DuplicateName t.0) (λ _.
    and_then (index_of t.0 (range_at s k) (written t.1)) (λ n. set_from s (map (λ u. u.0) (take (i + 1) sets)) (set row k n) (map setting_of (drop (i + 1) sets)))))) found
    ∙ ap (λ o. and_then o (λ _. and_then (index_of t.0 (range_at s k) (written t.1)) (λ n. set_from s (map (λ u. u.0) (take (i + 1) sets)) (set row k n) (map setting_of (drop (i + 1) sets))))) apart
    ∙ ap (λ r. and_then (index_of t.0 r (written t.1)) (λ n. set_from s (map (λ u. u.0) (take (i + 1) sets)) (set row k n) (map setting_of (drop (i + 1) sets)))) there) ∙ walked

-- the state with one setting more
pub value_taken : (s : ScopeForm) (row : List ℕ) (sets : List (List ℕ × RawValue)) (i : ℕ) (t : List ℕ × RawValue) (k : ℕ) (range : RangeForm) (whole : Resolved (List ℕ)) (n : ℕ) → i < length sets → t ≡ get_or sets i t
    → variable_in s t.0 ≡ Ok k → range_at s k ≡ range → holds (not (is_among t.0 (map (λ u. u.0) (take i sets)))) DuplicateName t.0 ≡ Ok tt
    → set_from s (map (λ u. u.0) (take i sets)) row (map setting_of (drop i sets)) ≡ whole
    → index_of t.0 range (written t.1) ≡ Ok n → set_from s (map (λ u. u.0) (take (i + 1) sets)) (set row k n) (map setting_of (drop (i + 1) sets)) ≡ whole
value_taken s row sets i t k range whole n l is found there apart walked given =
    sym (ap (λ o. and_then o (λ n. set_from s (map (λ u. u.0) (take (i + 1) sets)) (set row k n) (map setting_of (drop (i + 1) sets)))) given) ∙ value_next s row sets i t k range whole l is found there apart walked

-- a value that is none of the variable's range
pub value_stops : {C : Type 0} (view : C → List ℕ) (o : Result C Stop) (s : ScopeForm) (row : List ℕ) (sets : List (List ℕ × RawValue)) (i : ℕ) (t : List ℕ × RawValue) (k : ℕ) (range : RangeForm) (whole : Resolved (List ℕ)) (stop : Stop) → i < length sets → t ≡ get_or sets i t
    → variable_in s t.0 ≡ Ok k → range_at s k ≡ range → holds (not (is_among t.0 (map (λ u. u.0) (take i sets)))) DuplicateName t.0 ≡ Ok tt
    → set_from s (map (λ u. u.0) (take i sets)) row (map setting_of (drop i sets)) ≡ whole
    → Gives {A = ℕ} {B = ℕ} (λ n. n) (Err stop) (index_of t.0 range (written t.1)) → IsErrAnd o (λ e. e ≡ stop) → Gives view o whole
value_stops view o s row sets i t k range whole stop l is found there apart walked given handed =
    handed_on view o stop whole handed (stopped {A = ℕ} (λ n. n) view stop (index_of t.0 range (written t.1)) (λ n. set_from s (map (λ u. u.0) (take (i + 1) sets)) (set row k n) (map setting_of (drop (i + 1) sets))) whole given (value_next s row sets i t k range whole l is found there apart walked))
