-- Attributes of a model: they stay where types and variables are added behind, and a row of new variables is one.
use Rattle.std.proofs.Common.{◌≡◌, ℕ, zero, suc, ◌+◌, ◌-◌, ◌<◌, List, [], ◌∷◌, ◌++◌, length, map, get_or, Some, refl, sym, ap, subst, ◌∙◌, arith, slice_get, slice_index_or}
use Rattle.std.specs.Prelude.{option_map}
use Rattle.std.proofs.lemmas.Option.{slice_get-get_or, slice_get_within, slice_get-map}
use Rattle.std.proofs.lemmas.List.{length-append, get_or-map, get_or_append_left, get_or-append_right}
use Rattle.state_space.specs.Ranges.{RangeForm, truth_values}
use Rattle.entity_types.specs.View.{AttributeForm}
use Rattle.entity_types.specs.Joined.{joined_name, joined_names}
use Rattle.entity_types.proofs.MoreAttributes.{slice_get_left}
use Rattle.goal_model.specs.Models.{AttributeIsOf}

-- an element of the second of two lists
slice_get_behind : {X : Type 0} (xs ys : List X) (k n : ℕ) (y : X) → n ≡ length xs + k → slice_get ys k ≡ Some y → slice_get (xs ++ ys) n ≡ Some y
slice_get_behind [] ys k n y at e = let same : n ≡ k = omega (arith, at) in rw same e
slice_get_behind (z ∷ xs) ys k zero y at e = absurd (omega (arith, at))
slice_get_behind (z ∷ xs) ys k (suc n) y at e = slice_get_behind xs ys k n y (omega (arith, at)) e

-- types behind the others
pub more_members : (names : List (List ℕ)) (ranges : List RangeForm) (members more : List (List (List ℕ))) (a : AttributeForm) → AttributeIsOf names ranges members a → AttributeIsOf names ranges (members ++ more) a
more_members names ranges members more a is = record {
  entity = omega (arith, is.entity, length-append members more);
  named = λ k x h. is.named k x (subst (λ xs. slice_get xs k ≡ Some x) same h);
  ranged = λ k l. is.ranged k (subst (λ xs. k < length xs) same l);
}
  where
    same : slice_index_or (members ++ more) a.entity [] ≡ slice_index_or members a.entity []
    same = get_or_append_left members more [] a.entity is.entity

-- variables behind the others
pub more_variables : (names xs : List (List ℕ)) (ranges rs : List RangeForm) (members : List (List (List ℕ))) (a : AttributeForm) → length ranges ≡ length names → AttributeIsOf names ranges members a → AttributeIsOf (names ++ xs) (ranges ++ rs) members a
more_variables names xs ranges rs members a many is = record {
  entity = is.entity;
  named = λ k x h. slice_get_left names xs (a.first + k) (joined_name a.name x) (is.named k x h);
  ranged = λ k l. get_or_append_left ranges rs truth_values (a.first + k) (there k l) ∙ is.ranged k l ∙ sym (get_or_append_left ranges rs truth_values a.first (omega (arith, there k l)));
}
  where
    there : (k : ℕ) → k < length (slice_index_or members a.entity []) → a.first + k < length ranges
    there k l =
        let x = get_or (slice_index_or members a.entity []) k [] in
        omega (arith, many, slice_get_within names (a.first + k) (joined_name a.name x) (is.named k x (slice_get-get_or (slice_index_or members a.entity []) k [] l)))

-- a new attribute: a variable behind the others for each member of its type
pub row_is_of : (names : List (List ℕ)) (ranges : List RangeForm) (members : List (List (List ℕ))) (f : List ℕ) (e : ℕ) (r : RangeForm) → length ranges ≡ length names → e < length members
    → AttributeIsOf (names ++ joined_names f (slice_index_or members e [])) (ranges ++ map (λ m. r) (slice_index_or members e [])) members (record { name = f; entity = e; first = length names })
row_is_of names ranges members f e r many inside = record {
  entity = inside;
  named = λ k x h. slice_get_behind names (joined_names f ms) k (length names + k) (joined_name f x) refl (slice_get-map (joined_name f) ms k ∙ ap (option_map (joined_name f)) h);
  ranged = λ k l. range_is k (length names + k) l refl ∙ sym (range_is 0 (length names) (omega (arith, l)) (omega arith));
}
  where
    ms : List (List ℕ)
    ms = slice_index_or members e []

    range_is : (k n : ℕ) → k < length ms → n ≡ length names + k → slice_index_or (ranges ++ map (λ m. r) ms) n truth_values ≡ r
    range_is k n l at =
        get_or-append_right ranges (map (λ m. r) ms) (length names) n truth_values many (omega (arith, at))
        ∙ get_or-map (λ m. r) ms (n - length names) [] truth_values (omega (arith, at, l))
