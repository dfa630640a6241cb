-- What every space keeps, for the crates above: at most 64 variables, distinct names, good ranges.
use Rattle.std.proofs.Common.{◌≡◌, ◌≢◌, ℕ, ◌-◌, ◌^◌, ◌<◌, ◌≤◌, Bool, true, false, if◌then◌else◌, List, [], ◌∷◌, ◌++◌, map, length, get_or, Some, refl, sym, ap, ap₂, ◌∙◌, subst, arith, AllPairs, slice_get, slice_index}
use Rattle.std.specs.List.{All}
use Rattle.std.proofs.lemmas.List.{length-map, get_or-map, map-append}
use Rattle.std.proofs.lemmas.List.Elements.{All-map}
use Rattle.std.proofs.lemmas.Option.{get_or_from_slice_get, slice_get_within, slice_get-get_or}
use Rattle.state_space.specs.declared.space.Space.{Space}
use Rattle.state_space.specs.declared.space.Variable.{Variable}
use Rattle.state_space.specs.declared.values.Values.{Values}
use Rattle.state_space.specs.Members.{full_of}
use Rattle.state_space.specs.Ranges.{RangeForm, truth_values, form_of, size_of, IsGoodRange}
use Rattle.state_space.specs.Spaces.{names, ranges, sizes}

pub as_many_ranges : (space : Space) → length (ranges space) ≡ length (names space)
as_many_ranges space = length-map space.variables.items (λ v. form_of v.range) ∙ sym (length-map space.variables.items (λ v. v.name))

pub as_many_sizes : (space : Space) → length (sizes space) ≡ length (names space)
as_many_sizes space = length-map space.variables.items (λ v. size_of (form_of v.range)) ∙ sym (length-map space.variables.items (λ v. v.name))

pub few_variables : (space : Space) → length (names space) ≤ 64
few_variables space = let few : length space.variables.items ≤ 64 = space.few in rw (length-map space.variables.items (λ v. v.name)) few

pub distinct_names : (space : Space) → AllPairs (λ a b. a ≢ b) (names space)
distinct_names space = space.apart

pub good_ranges : (space : Space) → All IsGoodRange (ranges space)
good_ranges space = All-map IsGoodRange (λ (v : Variable). form_of v.range) space.variables.items (λ k v l. (get_or space.variables.items k v).good)

map_twice : {X Y Z : Type 0} (f : X → Y) (g : Y → Z) (xs : List X) → map (λ x. g (f x)) xs ≡ map g (map f xs)
map_twice f g [] = refl
map_twice f g (x ∷ xs) = ap (λ ys. g (f x) ∷ ys) (map_twice f g xs)

pub sizes_of_ranges : (space : Space) → sizes space ≡ map size_of (ranges space)
sizes_of_ranges space = map_twice (λ (v : Variable). form_of v.range) size_of space.variables.items

pub size_at : (space : Space) (i : ℕ) (range : RangeForm) → slice_get (ranges space) i ≡ Some range → slice_index (sizes space) i ≡ size_of range
size_at space i range e =
    ap (λ ns. slice_index ns i) (sizes_of_ranges space)
    ∙ get_or-map size_of (ranges space) i range 0 (slice_get_within (ranges space) i range e)
    ∙ ap size_of (get_or_from_slice_get (ranges space) i range range e)

pub good_size : (space : Space) (i : ℕ) → i < length (sizes space) → (0 < slice_index (sizes space) i) × (slice_index (sizes space) i ≤ 64)
good_size space i l =
    let inside : i < length (ranges space) = omega (arith, as_many_ranges space, as_many_sizes space) in
    let range = get_or (ranges space) i truth_values in
    let e : slice_index (sizes space) i ≡ size_of range = size_at space i range (slice_get-get_or (ranges space) i truth_values inside) in
    let good : IsGoodRange range = good_ranges space i truth_values inside in
    (subst (λ n. 0 < n) (sym e) good.some, subst (λ n. n ≤ 64) (sym e) good.few)

-- the sets of all indexes, where a variable comes with its set, or neither comes
pub full_grown : (size : Variable → ℕ) (vs ws : List Variable) (v : Variable) (fs gs : List Values) (f : Values) (grows : Bool)
    → map (λ s. s.0) fs ≡ full_of (map size vs) → f.0 ≡ 2 ^ size v - 1
    → ws ≡ (if grows then vs ++ v ∷ [] else vs) → gs ≡ (if grows then fs ++ f ∷ [] else fs)
    → map (λ s. s.0) gs ≡ full_of (map size ws)
full_grown size vs ws v fs gs f true old own e h =
    ap (map (λ (s : Values). s.0)) h ∙ map-append (λ (s : Values). s.0) fs (f ∷ [])
    ∙ ap₂ (λ a b. a ++ b ∷ []) old own
    ∙ sym (ap (λ xs. full_of (map size xs)) e ∙ ap full_of (map-append size vs (v ∷ [])) ∙ map-append (λ n. 2 ^ n - 1) (map size vs) (size v ∷ []))
full_grown size vs ws v fs gs f false old own e h = ap (map (λ (s : Values). s.0)) h ∙ old ∙ sym (ap (λ xs. full_of (map size xs)) e)
