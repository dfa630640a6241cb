-- A draft whose states are padded is well-formed.
use Rattle.std.proofs.Common.{◌≡◌, ℕ, ◌-◌, ◌<◌, ◌≤◌, List, ◌++◌, length, map, get_or, replicate, refl, sym, subst, ◌∙◌, arith, ⊎_elim, slice_index}
use Rattle.std.specs.Prelude.{All}
use Rattle.std.proofs.lemmas.Bool.{cases_lt}
use Rattle.std.proofs.lemmas.List.{length-map, length-append, length-replicate, get_or-map, get_or_append_left, get_or-append_right, get_or-replicate}
use Rattle.std.proofs.lemmas.List.Elements.{All-map}
use Rattle.state_space.specs.Ranges.{RangeForm, truth_values, size_of, IsGoodRange}
use Rattle.state_space.specs.Fitting.{ValuesFit}
use Rattle.goal_model.specs.Models.{TraceForm, sizes_of, PartsFit, TraceIsOver, IsWellFormed}
use Rattle.goal_model.specs.Drafts.{DraftForm, padded, padded_trace, finished}
use Rattle.goal_model.specs.WholeDrafts.{FitFirst, TraceFitsFirst, IsDraft}
use Rattle.goal_model.proofs.GrownModels.{Grows, links_grow}

good_size : (rs : List RangeForm) (x : ℕ) → All IsGoodRange rs → x < length rs → 0 < slice_index (map size_of rs) x
good_size rs x good l = subst (λ n. 0 < n) (sym (get_or-map size_of rs x truth_values 0 l)) (good x truth_values l).some

pub padded_fits : (rs : List RangeForm) (row : List ℕ) → All IsGoodRange rs → FitFirst (map size_of rs) row → ValuesFit (map size_of rs) (padded (length rs) row)
padded_fits rs row good fit = (count, below)
  where
    sizes : length (map size_of rs) ≡ length rs
    sizes = length-map rs size_of

    count : length (row ++ replicate (length rs - length row) 0) ≡ length (map size_of rs)
    count = omega (arith, sizes, fit.0, length-append row (replicate (length rs - length row) 0), length-replicate {A = ℕ} (length rs - length row) 0)

    below : (x : ℕ) → x < length (map size_of rs) → slice_index (padded (length rs) row) x < slice_index (map size_of rs) x
    below x l = ⊎_elim first behind (cases_lt x (length row))
      where
        first : x < length row → slice_index (padded (length rs) row) x < slice_index (map size_of rs) x
        first h = subst (λ k. k < slice_index (map size_of rs) x) (sym (get_or_append_left row (replicate (length rs - length row) 0) 0 x h)) (fit.1 x h)

        behind : length row ≤ x → slice_index (padded (length rs) row) x < slice_index (map size_of rs) x
        behind h =
            let zero_there : slice_index (padded (length rs) row) x ≡ 0 =
            get_or-append_right row (replicate (length rs - length row) 0) (length row) x 0 refl h
            ∙ get_or-replicate (length rs - length row) (x - length row) 0 0 (omega (arith, sizes, l, h)) in
            subst (λ k. k < slice_index (map size_of rs) x) (sym zero_there) (good_size rs x good (omega (arith, sizes, l)))

rows_whole : (rs : List RangeForm) (n : ℕ) (rows : List (List ℕ)) → All IsGoodRange rs → length rs ≡ n → All (FitFirst (map size_of rs)) rows → All (ValuesFit (map size_of rs)) (map (padded n) rows)
rows_whole rs n rows good many fit =
    All-map (ValuesFit (map size_of rs)) (padded n) rows (λ k row l. subst (λ c. ValuesFit (map size_of rs) (padded c (get_or rows k row))) many (padded_fits rs (get_or rows k row) good (fit k row l)))

trace_whole : (rs : List RangeForm) (n : ℕ) (t : TraceForm) → All IsGoodRange rs → length rs ≡ n → TraceFitsFirst (map size_of rs) t → TraceIsOver (map size_of rs) (padded_trace n t)
trace_whole rs n t good many fit = record {
  turns = subst (λ c. 0 < c) (sym (length-map t.cycle (padded n))) fit.turns;
  prefix = rows_whole rs n t.prefix good many fit.prefix;
  cycle = rows_whole rs n t.cycle good many fit.cycle;
}

pub finished_well : (d : DraftForm) → IsDraft d → IsWellFormed (finished d.model)
finished_well d k = record { parts = parts; traces = All-map (TraceIsOver (sizes_of d.model)) (padded_trace (length d.model.names)) d.model.traces (λ i t l. trace_whole d.model.ranges (length d.model.names) (get_or d.model.traces i t) k.parts.ranges k.parts.count (k.traces i t l)) }
  where
    grows : Grows d.model (finished d.model)
    grows = record { fits = λ f h. h; members = omega arith; attributes = omega arith; domains = omega arith; goals = omega arith; obstacles = omega arith; agents = omega arith; operations = omega arith; requirements = omega arith; links = omega arith; traces = omega (arith, length-map d.model.traces (padded_trace (length d.model.names))) }

    parts : PartsFit (finished d.model)
    parts = record {
      few = k.parts.few;
      count = k.parts.count;
      ranges = k.parts.ranges;
      members = k.parts.members;
      attributes = k.parts.attributes;
      domains = k.parts.domains;
      goals = k.parts.goals;
      obstacles = k.parts.obstacles;
      operations = k.parts.operations;
      requirements = k.parts.requirements;
      links = links_grow d.model (finished d.model) grows d.model.links k.parts.links;
    }
