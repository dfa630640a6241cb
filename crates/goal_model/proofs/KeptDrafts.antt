-- A model under way stays a draft with each statement that is taken.
use Rattle.std.proofs.Common.{◌≡◌, ℕ, zero, suc, ◌+◌, ◌<◌, ◌≤◌, Bool, true, false, List, [], ◌∷◌, ◌++◌, length, map, get_or, Ok, refl, sym, ap, subst, ◌∙◌, arith, slice_index}
use Rattle.std.specs.Prelude.{All, nat_lt, nat_le, not, ◌&&◌, ◌||◌, ◌==◌, cond, eqb}
use Rattle.std.proofs.lemmas.Bool.{and_parts, ltb-true, leb-true}
use Rattle.std.proofs.lemmas.List.{length-append, length-map, map-append, get_or_append_left}
use Rattle.std.proofs.lemmas.List.Elements.{All-nil, All-cons, All-push, All-map}
use Rattle.state_space.specs.Ranges.{RangeForm, size_of, IsGoodRange}
use Rattle.state_space.specs.Fitting.{ValuesFit}
use Rattle.temporal_logic.specs.Ltl.{Ltl, entails}
use Rattle.temporal_logic.specs.Fits.{Fits}
use Rattle.temporal_logic.specs.Shapes.{is_state_of}
use Rattle.model_text.specs.RawTrees.{RawTree}
use Rattle.entity_types.specs.WrittenTrees.{WrittenTree}
use Rattle.entity_types.specs.View.{AttributeForm}
use Rattle.entity_types.specs.Joined.{joined_name, joined_names}
use Rattle.entity_types.specs.Attributes.{is_some_long}
use Rattle.model_text.specs.Statements.{StatementForm, version, variable, entity_type, attribute, domain, rule, goal, obstacle, refinement, obstruction, conflict, agent, assignment, expectation, operation, requirement, operationalisation, trace}
use Rattle.goal_model.specs.declared.refusal.RefusalKind.TheVariants.{BadValue, BadRange, LongName, TooManyVars, TooWide, NotState, Cycle}
use Rattle.goal_model.specs.declared.namespace.Kind.{Kind}
use Rattle.goal_model.specs.declared.namespace.Kind.TheVariants.{Property, Goal, Obstacle, Agent, Operation, Requirement, Conflict, Trace, EntityType, Attribute}
use Rattle.goal_model.specs.Refusals.{holds}
use Rattle.goal_model.specs.ValueIndexes.{apart_from, values_apart, has_few_values}
use Rattle.goal_model.specs.Scopes.{fresh, used, listed}
use Rattle.goal_model.specs.Terms.{members_at}
use Rattle.goal_model.specs.VariableLists.{variables_in}
use Rattle.goal_model.specs.Formulas.{written_in, plain_of, is_narrow}
use Rattle.goal_model.specs.States.{states_in}
use Rattle.goal_model.specs.Patterns.{pattern_in}
use Rattle.goal_model.specs.Models.{PropertyForm, GoalForm, ObstacleForm, AgentForm, OperationForm, RequirementForm, LinkForm, refine, obstruct, operationalise, assign, TraceForm, ModelForm, sizes_of, LinkIsOf, HasMembers, PartsFit}
use Rattle.goal_model.specs.Models as models
use Rattle.goal_model.specs.Reachability.{closes_cycle}
use Rattle.goal_model.specs.Marking.{HasGoalsBelow, HasParentBelow}
use Rattle.goal_model.specs.Drafts.{DraftForm, scope_of, declares, kept_if, keeps, expected_at}
use Rattle.goal_model.specs.WholeDrafts.{counts_of, count_of, FitFirst, TraceFitsFirst, IsDraft}
use Rattle.goal_model.specs.Resolution.{with_variable, has_few_members, with_entity_type, all_fresh, with_attribute, plain_in, one_taken, two_taken, with_property, with_goal, with_obstacle, with_agent, with_operation, with_requirement, with_link, with_conflict, with_expected, with_trace, set_of, uncontrolled, taken}
use Rattle.goal_model.proofs.Found.{then_ok, held, resolved, same_ok, used_inside, listed_inside}
use Rattle.goal_model.proofs.Scoped.{draft_scope}
use Rattle.goal_model.proofs.AttributeRows.{row_is_of}
use Rattle.goal_model.proofs.Fitting.{plain_fits, states_fit, fits_more}
use Rattle.goal_model.proofs.GoodRanges.{good_range}
use Rattle.goal_model.proofs.GrownModels.{links_grow, places_grow, domains_grow, goals_grow, obstacles_grow, agents_grow, operations_grow, requirements_grow, links_grow1, traces_grow, members_grow, written_grow, domains_fit, goals_fit, obstacles_fit, agents_fit, operations_fit, requirements_fit, links_fit, traces_fit, members_fit, attributes_fit, written_fit, wider, wider_grows, wider_fit, Grows}

-- ---- drafts of grown models

pub grown_draft : (d : DraftForm) (m : ModelForm) → IsDraft d → Grows d.model m → PartsFit m → All (TraceFitsFirst (sizes_of m)) m.traces → IsDraft (record d { model = m })
grown_draft d m k g parts traces = record { places = places_grow d.model m g d.others k.places; parts = parts; traces = traces }

pub declared_draft : (d : DraftForm) (x : List ℕ) (kind : Kind) (place : ℕ) (m : ModelForm) → IsDraft d → Grows d.model m → place < count_of m kind → PartsFit m → All (TraceFitsFirst (sizes_of m)) m.traces → IsDraft (declares d x kind place m)
declared_draft d x kind place m k g below parts traces = record {
  places = All-push (λ e. e.place < count_of m e.kind) d.others (record { name = x; kind = kind; place = place }) (places_grow d.model m g d.others k.places) below;
  parts = parts;
  traces = traces;
}

-- ---- statements

-- it is a draft, and at most one entity type is new
abbrev Keeps : (old new : DraftForm) → Type 0
Keeps old new = IsDraft new × (length new.model.members ≤ length old.model.members + 1)

kept_as : (d made next : DraftForm) → resolved made ≡ resolved next → Keeps d made → Keeps d next
kept_as d made next e k = subst (Keeps d) (same_ok made next e) k

pub place_kept : (d : DraftForm) (kind : Kind) (x : List ℕ) (p : ℕ) → IsDraft d → used (scope_of d) kind x ≡ Ok p → p < count_of d.model kind
place_kept d kind x p k e = used_inside (scope_of d) (counts_of d.model) kind x p k.places e

pub places_kept : (d : DraftForm) (kind : Kind) (xs : List (List ℕ)) (ps : List ℕ) → IsDraft d → listed (used (scope_of d) kind) xs ≡ Ok ps → All (λ p. p < count_of d.model kind) ps
places_kept d kind xs ps k e = listed_inside (λ p. p < count_of d.model kind) (used (scope_of d) kind) (λ x p f. place_kept d kind x p k f) [] [] xs ps (All-nil (λ p. p < count_of d.model kind)) e

property_kept : (d : DraftForm) (n : ℕ) (x : List ℕ) (r : Bool) (f : Ltl) → IsDraft d → Fits d.model.ranges f → IsDraft (with_property d n x r f)
property_kept d n x r f k fit =
    let p : PropertyForm = record { statement = n; name = x; formula = f; is_rule = r } in
    declared_draft d x Property (length d.model.domains) (record d.model { domains = d.model.domains ++ p ∷ [] }) k (domains_grow d.model p) (omega (arith, length-append d.model.domains (p ∷ []))) (domains_fit d.model p k.parts fit) k.traces

goal_kept : (d : DraftForm) (n : ℕ) (x : List ℕ) (f : Ltl) → IsDraft d → Fits d.model.ranges f → IsDraft (with_goal d n x f)
goal_kept d n x f k fit =
    let g : GoalForm = record { statement = n; name = x; formula = f; is_expected = false } in
    declared_draft d x Goal (length d.model.goals) (record d.model { goals = d.model.goals ++ g ∷ [] }) k (goals_grow d.model g) (omega (arith, length-append d.model.goals (g ∷ []))) (goals_fit d.model g k.parts fit) k.traces

obstacle_kept : (d : DraftForm) (n : ℕ) (x : List ℕ) (f : Ltl) → IsDraft d → Fits d.model.ranges f → IsDraft (with_obstacle d n x f)
obstacle_kept d n x f k fit =
    let o : ObstacleForm = record { statement = n; name = x; formula = f } in
    declared_draft d x Obstacle (length d.model.obstacles) (record d.model { obstacles = d.model.obstacles ++ o ∷ [] }) k (obstacles_grow d.model o) (omega (arith, length-append d.model.obstacles (o ∷ []))) (obstacles_fit d.model o k.parts fit) k.traces

agent_kept : (d : DraftForm) (a : AgentForm) → IsDraft d → IsDraft (declares d a.name Agent (length d.model.agents) (record d.model { agents = d.model.agents ++ a ∷ [] }))
agent_kept d a k =
    declared_draft d a.name Agent (length d.model.agents) (record d.model { agents = d.model.agents ++ a ∷ [] }) k (agents_grow d.model a) (omega (arith, length-append d.model.agents (a ∷ []))) (agents_fit d.model a k.parts) k.traces

operation_kept : (d : DraftForm) (o : OperationForm) → IsDraft d → o.agent < length d.model.agents → Fits d.model.ranges o.dompre → Fits d.model.ranges o.dompost
    → IsDraft (declares d o.name Operation (length d.model.operations) (record d.model { operations = d.model.operations ++ o ∷ [] }))
operation_kept d o k a pre post =
    declared_draft d o.name Operation (length d.model.operations) (record d.model { operations = d.model.operations ++ o ∷ [] }) k (operations_grow d.model o) (omega (arith, length-append d.model.operations (o ∷ []))) (operations_fit d.model o k.parts (a, pre, post)) k.traces

requirement_kept : (d : DraftForm) (r : RequirementForm) → IsDraft d → r.operation < length d.model.operations → Fits d.model.ranges r.formula
    → IsDraft (declares d r.name Requirement (length d.model.requirements) (record d.model { requirements = d.model.requirements ++ r ∷ [] }))
requirement_kept d r k o fit =
    declared_draft d r.name Requirement (length d.model.requirements) (record d.model { requirements = d.model.requirements ++ r ∷ [] }) k (requirements_grow d.model r) (omega (arith, length-append d.model.requirements (r ∷ []))) (requirements_fit d.model r k.parts (o, fit)) k.traces

link_kept : (d : DraftForm) (l : LinkForm) → IsDraft d → LinkIsOf d.model l → IsDraft (with_link d l)
link_kept d l k h = grown_draft d (record d.model { links = d.model.links ++ l ∷ [] }) k (links_grow1 d.model l) (links_fit d.model l k.parts h) k.traces

conflict_kept : (d : DraftForm) (n : ℕ) (x : List ℕ) (gs : List ℕ) (f : Ltl) → IsDraft d → All (λ g. g < length d.model.goals) gs → Fits d.model.ranges f → IsDraft (with_conflict d n x gs f)
conflict_kept d n x gs f k inside fit =
    let l : LinkForm = models.conflict n x gs f in
    declared_draft d x Conflict (length d.model.links) (record d.model { links = d.model.links ++ l ∷ [] }) k (links_grow1 d.model l) (omega (arith, length-append d.model.links (l ∷ []))) (links_fit d.model l k.parts (inside, fit)) k.traces

fit_first : (sizes row : List ℕ) → ValuesFit sizes row → FitFirst sizes row
fit_first sizes row fit = (omega (arith, fit.0), λ x l. fit.1 x (omega (arith, fit.0, l)))

trace_kept : (d : DraftForm) (x : List ℕ) (prefix cycle : List (List ℕ)) → IsDraft d → All (ValuesFit (sizes_of d.model)) prefix → All (ValuesFit (sizes_of d.model)) cycle → 0 < length cycle → IsDraft (with_trace d x prefix cycle)
trace_kept d x prefix cycle k before after turns =
    let t : TraceForm = record { name = x; prefix = prefix; cycle = cycle } in
    declared_draft d x Trace (length d.model.traces) (record d.model { traces = d.model.traces ++ t ∷ [] }) k (traces_grow d.model t) (omega (arith, length-append d.model.traces (t ∷ []))) (traces_fit d.model t k.parts)
    (All-push (TraceFitsFirst (sizes_of d.model)) d.model.traces t k.traces (record { turns = turns; prefix = λ i e l. fit_first (sizes_of d.model) _ (before i e l); cycle = λ i e l. fit_first (sizes_of d.model) _ (after i e l) }))

-- a goal that is expected is the goal that it was
expected_length : (k : ℕ) (gs : List GoalForm) → length (expected_at k gs) ≡ length gs
expected_length k [] = refl
expected_length zero (g ∷ gs) = refl
expected_length (suc k) (g ∷ gs) = omega (arith, expected_length k gs)

expected_formulas : (k : ℕ) (gs : List GoalForm) → map (λ g. g.formula) (expected_at k gs) ≡ map (λ g. g.formula) gs
expected_formulas k [] = refl
expected_formulas zero (g ∷ gs) = refl
expected_formulas (suc k) (g ∷ gs) = ap (λ fs. g.formula ∷ fs) (expected_formulas k gs)

expected_fit : (rs : List RangeForm) (k : ℕ) (gs : List GoalForm) → All (λ g. Fits rs g.formula) gs → All (λ g. Fits rs g.formula) (expected_at k gs)
expected_fit rs k [] all = all
expected_fit rs zero (g ∷ gs) all = All-cons (λ g. Fits rs g.formula) (record g { is_expected = true }) gs (all 0 g (omega arith)) (λ i d l. all (suc i) d (omega (arith, l)))
expected_fit rs (suc k) (g ∷ gs) all = All-cons (λ g. Fits rs g.formula) g (expected_at k gs) (all 0 g (omega arith)) (expected_fit rs k gs (λ i d l. all (suc i) d (omega (arith, l))))

expected_kept : (d : DraftForm) (g : ℕ) → IsDraft d → IsDraft (with_expected d g)
expected_kept d g k = grown_draft d m k grows fit k.traces
  where
    m : ModelForm
    m = record d.model { goals = expected_at g d.model.goals }

    grows : Grows d.model m
    grows = record { fits = λ f h. h; members = omega arith; attributes = omega arith; domains = omega arith; goals = omega (arith, expected_length g d.model.goals); obstacles = omega arith; agents = omega arith; operations = omega arith; requirements = omega arith; links = omega arith; traces = omega arith }

    fit : PartsFit m
    fit = record {
      few = k.parts.few;
      count = k.parts.count;
      ranges = k.parts.ranges;
      members = k.parts.members;
      attributes = k.parts.attributes;
      domains = k.parts.domains;
      goals = expected_fit d.model.ranges g d.model.goals k.parts.goals;
      obstacles = k.parts.obstacles;
      operations = k.parts.operations;
      requirements = k.parts.requirements;
      links = links_grow d.model m grows d.model.links k.parts.links;
    }

first_more : (rs more : List RangeForm) (t : TraceForm) → TraceFitsFirst (map size_of rs) t → TraceFitsFirst (map size_of (rs ++ more)) t
first_more rs more t f = record { turns = f.turns; prefix = λ k d l. row (get_or t.prefix k d) (f.prefix k d l); cycle = λ k d l. row (get_or t.cycle k d) (f.cycle k d l) }
  where
    sizes : map size_of (rs ++ more) ≡ map size_of rs ++ map size_of more
    sizes = map-append size_of rs more

    row : (xs : List ℕ) → FitFirst (map size_of rs) xs → FitFirst (map size_of (rs ++ more)) xs
    row xs fit = subst (λ ns. FitFirst ns xs) (sym sizes) (
      omega (arith, fit.0, length-append (map size_of rs) (map size_of more)),
      λ x l. subst (λ n. slice_index xs x < n) (sym (get_or_append_left (map size_of rs) (map size_of more) 0 x (omega (arith, fit.0, l)))) (fit.1 x l),
    )

variable_kept : (d : DraftForm) (x : List ℕ) (r : RangeForm) → IsDraft d → IsGoodRange r → length d.model.names < 64 → IsDraft (with_variable d x r)
variable_kept d x r k good few =
    grown_draft d (wider d.model (x ∷ []) (r ∷ [])) k (wider_grows d.model (x ∷ []) (r ∷ [])) (wider_fit d.model (x ∷ []) (r ∷ []) k.parts refl (All-push IsGoodRange [] r (All-nil IsGoodRange) good) (omega (arith, few)))
    (λ i t l. first_more d.model.ranges (r ∷ []) (get_or d.model.traces i t) (k.traces i t l))

type_kept : (d : DraftForm) (x : List ℕ) (xs : List (List ℕ)) → IsDraft d → HasMembers xs → IsDraft (with_entity_type d x xs)
type_kept d x xs k few =
    declared_draft d x EntityType (length d.model.members) (record d.model { types = d.model.types ++ x ∷ []; members = d.model.members ++ xs ∷ [] }) k (members_grow d.model x xs) (omega (arith, length-append d.model.members (xs ∷ []))) (members_fit d.model x xs k.parts few) k.traces

attribute_kept : (d : DraftForm) (f : List ℕ) (e : ℕ) (r : RangeForm) → IsDraft d → e < length d.model.members → IsGoodRange r → length d.model.names + length (members_at (scope_of d) e) ≤ 64 → IsDraft (with_attribute d f e (members_at (scope_of d) e) r)
attribute_kept d f e r k inside good few =
    declared_draft d f Attribute (length d.model.attributes) (record m { attributes = m.attributes ++ a ∷ [] }) k grows (omega (arith, length-append d.model.attributes (a ∷ [])))
    (attributes_fit m a (wider_fit d.model xs rs k.parts many all_good (omega (arith, few, length-map ms (joined_name f)))) (row_is_of d.model.names d.model.ranges d.model.members f e r k.parts.count inside))
    (λ i t l. first_more d.model.ranges rs (get_or d.model.traces i t) (k.traces i t l))
  where
    ms : List (List ℕ)
    ms = members_at (scope_of d) e

    xs : List (List ℕ)
    xs = joined_names f ms

    rs : List RangeForm
    rs = map (λ m. r) ms

    a : AttributeForm
    a = record { name = f; entity = e; first = length d.model.names }

    m : ModelForm
    m = wider d.model xs rs

    many : length rs ≡ length xs
    many = length-map ms (λ m. r) ∙ sym (length-map ms (joined_name f))

    all_good : All IsGoodRange rs
    all_good = All-map IsGoodRange (λ m. r) ms (λ i x l. good)

    grows : Grows d.model (record m { attributes = m.attributes ++ a ∷ [] })
    grows = record { fits = λ g h. fits_more d.model.ranges rs g h; members = omega arith; attributes = omega (arith, length-append d.model.attributes (a ∷ [])); domains = omega arith; goals = omega arith; obstacles = omega arith; agents = omega arith; operations = omega arith; requirements = omega arith; links = omega arith; traces = omega arith }

-- ---- the formulas of a statement

keeps_draft : (d : DraftForm) (n : ℕ) (fs : List WrittenTree) → IsDraft d → IsDraft (keeps d n fs)
keeps_draft d n fs k =
    let ws = d.model.written ++ kept_if (d.version == 2) n fs in
    grown_draft d (record d.model { written = ws }) k (written_grow d.model ws) (written_fit d.model ws k.parts) k.traces

plain_given : (d : DraftForm) (x : List ℕ) (w : WrittenTree) (f : Ltl) → plain_in d x w ≡ Ok f → plain_of (scope_of d) w ≡ f
plain_given d x w f e =
    let t = then_ok (holds (not (d.version == 2) || is_narrow (scope_of d) w) TooWide x) (λ _. Ok (plain_of (scope_of d) w)) f e in
    same_ok (plain_of (scope_of d) w) f t.2

plain_kept : (d : DraftForm) (x : List ℕ) (body : RawTree) (w : WrittenTree) (f : Ltl) → IsDraft d → written_in (scope_of d) body ≡ Ok w → plain_in d x w ≡ Ok f → Fits d.model.ranges f
plain_kept d x body w f k is e = subst (Fits d.model.ranges) (plain_given d x w f e) (plain_fits (scope_of d) (draft_scope d k) refl body w is)

-- what a statement's only formula gives
pair_given : (d : DraftForm) (n : ℕ) (fs : List WrittenTree) (f : Ltl) (p : DraftForm × Ltl) → resolved (keeps d n fs, f) ≡ resolved p → Fits d.model.ranges f → (fs : List WrittenTree) × (keeps d n fs ≡ p.0) × Fits d.model.ranges p.1
pair_given d n fs f p e fit =
    let same = same_ok (keeps d n fs, f) p e in
    (fs, ap (λ q. q.0) same, subst (λ (q : DraftForm × Ltl). Fits d.model.ranges q.1) same fit)

one_given : (d : DraftForm) (n : ℕ) (x : List ℕ) (body : RawTree) (p : DraftForm × Ltl) → IsDraft d → one_taken d n x body ≡ Ok p → (fs : List WrittenTree) × (keeps d n fs ≡ p.0) × Fits d.model.ranges p.1
one_given d n x body p k e =
    let w = then_ok (written_in (scope_of d) body) _ p e in
    let f = then_ok (plain_in d x w.0) _ p w.2 in
    pair_given d n (w.0 ∷ []) f.0 p f.2 (plain_kept d x body w.0 f.0 k w.1 f.1)

-- what a statement's two formulas give
triple_given : (d : DraftForm) (n : ℕ) (fs : List WrittenTree) (f g : Ltl) (p : DraftForm × Ltl × Ltl) → resolved (keeps d n fs, f, g) ≡ resolved p → Fits d.model.ranges f → Fits d.model.ranges g
    → (fs : List WrittenTree) × (keeps d n fs ≡ p.0) × Fits d.model.ranges p.1 × Fits d.model.ranges p.2
triple_given d n fs f g p e fit also =
    let same = same_ok (keeps d n fs, f, g) p e in
    (fs, ap (λ q. q.0) same, subst (λ (q : DraftForm × Ltl × Ltl). Fits d.model.ranges q.1) same fit, subst (λ (q : DraftForm × Ltl × Ltl). Fits d.model.ranges q.2) same also)

two_given : (d : DraftForm) (n : ℕ) (x : List ℕ) (first second : RawTree) (p : DraftForm × Ltl × Ltl) → IsDraft d → two_taken d n x first second ≡ Ok p
    → (fs : List WrittenTree) × (keeps d n fs ≡ p.0) × Fits d.model.ranges p.1 × Fits d.model.ranges p.2
two_given d n x first second p k e =
    let v = then_ok (written_in (scope_of d) first) _ p e in
    let w = then_ok (written_in (scope_of d) second) _ p v.2 in
    let f = then_ok (plain_in d x v.0) _ p w.2 in
    let g = then_ok (plain_in d x w.0) _ p f.2 in
    triple_given d n (v.0 ∷ w.0 ∷ []) f.0 g.0 p g.2 (plain_kept d x first v.0 f.0 k v.1 f.1) (plain_kept d x second w.0 g.0 k w.1 g.1)

-- one statement more
pub taken_keeps : (d next : DraftForm) (n : ℕ) (s : StatementForm) → IsDraft d → taken d n s ≡ Ok next → Keeps d next
taken_keeps d next n (version v) k e = kept_as d (record d { version = v }) next e (record { places = k.places; parts = k.parts; traces = k.traces }, omega arith)
taken_keeps d next n (variable x r) k e =
    let a = then_ok (fresh (scope_of d) x) _ next e in
    let b = then_ok (values_apart r) _ next a.2 in
    let c = then_ok (holds (has_few_values r) BadRange x) _ next b.2 in
    let f = then_ok (holds (nat_lt (length d.model.names) 64) TooManyVars x) _ next c.2 in
    kept_as d (with_variable d x r) next f.2 (variable_kept d x r k (good_range r b.1 (held (has_few_values r) BadRange x c.0 c.1)) (ltb-true (length d.model.names) 64 (held (nat_lt (length d.model.names) 64) TooManyVars x f.0 f.1)), omega arith)
taken_keeps d next n (entity_type x members) k e =
    let a = then_ok (fresh (scope_of d) x) _ next e in
    let b = then_ok (apart_from [] members) _ next a.2 in
    let c = then_ok (holds (has_few_members members) BadRange x) _ next b.2 in
    let few = and_parts (nat_le 2 (length members)) (nat_le (length members) 8) (held (has_few_members members) BadRange x c.0 c.1) in
    kept_as d (with_entity_type d x members) next c.2 (type_kept d x members k (leb-true 2 (length members) few.0, leb-true (length members) 8 few.1), omega (arith, length-append d.model.members (members ∷ [])))
taken_keeps d next n (attribute x entity r) k e =
    let a = then_ok (fresh (scope_of d) x) _ next e in
    let b = then_ok (used (scope_of d) EntityType entity) _ next a.2 in
    let c = then_ok (values_apart r) _ next b.2 in
    let ms = members_at (scope_of d) b.0 in
    let f = then_ok (holds (has_few_values r) BadRange x) _ next c.2 in
    let g = then_ok (holds (not (is_some_long x ms)) LongName x) _ next f.2 in
    let h = then_ok (all_fresh (scope_of d) (joined_names x ms)) _ next g.2 in
    let i = then_ok (holds (nat_le (length d.model.names + length ms) 64) TooManyVars x) _ next h.2 in
    kept_as d (with_attribute d x b.0 ms r) next i.2
    (attribute_kept d x b.0 r k (place_kept d EntityType entity b.0 k b.1) (good_range r c.1 (held (has_few_values r) BadRange x f.0 f.1)) (leb-true (length d.model.names + length ms) 64 (held (nat_le (length d.model.names + length ms) 64) TooManyVars x i.0 i.1)), omega arith)
taken_keeps d next n (domain x body) k e =
    let a = then_ok (fresh (scope_of d) x) _ next e in
    let b = then_ok (one_taken d n x body) _ next a.2 in
    let o = one_given d n x body b.0 k b.1 in
    kept_as d (with_property b.0.0 n x false b.0.1) next b.2
    (subst (λ (p : DraftForm). Keeps d (with_property p n x false b.0.1)) o.1 (property_kept (keeps d n o.0) n x false b.0.1 (keeps_draft d n o.0 k) o.2, omega arith))
taken_keeps d next n (rule x cause effect) k e =
    let a = then_ok (fresh (scope_of d) x) _ next e in
    let b = then_ok (two_taken d n x cause effect) _ next a.2 in
    let o = two_given d n x cause effect b.0 k b.1 in
    kept_as d (with_property b.0.0 n x true (entails b.0.1 b.0.2)) next b.2
    (subst (λ (p : DraftForm). Keeps d (with_property p n x true (entails b.0.1 b.0.2))) o.1 (property_kept (keeps d n o.0) n x true (entails b.0.1 b.0.2) (keeps_draft d n o.0 k) (o.2, o.3), omega arith))
taken_keeps d next n (goal x body) k e =
    let a = then_ok (fresh (scope_of d) x) _ next e in
    let b = then_ok (one_taken d n x body) _ next a.2 in
    let o = one_given d n x body b.0 k b.1 in
    kept_as d (with_goal b.0.0 n x b.0.1) next b.2
    (subst (λ (p : DraftForm). Keeps d (with_goal p n x b.0.1)) o.1 (goal_kept (keeps d n o.0) n x b.0.1 (keeps_draft d n o.0 k) o.2, omega arith))
taken_keeps d next n (obstacle x body) k e =
    let a = then_ok (fresh (scope_of d) x) _ next e in
    let b = then_ok (one_taken d n x body) _ next a.2 in
    let o = one_given d n x body b.0 k b.1 in
    kept_as d (with_obstacle b.0.0 n x b.0.1) next b.2
    (subst (λ (p : DraftForm). Keeps d (with_obstacle p n x b.0.1)) o.1 (obstacle_kept (keeps d n o.0) n x b.0.1 (keeps_draft d n o.0 k) o.2, omega arith))
taken_keeps d next n (refinement x xs pattern) k e =
    let a = then_ok (used (scope_of d) Goal x) _ next e in
    let b = then_ok (listed (used (scope_of d) Goal) xs) _ next a.2 in
    let c = then_ok (pattern_in pattern) _ next b.2 in
    let f = then_ok (holds (not (closes_cycle d.model.links a.0 b.0)) Cycle x) _ next c.2 in
    kept_as d (with_link d (refine n a.0 b.0 c.0)) next f.2 (link_kept d (refine n a.0 b.0 c.0) k (place_kept d Goal x a.0 k a.1, places_kept d Goal xs b.0 k b.1), omega arith)
taken_keeps d next n (obstruction x xs) k e =
    let a = then_ok (used (scope_of d) Goal x) _ next e in
    let b = then_ok (listed (used (scope_of d) Obstacle) xs) _ next a.2 in
    kept_as d (with_link d (obstruct n a.0 b.0)) next b.2 (link_kept d (obstruct n a.0 b.0) k (place_kept d Goal x a.0 k a.1, places_kept d Obstacle xs b.0 k b.1), omega arith)
taken_keeps d next n (conflict x xs boundary) k e =
    let a = then_ok (fresh (scope_of d) x) _ next e in
    let b = then_ok (listed (used (scope_of d) Goal) xs) _ next a.2 in
    let c = then_ok (one_taken d n x boundary) _ next b.2 in
    let o = one_given d n x boundary c.0 k c.1 in
    kept_as d (with_conflict c.0.0 n x b.0 c.0.1) next c.2
    (subst (λ (p : DraftForm). Keeps d (with_conflict p n x b.0 c.0.1)) o.1 (conflict_kept (keeps d n o.0) n x b.0 c.0.1 (keeps_draft d n o.0 k) (places_kept d Goal xs b.0 k b.1) o.2, omega arith))
taken_keeps d next n (agent x monitored controlled) k e =
    let a = then_ok (fresh (scope_of d) x) _ next e in
    let b = then_ok (variables_in (scope_of d) monitored) _ next a.2 in
    let c = then_ok (variables_in (scope_of d) controlled) _ next b.2 in
    let f = then_ok (uncontrolled d.model.agents d.model.names c.0) _ next c.2 in
    kept_as d (with_agent d x b.0 c.0) next f.2 (agent_kept d (record { name = x; monitors = set_of 0 b.0; controls = set_of 0 c.0 }) k, omega arith)
taken_keeps d next n (assignment x y) k e =
    let a = then_ok (used (scope_of d) Goal x) _ next e in
    let b = then_ok (used (scope_of d) Agent y) _ next a.2 in
    kept_as d (with_link d (assign n a.0 b.0)) next b.2 (link_kept d (assign n a.0 b.0) k (place_kept d Goal x a.0 k a.1, place_kept d Agent y b.0 k b.1), omega arith)
taken_keeps d next n (expectation x y) k e =
    let a = then_ok (used (scope_of d) Goal x) _ next e in
    let b = then_ok (used (scope_of d) Agent y) _ next a.2 in
    kept_as d (with_expected d a.0) next b.2 (expected_kept d a.0 k, omega arith)
taken_keeps d next n (operation x y dompre dompost) k e =
    let a = then_ok (fresh (scope_of d) x) _ next e in
    let b = then_ok (used (scope_of d) Agent y) _ next a.2 in
    let c = then_ok (two_taken d n x dompre dompost) _ next b.2 in
    let g = then_ok (holds (is_state_of c.0.1 && is_state_of c.0.2) NotState x) _ next c.2 in
    let o = two_given d n x dompre dompost c.0 k c.1 in
    kept_as d (with_operation c.0.0 x b.0 c.0.1 c.0.2) next g.2
    (subst (λ (p : DraftForm). Keeps d (with_operation p x b.0 c.0.1 c.0.2)) o.1
    (operation_kept (keeps d n o.0) (record { name = x; agent = b.0; dompre = c.0.1; dompost = c.0.2 }) (keeps_draft d n o.0 k) (place_kept d Agent y b.0 k b.1) o.2 o.3, omega arith))
taken_keeps d next n (requirement x y role body) k e =
    let a = then_ok (fresh (scope_of d) x) _ next e in
    let b = then_ok (used (scope_of d) Operation y) _ next a.2 in
    let c = then_ok (one_taken d n x body) _ next b.2 in
    let f = then_ok (holds (is_state_of c.0.1) NotState x) _ next c.2 in
    let o = one_given d n x body c.0 k c.1 in
    kept_as d (with_requirement c.0.0 x b.0 role c.0.1) next f.2
    (subst (λ (p : DraftForm). Keeps d (with_requirement p x b.0 role c.0.1)) o.1
    (requirement_kept (keeps d n o.0) (record { name = x; operation = b.0; role = role; formula = c.0.1 }) (keeps_draft d n o.0 k) (place_kept d Operation y b.0 k b.1) o.2, omega arith))
taken_keeps d next n (operationalisation x xs exact) k e =
    let a = then_ok (used (scope_of d) Goal x) _ next e in
    let b = then_ok (listed (used (scope_of d) Requirement) xs) _ next a.2 in
    kept_as d (with_link d (operationalise n a.0 b.0 exact)) next b.2 (link_kept d (operationalise n a.0 b.0 exact) k (place_kept d Goal x a.0 k a.1, places_kept d Requirement xs b.0 k b.1), omega arith)
taken_keeps d next n (trace x prefix cycle) k e =
    let a = then_ok (fresh (scope_of d) x) _ next e in
    let b = then_ok (states_in (scope_of d) prefix) _ next a.2 in
    let c = then_ok (states_in (scope_of d) cycle) _ next b.2 in
    let f = then_ok (holds (nat_lt 0 (length c.0)) BadValue x) _ next c.2 in
    let none = All-nil (ValuesFit (sizes_of d.model)) in
    kept_as d (with_trace d x b.0 c.0) next f.2
    (trace_kept d x b.0 c.0 k (states_fit (scope_of d) (draft_scope d k) [] prefix b.0 none b.1) (states_fit (scope_of d) (draft_scope d k) [] cycle c.0 none c.1) (ltb-true 0 (length c.0) (held (nat_lt 0 (length c.0)) BadValue x f.0 f.1)), omega arith)

-- a link's subgoals are goals of the model
subgoals_below : (m : ModelForm) (l : LinkForm) → LinkIsOf m l → HasGoalsBelow (length m.goals) l
subgoals_below m (refine s p xs k) h from = by (eqb p from)
  where
    by : (b : Bool) → All (λ g. g < length m.goals) (cond b xs [])
    by true = h.1
    by false = All-nil (λ g. g < length m.goals)
subgoals_below m (obstruct s p xs) h from = All-nil (λ g. g < length m.goals)
subgoals_below m (models.conflict s x xs f) h from = All-nil (λ g. g < length m.goals)
subgoals_below m (operationalise s p xs k) h from = All-nil (λ g. g < length m.goals)
subgoals_below m (assign s p k) h from = All-nil (λ g. g < length m.goals)

pub links_below : (m : ModelForm) → All (LinkIsOf m) m.links → All (HasGoalsBelow (length m.goals)) m.links
links_below m all k d l = subgoals_below m (get_or m.links k d) (all k d l)

-- so is the goal that it refines
parent_below : (m : ModelForm) (l : LinkForm) → LinkIsOf m l → HasParentBelow (length m.goals) l
parent_below m (refine s p xs k) h = h.0
parent_below m l h = tt

pub parents_below : (m : ModelForm) → All (LinkIsOf m) m.links → All (HasParentBelow (length m.goals)) m.links
parents_below m all k d l = parent_below m (get_or m.links k d) (all k d l)
