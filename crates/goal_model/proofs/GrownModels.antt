-- Models that grow: what fits one still fits it with something more behind.
use Rattle.std.proofs.Common.{◌≡◌, ℕ, ◌+◌, ◌<◌, ◌≤◌, List, [], ◌∷◌, ◌++◌, length, get_or, arith}
use Rattle.std.specs.Prelude.{All}
use Rattle.std.proofs.lemmas.List.{length-append}
use Rattle.std.proofs.lemmas.List.Elements.{All-push, All-append}
use Rattle.state_space.specs.Ranges.{RangeForm, IsGoodRange}
use Rattle.temporal_logic.specs.Ltl.{Ltl}
use Rattle.temporal_logic.specs.Fits.{Fits}
use Rattle.entity_types.specs.View.{AttributeForm}
use Rattle.goal_model.specs.declared.namespace.Kind.{Kind}
use Rattle.goal_model.specs.declared.namespace.Kind.TheVariants.{Property, Goal, Obstacle, Agent, Operation, Requirement, Conflict, Trace, EntityType, Attribute}
use Rattle.goal_model.specs.declared.namespace.Declared.{Declared}
use Rattle.goal_model.specs.Models.{PropertyForm, GoalForm, ObstacleForm, AgentForm, OperationForm, RequirementForm, LinkForm, refine, obstruct, operationalise, assign, TraceForm, WrittenForm, ModelForm, LinkIsOf, AttributeIsOf, HasMembers, PartsFit}
use Rattle.goal_model.specs.Models as models
use Rattle.goal_model.specs.WholeDrafts.{count_of}
use Rattle.goal_model.proofs.AttributeRows.{more_members, more_variables}
use Rattle.goal_model.proofs.Fitting.{fits_more}

-- what was there before is there
pub record Grows (old new : ModelForm) : Type 0 where
  pub fits : (f : Ltl) → Fits old.ranges f → Fits new.ranges f
  pub members : length old.members ≤ length new.members
  pub attributes : length old.attributes ≤ length new.attributes
  pub domains : length old.domains ≤ length new.domains
  pub goals : length old.goals ≤ length new.goals
  pub obstacles : length old.obstacles ≤ length new.obstacles
  pub agents : length old.agents ≤ length new.agents
  pub operations : length old.operations ≤ length new.operations
  pub requirements : length old.requirements ≤ length new.requirements
  pub links : length old.links ≤ length new.links
  pub traces : length old.traces ≤ length new.traces

counts_grow : (old new : ModelForm) → Grows old new → (kind : Kind) → count_of old kind ≤ count_of new kind
counts_grow old new g Property = g.domains
counts_grow old new g Goal = g.goals
counts_grow old new g Obstacle = g.obstacles
counts_grow old new g Agent = g.agents
counts_grow old new g Operation = g.operations
counts_grow old new g Requirement = g.requirements
counts_grow old new g Conflict = g.links
counts_grow old new g Trace = g.traces
counts_grow old new g EntityType = g.members
counts_grow old new g Attribute = g.attributes

link_grows : (old new : ModelForm) → Grows old new → (l : LinkForm) → LinkIsOf old l → LinkIsOf new l
link_grows old new g (refine s p xs k) h = (omega (arith, h.0, g.goals), λ k d l. omega (arith, h.1 k d l, g.goals))
link_grows old new g (obstruct s p xs) h = (omega (arith, h.0, g.goals), λ k d l. omega (arith, h.1 k d l, g.obstacles))
link_grows old new g (models.conflict s x xs f) h = (λ k d l. omega (arith, h.0 k d l, g.goals), g.fits f h.1)
link_grows old new g (operationalise s p xs e) h = (omega (arith, h.0, g.goals), λ k d l. omega (arith, h.1 k d l, g.requirements))
link_grows old new g (assign s p a) h = (omega (arith, h.0, g.goals), omega (arith, h.1, g.agents))

pub links_grow : (old new : ModelForm) → Grows old new → (ls : List LinkForm) → All (LinkIsOf old) ls → All (LinkIsOf new) ls
links_grow old new g ls all = λ k d l. link_grows old new g (get_or ls k d) (all k d l)

pub places_grow : (old new : ModelForm) → Grows old new → (es : List Declared) → All (λ e. e.place < count_of old e.kind) es → All (λ e. e.place < count_of new e.kind) es
places_grow old new g es all = λ k d l. omega (arith, all k d l, counts_grow old new g (get_or es k d).kind)

-- ---- one element more

pub domains_grow : (m : ModelForm) (x : PropertyForm) → Grows m (record m { domains = m.domains ++ x ∷ [] })
domains_grow m x = record { fits = λ f h. h; members = omega arith; attributes = omega arith; domains = omega (arith, length-append m.domains (x ∷ [])); goals = omega arith; obstacles = omega arith; agents = omega arith; operations = omega arith; requirements = omega arith; links = omega arith; traces = omega arith }

pub goals_grow : (m : ModelForm) (x : GoalForm) → Grows m (record m { goals = m.goals ++ x ∷ [] })
goals_grow m x = record { fits = λ f h. h; members = omega arith; attributes = omega arith; domains = omega arith; goals = omega (arith, length-append m.goals (x ∷ [])); obstacles = omega arith; agents = omega arith; operations = omega arith; requirements = omega arith; links = omega arith; traces = omega arith }

pub obstacles_grow : (m : ModelForm) (x : ObstacleForm) → Grows m (record m { obstacles = m.obstacles ++ x ∷ [] })
obstacles_grow m x = record { fits = λ f h. h; members = omega arith; attributes = omega arith; domains = omega arith; goals = omega arith; obstacles = omega (arith, length-append m.obstacles (x ∷ [])); agents = omega arith; operations = omega arith; requirements = omega arith; links = omega arith; traces = omega arith }

pub agents_grow : (m : ModelForm) (x : AgentForm) → Grows m (record m { agents = m.agents ++ x ∷ [] })
agents_grow m x = record { fits = λ f h. h; members = omega arith; attributes = omega arith; domains = omega arith; goals = omega arith; obstacles = omega arith; agents = omega (arith, length-append m.agents (x ∷ [])); operations = omega arith; requirements = omega arith; links = omega arith; traces = omega arith }

pub operations_grow : (m : ModelForm) (x : OperationForm) → Grows m (record m { operations = m.operations ++ x ∷ [] })
operations_grow m x = record { fits = λ f h. h; members = omega arith; attributes = omega arith; domains = omega arith; goals = omega arith; obstacles = omega arith; agents = omega arith; operations = omega (arith, length-append m.operations (x ∷ [])); requirements = omega arith; links = omega arith; traces = omega arith }

pub requirements_grow : (m : ModelForm) (x : RequirementForm) → Grows m (record m { requirements = m.requirements ++ x ∷ [] })
requirements_grow m x = record { fits = λ f h. h; members = omega arith; attributes = omega arith; domains = omega arith; goals = omega arith; obstacles = omega arith; agents = omega arith; operations = omega arith; requirements = omega (arith, length-append m.requirements (x ∷ [])); links = omega arith; traces = omega arith }

pub links_grow1 : (m : ModelForm) (x : LinkForm) → Grows m (record m { links = m.links ++ x ∷ [] })
links_grow1 m x = record { fits = λ f h. h; members = omega arith; attributes = omega arith; domains = omega arith; goals = omega arith; obstacles = omega arith; agents = omega arith; operations = omega arith; requirements = omega arith; links = omega (arith, length-append m.links (x ∷ [])); traces = omega arith }

pub traces_grow : (m : ModelForm) (x : TraceForm) → Grows m (record m { traces = m.traces ++ x ∷ [] })
traces_grow m x = record { fits = λ f h. h; members = omega arith; attributes = omega arith; domains = omega arith; goals = omega arith; obstacles = omega arith; agents = omega arith; operations = omega arith; requirements = omega arith; links = omega arith; traces = omega (arith, length-append m.traces (x ∷ [])) }

pub members_grow : (m : ModelForm) (x : List ℕ) (xs : List (List ℕ)) → Grows m (record m { types = m.types ++ x ∷ []; members = m.members ++ xs ∷ [] })
members_grow m x xs = record { fits = λ f h. h; members = omega (arith, length-append m.members (xs ∷ [])); attributes = omega arith; domains = omega arith; goals = omega arith; obstacles = omega arith; agents = omega arith; operations = omega arith; requirements = omega arith; links = omega arith; traces = omega arith }

pub attributes_grow : (m : ModelForm) (a : AttributeForm) → Grows m (record m { attributes = m.attributes ++ a ∷ [] })
attributes_grow m a = record { fits = λ f h. h; members = omega arith; attributes = omega (arith, length-append m.attributes (a ∷ [])); domains = omega arith; goals = omega arith; obstacles = omega arith; agents = omega arith; operations = omega arith; requirements = omega arith; links = omega arith; traces = omega arith }

pub written_grow : (m : ModelForm) (ws : List WrittenForm) → Grows m (record m { written = ws })
written_grow m ws = record { fits = λ f h. h; members = omega arith; attributes = omega arith; domains = omega arith; goals = omega arith; obstacles = omega arith; agents = omega arith; operations = omega arith; requirements = omega arith; links = omega arith; traces = omega arith }

pub domains_fit : (m : ModelForm) (x : PropertyForm) → PartsFit m → Fits m.ranges x.formula → PartsFit (record m { domains = m.domains ++ x ∷ [] })
domains_fit m x p h = record { few = p.few; count = p.count; ranges = p.ranges; members = p.members; attributes = p.attributes; domains = All-push (λ p. Fits m.ranges p.formula) m.domains x p.domains h; goals = p.goals; obstacles = p.obstacles; operations = p.operations; requirements = p.requirements; links = links_grow m (record m { domains = m.domains ++ x ∷ [] }) (domains_grow m x) m.links p.links }

pub goals_fit : (m : ModelForm) (x : GoalForm) → PartsFit m → Fits m.ranges x.formula → PartsFit (record m { goals = m.goals ++ x ∷ [] })
goals_fit m x p h = record { few = p.few; count = p.count; ranges = p.ranges; members = p.members; attributes = p.attributes; domains = p.domains; goals = All-push (λ p. Fits m.ranges p.formula) m.goals x p.goals h; obstacles = p.obstacles; operations = p.operations; requirements = p.requirements; links = links_grow m (record m { goals = m.goals ++ x ∷ [] }) (goals_grow m x) m.links p.links }

pub obstacles_fit : (m : ModelForm) (x : ObstacleForm) → PartsFit m → Fits m.ranges x.formula → PartsFit (record m { obstacles = m.obstacles ++ x ∷ [] })
obstacles_fit m x p h = record { few = p.few; count = p.count; ranges = p.ranges; members = p.members; attributes = p.attributes; domains = p.domains; goals = p.goals; obstacles = All-push (λ p. Fits m.ranges p.formula) m.obstacles x p.obstacles h; operations = p.operations; requirements = p.requirements; links = links_grow m (record m { obstacles = m.obstacles ++ x ∷ [] }) (obstacles_grow m x) m.links p.links }

pub agents_fit : (m : ModelForm) (x : AgentForm) → PartsFit m → PartsFit (record m { agents = m.agents ++ x ∷ [] })
agents_fit m x p = record { few = p.few; count = p.count; ranges = p.ranges; members = p.members; attributes = p.attributes; domains = p.domains; goals = p.goals; obstacles = p.obstacles; operations = λ k d i. (omega (arith, (p.operations k d i).0, length-append m.agents (x ∷ [])), (p.operations k d i).1, (p.operations k d i).2); requirements = p.requirements; links = links_grow m (record m { agents = m.agents ++ x ∷ [] }) (agents_grow m x) m.links p.links }

pub operations_fit : (m : ModelForm) (x : OperationForm) → PartsFit m → (x.agent < length m.agents) × Fits m.ranges x.dompre × Fits m.ranges x.dompost → PartsFit (record m { operations = m.operations ++ x ∷ [] })
operations_fit m x p h = record { few = p.few; count = p.count; ranges = p.ranges; members = p.members; attributes = p.attributes; domains = p.domains; goals = p.goals; obstacles = p.obstacles; operations = All-push (λ o. (o.agent < length m.agents) × Fits m.ranges o.dompre × Fits m.ranges o.dompost) m.operations x p.operations h; requirements = λ k d i. (omega (arith, (p.requirements k d i).0, length-append m.operations (x ∷ [])), (p.requirements k d i).1); links = links_grow m (record m { operations = m.operations ++ x ∷ [] }) (operations_grow m x) m.links p.links }

pub requirements_fit : (m : ModelForm) (x : RequirementForm) → PartsFit m → (x.operation < length m.operations) × Fits m.ranges x.formula → PartsFit (record m { requirements = m.requirements ++ x ∷ [] })
requirements_fit m x p h = record { few = p.few; count = p.count; ranges = p.ranges; members = p.members; attributes = p.attributes; domains = p.domains; goals = p.goals; obstacles = p.obstacles; operations = p.operations; requirements = All-push (λ r. (r.operation < length m.operations) × Fits m.ranges r.formula) m.requirements x p.requirements h; links = links_grow m (record m { requirements = m.requirements ++ x ∷ [] }) (requirements_grow m x) m.links p.links }

pub links_fit : (m : ModelForm) (x : LinkForm) → PartsFit m → LinkIsOf m x → PartsFit (record m { links = m.links ++ x ∷ [] })
links_fit m x p h = record { few = p.few; count = p.count; ranges = p.ranges; members = p.members; attributes = p.attributes; domains = p.domains; goals = p.goals; obstacles = p.obstacles; operations = p.operations; requirements = p.requirements; links = All-push (LinkIsOf (record m { links = m.links ++ x ∷ [] })) m.links x (links_grow m (record m { links = m.links ++ x ∷ [] }) (links_grow1 m x) m.links p.links) (link_grows m (record m { links = m.links ++ x ∷ [] }) (links_grow1 m x) x h) }

pub traces_fit : (m : ModelForm) (x : TraceForm) → PartsFit m → PartsFit (record m { traces = m.traces ++ x ∷ [] })
traces_fit m x p = record { few = p.few; count = p.count; ranges = p.ranges; members = p.members; attributes = p.attributes; domains = p.domains; goals = p.goals; obstacles = p.obstacles; operations = p.operations; requirements = p.requirements; links = links_grow m (record m { traces = m.traces ++ x ∷ [] }) (traces_grow m x) m.links p.links }

pub members_fit : (m : ModelForm) (x : List ℕ) (xs : List (List ℕ)) → PartsFit m → HasMembers xs → PartsFit (record m { types = m.types ++ x ∷ []; members = m.members ++ xs ∷ [] })
members_fit m x xs p few = record { few = p.few; count = p.count; ranges = p.ranges; members = All-push HasMembers m.members xs p.members few; attributes = λ k d l. more_members m.names m.ranges m.members (xs ∷ []) (get_or m.attributes k d) (p.attributes k d l); domains = p.domains; goals = p.goals; obstacles = p.obstacles; operations = p.operations; requirements = p.requirements; links = links_grow m (record m { types = m.types ++ x ∷ []; members = m.members ++ xs ∷ [] }) (members_grow m x xs) m.links p.links }

pub attributes_fit : (m : ModelForm) (a : AttributeForm) → PartsFit m → AttributeIsOf m.names m.ranges m.members a → PartsFit (record m { attributes = m.attributes ++ a ∷ [] })
attributes_fit m a p is = record { few = p.few; count = p.count; ranges = p.ranges; members = p.members; attributes = All-push (AttributeIsOf m.names m.ranges m.members) m.attributes a p.attributes is; domains = p.domains; goals = p.goals; obstacles = p.obstacles; operations = p.operations; requirements = p.requirements; links = links_grow m (record m { attributes = m.attributes ++ a ∷ [] }) (attributes_grow m a) m.links p.links }

pub written_fit : (m : ModelForm) (ws : List WrittenForm) → PartsFit m → PartsFit (record m { written = ws })
written_fit m ws p = record { few = p.few; count = p.count; ranges = p.ranges; members = p.members; attributes = p.attributes; domains = p.domains; goals = p.goals; obstacles = p.obstacles; operations = p.operations; requirements = p.requirements; links = links_grow m (record m { written = ws }) (written_grow m ws) m.links p.links }

-- ---- variables behind the others

-- the model with these
abbrev pub wider : ModelForm → List (List ℕ) → List RangeForm → ModelForm
wider m xs rs = record m { names = m.names ++ xs; ranges = m.ranges ++ rs }

pub wider_grows : (m : ModelForm) (xs : List (List ℕ)) (rs : List RangeForm) → Grows m (wider m xs rs)
wider_grows m xs rs = record { fits = λ f h. fits_more m.ranges rs f h; members = omega arith; attributes = omega arith; domains = omega arith; goals = omega arith; obstacles = omega arith; agents = omega arith; operations = omega arith; requirements = omega arith; links = omega arith; traces = omega arith }

pub wider_fit : (m : ModelForm) (xs : List (List ℕ)) (rs : List RangeForm) → PartsFit m → length rs ≡ length xs → All IsGoodRange rs → length m.names + length xs ≤ 64 → PartsFit (wider m xs rs)
wider_fit m xs rs p many good few = record {
  few = omega (arith, few, length-append m.names xs);
  count = omega (arith, p.count, many, length-append m.names xs, length-append m.ranges rs);
  ranges = All-append IsGoodRange m.ranges rs p.ranges good;
  members = p.members;
  attributes = λ i a l. more_variables m.names xs m.ranges rs m.members (get_or m.attributes i a) p.count (p.attributes i a l);
  domains = λ i x l. more (get_or m.domains i x).formula (p.domains i x l);
  goals = λ i x l. more (get_or m.goals i x).formula (p.goals i x l);
  obstacles = λ i x l. more (get_or m.obstacles i x).formula (p.obstacles i x l);
  operations = λ i x l. ((p.operations i x l).0, more (get_or m.operations i x).dompre (p.operations i x l).1, more (get_or m.operations i x).dompost (p.operations i x l).2);
  requirements = λ i x l. ((p.requirements i x l).0, more (get_or m.requirements i x).formula (p.requirements i x l).1);
  links = links_grow m (wider m xs rs) (wider_grows m xs rs) m.links p.links;
}
  where
    more : (f : Ltl) → Fits m.ranges f → Fits (m.ranges ++ rs) f
    more f h = fits_more m.ranges rs f h
