-- Which names statements declare and use, and that each is declared once, and before it is used.
use Rattle.std.specs.Prelude.{◌≡◌, ◌≢◌, ℕ, true, List, [], ◌∷◌, ◌++◌, map, All, AllPairs, bytes_eq, if◌then◌else◌}
use Rattle.model_text.specs.RawTrees.{WrittenValue, an_attribute, RawTree, truth, falsity, bare, compares, among, bare_of, compares_of, among_of, neg, next, eventually, always, eventually_within, always_within, conj, disj, implies, iff, entails, until, unless, release, until_within, unless_within, release_within, for_all, for_some}
use Rattle.model_text.specs.Statements.{Setting, StatementForm, version, variable, entity_type, attribute, domain, rule, goal, obstacle, refinement, obstruction, conflict, agent, assignment, expectation, operation, requirement, operationalisation, trace}
use Rattle.entity_types.specs.Joined.{joined_names}
use Rattle.goal_model.specs.Names.{is_among}

-- the members of the entity type of a name, as a statement says them
abbrev pub members_by : List StatementForm → List ℕ → List (List ℕ)
members_by [] x = []
members_by (entity_type y members ∷ ss) x = if bytes_eq y x then members else members_by ss x
members_by (_ ∷ ss) x = members_by ss x

-- the names that a statement declares behind others: an attribute's own, and those of its variables
abbrev pub declared_by : List StatementForm → StatementForm → List (List ℕ)
declared_by before (version v) = []
declared_by before (variable x range) = x ∷ []
declared_by before (entity_type x members) = x ∷ []
declared_by before (attribute x entity range) = x ∷ joined_names x (members_by before entity)
declared_by before (domain x body) = x ∷ []
declared_by before (rule x cause effect) = x ∷ []
declared_by before (goal x body) = x ∷ []
declared_by before (obstacle x body) = x ∷ []
declared_by before (refinement x xs pattern) = []
declared_by before (obstruction x xs) = []
declared_by before (conflict x xs boundary) = x ∷ []
declared_by before (agent x monitored controlled) = x ∷ []
declared_by before (assignment x y) = []
declared_by before (expectation x y) = []
declared_by before (operation x y dompre dompost) = x ∷ []
declared_by before (requirement x y role formula) = x ∷ []
declared_by before (operationalisation x xs exact) = []
declared_by before (trace x prefix cycle) = x ∷ []

-- the names that what stands behind a comparison uses: that of an attribute. A word may be a value there, and is left out.
abbrev pub used_behind : WrittenValue → List (List ℕ)
used_behind (an_attribute f y) = f ∷ []
used_behind _ = []

-- the names that a formula uses: of variables, of attributes, and of the entity types of quantifiers
abbrev pub used_in : RawTree → List (List ℕ)
used_in truth = []
used_in falsity = []
used_in (bare x) = x ∷ []
used_in (compares x r v) = x ∷ used_behind v
used_in (among x vs) = x ∷ []
used_in (bare_of f y) = f ∷ []
used_in (compares_of f y r v) = f ∷ used_behind v
used_in (among_of f y vs) = f ∷ []
used_in (neg a) = used_in a
used_in (next a) = used_in a
used_in (eventually a) = used_in a
used_in (always a) = used_in a
used_in (eventually_within d a) = used_in a
used_in (always_within d a) = used_in a
used_in (conj a b) = used_in a ++ used_in b
used_in (disj a b) = used_in a ++ used_in b
used_in (implies a b) = used_in a ++ used_in b
used_in (iff a b) = used_in a ++ used_in b
used_in (entails a b) = used_in a ++ used_in b
used_in (until a b) = used_in a ++ used_in b
used_in (unless a b) = used_in a ++ used_in b
used_in (release a b) = used_in a ++ used_in b
used_in (until_within d a b) = used_in a ++ used_in b
used_in (unless_within d a b) = used_in a ++ used_in b
used_in (release_within d a b) = used_in a ++ used_in b
used_in (for_all x entity a) = entity ∷ used_in a
used_in (for_some x entity a) = entity ∷ used_in a

-- the names that states set
abbrev pub set_by : List (List Setting) → List (List ℕ)
set_by [] = []
set_by (state ∷ states) = map (λ t. t.variable) state ++ set_by states

-- the names that a statement uses
abbrev pub used_by : StatementForm → List (List ℕ)
used_by (version v) = []
used_by (variable x range) = []
used_by (entity_type x members) = []
used_by (attribute x entity range) = entity ∷ []
used_by (domain x body) = used_in body
used_by (rule x cause effect) = used_in cause ++ used_in effect
used_by (goal x body) = used_in body
used_by (obstacle x body) = used_in body
used_by (refinement x xs pattern) = x ∷ xs
used_by (obstruction x xs) = x ∷ xs
used_by (conflict x xs boundary) = xs ++ used_in boundary
used_by (agent x monitored controlled) = monitored ++ controlled
used_by (assignment x y) = x ∷ y ∷ []
used_by (expectation x y) = x ∷ y ∷ []
used_by (operation x y dompre dompost) = y ∷ used_in dompre ++ used_in dompost
used_by (requirement x y role formula) = y ∷ used_in formula
used_by (operationalisation x xs exact) = x ∷ xs
used_by (trace x prefix cycle) = set_by prefix ++ set_by cycle

-- the names that statements declare behind others
abbrev pub all_declared : List StatementForm → List StatementForm → List (List ℕ)
all_declared before [] = []
all_declared before (s ∷ ss) = declared_by before s ++ all_declared (before ++ s ∷ []) ss

-- no name is declared twice
abbrev pub DeclaresApart : List StatementForm → Type 0
DeclaresApart ss = AllPairs (λ a b. a ≢ b) (all_declared [] ss)

-- each name that a statement uses is one of these, which the statements before declare, or one that a further statement declares before it
abbrev pub UsesDeclared : List (List ℕ) → List StatementForm → List StatementForm → Type 0
UsesDeclared known before [] = Unit {0}
UsesDeclared known before (s ∷ ss) = All (λ x. is_among x known ≡ true) (used_by s) × UsesDeclared (known ++ declared_by before s) (before ++ s ∷ []) ss
