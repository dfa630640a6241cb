-- What every scope has: each number and each place that it gives is of something that is there.
use Rattle.std.specs.Prelude.{◌≡◌, ◌<◌, length, All}
use Rattle.state_space.specs.Ranges.{IsGoodRange}
use Rattle.entity_types.specs.WrittenTrees.{TermForm, plain, of_member, of_bound}
use Rattle.goal_model.specs.declared.namespace.Kind.TheVariants.{EntityType, Attribute}
use Rattle.goal_model.specs.declared.namespace.Declared.{Declared}
use Rattle.goal_model.specs.Scopes.{number_of, ScopeForm}
use Rattle.goal_model.specs.Models.{AttributeIsOf, HasMembers}

-- an entity type or an attribute that is declared is there
abbrev pub PlaceIsOf : ScopeForm → Declared → Type 0
PlaceIsOf s d =
    (number_of d.kind ≡ number_of EntityType → d.place < length s.members) × (number_of d.kind ≡ number_of Attribute → d.place < length s.attributes)

pub record IsScope (s : ScopeForm) : Type 0 where
  pub count : length s.ranges ≡ length s.names
  pub ranges : All IsGoodRange s.ranges
  pub members : All HasMembers s.members
  pub attributes : All (AttributeIsOf s.names s.ranges s.members) s.attributes
  pub others : All (PlaceIsOf s) s.others

-- the variable or the attribute of a term is there
abbrev pub TermIsOf : ScopeForm → TermForm → Type 0
TermIsOf s (plain x) = x < length s.names
TermIsOf s (of_member a m) = a < length s.attributes
TermIsOf s (of_bound a level) = a < length s.attributes
