-- Scopes: of every draft, and behind a quantifier.
use Rattle.std.proofs.Common.{◌≡◌, ℕ, ◌<◌, List, length, subst, get_or, slice_index}
use Rattle.goal_model.specs.declared.namespace.Kind.TheVariants.{EntityType, Attribute}
use Rattle.goal_model.specs.declared.namespace.Declared.{Declared}
use Rattle.goal_model.specs.Scopes.{number_of, ScopeForm, binds}
use Rattle.goal_model.specs.Drafts.{DraftForm, scope_of}
use Rattle.goal_model.specs.WholeScopes.{IsScope}
use Rattle.goal_model.specs.WholeDrafts.{counts_of, IsDraft}

-- what a draft declares is a scope
pub draft_scope : (d : DraftForm) → IsDraft d → IsScope (scope_of d)
draft_scope d k = record {
  count = k.parts.count;
  ranges = k.parts.ranges;
  members = k.parts.members;
  attributes = k.parts.attributes;
  others = λ i e l. (there i e l (number_of EntityType), there i e l (number_of Attribute));
}
  where
    there : (i : ℕ) (e : Declared) → i < length d.others → (n : ℕ) → number_of (get_or d.others i e).kind ≡ n → (get_or d.others i e).place < slice_index (counts_of d.model) n
    there i e l n same = subst (λ c. (get_or d.others i e).place < slice_index (counts_of d.model) c) same (k.places i e l)

-- a name that is bound changes nothing else
pub binds_scope : (s : ScopeForm) (x : List ℕ) (e : ℕ) → IsScope s → IsScope (binds s x e)
binds_scope s x e k = record { count = k.count; ranges = k.ranges; members = k.members; attributes = k.attributes; others = k.others }
