-- The plain trees of terms, atoms and written formulas, and the rows of entities.
use Rattle.std.specs.Prelude.{ℕ, List, length, map}
use Rattle.temporal_logic.specs.Trees.{relation_of}
use Rattle.entity_types.specs.declared.written.Term.{Term}
use Rattle.entity_types.specs.declared.written.Term.TheVariants as terms
use Rattle.entity_types.specs.declared.written.Atom.{Atom}
use Rattle.entity_types.specs.declared.written.Atom.TheVariants as atoms
use Rattle.entity_types.specs.declared.written.Written.{Written}
use Rattle.entity_types.specs.declared.written.Written.TheVariants as formulas
use Rattle.entity_types.specs.declared.entities.Entities.{Entities}
use Rattle.entity_types.specs.WrittenTrees.{TermForm, plain, of_member, of_bound, AtomForm, truth, falsity, flag, compares, among, relates, WrittenTree, atom, opening, joining, all, exists}
use Rattle.entity_types.specs.Rows.{Rows}

-- the term that one of the code stands for
abbrev pub term_of : Term → TermForm
term_of (terms.Var x) = plain x.0
term_of (terms.Of attr member) = of_member attr member
term_of (terms.Bound attr level) = of_bound attr level

-- the atom that one of the code stands for
abbrev pub atom_of : Atom → AtomForm
atom_of atoms.True = truth
atom_of atoms.False = falsity
atom_of (atoms.Flag x) = flag (term_of x)
atom_of (atoms.Is x c v) = compares (term_of x) (relation_of c) v
atom_of (atoms.Among x set) = among (term_of x) set.0
atom_of (atoms.Same x c y) = relates (term_of x) (relation_of c) (term_of y)

-- the tree that a written formula of the code stands for, wherever its operands lie in memory
abbrev pub written_tree : Written → WrittenTree
written_tree (formulas.Atom a) = atom (atom_of a)
written_tree (formulas.Opened' o p a) = opening o (written_tree a)
written_tree (formulas.Joined' j p a b) = joining j (written_tree a) (written_tree b)
written_tree (formulas.All' entity p a) = all entity (written_tree a)
written_tree (formulas.Exists' entity p a) = exists entity (written_tree a)

-- the names of the types
abbrev pub type_names : Entities → List (List ℕ)
type_names entities = map (λ t. t.name) entities.types.items

-- the names of the members of each type
abbrev pub member_names : Entities → List (List (List ℕ))
member_names entities = map (λ t. t.members.items) entities.types.items

-- the names of the attributes
abbrev pub attribute_names : Entities → List (List ℕ)
attribute_names entities = map (λ a. a.name) entities.attributes.items

-- an attribute: its name, its type, and the variable of the type's first member
pub record AttributeForm : Type 0 where
  pub name : List ℕ
  pub entity : ℕ
  pub first : ℕ

-- the attributes of entities, in order
abbrev pub attributes : Entities → List AttributeForm
attributes entities = map (λ a. record { name = a.name; entity = a.entity; first = a.first }) entities.attributes.items

-- the counts of members, the types and the first variables of entities, without their names
abbrev pub rows_of : Entities → Rows
rows_of entities = record {
  counts = map (λ t. length t.members.items) entities.types.items;
  owners = map (λ a. a.entity) entities.attributes.items;
  firsts = map (λ a. a.first) entities.attributes.items;
}
