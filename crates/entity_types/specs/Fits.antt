-- When a written formula fits entities: each type, attribute and member that it names is there, each member is one of its attribute's
-- type, and each level is inside its quantifier, whose type is the attribute's.
use Rattle.std.specs.Prelude.{◌≡◌, ℕ, ◌<◌, List, [], ◌∷◌, ◌++◌, length, Some, slice_get, slice_index}
use Rattle.entity_types.specs.WrittenTrees.{TermForm, plain, of_member, of_bound, AtomForm, truth, falsity, flag, compares, among, relates, WrittenTree, atom, opening, joining, all, exists}
use Rattle.entity_types.specs.Rows.{Rows, count_of, owner_of}

-- under quantifiers over these types, the outermost first: the attribute and member are there, or the level is of the attribute's type
abbrev pub TermFits : Rows → (types : List ℕ) → TermForm → Type 0
TermFits rows types (plain x) = Unit {0}
TermFits rows types (of_member attr member) = (attr < length rows.owners) × (member < count_of rows (owner_of rows attr))
TermFits rows types (of_bound attr level) = (attr < length rows.owners) × (slice_get types level ≡ Some (owner_of rows attr))

-- each term of the atom fits under quantifiers over these types
abbrev pub AtomFits : Rows → (types : List ℕ) → AtomForm → Type 0
AtomFits rows types truth = Unit {0}
AtomFits rows types falsity = Unit {0}
AtomFits rows types (flag x) = TermFits rows types x
AtomFits rows types (compares x r v) = TermFits rows types x
AtomFits rows types (among x set) = TermFits rows types x
AtomFits rows types (relates x r y) = TermFits rows types x × TermFits rows types y

-- each quantifier names a type that is there, and each atom fits under the quantifiers around it
abbrev pub Fits : Rows → (types : List ℕ) → WrittenTree → Type 0
Fits rows types (atom a) = AtomFits rows types a
Fits rows types (opening o a) = Fits rows types a
Fits rows types (joining j a b) = Fits rows types a × Fits rows types b
Fits rows types (all entity a) = (entity < length rows.counts) × Fits rows (types ++ entity ∷ []) a
Fits rows types (exists entity a) = (entity < length rows.counts) × Fits rows (types ++ entity ∷ []) a

-- ---- under a choice for these quantifiers, which gives each one a member, the outermost first

-- the attribute of the term is there, and so is the member that it names, or that was chosen at its level
abbrev pub TermIsThere : Rows → (choice : List ℕ) → TermForm → Type 0
TermIsThere rows choice (plain x) = Unit {0}
TermIsThere rows choice (of_member attr member) = (attr < length rows.owners) × (member < count_of rows (owner_of rows attr))
TermIsThere rows choice (of_bound attr level) =
    (attr < length rows.owners) × (level < length choice) × (slice_index choice level < count_of rows (owner_of rows attr))

-- each term of the atom is there
abbrev pub AtomIsThere : Rows → (choice : List ℕ) → AtomForm → Type 0
AtomIsThere rows choice truth = Unit {0}
AtomIsThere rows choice falsity = Unit {0}
AtomIsThere rows choice (flag x) = TermIsThere rows choice x
AtomIsThere rows choice (compares x r v) = TermIsThere rows choice x
AtomIsThere rows choice (among x set) = TermIsThere rows choice x
AtomIsThere rows choice (relates x r y) = TermIsThere rows choice x × TermIsThere rows choice y

-- each atom is there, whichever members the quantifiers around it choose
abbrev pub IsThere : Rows → (choice : List ℕ) → WrittenTree → Type 0
IsThere rows choice (atom a) = AtomIsThere rows choice a
IsThere rows choice (opening o a) = IsThere rows choice a
IsThere rows choice (joining j a b) = IsThere rows choice a × IsThere rows choice b
IsThere rows choice (all entity a) = (entity < length rows.counts) × ((m : ℕ) → m < count_of rows entity → IsThere rows (choice ++ m ∷ []) a)
IsThere rows choice (exists entity a) = (entity < length rows.counts) × ((m : ℕ) → m < count_of rows entity → IsThere rows (choice ++ m ∷ []) a)

-- ---- of types alone

-- each entity type that the formula names is there
abbrev pub TypesAreThere : Rows → WrittenTree → Type 0
TypesAreThere rows (atom a) = Unit {0}
TypesAreThere rows (opening o a) = TypesAreThere rows a
TypesAreThere rows (joining j a b) = TypesAreThere rows a × TypesAreThere rows b
TypesAreThere rows (all entity a) = (entity < length rows.counts) × TypesAreThere rows a
TypesAreThere rows (exists entity a) = (entity < length rows.counts) × TypesAreThere rows a
