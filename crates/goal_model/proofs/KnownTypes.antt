-- What statements make known: which names are declared, and the members of the entity types among them.
use Rattle.std.proofs.Common.{◌≡◌, ◌≢◌, ℕ, suc, ◌+◌, ⊎_elim, Bool, true, false, if◌then◌else◌, List, [], ◌∷◌, ◌++◌, length, slice_get, Option, Some, None, Ok, refl, sym, ap, ap₂, subst, ◌∙◌, arith, bytes_eq}
use Rattle.std.specs.Prelude.{AllPairs, find, position, is_some, not, ◌||◌, nat_lt, cond, eqb, unwrap_or}
use Rattle.std.specs.List.{list_any, position_or_len}
use Rattle.std.specs.Option.{option_or}
use Rattle.std.proofs.lemmas.Bool.{false≢true, lt-ltb, le-ltb, cases_lt}
use Rattle.std.proofs.lemmas.List.Folds.{find-append, list_any-append}
use Rattle.std.proofs.lemmas.Option.{same_Some}
use Rattle.model_text.specs.Statements.{StatementForm, entity_type}
use Rattle.entity_types.proofs.MoreAttributes.{slice_get_left}
use Rattle.goal_model.specs.declared.refusal.RefusalKind.TheVariants.{WrongKind}
use Rattle.goal_model.specs.declared.namespace.Kind.{Kind}
use Rattle.goal_model.specs.declared.namespace.Kind.TheVariants.{EntityType}
use Rattle.goal_model.specs.declared.namespace.Declared.{Declared}
use Rattle.goal_model.specs.Names.{place_of, is_among}
use Rattle.goal_model.specs.Refusals.{refused}
use Rattle.goal_model.specs.Scopes.{number_of, ScopeForm, another, either_of, meaning_of, as_kind, used}
use Rattle.goal_model.specs.Drafts.{DraftForm, scope_of}
use Rattle.goal_model.specs.Declarations.{members_by}

-- ---- tests

pub or_false : (a : Bool) → (a || false) ≡ a
or_false true = refl
or_false false = refl

pub or_swap : (a b : Bool) → (a || b) ≡ (b || a)
or_swap true true = refl
or_swap true false = refl
or_swap false b = sym (or_false b)

or_four : (a n b e : Bool) → ((a || n) || (b || e)) ≡ ((a || b) || (n || e))
or_four true n b e = refl
or_four false true true e = refl
or_four false true false e = refl
or_four false false b e = refl

pub or_none : (a b : Bool) → (a || b) ≡ false → (a ≡ false) × (b ≡ false)
or_none true b e = absurd (false≢true (sym e))
or_none false b e = (refl, e)

found_any : {X : Type 0} (p : X → Bool) (xs : List X) → is_some (find p xs) ≡ list_any p xs
found_any p [] = refl
found_any p (y ∷ ys) = by (p y) (found_any p ys)
  where
    by : (b : Bool) → is_some (find p ys) ≡ list_any p ys → is_some (cond b (Some y) (find p ys)) ≡ (b || list_any p ys)
    by true rest = refl
    by false rest = rest

lt_suc : (a b : ℕ) → nat_lt (1 + a) (suc b) ≡ nat_lt a b
lt_suc a b = ⊎_elim (λ l. lt-ltb (1 + a) (suc b) (omega (arith, l)) ∙ sym (lt-ltb a b l)) (λ l. le-ltb (1 + a) (suc b) (omega (arith, l)) ∙ sym (le-ltb a b l)) (cases_lt a b)

place_inside : {X : Type 0} (p : X → Bool) (xs : List X) → nat_lt (position_or_len p xs) (length xs) ≡ list_any p xs
place_inside p [] = refl
place_inside p (y ∷ ys) = by (p y) (place_inside p ys)
  where
    by : (b : Bool) → nat_lt (position_or_len p ys) (length ys) ≡ list_any p ys → nat_lt (cond (not b) (1 + position_or_len p ys) 0) (length (y ∷ ys)) ≡ (b || list_any p ys)
    by true rest = lt-ltb 0 (length (y ∷ ys)) (omega arith)
    by false rest = lt_suc (position_or_len p ys) (length ys) ∙ rest

some_where : {X : Type 0} (b : Bool) (x : X) → is_some (cond b (Some x) None) ≡ b
some_where true x = refl
some_where false x = refl

placed_any : {X : Type 0} (p : X → Bool) (xs : List X) → is_some (position p xs) ≡ list_any p xs
placed_any p xs = some_where (nat_lt (position_or_len p xs) (length xs)) (position_or_len p xs) ∙ place_inside p xs

either_some : (a : Option ℕ) (b : Option Declared) → is_some (either_of a b) ≡ (is_some a || is_some b)
either_some (Some k) b = refl
either_some None (Some d) = refl
either_some None None = refl

-- a name is declared where it is a variable's or another's
meant : (s : ScopeForm) (x : List ℕ) → is_some (meaning_of s x) ≡ (is_among x s.names || list_any (λ d. bytes_eq d.name x) s.others)
meant s x = either_some (place_of x s.names) (find (λ d. bytes_eq d.name x) s.others) ∙ ap₂ (λ a b. a || b) (placed_any (λ n. bytes_eq n x) s.names) (found_any (λ (d : Declared). bytes_eq d.name x) s.others)

-- where a name is not among some, it has no place among the first of them
no_place : (y : List ℕ) (names more : List (List ℕ)) → place_of y (names ++ more) ≡ None → place_of y names ≡ None
no_place y names more e =
    let p = λ (n : List ℕ). bytes_eq n y in
    let nowhere : list_any p (names ++ more) ≡ false = sym (placed_any p (names ++ more)) ∙ ap is_some e in
    none (place_of y names) (placed_any p names ∙ (or_none (list_any p names) (list_any p more) (sym (list_any-append p names more) ∙ nowhere)).0)
  where
    none : (o : Option ℕ) → is_some o ≡ false → o ≡ None
    none (Some k) h = absurd (false≢true (sym h))
    none None h = refl

pub one_found : {X : Type 0} (p : X → Bool) (a b : X) → find p (a ∷ []) ≡ Some b → (p a ≡ true) × (a ≡ b)
one_found p a b e = by (p a) refl e
  where
    by : (t : Bool) → p a ≡ t → cond t (Some a) None ≡ Some b → (p a ≡ true) × (a ≡ b)
    by true is h = (is, same_Some a b h)
    by false is h = absurd cc

pub slice_get_last : {X : Type 0} (xs : List X) (x : X) → slice_get (xs ++ x ∷ []) (length xs) ≡ Some x
slice_get_last [] x = refl
slice_get_last (y ∷ ys) x = slice_get_last ys x

-- ---- the types that statements declare

abbrev pub type_by : StatementForm → List ℕ → Option (List (List ℕ))
type_by (entity_type y members) x = if bytes_eq y x then Some members else None
type_by _ x = None

-- the members of the first type of a name
abbrev pub typed : List StatementForm → List ℕ → Option (List (List ℕ))
typed [] x = None
typed (s ∷ ss) x = option_or (type_by s x) (typed ss x)

pub typed_push : (ss : List StatementForm) (s : StatementForm) (x : List ℕ) → typed (ss ++ s ∷ []) x ≡ option_or (typed ss x) (type_by s x)
typed_push [] s x = last (type_by s x)
  where
    last : (o : Option (List (List ℕ))) → option_or o None ≡ o
    last (Some ms) = refl
    last None = refl
typed_push (t ∷ ts) s x = by (type_by t x) (typed_push ts s x)
  where
    by : (o : Option (List (List ℕ))) → typed (ts ++ s ∷ []) x ≡ option_or (typed ts x) (type_by s x) → option_or o (typed (ts ++ s ∷ []) x) ≡ option_or (option_or o (typed ts x)) (type_by s x)
    by (Some ms) rest = refl
    by None rest = rest

pub members_typed : (ss : List StatementForm) (x : List ℕ) → members_by ss x ≡ unwrap_or (typed ss x) []
members_typed [] x = refl
members_typed (entity_type y ms ∷ ss) x = by (bytes_eq y x) (members_typed ss x)
  where
    by : (b : Bool) → members_by ss x ≡ unwrap_or (typed ss x) [] → (if b then ms else members_by ss x) ≡ unwrap_or (option_or (if b then Some ms else None) (typed ss x)) []
    by true rest = refl
    by false rest = rest
members_typed (_ ∷ ss) x = members_typed ss x

-- ---- what is known

-- a type's members are distinct, and are those of the first statement before that declares a type of this name
abbrev pub TypeIs : List StatementForm → DraftForm → List ℕ → ℕ → Type 0
TypeIs before d x e = (ms : List (List ℕ)) × (slice_get d.model.members e ≡ Some ms) × (typed before x ≡ Some ms) × AllPairs (λ a b. a ≢ b) ms

-- exactly these names are declared, and the types among them as the statements before say them
pub record Knows (before : List StatementForm) (d : DraftForm) (known : List (List ℕ)) : Type 0 where
  pub names : (x : List ℕ) → is_some (meaning_of (scope_of d) x) ≡ is_among x known
  pub types : (x : List ℕ) (e : ℕ) → used (scope_of d) EntityType x ≡ Ok e → TypeIs before d x e
  pub untyped : (x : List ℕ) → is_among x known ≡ false → typed before x ≡ None

-- what a statement adds to a draft: variables and other names, which are those that it declares, and types
pub record Adds (before : List StatementForm) (s : StatementForm) (d next : DraftForm) (declares : List (List ℕ)) : Type 0 where
  pub variables : List (List ℕ)
  pub entries : List Declared
  pub members : List (List (List ℕ))
  pub names : next.model.names ≡ d.model.names ++ variables
  pub others : next.others ≡ d.others ++ entries
  pub lists : next.model.members ≡ d.model.members ++ members
  pub declared : (y : List ℕ) → (is_among y variables || list_any (λ (e : Declared). bytes_eq e.name y) entries) ≡ is_among y declares
  pub types : (y : List ℕ) (e : Declared) → find (λ (e : Declared). bytes_eq e.name y) entries ≡ Some e → eqb (number_of e.kind) (number_of EntityType) ≡ true → typed before y ≡ None → TypeIs (before ++ s ∷ []) next y e.place
  pub untyped : (y : List ℕ) → is_among y declares ≡ false → type_by s y ≡ None

kind_is : (kind : Kind) (place e : ℕ) (x : List ℕ) → as_kind EntityType x (Some (another kind place)) ≡ Ok e → (eqb (number_of kind) (number_of EntityType) ≡ true) × (place ≡ e)
kind_is kind place e x h = by (eqb (number_of kind) (number_of EntityType)) h
  where
    by : (b : Bool) → (if b then Ok place else refused WrongKind x) ≡ Ok e → (b ≡ true) × (place ≡ e)
    by true g = (refl, (let same : place ≡ e = cc in same))
    by false g = absurd cc

-- a type of the draft that a statement is taken into is one behind it, and so is one that it declares
types_grow : (before : List StatementForm) (s : StatementForm) (d next : DraftForm) (known declares : List (List ℕ)) → Knows before d known → Adds before s d next declares → (y : List ℕ) (e : ℕ) → used (scope_of next) EntityType y ≡ Ok e → TypeIs (before ++ s ∷ []) next y e
types_grow before s d next known declares k a y e u =
    by (place_of y (d.model.names ++ a.variables)) refl (find p d.others) refl (find p a.entries) refl
    (subst (λ (o : Option Declared). as_kind EntityType y (either_of (place_of y (d.model.names ++ a.variables)) o) ≡ Ok e) (find-append p d.others a.entries)
    (subst (λ (os : List Declared). as_kind EntityType y (either_of (place_of y (d.model.names ++ a.variables)) (find p os)) ≡ Ok e) a.others
    (subst (λ (ns : List (List ℕ)). as_kind EntityType y (either_of (place_of y ns) (find p next.others)) ≡ Ok e) a.names u)))
  where
    p : Declared → Bool
    p entry = bytes_eq entry.name y

    by : (o : Option ℕ) → place_of y (d.model.names ++ a.variables) ≡ o → (f : Option Declared) → find p d.others ≡ f → (g : Option Declared) → find p a.entries ≡ g
        → as_kind EntityType y (either_of o (option_or f g)) ≡ Ok e → TypeIs (before ++ s ∷ []) next y e
    by (Some i) at f was g is h = absurd cc
    by None at (Some entry) was g is h =
        let old : used (scope_of d) EntityType y ≡ Ok e = ap₂ (λ (o : Option ℕ) (f : Option Declared). as_kind EntityType y (either_of o f)) (no_place y d.model.names a.variables at) was ∙ h in
        let t = k.types y e old in
        (t.0, subst (λ (ls : List (List (List ℕ))). slice_get ls e ≡ Some t.0) (sym a.lists) (slice_get_left d.model.members a.members e t.0 t.1), typed_push before s y ∙ ap (λ o. option_or o (type_by s y)) t.2, t.3)
    by None at None was (Some entry) is h =
        let new : is_among y known ≡ false = sym (k.names y) ∙ ap₂ (λ (o : Option ℕ) (f : Option Declared). is_some (either_of o f)) (no_place y d.model.names a.variables at) was in
        let found = kind_is entry.kind entry.place e y h in
        subst (TypeIs (before ++ s ∷ []) next y) found.1 (a.types y entry is found.0 (k.untyped y new))
    by None at None was None is h = absurd cc

pub grows : (before : List StatementForm) (s : StatementForm) (d next : DraftForm) (known declares : List (List ℕ)) → Knows before d known → Adds before s d next declares → Knows (before ++ s ∷ []) next (known ++ declares)
grows before s d next known declares k a = record { names = names; types = types_grow before s d next known declares k a; untyped = untyped }
  where
    names : (y : List ℕ) → is_some (meaning_of (scope_of next) y) ≡ is_among y (known ++ declares)
    names y =
        let p = λ (n : List ℕ). bytes_eq n y in
        let q = λ (e : Declared). bytes_eq e.name y in
        meant (scope_of next) y
        ∙ ap₂ (λ ns os. list_any p ns || list_any q os) a.names a.others
        ∙ ap₂ (λ b c. b || c) (list_any-append p d.model.names a.variables) (list_any-append q d.others a.entries)
        ∙ or_four (list_any p d.model.names) (list_any p a.variables) (list_any q d.others) (list_any q a.entries)
        ∙ ap₂ (λ b c. b || c) (sym (meant (scope_of d) y) ∙ k.names y) (a.declared y)
        ∙ sym (list_any-append p known declares)

    untyped : (y : List ℕ) → is_among y (known ++ declares) ≡ false → typed (before ++ s ∷ []) y ≡ None
    untyped y e =
        let parts = or_none (is_among y known) (is_among y declares) (sym (list_any-append (λ n. bytes_eq n y) known declares) ∙ e) in
        typed_push before s y ∙ ap₂ option_or (k.untyped y parts.0) (a.untyped y parts.1)
