-- Which tokens spell which formula, by the levels of the grammar:
--   formula = iff [ "entails" iff ]
--   iff     = implies [ "iff" implies ]
--   implies = or [ "implies" implies ]
--   or      = and { "or" and }
--   and     = tempo { "and" tempo }
--   tempo   = prefix [ ( "until" | "unless" | "release" ) [ "within" number ] prefix ]
--   prefix  = "not" prefix | "next" prefix | ( "eventually" | "always" ) [ "within" number ] prefix
--           | ( "all" | "some" ) name ":" name "(" formula ")" | primary
--   primary = "true" | "false" | "(" formula ")" | subject [ cmp right | "in" "{" value { "," value } "}" ]
--   subject = name [ "(" name ")" ]
--   right   = value | name "(" name ")"
-- A `(` directly behind a name, and the words `all` and `some`, are tokens of their own, which only texts of version 2 have.
use Rattle.std.specs.Prelude.{◌≡◌, ℕ, Bool, List, [], ◌∷◌, ◌++◌, Some}
use Rattle.state_space.specs.declared.keyword.Keyword.TheVariants as keywords
use Rattle.model_tokens.specs.declared.token.Sign.{Sign}
use Rattle.model_tokens.specs.declared.token.Sign.TheVariants.{Colon, Comma, OpenParenthesis, CloseParenthesis, OpenBrace, CloseBrace}
use Rattle.model_tokens.specs.declared.token.Further.TheVariants as furthers
use Rattle.temporal_logic.specs.Ltl.{Relation}
use Rattle.model_tokens.specs.Tokens.{TokenForm, keyword, mark, name, number, further}
use Rattle.model_text.specs.RawTrees.{WrittenValue, an_attribute, RawTree, truth, falsity, bare, compares, among, bare_of, compares_of, among_of, neg, next, eventually, always, eventually_within, always_within, conj, disj, implies, iff, entails, until, unless, release, until_within, unless_within, release_within, for_all, for_some}
use Rattle.model_tokens.specs.Values.{cut_name, bound_value}
use Rattle.model_text.specs.Leaves.{relation_of, value_of}

-- the rules of the grammar above, from the one that binds least tightly on
pub data Level : Type 0 where
  whole_level : Level
  iff_level : Level
  implies_level : Level
  or_level : Level
  and_level : Level
  tempo_level : Level
  prefix_level : Level
  primary_level : Level

-- value { "," value }
pub data SpellsValues : List TokenForm → List WrittenValue → Type 0 where
  one_value : (t : TokenForm) (v : WrittenValue) → value_of t ≡ Some v → SpellsValues (t ∷ []) (v ∷ [])
  more_values : (t : TokenForm) (v : WrittenValue) (ts : List TokenForm) (vs : List WrittenValue) → value_of t ≡ Some v → SpellsValues ts vs → SpellsValues (t ∷ mark Comma ∷ ts) (v ∷ vs)

-- "(" name ")"
abbrev pub argument : List ℕ → List TokenForm → List TokenForm
argument x rest = further furthers.OpenArgument ∷ name x ∷ mark CloseParenthesis ∷ rest

-- right = value | name "(" name ")"
pub data SpellsRight : List TokenForm → WrittenValue → Type 0 where
  a_value : (t : TokenForm) (v : WrittenValue) → value_of t ≡ Some v → SpellsRight (t ∷ []) v
  an_attribute_value : (f x : List ℕ) → SpellsRight (name f ∷ argument x []) (an_attribute (cut_name f) (cut_name x))

-- by the rule of a level the tokens spell this formula: each constructor is one alternative of the grammar above
pub data SpellsFormula : Level → List TokenForm → RawTree → Type 0 where
  a_truth : SpellsFormula primary_level (keyword keywords.True ∷ []) truth
  a_falsity : SpellsFormula primary_level (keyword keywords.False ∷ []) falsity
  in_parentheses : {ts : List TokenForm} {f : RawTree} → SpellsFormula whole_level ts f → SpellsFormula primary_level (mark OpenParenthesis ∷ ts ++ mark CloseParenthesis ∷ []) f
  a_flag : (x : List ℕ) → SpellsFormula primary_level (name x ∷ []) (bare (cut_name x))
  a_comparison : (x : List ℕ) (m : Sign) (r : Relation) {ts : List TokenForm} {v : WrittenValue} → relation_of m ≡ Some r → SpellsRight ts v → SpellsFormula primary_level (name x ∷ mark m ∷ ts) (compares (cut_name x) r v)
  a_choice : (x : List ℕ) {ts : List TokenForm} {vs : List WrittenValue} → SpellsValues ts vs → SpellsFormula primary_level (name x ∷ keyword keywords.In ∷ mark OpenBrace ∷ ts ++ mark CloseBrace ∷ []) (among (cut_name x) vs)
  a_flag_of : (f x : List ℕ) → SpellsFormula primary_level (name f ∷ argument x []) (bare_of (cut_name f) (cut_name x))
  a_comparison_of : (f x : List ℕ) (m : Sign) (r : Relation) {ts : List TokenForm} {v : WrittenValue} → relation_of m ≡ Some r → SpellsRight ts v
      → SpellsFormula primary_level (name f ∷ argument x (mark m ∷ ts)) (compares_of (cut_name f) (cut_name x) r v)
  a_choice_of : (f x : List ℕ) {ts : List TokenForm} {vs : List WrittenValue} → SpellsValues ts vs
      → SpellsFormula primary_level (name f ∷ argument x (keyword keywords.In ∷ mark OpenBrace ∷ ts ++ mark CloseBrace ∷ [])) (among_of (cut_name f) (cut_name x) vs)
  a_primary : {ts : List TokenForm} {f : RawTree} → SpellsFormula primary_level ts f → SpellsFormula prefix_level ts f
  a_negation : {ts : List TokenForm} {f : RawTree} → SpellsFormula prefix_level ts f → SpellsFormula prefix_level (keyword keywords.Not ∷ ts) (neg f)
  a_next : {ts : List TokenForm} {f : RawTree} → SpellsFormula prefix_level ts f → SpellsFormula prefix_level (keyword keywords.Next ∷ ts) (next f)
  an_eventually : {ts : List TokenForm} {f : RawTree} → SpellsFormula prefix_level ts f → SpellsFormula prefix_level (keyword keywords.Eventually ∷ ts) (eventually f)
  an_always : {ts : List TokenForm} {f : RawTree} → SpellsFormula prefix_level ts f → SpellsFormula prefix_level (keyword keywords.Always ∷ ts) (always f)
  an_eventually_within : (s : Bool) (d : List ℕ) {ts : List TokenForm} {f : RawTree} → SpellsFormula prefix_level ts f → SpellsFormula prefix_level (keyword keywords.Eventually ∷ keyword keywords.Within ∷ number s d ∷ ts) (eventually_within (bound_value s d) f)
  an_always_within : (s : Bool) (d : List ℕ) {ts : List TokenForm} {f : RawTree} → SpellsFormula prefix_level ts f → SpellsFormula prefix_level (keyword keywords.Always ∷ keyword keywords.Within ∷ number s d ∷ ts) (always_within (bound_value s d) f)
  a_universal : (x e : List ℕ) {ts : List TokenForm} {f : RawTree} → SpellsFormula whole_level ts f
      → SpellsFormula prefix_level (further furthers.All ∷ name x ∷ mark Colon ∷ name e ∷ further furthers.OpenArgument ∷ ts ++ mark CloseParenthesis ∷ []) (for_all (cut_name x) (cut_name e) f)
  an_existential : (x e : List ℕ) {ts : List TokenForm} {f : RawTree} → SpellsFormula whole_level ts f
      → SpellsFormula prefix_level (further furthers.Some ∷ name x ∷ mark Colon ∷ name e ∷ further furthers.OpenArgument ∷ ts ++ mark CloseParenthesis ∷ []) (for_some (cut_name x) (cut_name e) f)
  a_prefix : {ts : List TokenForm} {f : RawTree} → SpellsFormula prefix_level ts f → SpellsFormula tempo_level ts f
  an_until : {ts us : List TokenForm} {f g : RawTree} → SpellsFormula prefix_level ts f → SpellsFormula prefix_level us g → SpellsFormula tempo_level (ts ++ keyword keywords.Until ∷ us) (until f g)
  an_unless : {ts us : List TokenForm} {f g : RawTree} → SpellsFormula prefix_level ts f → SpellsFormula prefix_level us g → SpellsFormula tempo_level (ts ++ keyword keywords.Unless ∷ us) (unless f g)
  a_release : {ts us : List TokenForm} {f g : RawTree} → SpellsFormula prefix_level ts f → SpellsFormula prefix_level us g → SpellsFormula tempo_level (ts ++ keyword keywords.Release ∷ us) (release f g)
  an_until_within : (s : Bool) (d : List ℕ) {ts us : List TokenForm} {f g : RawTree} → SpellsFormula prefix_level ts f → SpellsFormula prefix_level us g → SpellsFormula tempo_level (ts ++ keyword keywords.Until ∷ keyword keywords.Within ∷ number s d ∷ us) (until_within (bound_value s d) f g)
  an_unless_within : (s : Bool) (d : List ℕ) {ts us : List TokenForm} {f g : RawTree} → SpellsFormula prefix_level ts f → SpellsFormula prefix_level us g → SpellsFormula tempo_level (ts ++ keyword keywords.Unless ∷ keyword keywords.Within ∷ number s d ∷ us) (unless_within (bound_value s d) f g)
  a_release_within : (s : Bool) (d : List ℕ) {ts us : List TokenForm} {f g : RawTree} → SpellsFormula prefix_level ts f → SpellsFormula prefix_level us g → SpellsFormula tempo_level (ts ++ keyword keywords.Release ∷ keyword keywords.Within ∷ number s d ∷ us) (release_within (bound_value s d) f g)
  a_tempo : {ts : List TokenForm} {f : RawTree} → SpellsFormula tempo_level ts f → SpellsFormula and_level ts f
  a_conjunction : {ts us : List TokenForm} {f g : RawTree} → SpellsFormula and_level ts f → SpellsFormula tempo_level us g → SpellsFormula and_level (ts ++ keyword keywords.And ∷ us) (conj f g)
  a_conjunct : {ts : List TokenForm} {f : RawTree} → SpellsFormula and_level ts f → SpellsFormula or_level ts f
  a_disjunction : {ts us : List TokenForm} {f g : RawTree} → SpellsFormula or_level ts f → SpellsFormula and_level us g → SpellsFormula or_level (ts ++ keyword keywords.Or ∷ us) (disj f g)
  a_disjunct : {ts : List TokenForm} {f : RawTree} → SpellsFormula or_level ts f → SpellsFormula implies_level ts f
  an_implication : {ts us : List TokenForm} {f g : RawTree} → SpellsFormula or_level ts f → SpellsFormula implies_level us g → SpellsFormula implies_level (ts ++ keyword keywords.Implies ∷ us) (implies f g)
  a_side : {ts : List TokenForm} {f : RawTree} → SpellsFormula implies_level ts f → SpellsFormula iff_level ts f
  an_equivalence : {ts us : List TokenForm} {f g : RawTree} → SpellsFormula implies_level ts f → SpellsFormula implies_level us g → SpellsFormula iff_level (ts ++ keyword keywords.Iff ∷ us) (iff f g)
  a_whole : {ts : List TokenForm} {f : RawTree} → SpellsFormula iff_level ts f → SpellsFormula whole_level ts f
  an_entailment : {ts us : List TokenForm} {f g : RawTree} → SpellsFormula iff_level ts f → SpellsFormula iff_level us g → SpellsFormula whole_level (ts ++ keyword keywords.Entails ∷ us) (entails f g)
