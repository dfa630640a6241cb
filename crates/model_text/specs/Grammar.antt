-- Which tokens spell which statements:
--   text      = "kaos" ( "1" | "2" ) ";" { statement ";" }
--   statement = "var" name ":" range
--             | "entity" name ":" "{" names "}"
--             | "attr" name "of" name ":" range
--             | "domain" name ":" formula
--             | "rule" name ":" iff "entails" iff
--             | "goal" name ":" formula
--             | "obstacle" name ":" formula
--             | "refine" name "by" names [ "using" name ]
--             | "obstruct" name "by" names
--             | "conflict" name ":" name "," names "boundary" formula
--             | "agent" name [ "monitors" names ] [ "controls" names ]
--             | "assign" name "to" name
--             | "expect" name "of" name
--             | "operation" name "by" name "dompre" formula "dompost" formula
--             | "require" name "on" name ( "pre" | "trig" | "post" ) formula
--             | "operationalise" name "by" names [ "exact" ]
--             | "trace" name ":" { state } "loop" state { state }
--   range     = "bool" | "{" names "}" | number ".." number
--   names     = name { "," name }
--   state     = "{" [ set { "," set } ] "}"
--   set       = name "=" value
-- The levels formula and iff are those of FormulaGrammar. The words `entity` and `attr` are tokens that only texts of version 2 have.
use Rattle.std.specs.Prelude.{◌≡◌, ℕ, pos, Bool, true, false, List, [], ◌∷◌, ◌++◌, Option, Some, None}
use Rattle.state_space.specs.declared.keyword.Keyword.{Keyword}
use Rattle.state_space.specs.declared.keyword.Keyword.TheVariants as keywords
use Rattle.state_space.specs.Ranges.{RangeForm, truth_values, named, span}
use Rattle.model_tokens.specs.declared.token.Sign.TheVariants.{Semicolon, Colon, Comma, Equal, Dots, OpenBrace, CloseBrace}
use Rattle.model_tokens.specs.declared.token.Further.TheVariants as furthers
use Rattle.model_text.specs.declared.statement.Role.{Role}
use Rattle.model_text.specs.declared.statement.Role.TheVariants as roles
use Rattle.model_tokens.specs.Tokens.{TokenForm, keyword, mark, name, number, further}
use Rattle.model_tokens.specs.Versions.{text_forms}
use Rattle.model_text.specs.RawTrees.{WrittenValue, RawTree}
use Rattle.model_text.specs.FormulaGrammar.{whole_level, iff_level, SpellsFormula}
use Rattle.model_tokens.specs.Values.{cut_name, number_value}
use Rattle.model_text.specs.Leaves.{value_of}
use Rattle.model_text.specs.Statements.{Setting, StatementForm, version, variable, entity_type, attribute, domain, rule, goal, obstacle, refinement, obstruction, conflict, agent, assignment, expectation, operation, requirement, operationalisation, trace}

-- name { "," name }
pub data SpellsNames : List TokenForm → List (List ℕ) → Type 0 where
  one_name : (x : List ℕ) → SpellsNames (name x ∷ []) (cut_name x ∷ [])
  more_names : (x : List ℕ) {ts : List TokenForm} {xs : List (List ℕ)} → SpellsNames ts xs → SpellsNames (name x ∷ mark Comma ∷ ts) (cut_name x ∷ xs)

-- names behind a keyword, or nothing
pub data SpellsPart (word : Keyword) : List TokenForm → List (List ℕ) → Type 0 where
  no_part : SpellsPart word [] []
  a_part : {ts : List TokenForm} {xs : List (List ℕ)} → SpellsNames ts xs → SpellsPart word (keyword word ∷ ts) xs

-- [ "using" name ]
pub data SpellsPattern : List TokenForm → Option (List ℕ) → Type 0 where
  no_pattern : SpellsPattern [] None
  a_pattern : (x : List ℕ) → SpellsPattern (keyword keywords.Using ∷ name x ∷ []) (Some (cut_name x))

-- [ "exact" ]
pub data SpellsExact : List TokenForm → Bool → Type 0 where
  not_exact : SpellsExact [] false
  is_exact : SpellsExact (keyword keywords.Exact ∷ []) true

-- "pre" | "trig" | "post"
pub data SpellsRole : TokenForm → Role → Type 0 where
  a_pre : SpellsRole (keyword keywords.Pre) roles.Pre
  a_trig : SpellsRole (keyword keywords.Trig) roles.Trig
  a_post : SpellsRole (keyword keywords.Post) roles.Post

-- range = "bool" | "{" names "}" | number ".." number
pub data SpellsRange : List TokenForm → RangeForm → Type 0 where
  a_boolean : SpellsRange (keyword keywords.Bool ∷ []) truth_values
  an_enumeration : {ts : List TokenForm} {xs : List (List ℕ)} → SpellsNames ts xs → SpellsRange (mark OpenBrace ∷ ts ++ mark CloseBrace ∷ []) (named xs)
  a_span : (s t : Bool) (d e : List ℕ) → SpellsRange (number s d ∷ mark Dots ∷ number t e ∷ []) (span (number_value s d) (number_value t e))

-- set { "," set }
pub data SpellsSets : List TokenForm → List Setting → Type 0 where
  one_set : (x : List ℕ) (t : TokenForm) (v : WrittenValue) → value_of t ≡ Some v → SpellsSets (name x ∷ mark Equal ∷ t ∷ []) ((record { variable = cut_name x; value = v }) ∷ [])
  more_sets : (x : List ℕ) (t : TokenForm) (v : WrittenValue) {ts : List TokenForm} {sets : List Setting} → value_of t ≡ Some v → SpellsSets ts sets
      → SpellsSets (name x ∷ mark Equal ∷ t ∷ mark Comma ∷ ts) ((record { variable = cut_name x; value = v }) ∷ sets)

-- state = "{" [ set { "," set } ] "}"
pub data SpellsState : List TokenForm → List Setting → Type 0 where
  an_empty_state : SpellsState (mark OpenBrace ∷ mark CloseBrace ∷ []) []
  a_state : {ts : List TokenForm} {sets : List Setting} → SpellsSets ts sets → SpellsState (mark OpenBrace ∷ ts ++ mark CloseBrace ∷ []) sets

-- { state }
pub data SpellsStates : List TokenForm → List (List Setting) → Type 0 where
  no_state : SpellsStates [] []
  one_more_state : {ts us : List TokenForm} {s : List Setting} {ss : List (List Setting)} → SpellsState ts s → SpellsStates us ss → SpellsStates (ts ++ us) (s ∷ ss)

-- the tokens spell this statement, without its semicolon: one constructor for each alternative of the grammar above, in its order
pub data SpellsStatement : List TokenForm → StatementForm → Type 0 where
  a_variable : (x : List ℕ) {ts : List TokenForm} {r : RangeForm} → SpellsRange ts r → SpellsStatement (keyword keywords.Var ∷ name x ∷ mark Colon ∷ ts) (variable (cut_name x) r)
  an_entity_type : (x : List ℕ) {ts : List TokenForm} {xs : List (List ℕ)} → SpellsNames ts xs
      → SpellsStatement (further furthers.Entity ∷ name x ∷ mark Colon ∷ mark OpenBrace ∷ ts ++ mark CloseBrace ∷ []) (entity_type (cut_name x) xs)
  an_attribute : (x e : List ℕ) {ts : List TokenForm} {r : RangeForm} → SpellsRange ts r
      → SpellsStatement (further furthers.Attr ∷ name x ∷ keyword keywords.Of ∷ name e ∷ mark Colon ∷ ts) (attribute (cut_name x) (cut_name e) r)
  a_domain : (x : List ℕ) {ts : List TokenForm} {f : RawTree} → SpellsFormula whole_level ts f → SpellsStatement (keyword keywords.Domain ∷ name x ∷ mark Colon ∷ ts) (domain (cut_name x) f)
  a_rule : (x : List ℕ) {ts us : List TokenForm} {f g : RawTree} → SpellsFormula iff_level ts f → SpellsFormula iff_level us g
      → SpellsStatement (keyword keywords.Rule ∷ name x ∷ mark Colon ∷ ts ++ keyword keywords.Entails ∷ us) (rule (cut_name x) f g)
  a_goal : (x : List ℕ) {ts : List TokenForm} {f : RawTree} → SpellsFormula whole_level ts f → SpellsStatement (keyword keywords.Goal ∷ name x ∷ mark Colon ∷ ts) (goal (cut_name x) f)
  an_obstacle : (x : List ℕ) {ts : List TokenForm} {f : RawTree} → SpellsFormula whole_level ts f → SpellsStatement (keyword keywords.Obstacle ∷ name x ∷ mark Colon ∷ ts) (obstacle (cut_name x) f)
  a_refinement : (x : List ℕ) {ts us : List TokenForm} {xs : List (List ℕ)} {p : Option (List ℕ)} → SpellsNames ts xs → SpellsPattern us p
      → SpellsStatement (keyword keywords.Refine ∷ name x ∷ keyword keywords.By ∷ ts ++ us) (refinement (cut_name x) xs p)
  an_obstruction : (x : List ℕ) {ts : List TokenForm} {xs : List (List ℕ)} → SpellsNames ts xs → SpellsStatement (keyword keywords.Obstruct ∷ name x ∷ keyword keywords.By ∷ ts) (obstruction (cut_name x) xs)
  a_conflict : (x y : List ℕ) {ts us : List TokenForm} {xs : List (List ℕ)} {f : RawTree} → SpellsNames ts xs → SpellsFormula whole_level us f
      → SpellsStatement (keyword keywords.Conflict ∷ name x ∷ mark Colon ∷ name y ∷ mark Comma ∷ ts ++ keyword keywords.Boundary ∷ us) (conflict (cut_name x) (cut_name y ∷ xs) f)
  an_agent : (x : List ℕ) {ts us : List TokenForm} {xs ys : List (List ℕ)} → SpellsPart keywords.Monitors ts xs → SpellsPart keywords.Controls us ys
      → SpellsStatement (keyword keywords.Agent ∷ name x ∷ ts ++ us) (agent (cut_name x) xs ys)
  an_assignment : (x y : List ℕ) → SpellsStatement (keyword keywords.Assign ∷ name x ∷ keyword keywords.To ∷ name y ∷ []) (assignment (cut_name x) (cut_name y))
  an_expectation : (x y : List ℕ) → SpellsStatement (keyword keywords.Expect ∷ name x ∷ keyword keywords.Of ∷ name y ∷ []) (expectation (cut_name x) (cut_name y))
  an_operation : (x y : List ℕ) {ts us : List TokenForm} {f g : RawTree} → SpellsFormula whole_level ts f → SpellsFormula whole_level us g
      → SpellsStatement (keyword keywords.Operation ∷ name x ∷ keyword keywords.By ∷ name y ∷ keyword keywords.Dompre ∷ ts ++ keyword keywords.Dompost ∷ us) (operation (cut_name x) (cut_name y) f g)
  a_requirement : (x y : List ℕ) (t : TokenForm) {role : Role} {ts : List TokenForm} {f : RawTree} → SpellsRole t role → SpellsFormula whole_level ts f
      → SpellsStatement (keyword keywords.Require ∷ name x ∷ keyword keywords.On ∷ name y ∷ t ∷ ts) (requirement (cut_name x) (cut_name y) role f)
  an_operationalisation : (x : List ℕ) {ts us : List TokenForm} {xs : List (List ℕ)} {e : Bool} → SpellsNames ts xs → SpellsExact us e
      → SpellsStatement (keyword keywords.Operationalise ∷ name x ∷ keyword keywords.By ∷ ts ++ us) (operationalisation (cut_name x) xs e)
  a_trace : (x : List ℕ) {ts us vs : List TokenForm} {prefix cycle : List (List Setting)} {s : List Setting} → SpellsStates ts prefix → SpellsState us s → SpellsStates vs cycle
      → SpellsStatement (keyword keywords.Trace ∷ name x ∷ mark Colon ∷ ts ++ keyword keywords.Loop ∷ us ++ vs) (trace (cut_name x) prefix (s ∷ cycle))

-- { statement ";" }
pub data SpellsStatements : List TokenForm → List StatementForm → Type 0 where
  no_statement : SpellsStatements [] []
  one_more : {ts us : List TokenForm} {s : StatementForm} {ss : List StatementForm} → SpellsStatement ts s → SpellsStatements us ss → SpellsStatements (ts ++ mark Semicolon ∷ us) (s ∷ ss)

-- the version is any number of value 1 or 2
pub data SpellsText : List TokenForm → List StatementForm → Type 0 where
  a_text : (negative : Bool) (digits : List ℕ) {ts : List TokenForm} {ss : List StatementForm} → number_value negative digits ≡ pos 1 → SpellsStatements ts ss
      → SpellsText (keyword keywords.Kaos ∷ number negative digits ∷ mark Semicolon ∷ ts) (version 1 ∷ ss)
  a_second_text : (negative : Bool) (digits : List ℕ) {ts : List TokenForm} {ss : List StatementForm} → number_value negative digits ≡ pos 2 → SpellsStatements ts ss
      → SpellsText (keyword keywords.Kaos ∷ number negative digits ∷ mark Semicolon ∷ ts) (version 2 ∷ ss)

-- these bytes spell this list of statements, in the tokens of their version
abbrev pub Spells : List ℕ → List StatementForm → Type 0
Spells bytes statements = SpellsText (text_forms bytes) statements
