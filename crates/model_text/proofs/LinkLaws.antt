-- The statements that link goals, agents and operations are read as they are spelled.
use Rattle.std.proofs.Common.{◌≡◌, ℕ, Bool, true, false, List, [], ◌∷◌, ◌++◌, length, Option, Some, None, Ok, Err, refl, sym, subst, arith}
use Rattle.std.proofs.lemmas.List.{append-nil}
use Rattle.std.proofs.lemmas.Bool.Decides.{nat_tests}
use Rattle.std.specs.Prelude.{if◌then◌else◌, nat_le}
use Rattle.state_space.specs.declared.keyword.Keyword.TheVariants as keywords
use Rattle.model_tokens.specs.declared.token.Sign.TheVariants.{Semicolon, Comma}
use Rattle.model_text.specs.declared.statement.Role.{Role}
use Rattle.model_text.specs.declared.statement.Role.TheVariants as roles
use Rattle.model_tokens.specs.Tokens.{TokenForm, keyword, mark, name}
use Rattle.model_tokens.specs.Values.{cut_name}
use Rattle.model_text.specs.FormulaGrammar.{whole_level, SpellsFormula}
use Rattle.model_text.specs.Reading.{Reading, behind_keyword, behind_mark, name_at}
use Rattle.model_text.specs.Readers.{after, counted, if_word}
use Rattle.model_text.specs.Statements.{StatementForm, refinement, obstruction, conflict, agent, assignment, expectation, operation, requirement, operationalisation}
use Rattle.model_text.specs.Grammar.{SpellsNames, one_name, more_names, SpellsPart, no_part, a_part, SpellsPattern, no_pattern, a_pattern, SpellsExact, not_exact, is_exact, SpellsRole, a_pre, a_trig, a_post, SpellsStatement, a_refinement, an_obstruction, a_conflict, an_agent, an_assignment, an_expectation, an_operation, a_requirement, an_operationalisation}
use Rattle.model_text.specs.StatementReading.{pattern_at, refinement_at, obstruction_at, if_several, several_at, conflict_at, agent_at, assignment_at, expectation_at, operation_at, role_at, requirement_at, exact_at, operationalisation_at}
use Rattle.model_text.proofs.FormulaTokens.{ok_parts}
use Rattle.model_text.proofs.PartLaws.{Found, Finds, IsName, is_name, IsNothing, is_nothing, Never, never, Both, both, Made, made, Behind, here, other, finds_as, finds_name, finds_nothing, finds_nowhere, finds_after, finds_counted, finds_word}
use Rattle.model_text.proofs.NameLaws.{names_found, names_read, IsLabel, is_declared_name, declared_name_found, IsPair, is_pair, pair_found, IsGroup, is_group, group_found, part_found, body_found, IsBodyBehind, is_body_behind, body_behind_found}

-- ---- goals

pattern_spelled : {us : List TokenForm} {p : Option (List ℕ)} → Behind (keyword keywords.Using) (Made (λ x. Some x) IsName) (IsNothing None) us p → SpellsPattern us p
pattern_spelled (here (made (is_name x))) = a_pattern x
pattern_spelled (other is_nothing) = no_pattern

pattern_found : Finds SpellsPattern pattern_at
unfolding pattern_at
pattern_found = finds_as (λ us p s. pattern_spelled s) (finds_word keywords.Using (finds_counted (λ x. Some x) finds_name) (finds_nothing None))

refinement_spelled : {us : List TokenForm} {s : StatementForm} → Both IsGroup (λ p. Made (refinement p.0 p.1) SpellsPattern) us s → SpellsStatement (keyword keywords.Refine ∷ us) s
refinement_spelled (both (is_group x n) (made p)) = a_refinement x n p

pub refinement_at-ok : Finds (λ us s. SpellsStatement (keyword keywords.Refine ∷ us) s) refinement_at
unfolding refinement_at
refinement_at-ok = finds_as (λ us s p. refinement_spelled p) (finds_after group_found (λ p. finds_counted (refinement p.0 p.1) pattern_found))

obstruction_spelled : {us : List TokenForm} {s : StatementForm} → Made (λ p. obstruction p.0 p.1) IsGroup us s → SpellsStatement (keyword keywords.Obstruct ∷ us) s
obstruction_spelled (made (is_group x n)) = an_obstruction x n

pub obstruction_at-ok : Finds (λ us s. SpellsStatement (keyword keywords.Obstruct ∷ us) s) obstruction_at
unfolding obstruction_at
obstruction_at-ok = finds_as (λ us s p. obstruction_spelled p) (finds_counted (λ p. obstruction p.0 p.1) group_found)

-- two names or more
data IsSeveral : List TokenForm → List (List ℕ) → Type 0 where
  is_several : (y : List ℕ) {ts : List TokenForm} {xs : List (List ℕ)} → SpellsNames ts xs → IsSeveral (name y ∷ mark Comma ∷ ts) (cut_name y ∷ xs)

data IsLong (xs : List (List ℕ)) : List TokenForm → List (List ℕ) → Type 0 where
  is_long : nat_le 2 (length xs) ≡ true → IsLong xs [] xs

if_several-ok : (xs : List (List ℕ)) (ts : List TokenForm) (ys : List (List ℕ)) (rest : List TokenForm) → if_several xs ts ≡ Ok (ys, rest) → Found (IsLong xs) ts ys rest
if_several-ok xs ts ys rest e = go (nat_le 2 (length xs)) refl e
  where
    go : (b : Bool) → nat_le 2 (length xs) ≡ b → ◌≡◌ {A = Reading (List (List ℕ))} (if b then Ok (xs, ts) else Err ts) (Ok (ys, rest)) → Found (IsLong xs) ts ys rest
    go true long e = let p = ok_parts xs ys ts rest e in record { tokens = []; spelled = subst (IsLong xs []) p.0 (is_long long); is = p.1 }
    go false long e = absurd cc

long_several : {us : List TokenForm} {xs : List (List ℕ)} → SpellsNames us xs → nat_le 2 (length xs) ≡ true → IsSeveral us xs
long_several (one_name x) long = absurd cc
long_several (more_names x n) long = is_several x n

several_spelled : {us : List TokenForm} {xs : List (List ℕ)} → Both SpellsNames IsLong us xs → IsSeveral us xs
several_spelled (both {us = us} {x = xs} n (is_long long)) = subst (λ (vs : List TokenForm). IsSeveral vs xs) (sym (append-nil us)) (long_several n long)

several_found : Finds IsSeveral several_at
unfolding several_at
several_found = finds_as (λ us xs s. several_spelled s) (finds_after names_found (λ xs. record { found = if_several-ok xs }))

conflict_spelled : {us : List TokenForm} {s : StatementForm} → Both IsLabel (λ x. Both IsSeveral (λ xs. Made (conflict x xs) (IsBodyBehind keywords.Boundary))) us s → SpellsStatement (keyword keywords.Conflict ∷ us) s
conflict_spelled (both (is_declared_name x) (both (is_several y n) (made (is_body_behind f)))) = a_conflict x y n f

pub conflict_at-ok : Finds (λ us s. SpellsStatement (keyword keywords.Conflict ∷ us) s) conflict_at
unfolding conflict_at
conflict_at-ok = finds_as (λ us s p. conflict_spelled p) (finds_after declared_name_found (λ x. finds_after several_found (λ xs. finds_counted (conflict x xs) (body_behind_found keywords.Boundary))))

-- ---- agents

agent_spelled : {us : List TokenForm} {s : StatementForm} → Both IsName (λ x. Both (SpellsPart keywords.Monitors) (λ xs. Made (agent x xs) (SpellsPart keywords.Controls))) us s → SpellsStatement (keyword keywords.Agent ∷ us) s
agent_spelled (both (is_name x) (both m (made c))) = an_agent x m c

pub agent_at-ok : Finds (λ us s. SpellsStatement (keyword keywords.Agent ∷ us) s) agent_at
unfolding agent_at
agent_at-ok = finds_as (λ us s p. agent_spelled p) (finds_after finds_name (λ x. finds_after (part_found keywords.Monitors) (λ xs. finds_counted (agent x xs) (part_found keywords.Controls))))

assignment_spelled : {us : List TokenForm} {s : StatementForm} → Made (λ p. assignment p.0 p.1) (IsPair keywords.To) us s → SpellsStatement (keyword keywords.Assign ∷ us) s
assignment_spelled (made (is_pair x y)) = an_assignment x y

pub assignment_at-ok : Finds (λ us s. SpellsStatement (keyword keywords.Assign ∷ us) s) assignment_at
unfolding assignment_at
assignment_at-ok = finds_as (λ us s p. assignment_spelled p) (finds_counted (λ p. assignment p.0 p.1) (pair_found keywords.To))

expectation_spelled : {us : List TokenForm} {s : StatementForm} → Made (λ p. expectation p.0 p.1) (IsPair keywords.Of) us s → SpellsStatement (keyword keywords.Expect ∷ us) s
expectation_spelled (made (is_pair x y)) = an_expectation x y

pub expectation_at-ok : Finds (λ us s. SpellsStatement (keyword keywords.Expect ∷ us) s) expectation_at
unfolding expectation_at
expectation_at-ok = finds_as (λ us s p. expectation_spelled p) (finds_counted (λ p. expectation p.0 p.1) (pair_found keywords.Of))

-- ---- operations

operation_spelled : {us : List TokenForm} {s : StatementForm}
    → Both (IsPair keywords.By) (λ p. Both (IsBodyBehind keywords.Dompre) (λ f. Made (operation p.0 p.1 f) (IsBodyBehind keywords.Dompost))) us s → SpellsStatement (keyword keywords.Operation ∷ us) s
operation_spelled (both (is_pair x y) (both (is_body_behind f) (made (is_body_behind g)))) = an_operation x y f g

pub operation_at-ok : Finds (λ us s. SpellsStatement (keyword keywords.Operation ∷ us) s) operation_at
unfolding operation_at
operation_at-ok = finds_as (λ us s p. operation_spelled p) (finds_after (pair_found keywords.By) (λ p. finds_after (body_behind_found keywords.Dompre) (λ f. finds_counted (operation p.0 p.1 f) (body_behind_found keywords.Dompost))))

data IsRole : List TokenForm → Role → Type 0 where
  is_role : (t : TokenForm) {role : Role} → SpellsRole t role → IsRole (t ∷ []) role

role_spelled : {us : List TokenForm} {role : Role}
    → Behind (keyword keywords.Pre) (IsNothing roles.Pre) (Behind (keyword keywords.Trig) (IsNothing roles.Trig) (Behind (keyword keywords.Post) (IsNothing roles.Post) Never)) us role → IsRole us role
role_spelled (here is_nothing) = is_role (keyword keywords.Pre) a_pre
role_spelled (other (here is_nothing)) = is_role (keyword keywords.Trig) a_trig
role_spelled (other (other (here is_nothing))) = is_role (keyword keywords.Post) a_post
role_spelled (other (other (other (never ts x wrong)))) = absurd wrong

role_found : Finds IsRole role_at
unfolding role_at
role_found = finds_as (λ us r s. role_spelled s) (finds_word keywords.Pre (finds_nothing roles.Pre) (finds_word keywords.Trig (finds_nothing roles.Trig) (finds_word keywords.Post (finds_nothing roles.Post) finds_nowhere)))

requirement_spelled : {us : List TokenForm} {s : StatementForm}
    → Both (IsPair keywords.On) (λ p. Both IsRole (λ role. Made (requirement p.0 p.1 role) (SpellsFormula whole_level))) us s → SpellsStatement (keyword keywords.Require ∷ us) s
requirement_spelled (both (is_pair x y) (both (is_role t r) (made f))) = a_requirement x y t r f

pub requirement_at-ok : Finds (λ us s. SpellsStatement (keyword keywords.Require ∷ us) s) requirement_at
unfolding requirement_at
requirement_at-ok = finds_as (λ us s p. requirement_spelled p) (finds_after (pair_found keywords.On) (λ p. finds_after role_found (λ role. finds_counted (requirement p.0 p.1 role) body_found)))

exact_spelled : {us : List TokenForm} {b : Bool} → Behind (keyword keywords.Exact) (IsNothing true) (IsNothing false) us b → SpellsExact us b
exact_spelled (here is_nothing) = is_exact
exact_spelled (other is_nothing) = not_exact

exact_found : Finds SpellsExact exact_at
unfolding exact_at
exact_found = finds_as (λ us b s. exact_spelled s) (finds_word keywords.Exact (finds_nothing true) (finds_nothing false))

operationalisation_spelled : {us : List TokenForm} {s : StatementForm} → Both IsGroup (λ p. Made (operationalisation p.0 p.1) SpellsExact) us s → SpellsStatement (keyword keywords.Operationalise ∷ us) s
operationalisation_spelled (both (is_group x n) (made e)) = an_operationalisation x n e

pub operationalisation_at-ok : Finds (λ us s. SpellsStatement (keyword keywords.Operationalise ∷ us) s) operationalisation_at
unfolding operationalisation_at
operationalisation_at-ok = finds_as (λ us s p. operationalisation_spelled p) (finds_after group_found (λ p. finds_counted (operationalisation p.0 p.1) exact_found))

-- ---- what is spelled is read, before a semicolon or a keyword

pub pattern_ends : {us : List TokenForm} {p : Option (List ℕ)} → SpellsPattern us p → (rest : List TokenForm) → behind_mark Comma (us ++ mark Semicolon ∷ rest) ≡ None
pattern_ends no_pattern rest = refl
pattern_ends (a_pattern x) rest = refl

pub pattern_read : {us : List TokenForm} {p : Option (List ℕ)} → SpellsPattern us p → (rest : List TokenForm) → pattern_at (us ++ mark Semicolon ∷ rest) ≡ Ok (p, mark Semicolon ∷ rest)
unfolding pattern_at if_word counted name_at
pattern_read no_pattern rest = refl
pattern_read (a_pattern x) rest = refl

pub exact_ends : {us : List TokenForm} {b : Bool} → SpellsExact us b → (rest : List TokenForm) → behind_mark Comma (us ++ mark Semicolon ∷ rest) ≡ None
exact_ends not_exact rest = refl
exact_ends is_exact rest = refl

pub exact_read : {us : List TokenForm} {b : Bool} → SpellsExact us b → (rest : List TokenForm) → exact_at (us ++ mark Semicolon ∷ rest) ≡ Ok (b, mark Semicolon ∷ rest)
unfolding exact_at if_word
exact_read not_exact rest = refl
exact_read is_exact rest = refl

pub role_read : {t : TokenForm} {role : Role} → SpellsRole t role → (rest : List TokenForm) → role_at (t ∷ rest) ≡ Ok (role, rest)
unfolding role_at if_word
role_read a_pre rest = refl
role_read a_trig rest = refl
role_read a_post rest = refl

two_names : (y : List ℕ) {ts : List TokenForm} {xs : List (List ℕ)} → SpellsNames ts xs → nat_le 2 (length (y ∷ xs)) ≡ true
two_names y (one_name x) = refl
two_names y (more_names x n) = grind (arith, nat_tests)

pub several_read : (y : List ℕ) {ts : List TokenForm} {xs : List (List ℕ)} → SpellsNames ts xs → (rest : List TokenForm) → behind_mark Comma rest ≡ None
    → several_at (name y ∷ mark Comma ∷ ts ++ rest) ≡ Ok (cut_name y ∷ xs, rest)
unfolding several_at after
several_read y n rest ends = rw (names_read (more_names y n) rest ends, two_names (cut_name y) n) refl

pub controls_end : {us : List TokenForm} {xs : List (List ℕ)} → SpellsPart keywords.Controls us xs → (rest : List TokenForm)
    → (behind_keyword keywords.Monitors (us ++ mark Semicolon ∷ rest) ≡ None) × (behind_mark Comma (us ++ mark Semicolon ∷ rest) ≡ None)
controls_end no_part rest = (refl, refl)
controls_end (a_part n) rest = (refl, refl)
