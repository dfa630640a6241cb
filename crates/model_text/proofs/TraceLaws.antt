-- Traces are read as they are spelled.
use Rattle.std.proofs.Common.{◌≡◌, ℕ, ◌-◌, ◌<◌, ◌≤◌, List, [], ◌∷◌, ◌++◌, length, Some, None, Ok, refl, sym, ap, subst, ◌∙◌, append_assoc, length-append, arith}
use Rattle.std.proofs.lemmas.List.{append-nil}
use Rattle.state_space.specs.declared.keyword.Keyword.TheVariants as keywords
use Rattle.model_tokens.specs.declared.token.Sign.TheVariants.{Colon, Comma, Equal, OpenBrace, CloseBrace}
use Rattle.model_tokens.specs.Tokens.{TokenForm, keyword, mark, name}
use Rattle.model_text.specs.RawTrees.{WrittenValue}
use Rattle.model_tokens.specs.Values.{cut_name}
use Rattle.model_text.specs.Leaves.{value_of}
use Rattle.model_text.specs.FormulaReading.{value_at}
use Rattle.model_text.specs.Statements.{Setting, StatementForm, trace}
use Rattle.model_text.specs.Grammar.{SpellsSets, one_set, more_sets, SpellsState, an_empty_state, a_state, SpellsStates, no_state, one_more_state, SpellsStatement, a_trace}
use Rattle.model_text.specs.Reading.{and_then, behind_mark, name_at}
use Rattle.model_text.specs.Readers.{after, counted, if_sign, more_at, listed_at}
use Rattle.model_text.specs.StatementReading.{set_at, some_sets_at, state_at, states_at, if_some, cycle_at, trace_at}
use Rattle.model_text.proofs.FormulaTokens.{ok_parts}
use Rattle.model_text.proofs.FormulaFound.{value_found}
use Rattle.model_text.proofs.FormulaRead.{value_read}
use Rattle.model_text.proofs.PartLaws.{Found, Finds, IsKeyword, is_keyword, IsSign, is_mark, IsName, is_name, IsNothing, is_nothing, Both, both, Made, made, Behind, here, other, More, no_more, one_more, finds_as, finds_keyword, finds_mark, finds_name, finds_nothing, finds_after, finds_counted, finds_sign, finds_listed, more_found}
use Rattle.model_text.proofs.NameLaws.{IsLabel, is_declared_name, declared_name_found}
use Rattle.model_text.proofs.Turns.{more_more, more_done}

-- a value of a variable
abbrev setting : List ℕ → WrittenValue → Setting
setting x v = record { variable = x; value = v }

-- ---- what is read is spelled

data IsValue : List TokenForm → WrittenValue → Type 0 where
  is_value : (t : TokenForm) (v : WrittenValue) → value_of t ≡ Some v → IsValue (t ∷ []) v

finds_value : Finds IsValue value_at
finds_value = record { found = λ ts v rest e. let f = value_found ts v rest e in record { tokens = f.0 ∷ []; spelled = is_value f.0 v f.1; is = f.2 } }

data IsSet : List TokenForm → Setting → Type 0 where
  is_set : (x : List ℕ) (t : TokenForm) (v : WrittenValue) → value_of t ≡ Some v → IsSet (name x ∷ mark Equal ∷ t ∷ []) (setting (cut_name x) v)

set_spelled : {us : List TokenForm} {s : Setting} → Both IsName (λ x. Both (IsSign Equal) (λ _. Made (setting x) IsValue)) us s → IsSet us s
set_spelled (both (is_name x) (both (is_mark u) (made (is_value t v is)))) = is_set x t v is

set_found : Finds IsSet set_at
unfolding set_at
set_found = finds_as (λ us s p. set_spelled p) (finds_after finds_name (λ x. finds_after (finds_mark Equal) (λ _. finds_counted (setting x) finds_value)))

sets_behind : (x : List ℕ) (t : TokenForm) (v : WrittenValue) → value_of t ≡ Some v → {us : List TokenForm} {sets : List Setting} → More Comma IsSet us sets → SpellsSets (name x ∷ mark Equal ∷ t ∷ us) (setting (cut_name x) v ∷ sets)
sets_behind x t v is no_more = one_set x t v is
sets_behind x t v is (one_more (is_set y u w same) more) = more_sets x t v is (sets_behind y u w same more)

sets_spelled : {us : List TokenForm} {sets : List Setting} → Both IsSet (λ s. Made (λ ss. s ∷ ss) (More Comma IsSet)) us sets → SpellsSets us sets
sets_spelled (both (is_set x t v is) (made more)) = sets_behind x t v is more

data IsEnded : List TokenForm → List Setting → Type 0 where
  is_ended : {ts : List TokenForm} {sets : List Setting} → SpellsSets ts sets → IsEnded (ts ++ mark CloseBrace ∷ []) sets

ended_spelled : {us : List TokenForm} {sets : List Setting} → Both SpellsSets (λ sets. Made (λ _. sets) (IsSign CloseBrace)) us sets → IsEnded us sets
ended_spelled (both s (made (is_mark u))) = is_ended s

some_sets_found : Finds IsEnded some_sets_at
unfolding some_sets_at
some_sets_found = finds_as (λ us s p. ended_spelled p) (finds_after (finds_as (λ us s p. sets_spelled p) (finds_listed set_found)) (λ sets. finds_counted (λ _. sets) (finds_mark CloseBrace)))

-- a state behind its brace
data IsState : List TokenForm → List Setting → Type 0 where
  is_state : {ts : List TokenForm} {s : List Setting} → SpellsState (mark OpenBrace ∷ ts) s → IsState ts s

state_spelled : {us : List TokenForm} {s : List Setting} → Behind (mark CloseBrace) (IsNothing []) IsEnded us s → IsState us s
state_spelled (here is_nothing) = is_state an_empty_state
state_spelled (other (is_ended s)) = is_state (a_state s)

state_found : Finds IsState state_at
unfolding state_at
state_found = finds_as (λ us s p. state_spelled p) (finds_sign CloseBrace (finds_nothing []) some_sets_found)

states_spelled : {us : List TokenForm} {ss : List (List Setting)} → More OpenBrace IsState us ss → SpellsStates us ss
states_spelled no_more = no_state
states_spelled (one_more (is_state s) more) = one_more_state s (states_spelled more)

states_found : Finds SpellsStates states_at
unfolding states_at
states_found = record {
  found = λ ts ss rest e.
      let f = more_found OpenBrace IsState state_at state_found (length ts) [] ts ss rest e in
      record { tokens = f.tokens; spelled = subst (SpellsStates f.tokens) (sym f.all) (states_spelled f.spelled); is = f.is };
}

-- a state or more
data IsCycle : List TokenForm → List (List Setting) → Type 0 where
  is_cycle : {us vs : List TokenForm} {s : List Setting} {ss : List (List Setting)} → SpellsState us s → SpellsStates vs ss → IsCycle (us ++ vs) (s ∷ ss)

data IsSome : List (List Setting) → List TokenForm → List (List Setting) → Type 0 where
  is_some : (s : List Setting) (ss : List (List Setting)) → IsSome (s ∷ ss) [] (s ∷ ss)

if_some-ok : (ss : List (List Setting)) (ts : List TokenForm) (rs : List (List Setting)) (rest : List TokenForm) → if_some ss ts ≡ Ok (rs, rest) → Found (IsSome ss) ts rs rest
if_some-ok [] ts rs rest e = absurd cc
if_some-ok (s ∷ ss) ts rs rest e = let p = ok_parts (s ∷ ss) rs ts rest e in record { tokens = []; spelled = subst (IsSome (s ∷ ss) []) p.0 (is_some s ss); is = p.1 }

some_cycle : {us : List TokenForm} {ss : List (List Setting)} → SpellsStates us ss → {rs : List (List Setting)} → IsSome ss [] rs → IsCycle us rs
some_cycle no_state {rs = rs} none = elim none [ ]
some_cycle (one_more_state s more) (is_some r rs) = is_cycle s more

cycle_spelled : {us : List TokenForm} {ss : List (List Setting)} → Both SpellsStates IsSome us ss → IsCycle us ss
cycle_spelled (both {us = us} n (is_some s ss)) = subst (λ (vs : List TokenForm). IsCycle vs (s ∷ ss)) (sym (append-nil us)) (some_cycle n (is_some s ss))

cycle_found : Finds IsCycle cycle_at
unfolding cycle_at
cycle_found = finds_as (λ us ss p. cycle_spelled p) (finds_after states_found (λ ss. record { found = if_some-ok ss }))

trace_spelled : {us : List TokenForm} {s : StatementForm} → Both IsLabel (λ x. Both SpellsStates (λ prefix. Both (IsKeyword keywords.Loop) (λ _. Made (trace x prefix) IsCycle))) us s → SpellsStatement (keyword keywords.Trace ∷ us) s
trace_spelled (both (is_declared_name x) (both {us = ts} {x = prefix} p (both (is_keyword u) (made (is_cycle {us = us} {vs = vs} {s = s} {ss = ss} first more))))) =
    subst (λ (ws : List TokenForm). SpellsStatement (keyword keywords.Trace ∷ name x ∷ mark Colon ∷ ws) (trace (cut_name x) prefix (s ∷ ss))) (append_assoc ts (keyword keywords.Loop ∷ us) vs) (a_trace x p first more)

pub trace_at-ok : Finds (λ us s. SpellsStatement (keyword keywords.Trace ∷ us) s) trace_at
unfolding trace_at
trace_at-ok = finds_as (λ us s p. trace_spelled p) (finds_after declared_name_found (λ x. finds_after states_found (λ prefix. finds_after (finds_keyword keywords.Loop) (λ _. finds_counted (trace x prefix) cycle_found))))

-- ---- what is spelled is read

set_read : (x : List ℕ) (t : TokenForm) (v : WrittenValue) (rest : List TokenForm) → value_of t ≡ Some v → set_at (name x ∷ mark Equal ∷ t ∷ rest) ≡ Ok (setting (cut_name x) v, rest)
unfolding set_at after counted name_at
set_read x t v rest is = rw (value_read t v rest is) refl

more_sets_read : {ts : List TokenForm} {sets : List Setting} → SpellsSets ts sets → (n : ℕ) (front : List Setting) (rest : List TokenForm) → length (ts ++ rest) ≤ n → behind_mark Comma rest ≡ None
    → and_then (set_at (ts ++ rest)) (λ s us. more_at Comma set_at n (front ++ s ∷ []) us) ≡ Ok (front ++ sets, rest)
more_sets_read (one_set x t v is) n front rest le ends = rw (set_read x t v rest is) (more_done Comma set_at n (front ++ setting (cut_name x) v ∷ []) rest ends)
more_sets_read (more_sets x t v {ts = ts} {sets = sets} is s) n front rest le ends =
    rw (set_read x t v (mark Comma ∷ ts ++ rest) is) (
    more_more Comma set_at n (front ++ setting (cut_name x) v ∷ []) (mark Comma ∷ ts ++ rest) (ts ++ rest) (omega arith) refl
    ∙ more_sets_read s (n - 1) (front ++ setting (cut_name x) v ∷ []) rest (omega arith) ends
    ∙ ap (λ (l : List Setting). Ok (l, rest)) (append_assoc front (setting (cut_name x) v ∷ []) sets))

sets_read : {ts : List TokenForm} {sets : List Setting} → SpellsSets ts sets → (rest : List TokenForm) → behind_mark Comma rest ≡ None → listed_at set_at (ts ++ rest) ≡ Ok (sets, rest)
unfolding listed_at
sets_read (one_set x t v is) rest ends = rw (set_read x t v rest is) (more_done Comma set_at (length rest) (setting (cut_name x) v ∷ []) rest ends)
sets_read (more_sets x t v {ts = ts} {sets = sets} is s) rest ends =
    rw (set_read x t v (mark Comma ∷ ts ++ rest) is) (
    more_more Comma set_at (length (mark Comma ∷ ts ++ rest)) (setting (cut_name x) v ∷ []) (mark Comma ∷ ts ++ rest) (ts ++ rest) (omega arith) refl
    ∙ more_sets_read s (length (mark Comma ∷ ts ++ rest) - 1) (setting (cut_name x) v ∷ []) rest (omega arith) ends)

no_close : {ts : List TokenForm} {sets : List Setting} → SpellsSets ts sets → (rest : List TokenForm) → behind_mark CloseBrace (ts ++ rest) ≡ None
no_close (one_set x t v is) rest = refl
no_close (more_sets x t v is s) rest = refl

some_sets_read : {ts : List TokenForm} {sets : List Setting} → SpellsSets ts sets → (rest : List TokenForm) → state_at ((ts ++ mark CloseBrace ∷ []) ++ rest) ≡ Ok (sets, rest)
unfolding state_at if_sign some_sets_at after counted
some_sets_read {ts} s rest = rw (append_assoc ts (mark CloseBrace ∷ []) rest, no_close s (mark CloseBrace ∷ rest), sets_read s (mark CloseBrace ∷ rest) refl) refl

empty_read : (rest : List TokenForm) → state_at (mark CloseBrace ∷ rest) ≡ Ok ([], rest)
unfolding state_at if_sign
empty_read rest = refl

-- a state takes its turn among others
state_turn : {ts : List TokenForm} {s : List Setting} → SpellsState ts s → (n : ℕ) (front : List (List Setting)) (rest : List TokenForm) → 0 < n
    → more_at OpenBrace state_at n front (ts ++ rest) ≡ more_at OpenBrace state_at (n - 1) (front ++ s ∷ []) rest
state_turn an_empty_state n front rest some = more_more OpenBrace state_at n front (mark OpenBrace ∷ mark CloseBrace ∷ rest) (mark CloseBrace ∷ rest) some refl ∙ rw (empty_read rest) refl
state_turn (a_state {ts = ts} s) n front rest some =
    more_more OpenBrace state_at n front (mark OpenBrace ∷ (ts ++ mark CloseBrace ∷ []) ++ rest) ((ts ++ mark CloseBrace ∷ []) ++ rest) some refl ∙ rw (some_sets_read s rest) refl

state_long : {ts : List TokenForm} {s : List Setting} → SpellsState ts s → 0 < length ts
state_long an_empty_state = omega arith
state_long (a_state s) = omega arith

more_states_read : {ts : List TokenForm} {ss : List (List Setting)} → SpellsStates ts ss → (n : ℕ) (front : List (List Setting)) (rest : List TokenForm) → length (ts ++ rest) ≤ n → behind_mark OpenBrace rest ≡ None
    → more_at OpenBrace state_at n front (ts ++ rest) ≡ Ok (front ++ ss, rest)
more_states_read no_state n front rest le ends = more_done OpenBrace state_at n front rest ends ∙ ap (λ (l : List (List Setting)). Ok (l, rest)) (sym (append-nil front))
more_states_read (one_more_state {ts = ts} {us = us} {s = s} {ss = ss} first more) n front rest le ends =
    let long = state_long first in
    let whole : length ((ts ++ us) ++ rest) ≡ length (ts ++ (us ++ rest)) = ap length (append_assoc ts us rest) in
    let parts = length-append ts (us ++ rest) in
    rw (append_assoc ts us rest) (
    state_turn first n front (us ++ rest) (omega arith)
    ∙ more_states_read more (n - 1) (front ++ s ∷ []) rest (omega arith) ends
    ∙ ap (λ (l : List (List Setting)). Ok (l, rest)) (append_assoc front (s ∷ []) ss))

pub states_read : {ts : List TokenForm} {ss : List (List Setting)} → SpellsStates ts ss → (rest : List TokenForm) → behind_mark OpenBrace rest ≡ None → states_at (ts ++ rest) ≡ Ok (ss, rest)
unfolding states_at
states_read {ts} s rest ends = more_states_read s (length (ts ++ rest)) [] rest (omega arith) ends

pub cycle_read : {us vs : List TokenForm} {s : List Setting} {ss : List (List Setting)} → SpellsState us s → SpellsStates vs ss → (rest : List TokenForm) → behind_mark OpenBrace rest ≡ None
    → cycle_at ((us ++ vs) ++ rest) ≡ Ok (s ∷ ss, rest)
unfolding cycle_at after
cycle_read first more rest ends = rw (states_read (one_more_state first more) rest ends) refl
