-- The walk over the bytes: what a state is, a byte further on.
use Rattle.std.proofs.Common.{◌≡◌, ℕ, ◌+◌, ◌-◌, ◌<◌, ◌≤◌, Bool, true, false, List, [], ◌∷◌, ◌++◌, length, take, drop, get_or, refl, ap, ◌∙◌, length-drop, arith}
use Rattle.std.proofs.lemmas.List.{take_more, get_or-drop}
use Rattle.std.specs.Prelude.{if◌then◌else◌, ◌==◌}
use Rattle.state_space.specs.Names.{is_word_byte}
use Rattle.model_tokens.specs.declared.lexer.State.TheVariants as states
use Rattle.model_tokens.specs.Lexing.{between, comment, within, behind, may_go_on, fresh, next}
use Rattle.model_tokens.specs.LexerView.{seen, fresh_code}

pub word_more : (text : List ℕ) (from at : ℕ) → from ≤ at → at < length text → take (at + 1 - from) (drop from text) ≡ take (at - from) (drop from text) ++ get_or text at 0 ∷ []
word_more text from at le lt =
    let e : at + 1 - from ≡ (at - from) + 1 = omega arith in
    let k : from + (at - from) ≡ at = omega arith in
    let inside : at - from < length (drop from text) = omega (arith, length-drop from text) in
    rw e (take_more (drop from text) (at - from) 0 inside ∙ ap (λ (x : ℕ). take (at - from) (drop from text) ++ x ∷ []) (get_or-drop from text (at - from) 0 ∙ ap (λ (i : ℕ). get_or text i 0) k))

pub word_first : (text : List ℕ) (from at : ℕ) → from ≡ at → at < length text → take (at + 1 - from) (drop from text) ≡ get_or text at 0 ∷ []
word_first text from at e lt = let none : at - from ≡ 0 = omega arith in word_more text from at (omega arith) lt ∙ rw none refl

pub fresh_seen : (text : List ℕ) (at : ℕ) → at < length text → seen text (fresh_code (get_or text at 0) at) (at + 1) ≡ fresh at (get_or text at 0)
unfolding fresh
fresh_seen text at lt = go (is_word_byte (get_or text at 0)) (may_go_on (get_or text at 0)) (get_or text at 0 == 35)
  where
    go : (a b c : Bool) → seen text (if a then states.Word at else if b then states.Behind at else if c then states.Comment else states.Between) (at + 1) ≡ (if a then within at false (get_or text at 0 ∷ []) else if b then behind at (get_or text at 0) else if c then comment else between)
    go true b c = ap (within at false) (word_first text at at refl lt)
    go false true c = refl
    go false false true = refl
    go false false false = refl

pub word_goes_on : (text : List ℕ) (from at : ℕ) → from < at → at < length text → is_word_byte (get_or text at 0) ≡ true → seen text (states.Word from) (at + 1) ≡ next at (seen text (states.Word from) at) (get_or text at 0)
word_goes_on text from at le lt e = rw e (ap (within from false) (word_more text from at (omega arith) lt))

pub negative_goes_on : (text : List ℕ) (from at : ℕ) → from + 1 < at → at < length text → is_word_byte (get_or text at 0) ≡ true → seen text (states.Negative from) (at + 1) ≡ next at (seen text (states.Negative from) at) (get_or text at 0)
negative_goes_on text from at le lt e = rw e (ap (within from true) (word_more text (from + 1) at (omega arith) lt))
