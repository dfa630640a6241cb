-- A byte ends or begins at most three tokens.
use Rattle.std.proofs.Common.{ℕ, ◌+◌, ◌*◌, ◌≤◌, Bool, true, false, List, [], ◌∷◌, ◌++◌, length, Option, Some, None, length-append, arith}
use Rattle.std.specs.Prelude.{if◌then◌else◌, ◌==◌, ◌||◌, ◌&&◌}
use Rattle.std.specs.List.{list_all}
use Rattle.std.specs.Char.{is_ascii_digit}
use Rattle.std.proofs.lemmas.List.{length-map}
use Rattle.state_space.specs.Names.{is_word_byte}
use Rattle.model_tokens.specs.declared.token.Sign.{Sign}
use Rattle.model_tokens.specs.Tokens.{Placed, bad_byte}
use Rattle.model_tokens.specs.Lexing.{Before, between, comment, within, behind, negative_word, ended, single_of, alone_form, alone, is_blank, may_go_on, pair_of, lone_form, behind_emitted, emitted, next, tokens_from, tokens_of}

-- either of two lists has at most so many elements
either_few : (b : Bool) (xs ys : List Placed) (n : ℕ) → length xs ≤ n → length ys ≤ n → length (if b then xs else ys) ≤ n
either_few true xs ys n x y = x
either_few false xs ys n x y = y

few_negative : (from : ℕ) (word : List ℕ) → length (negative_word from word) ≤ 2
unfolding negative_word
few_negative from word = either_few (list_all is_ascii_digit word) _ _ 2 (omega arith) (omega arith)

few_ended : (before : Before) → length (ended before) ≤ 2
few_ended between = omega arith
few_ended comment = omega arith
few_ended (within from true word) = few_negative from word
few_ended (within from false word) = omega arith
few_ended (behind from byte) = omega arith

alone_few : (o : Option Sign) (byte : ℕ) → length (alone_form o byte) ≤ 1
alone_few (Some m) byte = omega arith
alone_few None byte = go (is_blank byte || byte == 35 || is_word_byte byte || may_go_on byte)
  where
    go : (b : Bool) → length (if b then [] else bad_byte ∷ []) ≤ 1
    go true = omega arith
    go false = omega arith

few_alone : (at byte : ℕ) → length (alone at byte) ≤ 1
unfolding alone
few_alone at byte = rw length-map (alone_few (single_of byte) byte)

few_joined : (xs ys : List Placed) → length xs ≤ 2 → length ys ≤ 1 → length (xs ++ ys) ≤ 3
few_joined xs ys x y = omega (arith, length-append xs ys)

few_behind : (o : Option Sign) (from first at byte : ℕ) → length (behind_emitted o from first at byte) ≤ 3
few_behind (Some m) from first at byte = omega arith
few_behind None from first at byte = either_few (first == 45 && is_word_byte byte) [] _ 3 (omega arith) (few_joined (record { at = from; form = lone_form first } ∷ []) (alone at byte) (omega arith) (few_alone at byte))

few_emitted : (at : ℕ) (before : Before) (byte : ℕ) → length (emitted at before byte) ≤ 3
few_emitted at between byte = let few = few_alone at byte in omega arith
few_emitted at comment byte = omega arith
few_emitted at (within from negative word) byte =
    either_few (is_word_byte byte) [] _ 3 (omega arith) (few_joined (ended (within from negative word)) (alone at byte) (few_ended (within from negative word)) (few_alone at byte))
few_emitted at (behind from first) byte = few_behind (pair_of first byte) from first at byte

few_tokens_from : (at : ℕ) (before : Before) (bytes : List ℕ) → length (tokens_from at before bytes) ≤ 3 * length bytes + 2
few_tokens_from at before [] = let few = few_ended before in omega arith
few_tokens_from at before (byte ∷ bytes) =
    let few = few_emitted at before byte in
    let more = few_tokens_from (at + 1) (next at before byte) bytes in
    omega (arith, length-append (emitted at before byte) (tokens_from (at + 1) (next at before byte) bytes))

pub few_tokens : (bytes : List ℕ) → length (tokens_of bytes) ≤ 3 * length bytes + 2
unfolding tokens_of
few_tokens bytes = few_tokens_from 0 between bytes
