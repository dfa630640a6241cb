-- The word that bytes begin with, as long as it can be.
use Rattle.std.proofs.Common.{◌≡◌, ℕ, Bool, true, false, List, [], ◌∷◌, ◌++◌, refl, sym, ap, ap₂, subst, ◌∙◌}
use Rattle.std.specs.List.{list_all}
use Rattle.std.proofs.lemmas.Bool.{and_parts, and_from}
use Rattle.state_space.specs.Names.{is_word_byte}
use Rattle.model_tokens.specs.Cuts.{EndsWord}

-- bytes by the word bytes that they begin with
pub record WordRun (bytes : List ℕ) : Type 0 where
  pub run : List ℕ
  pub rest : List ℕ
  pub is : bytes ≡ run ++ rest
  pub all : list_all is_word_byte run ≡ true
  pub ends : EndsWord rest

-- each text begins with a run of word bytes, which may be none
pub word_run : (bytes : List ℕ) → WordRun bytes
word_run [] = record { run = []; rest = []; is = refl; all = refl; ends = tt }
word_run (b ∷ bytes) = by_byte (is_word_byte b) refl (word_run bytes)
  where
    by_byte : (t : Bool) → is_word_byte b ≡ t → WordRun bytes → WordRun (b ∷ bytes)
    by_byte false w r = record { run = []; rest = b ∷ bytes; is = refl; all = refl; ends = w }
    by_byte true w r = record { run = b ∷ r.run; rest = r.rest; is = ap (λ (ns : List ℕ). b ∷ ns) r.is; all = and_from (is_word_byte b) (list_all is_word_byte r.run) w r.all; ends = r.ends }

-- a run of word bytes is as long as any other
pub same_run : (one behind_one other behind_other : List ℕ) → one ++ behind_one ≡ other ++ behind_other → list_all is_word_byte one ≡ true → list_all is_word_byte other ≡ true → EndsWord behind_one → EndsWord behind_other → one ≡ other
same_run [] x [] y e a b m n = refl
same_run [] x (c ∷ cs) y e a b m n =
    let w = (and_parts (is_word_byte c) (list_all is_word_byte cs) b).0 in
    let f : is_word_byte c ≡ false = subst EndsWord e m in
    let never : true ≡ false = sym w ∙ f in absurd cc
same_run (c ∷ cs) x [] y e a b m n =
    let w = (and_parts (is_word_byte c) (list_all is_word_byte cs) a).0 in
    let f : is_word_byte c ≡ false = subst EndsWord (sym e) n in
    let never : true ≡ false = sym w ∙ f in absurd cc
same_run (c ∷ cs) x (d ∷ ds) y e a b m n =
    let first : c ≡ d = cc in
    let others : cs ++ x ≡ ds ++ y = cc in
    ap₂ (λ (k : ℕ) (ns : List ℕ). k ∷ ns) first (same_run cs x ds y others (and_parts (is_word_byte c) (list_all is_word_byte cs) a).1 (and_parts (is_word_byte d) (list_all is_word_byte ds) b).1 m n)
