-- The set of one variable among those that the indexes now lie in.
use Rattle.std.proofs.Common.{◌≡◌, ℕ, zero, suc, ◌<◌, ◌≤◌, false, List, [], ◌∷◌, length, bit_and, ◌==◌, refl, arith}
use Rattle.std.specs.Prelude.{slice_index_or}
use Rattle.state_space.specs.declared.values.Values.{Values}
use Rattle.tableau_rules.specs.Rules.{inside, apart}
use Rattle.tableau_rules.specs.Turns.{sets_of}

-- ---- at its place
pub inside_at : (now : List Values) (x set : ℕ) (d : Values) → x < length now
    → (bit_and (slice_index_or now x d).0 set == (slice_index_or now x d).0) ≡ inside (sets_of now) x set
inside_at [] x set d l = absurd (omega arith)
inside_at (s ∷ now) zero set d l = refl
inside_at (s ∷ now) (suc x) set d l = inside_at now x set d (omega arith)

pub apart_at : (now : List Values) (x set : ℕ) (d : Values) → x < length now → (bit_and (slice_index_or now x d).0 set == 0) ≡ apart (sets_of now) x set
apart_at [] x set d l = absurd (omega arith)
apart_at (s ∷ now) zero set d l = refl
apart_at (s ∷ now) (suc x) set d l = apart_at now x set d (omega arith)

-- ---- past the end
pub inside_past : (now : List Values) (x set : ℕ) → length now ≤ x → false ≡ inside (sets_of now) x set
inside_past [] x set l = refl
inside_past (s ∷ now) zero set l = absurd (omega arith)
inside_past (s ∷ now) (suc x) set l = inside_past now x set (omega arith)

pub apart_past : (now : List Values) (x set : ℕ) → length now ≤ x → false ≡ apart (sets_of now) x set
apart_past [] x set l = refl
apart_past (s ∷ now) zero set l = absurd (omega arith)
apart_past (s ∷ now) (suc x) set l = apart_past now x set (omega arith)
