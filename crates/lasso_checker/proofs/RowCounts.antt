-- How many rows a formula takes, against its depth.
use Rattle.std.proofs.Common.{ℕ, ◌+◌, ◌-◌, ◌*◌, ◌^◌, ◌<◌, ◌≤◌, arith}
use Rattle.std.specs.Prelude.{max}
use Rattle.temporal_logic.specs.Ltl.{Ltl, neg, conj, disj, implies, iff, entails, next, eventually, always, until, unless, release, eventually_within, always_within, until_within, unless_within, release_within}
use Rattle.temporal_logic.specs.Shapes.{depth_of, level_above}
use Rattle.lasso_checker.specs.Scratch.{rows_of, rows_over, rows_over_both}

one_level : (own d a : ℕ) → own ≤ 3 → level_above d < 2 ^ 32 - 1 → (d < 2 ^ 32 - 1 → a ≤ 2 * d + 2) → rows_over own a ≤ 2 * level_above d + 2
one_level own d a o h f =
    let small : d < 2 ^ 32 - 1 = omega arith in let g = f small in omega (arith, g)

two_levels : (own d e a b : ℕ) → own ≤ 3 → level_above (max d e) < 2 ^ 32 - 1 → (d < 2 ^ 32 - 1 → a ≤ 2 * d + 2) → (e < 2 ^ 32 - 1 → b ≤ 2 * e + 2) → rows_over_both own a b ≤ 2 * level_above (max d e) + 2
two_levels own d e a b o h f g =
    let small : d < 2 ^ 32 - 1 = omega arith in
    let small' : e < 2 ^ 32 - 1 = omega arith in
    let x = f small in
    let y = g small' in
    omega (arith, x, y)

pub rows_within : (f : Ltl) → depth_of f < 2 ^ 32 - 1 → rows_of f ≤ 2 * depth_of f + 2
rows_within (neg a) h = one_level 1 (depth_of a) (rows_of a) (omega arith) h (rows_within a)
rows_within (conj a b) h = two_levels 2 (depth_of a) (depth_of b) (rows_of a) (rows_of b) (omega arith) h (rows_within a) (rows_within b)
rows_within (disj a b) h = two_levels 2 (depth_of a) (depth_of b) (rows_of a) (rows_of b) (omega arith) h (rows_within a) (rows_within b)
rows_within (implies a b) h = two_levels 2 (depth_of a) (depth_of b) (rows_of a) (rows_of b) (omega arith) h (rows_within a) (rows_within b)
rows_within (iff a b) h = two_levels 2 (depth_of a) (depth_of b) (rows_of a) (rows_of b) (omega arith) h (rows_within a) (rows_within b)
rows_within (entails a b) h = two_levels 2 (depth_of a) (depth_of b) (rows_of a) (rows_of b) (omega arith) h (rows_within a) (rows_within b)
rows_within (next a) h = one_level 1 (depth_of a) (rows_of a) (omega arith) h (rows_within a)
rows_within (eventually a) h = one_level 2 (depth_of a) (rows_of a) (omega arith) h (rows_within a)
rows_within (always a) h = one_level 2 (depth_of a) (rows_of a) (omega arith) h (rows_within a)
rows_within (until a b) h = two_levels 2 (depth_of a) (depth_of b) (rows_of a) (rows_of b) (omega arith) h (rows_within a) (rows_within b)
rows_within (unless a b) h = two_levels 2 (depth_of a) (depth_of b) (rows_of a) (rows_of b) (omega arith) h (rows_within a) (rows_within b)
rows_within (release a b) h = two_levels 2 (depth_of a) (depth_of b) (rows_of a) (rows_of b) (omega arith) h (rows_within a) (rows_within b)
rows_within (eventually_within d a) h = one_level 3 (depth_of a) (rows_of a) (omega arith) h (rows_within a)
rows_within (always_within d a) h = one_level 3 (depth_of a) (rows_of a) (omega arith) h (rows_within a)
rows_within (until_within d a b) h = two_levels 3 (depth_of a) (depth_of b) (rows_of a) (rows_of b) (omega arith) h (rows_within a) (rows_within b)
rows_within (unless_within d a b) h = two_levels 3 (depth_of a) (depth_of b) (rows_of a) (rows_of b) (omega arith) h (rows_within a) (rows_within b)
rows_within (release_within d a b) h = two_levels 3 (depth_of a) (depth_of b) (rows_of a) (rows_of b) (omega arith) h (rows_within a) (rows_within b)
rows_within f h = omega arith

pub bound_times : (w r n s : ℕ) → r ≤ n → s ≤ w * r → s ≤ n * w
bound_times w r n s l h = grind arith

-- ---- room for operands
module _ (base w own a b l : ℕ) (room : base + w * rows_over_both own a b ≤ l) where
  pub room_behind : base + w + w * b ≤ l
  room_behind = grind arith

pub rows_some : (f : Ltl) → 0 < rows_of f
rows_some (neg a) = omega arith
rows_some (next a) = omega arith
rows_some (eventually a) = omega arith
rows_some (always a) = omega arith
rows_some (conj a b) = omega arith
rows_some (disj a b) = omega arith
rows_some (implies a b) = omega arith
rows_some (iff a b) = omega arith
rows_some (entails a b) = omega arith
rows_some (until a b) = omega arith
rows_some (unless a b) = omega arith
rows_some (release a b) = omega arith
rows_some (eventually_within d a) = omega arith
rows_some (always_within d a) = omega arith
rows_some (until_within d a b) = omega arith
rows_some (unless_within d a b) = omega arith
rows_some (release_within d a b) = omega arith
rows_some f = omega arith

pub some_room : (w n : ℕ) → 0 < w → 0 < n → 0 < w * n
some_room w n s t = grind arith
