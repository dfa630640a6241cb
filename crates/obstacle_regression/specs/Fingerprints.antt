-- A number that cores of one tree share, so that most cores of two trees are told apart without a walk over them.
use Rattle.std.specs.Prelude.{ℕ, ◌+◌, ◌*◌, ◌^◌, ◌%◌}
use Rattle.bound_unfolding.specs.CoreForm.{CoreForm, core_true, core_false, lit, both, either, after, core_until, core_release}

-- three numbers made one, below 2^64; the factors are odd and large, so that each bit of what goes in moves many
abbrev pub mixed : (kind first second : ℕ) → ℕ
mixed kind first second = (((kind + first) % 2 ^ 64 * 11400714819323198485) % 2 ^ 64 + second) % 2 ^ 64 * 13787848793156543929 % 2 ^ 64

-- the fingerprint of a core, from those of its operands
abbrev pub fingerprint : CoreForm → ℕ
fingerprint core_true = 1
fingerprint core_false = 2
fingerprint (lit x set) = mixed 3 x set
fingerprint (both a b) = mixed 4 (fingerprint a) (fingerprint b)
fingerprint (either a b) = mixed 5 (fingerprint a) (fingerprint b)
fingerprint (after a) = mixed 6 (fingerprint a) 0
fingerprint (core_until a b) = mixed 7 (fingerprint a) (fingerprint b)
fingerprint (core_release a b) = mixed 8 (fingerprint a) (fingerprint b)
