-- What follows from tests and choices by them, and when they are true.
use Rattle.std.proofs.Common.{◌≡◌, ℕ, ◌⊎◌, Bool, true, false, ◌||◌, ◌&&◌, ◌==◌, IsTrue, IsFalse, cond, refl, arith, inl, inr, sym, true≢false}

pub cond_case : {X : Type 0} (C : X → Type 0) (b : Bool) (u v : X) → (IsTrue b → C u) → (IsFalse b → C v) → C (cond b u v)
cond_case C true u v f g = f refl
cond_case C false u v f g = g refl

pub bool_cases : (b : Bool) → IsTrue b ⊎ IsFalse b
bool_cases true = inl refl
bool_cases false = inr refl

pub or_left : (a b : Bool) → IsTrue a → IsTrue (a || b)
or_left true b h = refl
or_left false b h = absurd (true≢false (sym h))

pub or_right : (a b : Bool) → IsTrue b → IsTrue (a || b)
or_right true b h = refl
or_right false b h = h

pub or_true : (a b : Bool) → IsTrue (a || b) → IsTrue a ⊎ IsTrue b
or_true true b h = inl refl
or_true false b h = inr h

pub or_false : (a b : Bool) → IsFalse (a || b) → IsFalse b
or_false true b h = absurd (true≢false h)
or_false false b h = h

pub and_intro : (a b : Bool) → IsTrue a → IsTrue b → IsTrue (a && b)
and_intro true b h k = k
and_intro false b h k = absurd (true≢false (sym h))

pub and_true : (a b : Bool) → IsTrue (a && b) → IsTrue a × IsTrue b
and_true true b h = (refl, h)
and_true false b h = absurd (true≢false (sym h))

pub eq_of : (x y : ℕ) → IsTrue (x == y) → x ≡ y
eq_of x y h = grind arith

pub eq_to : (x y : ℕ) → x ≡ y → IsTrue (x == y)
eq_to x y h = grind arith

pub eq_self : (x : ℕ) → IsTrue (x == x)
eq_self x = grind arith
