-- What resolution gives, part by part: a value, or a fault with the name at which it stands.
use Rattle.std.specs.Prelude.{◌≡◌, ℕ, Bool, true, false, List, Result, Ok, Err, Option, Some, None, ⊤}
use Rattle.goal_model.specs.declared.refusal.RefusalKind.{RefusalKind}
use Rattle.goal_model.specs.declared.refusal.Fault.{Fault}
use Rattle.goal_model.specs.declared.refusal.Stop as code
use Rattle.goal_model.specs.declared.refusal.Stop.TheVariants as stops

abbrev pub Resolved : Type 0 → Type 0
Resolved A = Result A Fault

-- the next part is resolved only where this one is
abbrev pub and_then : {A B : Type 0} → Resolved A → (A → Resolved B) → Resolved B
and_then (Ok a) next = next a
and_then (Err fault) next = Err fault

abbrev pub fault : RefusalKind → List ℕ → Fault
fault kind x = record { kind = kind; name = x }

abbrev pub refused : {A : Type 0} → RefusalKind → List ℕ → Resolved A
refused kind x = Err (fault kind x)

-- a test that has to pass, or else this fault stands at this name
abbrev pub holds : Bool → RefusalKind → List ℕ → Resolved (Unit {0})
holds true kind x = Ok tt
holds false kind x = refused kind x

-- a value that has to be there
abbrev pub wanted : {A : Type 0} → Option A → RefusalKind → List ℕ → Resolved A
wanted (Some a) kind x = Ok a
wanted None kind x = refused kind x

-- what the code answers is what is resolved, or memory ran out; `view` is how the definitions see a value
abbrev pub Gives : {A B : Type 0} → (A → B) → Result A code.Stop → Resolved B → Type 0
Gives view (Ok a) expected = expected ≡ Ok (view a)
Gives view (Err (stops.Fault f)) expected = expected ≡ Err f
Gives view (Err stops.Memory) expected = ⊤
