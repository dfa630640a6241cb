-- What comes of putting a core into a closure.
use Rattle.std.specs.Prelude.{◌≡◌, ◌<◌, List, length, Option, Some, None, Result, Ok, Err, OnOk, IfOk, IsErrOf}
use Rattle.bound_unfolding.specs.CoreForm.{CoreForm, core_false}
use Rattle.formula_table.specs.declared.shape.FormulaId.{FormulaId}
use Rattle.formula_table.specs.declared.table.PutRefusal.{PutRefusal}
use Rattle.formula_table.specs.declared.table.PutRefusal.TheVariants.{Full}
use Rattle.formula_table.specs.Closures.{formula_at, with_core}
use Rattle.formula_table.specs.Tables.{IsKept}

-- a closure has its core and the number of that; or it has a part of what was to come, which is too much where the table is full
pub record IsCorePut (core : CoreForm) (old new : List CoreForm) (result : Result FormulaId PutRefusal) : Type 0 where
  pub put : OnOk result (new ≡ with_core core old)
  pub id : IfOk result (λ id. formula_at new id.0 ≡ core)
  pub inside : IfOk result (λ id. id.0 < length new)
  pub full : IsErrOf result Full → 4096 < length (with_core core old)
  pub kept : IsKept old new
  pub part : IsKept new (with_core core old)

-- a closure has its sum and the number of that, or is as it was where the sum has no term; or it has a part of what was to come
abbrev pub IsSumPut : CoreForm → (old new : List CoreForm) → Result (Option FormulaId) PutRefusal → Type 0
IsSumPut sum old new (Ok None) = (sum ≡ core_false) × (new ≡ old)
IsSumPut sum old new (Ok (Some id)) = ¬ (sum ≡ core_false) × IsCorePut sum old new (Ok id)
IsSumPut sum old new (Err e) = ¬ (sum ≡ core_false) × IsCorePut sum old new (Err e)
