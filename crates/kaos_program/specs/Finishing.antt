-- How an output that is due was written.
use Rattle.std.specs.Prelude.{◌≡◌, ℕ, List, Option}
use Rattle.std.specs.Io.KnownBytes.{Appends}
use Rattle.source_sink.specs.Causes.{Rose}
use Rattle.source_sink.specs.Bytes.{AppendsFront}
use Rattle.kaos_program.specs.declared.status.Status.{Status}
use Rattle.kaos_program.specs.declared.status.Status.TheVariants.{WriteFault}

-- the whole output was written, or a write failed and a front of it was written
pub data Finishes (old new : Option (List ℕ)) (before now : ℕ) (due status : Status) (output : List ℕ) : Type 0 where
  whole : status ≡ due → Appends old new output → Finishes old new before now due status output
  cut_off : status ≡ WriteFault → Rose before now → AppendsFront old new output → Finishes old new before now due status output
