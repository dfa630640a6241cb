-- What a run promises: the theorem about the program, a field for each promise.
use Rattle.std.specs.Prelude.{◌≡◌, ℕ, ◌≤◌, true, List, length, Option, None, String}
use Rattle.std.specs.Global.{Global}
use Rattle.std.specs.Io.KnownBytes.{IsAtEnd, Appends, Keeps}
use Rattle.source_sink.specs.Causes.{Rose}
use Rattle.source_sink.specs.Bytes.{IsAllOf, AppendsFront}
use Rattle.verdict_report.specs.declared.report.Report.{Report}
use Rattle.kaos_program.specs.declared.status.Status.{Status}
use Rattle.kaos_program.specs.declared.status.Status.TheVariants.{BadWords, ReadFault, WriteFault, OutOfMemory}
use Rattle.kaos_program.specs.declared.running.Outcome.{Outcome}
use Rattle.kaos_program.specs.Statuses.{is_answer}
use Rattle.kaos_program.specs.Commands.{CommandForm, AreWords, AreOtherWords}
use Rattle.kaos_program.specs.UsageText.{usage_text}
use Rattle.kaos_program.specs.Answering.{Answers}

-- a source or a sink at a moment: the bytes that are left or held, where it tells them, and how many calls failed
pub record End : Type 0 where
  pub bytes : Option (List ℕ)
  pub faults : ℕ

abbrev pub end_of : Option (List ℕ) → ℕ → End
end_of bytes faults = record { bytes = bytes; faults = faults }

-- the answer to all bytes of a source, of which none is left where they are within the limit
pub record AnswersAll (command : CommandForm) (old new : Option (List ℕ)) (status : Status) (report : Option Report) (output : List ℕ) : Type 0 where
  pub bytes : List ℕ
  pub all : IsAllOf old bytes
  pub answered : Answers bytes command status report output
  pub ended : length bytes ≤ 1048576 → IsAtEnd new

-- what is due: the usage text where the words are those of no command, and the source is then untouched, else the answer to its bytes
pub data IsDue (words : List (String Global)) (old new : Option (List ℕ)) : Status → Option Report → List ℕ → Type 0 where
  for_words : AreOtherWords words → new ≡ old → IsDue words old new BadWords None usage_text
  for_text : (command : CommandForm) (status : Status) (report : Option Report) (output : List ℕ) → AreWords words command → AnswersAll command old new status report output
      → IsDue words old new status report output

-- the words, the source before and after, the sink before and after, and the outcome of a run
pub record Headline (words : List (String Global)) (source source_after sink sink_after : End) (outcome : Outcome) : Type 0 where
  -- the text is answered: the words are accepted, and the whole answer to all bytes of the source is written
  pub answered : is_answer outcome.status ≡ true → (command : CommandForm) × AreWords words command × (output : List ℕ) × AnswersAll command source.bytes source_after.bytes outcome.status outcome.report output
      × Appends sink.bytes sink_after.bytes output
  -- the words are not accepted: the source is untouched, and the usage text is written
  pub bad_words : outcome.status ≡ BadWords → AreOtherWords words × (source_after ≡ source) × (outcome.report ≡ None) × Appends sink.bytes sink_after.bytes usage_text
  -- a read failed, so the words are accepted: nothing is written
  pub read_fault : outcome.status ≡ ReadFault → (command : CommandForm) × AreWords words command × Rose source.faults source_after.faults × (outcome.report ≡ None) × Keeps sink.bytes sink_after.bytes
  -- a write failed: a front of what was due is written
  pub write_fault : outcome.status ≡ WriteFault → Rose sink.faults sink_after.faults × (due : Status) × (output : List ℕ) × IsDue words source.bytes source_after.bytes due outcome.report output
      × AppendsFront sink.bytes sink_after.bytes output
  -- memory ran out, so the words are accepted: nothing is written
  pub memory : outcome.status ≡ OutOfMemory → (command : CommandForm) × AreWords words command × (outcome.report ≡ None) × Keeps sink.bytes sink_after.bytes
