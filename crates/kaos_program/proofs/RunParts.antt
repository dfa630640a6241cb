-- What a run has to write, how it was written, and what it so keeps of its promises.
use Rattle.std.proofs.Common.{◌≡◌, ℕ, ◌≤◌, true, List, length, Option, Some, None, refl, sym, ap, ◌∙◌, length-append, arith}
use Rattle.std.specs.Prelude.{String}
use Rattle.std.specs.Global.{Global}
use Rattle.std.specs.Io.KnownBytes.{Keeps}
use Rattle.source_sink.specs.Causes.{Rose}
use Rattle.source_sink.specs.Bytes.{IsAllOf, TakesMany}
use Rattle.verdict_report.specs.declared.report.Report.{Report}
use Rattle.kaos_program.specs.declared.status.Status.{Status}
use Rattle.kaos_program.specs.declared.status.Status.TheVariants.{Refused, BadWords, ReadFault, WriteFault, OutOfMemory}
use Rattle.kaos_program.specs.declared.running.Outcome.{Outcome}
use Rattle.kaos_program.specs.Statuses.{is_answer}
use Rattle.kaos_program.specs.Commands.{CommandForm, AreWords, AreOtherWords}
use Rattle.kaos_program.specs.UsageText.{usage_text}
use Rattle.kaos_program.specs.RefusalTexts.{too_long_text}
use Rattle.kaos_program.specs.Answering.{too_long as a_long_text, a_refusal}
use Rattle.kaos_program.specs.Finishing.{Finishes, whole, cut_off}
use Rattle.kaos_program.specs.Headline.{End, AnswersAll, for_words, for_text, Headline}

-- a source that gave more bytes than the limit has more than the limit
long_source : (old new : Option (List ℕ)) (n : ℕ) → TakesMany old new n → (bytes : List ℕ) × IsAllOf old bytes × (n ≤ length bytes)
long_source None new n taken = (taken.0, tt, omega (arith, taken.1))
long_source (Some xs) None n taken = absurd taken.2
long_source (Some xs) (Some ys) n taken = (xs, refl, omega (arith, taken.1, ap length taken.2, length-append taken.0 ys))

too_long : (command : CommandForm) (old new : Option (List ℕ)) → TakesMany old new 1048577 → AnswersAll command old new Refused None too_long_text
too_long command old new taken =
    let long = long_source old new 1048577 taken in
    record { bytes = long.0; all = long.1; answered = a_refusal command too_long_text (a_long_text (omega (arith, long.2))); ended = λ short. absurd (omega (arith, short, long.2)) }

pub long_answers : (command : CommandForm) (left after : Option (List ℕ)) (status : Status) (report : Option Report) → TakesMany left after 1048577 → status ≡ Refused → report ≡ None → AnswersAll command left after status report too_long_text
long_answers command left after status report taken is none = rw (is, none) (too_long command left after taken)

-- the usage text was due, and all or a front of it is written
pub usage_written : (words : List (String Global)) (source sink sink_after : End) (due : Status) (report : Option Report) (outcome : Outcome) → AreOtherWords words → due ≡ BadWords → report ≡ None → outcome.report ≡ report
    → Finishes sink.bytes sink_after.bytes sink.faults sink_after.faults due outcome.status usage_text → Headline words source source sink sink_after outcome
usage_written words source sink sink_after due report outcome others is none same (whole e a) =
    let bad : outcome.status ≡ BadWords = e ∙ is in
    record {
      answered = λ answers. let t : true ≡ is_answer BadWords = sym answers ∙ ap is_answer bad in absurd cc;
      bad_words = λ _. (others, refl, same ∙ none, a);
      read_fault = λ fault. let t : BadWords ≡ ReadFault = sym bad ∙ fault in absurd cc;
      write_fault = λ fault. let t : BadWords ≡ WriteFault = sym bad ∙ fault in absurd cc;
      memory = λ fault. let t : BadWords ≡ OutOfMemory = sym bad ∙ fault in absurd cc;
    }
usage_written words source sink sink_after due report outcome others is none same (cut_off e r f) =
    record {
      answered = λ answers. let t : true ≡ is_answer WriteFault = sym answers ∙ ap is_answer e in absurd cc;
      bad_words = λ fault. let t : WriteFault ≡ BadWords = sym e ∙ fault in absurd cc;
      read_fault = λ fault. let t : WriteFault ≡ ReadFault = sym e ∙ fault in absurd cc;
      write_fault = λ _. (r, BadWords, usage_text, rw (same ∙ none) (for_words others refl), f);
      memory = λ fault. let t : WriteFault ≡ OutOfMemory = sym e ∙ fault in absurd cc;
    }

-- an answer was due, and all or a front of it is written
pub answer_written : (words : List (String Global)) (source source_after sink sink_after : End) (command : CommandForm) (due : Status) (report : Option Report) (output : List ℕ) (outcome : Outcome) → AreWords words command
    → is_answer due ≡ true → AnswersAll command source.bytes source_after.bytes due report output → outcome.report ≡ report
    → Finishes sink.bytes sink_after.bytes sink.faults sink_after.faults due outcome.status output → Headline words source source_after sink sink_after outcome
answer_written words source source_after sink sink_after command due report output outcome theirs answer all same (whole e a) =
    let answered : is_answer outcome.status ≡ true = ap is_answer e ∙ answer in
    record {
      answered = λ _. (command, theirs, output, rw (e, same) all, a);
      bad_words = λ fault. let t : is_answer BadWords ≡ true = ap is_answer (sym fault) ∙ answered in absurd cc;
      read_fault = λ fault. let t : is_answer ReadFault ≡ true = ap is_answer (sym fault) ∙ answered in absurd cc;
      write_fault = λ fault. let t : is_answer WriteFault ≡ true = ap is_answer (sym fault) ∙ answered in absurd cc;
      memory = λ fault. let t : is_answer OutOfMemory ≡ true = ap is_answer (sym fault) ∙ answered in absurd cc;
    }
answer_written words source source_after sink sink_after command due report output outcome theirs answer all same (cut_off e r f) =
    record {
      answered = λ answers. let t : true ≡ is_answer WriteFault = sym answers ∙ ap is_answer e in absurd cc;
      bad_words = λ fault. let t : WriteFault ≡ BadWords = sym e ∙ fault in absurd cc;
      read_fault = λ fault. let t : WriteFault ≡ ReadFault = sym e ∙ fault in absurd cc;
      write_fault = λ _. (r, due, output, rw same (for_text command due report output theirs all), f);
      memory = λ fault. let t : WriteFault ≡ OutOfMemory = sym e ∙ fault in absurd cc;
    }

-- a read failed
pub not_read : (words : List (String Global)) (source source_after sink sink_after : End) (command : CommandForm) (outcome : Outcome) → AreWords words command → Rose source.faults source_after.faults → outcome.status ≡ ReadFault
    → outcome.report ≡ None → Keeps sink.bytes sink_after.bytes → Headline words source source_after sink sink_after outcome
not_read words source source_after sink sink_after command outcome theirs rose e none keeps =
    record {
      answered = λ answers. let t : true ≡ is_answer ReadFault = sym answers ∙ ap is_answer e in absurd cc;
      bad_words = λ fault. let t : ReadFault ≡ BadWords = sym e ∙ fault in absurd cc;
      read_fault = λ _. (command, theirs, rose, none, keeps);
      write_fault = λ fault. let t : ReadFault ≡ WriteFault = sym e ∙ fault in absurd cc;
      memory = λ fault. let t : ReadFault ≡ OutOfMemory = sym e ∙ fault in absurd cc;
    }

-- memory ran out
pub out_of_memory : (words : List (String Global)) (source source_after sink sink_after : End) (command : CommandForm) (outcome : Outcome) → AreWords words command → outcome.status ≡ OutOfMemory → outcome.report ≡ None
    → Keeps sink.bytes sink_after.bytes → Headline words source source_after sink sink_after outcome
out_of_memory words source source_after sink sink_after command outcome theirs e none keeps =
    record {
      answered = λ answers. let t : true ≡ is_answer OutOfMemory = sym answers ∙ ap is_answer e in absurd cc;
      bad_words = λ fault. let t : OutOfMemory ≡ BadWords = sym e ∙ fault in absurd cc;
      read_fault = λ fault. let t : OutOfMemory ≡ ReadFault = sym e ∙ fault in absurd cc;
      write_fault = λ fault. let t : OutOfMemory ≡ WriteFault = sym e ∙ fault in absurd cc;
      memory = λ _. (command, theirs, none, keeps);
    }
