use Rattle.std.proofs.Common.{◌≡◌, Err, true, ap}
use Rattle.std.proofs.KnownBytes.{Keeps-refl}
use Rattle.kaos_program.specs.Statuses.{is_answer}
use Rattle.kaos_program.specs.Options.{command_form}
use Rattle.kaos_program.specs.RefusalTexts.{too_long_text}
use Rattle.kaos_program.specs.Headline.{AnswersAll}
use Rattle.kaos_program.proofs.RunParts.{long_answers, usage_written, answer_written, not_read, out_of_memory}
use Rattle.kaos_program.proofs.running.run.Goals as goal

pub returns-in_default : goal.returns-in_default
returns-in_default g c =
    let due = c.without_report in
    usage_written c.args.words.now _ _ _ due.result.status due.result.report _ c.in_default.ensures due.ensures.status due.ensures.report c.finish.ensures.report c.finish.ensures.finished

pub returns-in-Err-TooLong : goal.returns-in-Err-TooLong
returns-in-Err-TooLong g c =
    let due = c.without_report-refused in
    let taken = c.in-Err-TooLong.ensures.long (ap (λ e. Err e) c.in-Err-TooLong.field-0-is) in
    let answers : is_answer due.result.status ≡ true = ap is_answer due.ensures.status in
    answer_written c.args.words.now _ _ _ _ (command_form c.in-Some.command) due.result.status due.result.report too_long_text _ c.in-Some.ensures answers (long_answers _ _ _ _ _ taken due.ensures.status due.ensures.report) c.finish-in-Err-TooLong.ensures.report c.finish-in-Err-TooLong.ensures.finished

pub returns-in-Err-ReadFault : goal.returns-in-Err-ReadFault
returns-in-Err-ReadFault g c =
    let rose = c.in-Err-ReadFault.ensures.fault (ap (λ e. Err e) c.in-Err-ReadFault.field-0-is) in
    not_read c.args.words.now _ _ _ _ (command_form c.in-Some.command) _ c.in-Some.ensures rose c.without_report-in-Err-ReadFault.ensures.status c.without_report-in-Err-ReadFault.ensures.report (Keeps-refl _)

pub returns-in-Err-Memory : goal.returns-in-Err-Memory
returns-in-Err-Memory g c =
    out_of_memory c.args.words.now _ _ _ _ (command_form c.in-Some.command) _ c.in-Some.ensures c.without_report-in-Err-Memory.ensures.status c.without_report-in-Err-Memory.ensures.report (Keeps-refl _)

pub returns-in-Ok-answer_to : goal.returns-in-Ok-answer_to
returns-in-Ok-answer_to g c =
    let due = c.in-Ok-answer_to.answer in
    let answered = rw c.deref.ensures.value at c.in-Ok-answer_to.ensures.answered in
    let all : AnswersAll (command_form c.in-Some.command) (g.S.Source.left c.args.source.now) (g.S.Source.left c.read_all.new.source) due.status due.report due.output.items =
    record { bytes = c.in-Ok.bytes.items; all = c.in-Ok.ensures.all; answered = answered; ended = λ _. c.in-Ok.ensures.ended } in
    answer_written c.args.words.now _ _ _ _ (command_form c.in-Some.command) due.status due.report due.output.items _ c.in-Some.ensures c.in-Ok-answer_to.ensures.status all c.finish-in-Ok-answer_to.ensures.report
    (rw c.deref-in-Ok-answer_to.ensures.value at c.finish-in-Ok-answer_to.ensures.finished)
