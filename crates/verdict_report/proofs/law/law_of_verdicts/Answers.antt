use Rattle.verdict_report.proofs.VerdictLaws.{right_tells, one_right, one_cover}
use Rattle.verdict_report.proofs.law.law_of_verdicts.Goals as goal

pub returns : goal.returns
returns c = record { tells = right_tells; one = one_right; assignment = one_cover }
