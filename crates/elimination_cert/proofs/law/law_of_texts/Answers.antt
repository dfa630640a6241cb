use Rattle.elimination_cert.proofs.TextLaws.{one_law, few_law}
use Rattle.elimination_cert.proofs.law.law_of_texts.Goals as goal

pub returns : goal.returns
returns c = record { one = one_law; not_too_many = few_law }
