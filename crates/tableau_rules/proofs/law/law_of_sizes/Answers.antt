use Rattle.tableau_rules.proofs.Sizes.{one_size, size_over, whole_size}
use Rattle.tableau_rules.proofs.law.law_of_sizes.Goals as goal

pub returns : goal.returns
returns c = record { one = one_size; over = size_over; whole = whole_size }
