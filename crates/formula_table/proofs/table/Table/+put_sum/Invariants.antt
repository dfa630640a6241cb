use Rattle.formula_table.proofs.table.Table.+put_sum.Given as goal

abbrev pub decreases-put_sum : goal.decreases-put_sum
decreases-put_sum l = l.left
