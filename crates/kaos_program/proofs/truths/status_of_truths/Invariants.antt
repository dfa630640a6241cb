use Rattle.std.proofs.Common.{◌≡◌, map, drop}
use Rattle.std.specs.List.{list_all}
use Rattle.kaos_program.proofs.truths.status_of_truths.Given as goal

abbrev pub invariant-rows : goal.invariant-rows
invariant-rows l = list_all (list_all (λ b. b)) (map (λ row. row.items) (drop l.row-index l.rows)) ≡ list_all (list_all (λ b. b)) (map (λ row. row.items) l.rows)
