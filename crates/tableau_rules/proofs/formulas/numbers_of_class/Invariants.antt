use Rattle.std.proofs.Common.{◌≡◌, ◌==◌}
use Rattle.formula_table.specs.Closures.{formula_at}
use Rattle.formula_table.specs.Tables.{closure_in}
use Rattle.tableau_rules.specs.Rules.{class_of}
use Rattle.tableau_rules.specs.Words.{passing}
use Rattle.tableau_rules.proofs.formulas.numbers_of_class.Given as goal

abbrev pub invariant-formulas : goal.invariant-formulas
invariant-formulas l = l.numbers ≡ passing (λ f. class_of (formula_at (closure_in l.table) f) == l.class) 0 l.number
