use Rattle.formula_table.specs.Closures.{with_core}
use Rattle.formula_table.proofs.Members.{contained}
use Rattle.formula_table.proofs.CoreLaws.{core_members, core_size, core_again}
use Rattle.formula_table.proofs.law.law_of_tables.Goals as goal

pub returns : goal.returns
returns c = record {
  all = λ core closure d h. contained (with_core core closure) d (core_members core closure d h);
  few = core_size;
  again = core_again;
}
