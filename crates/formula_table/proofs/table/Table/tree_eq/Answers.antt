use Rattle.std.proofs.Common.{◌≡◌, ◌↔◌, IsTrue, ap, rules}
use Rattle.formula_table.specs.declared.shape.FormulaId.{FormulaId}
use Rattle.formula_table.specs.Closures.{formula_at}
use Rattle.formula_table.specs.Decoding.{decoded}
use Rattle.formula_table.proofs.Decodings.{id_once}
use Rattle.formula_table.proofs.table.Table.tree_eq.Goals as goal

pub returns : goal.returns
returns c =
    let closure = decoded c.args.self.now.shapes.keys in
    let equal : IsTrue c.eq.result ↔ (c.args.a ≡ c.args.b) = search rules in
    let forth = λ (h : IsTrue c.eq.result). ap (λ (id : FormulaId). formula_at closure id.0) (equal.0 h) in
    let back = λ (e : formula_at closure c.args.a.0 ≡ formula_at closure c.args.b.0). equal.1 (id_once closure c.args.self.now.distinct c.args.a c.args.b c.requires.first c.requires.second e) in
    record { same = (forth, back) }
