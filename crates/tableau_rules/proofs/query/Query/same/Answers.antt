use Rattle.std.proofs.Common.{◌≡◌, ◌↔◌, IsTrue, sym, ap₂, ◌∙◌, true≢false, rules}
use Rattle.std.proofs.lemmas.Slice.Eq.{slice_eq-Decides}
use Rattle.formula_table.specs.declared.shape.FormulaId.{FormulaId}
use Rattle.formula_table.specs.contracts.shape.FormulaIdPartialEq.TheImpl
use Rattle.tableau_rules.specs.NumberedCores.{cores_at}
use Rattle.tableau_rules.proofs.QueryClosures.{closures_once, cores_once}
use Rattle.tableau_rules.proofs.query.Query.same.Goals as goal

ids_eq : (a b : FormulaId) → IsTrue ((TheImpl.eq-value).it a b) ↔ (a ≡ b)
ids_eq a b = search rules

pub returns-then-same : goal.returns-then-same
returns-then-same c =
    let one = c.args.self.now in
    let two = c.args.other.now in
    let tables = c.same.ensures.0 c.if-same.true in
    let numbers : IsTrue c.eq.result ↔ (one.numbers.items ≡ two.numbers.items) = slice_eq-Decides ids_eq one.numbers.items two.numbers.items c.eq.result c.eq.ensures in
    (λ h. ap₂ cores_at tables (numbers.0 h), λ e. numbers.1 (cores_once one two e))

pub returns-else-same : goal.returns-else-same
returns-else-same c =
    (λ h. absurd (true≢false (sym h ∙ c.if-same.false)), λ e. c.same.ensures.1 (closures_once c.args.self.now c.args.other.now e))
