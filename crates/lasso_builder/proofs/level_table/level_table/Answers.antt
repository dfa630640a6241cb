use Rattle.std.proofs.Common.{◌≡◌, ◌+◌, length, arith, ◌++◌, [], ◌∷◌, length-append}
use Rattle.formula_table.specs.Closures.{closure_of}
use Rattle.tableau_rules.specs.QueryView.{cores_in}
use Rattle.tableau_rules.specs.GraphView.{graph_of}
use Rattle.tableau_rules.specs.Links.{fulfils_at, carries_at}
use Rattle.lasso_builder.proofs.Lowering.{levels_more}
use Rattle.lasso_builder.proofs.level_table.level_table.Goals as goal

pub formulas-preserved : goal.formulas-preserved
formulas-preserved c =
    let v = c.in_ok-levels_for.field-0 in
    let i : c.push.new.self.items ≡ c.formulas.table.items ++ v ∷ [] = c.in_ok-push.ensures.items in
    let n = length-append c.formulas.table.items (v ∷ []) in
    let s = c.formulas.invariant.size in
    let size : length (c.formulas.table.items ++ v ∷ []) ≡ c.formulas.formula + 1 = omega (arith, n, s) in
    rw i (record {
      levels = levels_more c.args.links.now (carries_at (closure_of (cores_in c.args.query.now)) (graph_of c.args.graph.now)) (fulfils_at c.args.links.now) c.args.alive.now c.formulas.table.items v c.formulas.formula s
          c.formulas.invariant.levels c.in_ok-levels_for.ensures;
      size = size;
    })
