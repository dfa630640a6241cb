use Rattle.std.proofs.Common.{◌≤◌, length, Err, ap, sym, subst, arith}
use Rattle.formula_table.specs.Closures.{with_formula}
use Rattle.formula_table.specs.Decoding.{formula_of}
use Rattle.formula_table.specs.Tables.{closure_in}
use Rattle.formula_table.proofs.Puts.{with_over}
use Rattle.obstacle_regression.proofs.parts.Parts.meet.Goals as goal

-- a table with room is not full
pub unreachable-requires : goal.unreachable-requires
unreachable-requires c =
    let old = closure_in c.args.self.now.table in
    let part = formula_of old c.args.shape in
    let full = c.in-Err-Full.ensures.full.0 (ap (λ e. Err e) c.in-Err-Full.field-0-is) in
    let room : length (with_formula part old) ≤ 4096 = subst (λ f. length (with_formula f old) ≤ 4096) (sym c.requires.formula) c.requires.room in
    omega (arith, room, with_over old part 4096 full.0 full.1)
