use Rattle.std.proofs.Common.{sym, ◌∙◌, subst, arith}
use Rattle.bound_unfolding.specs.CoreView.{core_tree_of}
use Rattle.formula_table.specs.Closures.{with_core}
use Rattle.formula_table.specs.Tables.{closure_in, IsKept}
use Rattle.formula_table.proofs.Cores.{core_kept}
use Rattle.obstacle_regression.proofs.parts.Parts.+parts.Goals as goal

-- what comes with the second operand leaves room for the first
pub take_two-take-requires : goal.take_two-take-requires
take_two-take-requires t c =
    let kept = core_kept (core_tree_of c.args.b.now) (with_core (core_tree_of c.args.a.now) (closure_in c.args.self.now.table)) in
    (omega arith, (c.requires.same, omega (arith, kept.0, c.requires.room)))

-- the first operand stays where it is
pub take_two-returns-clause-first : goal.take_two-returns-clause-first
take_two-returns-clause-first t c =
    let mid = closure_in c.take.new.self.table in
    let new = closure_in c.take-2.new.self.table in
    let kept : IsKept mid new = subst (IsKept mid) (sym c.in_ok-second.ensures.taken) (core_kept (core_tree_of c.args.b.now) mid) in
    kept.1 c.in_ok-first.first.0 c.in_ok-first.ensures.inside ∙ c.in_ok-first.ensures.formula

pub take_two-returns-clause-inside : goal.take_two-returns-clause-inside
take_two-returns-clause-inside t c =
    let mid = closure_in c.take.new.self.table in
    let new = closure_in c.take-2.new.self.table in
    let kept : IsKept mid new = subst (IsKept mid) (sym c.in_ok-second.ensures.taken) (core_kept (core_tree_of c.args.b.now) mid) in
    (omega (arith, kept.0, c.in_ok-first.ensures.inside), c.in_ok-second.ensures.inside)
