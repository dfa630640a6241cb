use Rattle.std.proofs.Common.{sym, ◌<◌, ◌≤◌, length, List, subst, refl, arith, rules}
use Rattle.std.proofs.lemmas.Result.{on_ok_weaker}
use Rattle.bound_unfolding.specs.CoreForm.{CoreForm}
use Rattle.bound_unfolding.specs.CoreView.{core_tree_of}
use Rattle.formula_table.specs.Closures.{with_core}
use Rattle.formula_table.specs.Decoding.{formula_of}
use Rattle.formula_table.specs.Tables.{closure_in, with_operands, IsKept, IsSubformula}
use Rattle.formula_table.proofs.Cores.{kept_self, kept_then, part_only, core_kept, core_only, core_put, core_over, operands_kept}
use Rattle.formula_table.proofs.Decodings.{decoded_length}
use Rattle.formula_table.proofs.Puts.{after_insertion}
use Rattle.formula_table.proofs.table.Table.+cores.Goals as goal

-- after a refusal at an operand
pub put_core-returns-in_err-shape-clause-part : goal.put_core-returns-in_err-shape-clause-part
put_core-returns-in_err-shape-clause-part t c =
    let old = closure_in c.args.self.now in
    let core = core_tree_of c.args.core.now in
    kept_then (closure_in c.put_operands.new.self) (with_operands core old) (with_core core old) c.put_operands.ensures.part (operands_kept core old (with_operands core old) refl)

pub put_core-returns-in_err-shape-clause-only : goal.put_core-returns-in_err-shape-clause-only
put_core-returns-in_err-shape-clause-only t c =
    let old = closure_in c.args.self.now in
    let core = core_tree_of c.args.core.now in
    let new = closure_in c.put_operands.new.self in
    let part = kept_then new (with_operands core old) (with_core core old) c.put_operands.ensures.part (operands_kept core old (with_operands core old) refl) in
    part_only (λ (d : CoreForm). IsSubformula d core) old new (with_core core old) part (core_only core old)

-- after all operands were put
pub put_core-returns-clause-full : goal.put_core-returns-clause-full
put_core-returns-clause-full t c =
    let old = closure_in c.args.self.now in
    let core = core_tree_of c.args.core.now in
    let mid = closure_in c.put_operands.new.self in
    λ e.
    let full = c.put.ensures.full.0 e in
    core_over core old mid c.in_ok-shape.ensures.put 4096 (formula_of mid c.in_ok-shape.shape) c.in_ok-shape.ensures.formula full.0 full.1

pub put_core-returns-clause-not_full : goal.put_core-returns-clause-not_full
put_core-returns-clause-not_full t c =
    let old = closure_in c.args.self.now in
    let core = core_tree_of c.args.core.now in
    let mid = closure_in c.put_operands.new.self in
    let new = closure_in c.put.new.self in
    let e = decoded_length c.put.new.self.shapes.keys in
    let few : length new ≤ 4096 = omega (arith, e, c.put.new.self.few) in
    on_ok_weaker c.put.result (λ p. subst (λ (cl : List CoreForm). length cl ≤ 4096) (core_put core old mid c.in_ok-shape.ensures.put (formula_of mid c.in_ok-shape.shape) new c.in_ok-shape.ensures.formula p) few) c.put.ensures.put

pub put_core-returns-clause-part : goal.put_core-returns-clause-part
put_core-returns-clause-part t c =
    let old = closure_in c.args.self.now in
    let core = core_tree_of c.args.core.now in
    let mid = closure_in c.put_operands.new.self in
    let new = closure_in c.put.new.self in
    after_insertion c.put.result c.put.ensures.put c.put.ensures.same
    (λ p. subst (IsKept new) (core_put core old mid c.in_ok-shape.ensures.put (formula_of mid c.in_ok-shape.shape) new c.in_ok-shape.ensures.formula p) (kept_self new))
    (λ p. subst (λ (cl : List CoreForm). IsKept cl (with_core core old)) (sym p) (operands_kept core old mid c.in_ok-shape.ensures.put))

pub put_core-returns-clause-only : goal.put_core-returns-clause-only
put_core-returns-clause-only t c =
    let old = closure_in c.args.self.now in
    let core = core_tree_of c.args.core.now in
    let new = closure_in c.put.new.self in
    part_only (λ (d : CoreForm). IsSubformula d core) old new (with_core core old) (put_core-returns-clause-part t c) (core_only core old)

-- after a refusal at the first operand
pub put_two-returns-in_err-first-clause-part : goal.put_two-returns-in_err-first-clause-part
put_two-returns-in_err-first-clause-part t c =
    let one = with_core (core_tree_of c.args.a.now) (closure_in c.args.self.now) in
    let b = core_tree_of c.args.b.now in
    kept_then (closure_in c.put_core.new.self) one (with_core b one) c.put_core.ensures.part (core_kept b one)

pub put_two-returns-in_err-first-clause-full : goal.put_two-returns-in_err-first-clause-full
put_two-returns-in_err-first-clause-full t c =
    let one = with_core (core_tree_of c.args.a.now) (closure_in c.args.self.now) in
    let b = core_tree_of c.args.b.now in
    let kept = core_kept b one in
    λ e.
    let l : 4096 < length one = search rules in
    omega (arith, l, kept.0)
