use Rattle.std.proofs.Common.{◌≡◌, ◌<◌, ◌∙◌, List, length, sym, subst}
use Rattle.std.proofs.lemmas.Result.{on_ok_weaker}
use Rattle.bound_unfolding.specs.CoreForm.{CoreForm}
use Rattle.formula_table.specs.Closures.{with_core, with_formula}
use Rattle.formula_table.specs.Decoding.{formula_of}
use Rattle.formula_table.specs.Tables.{closure_in, IsKept}
use Rattle.formula_table.proofs.Closed.{node_settled}
use Rattle.formula_table.proofs.Cores.{kept_self, core_kept}
use Rattle.formula_table.proofs.Puts.{with_over, after_insertion}
use Rattle.formula_table.proofs.table.Table.put_node.Goals as goal

pub returns : goal.returns
returns c =
    let t = c.args.self.now in
    let old = closure_in t in
    let new = closure_in c.put.new.self in
    let f = formula_of old c.args.shape in
    let alone : with_core f old ≡ with_formula f old = node_settled t.shapes.keys t.ordered c.args.shape c.requires in
    let put = on_ok_weaker c.put.result (λ (e : new ≡ with_formula f old). e ∙ sym alone) c.put.ensures.put in
    record {
      put = put;
      id = c.put.ensures.tree;
      inside = c.put.ensures.inside;
      full = λ e. let h = c.put.ensures.full.0 e in subst (λ (z : List CoreForm). 4096 < length z) (sym alone) (with_over old f 4096 h.0 h.1);
      kept = c.put.ensures.kept;
      part = after_insertion c.put.result put c.put.ensures.same (λ p. subst (IsKept new) p (kept_self new)) (λ p. subst (λ (z : List CoreForm). IsKept z (with_core f old)) (sym p) (core_kept f old));
    }
