use Rattle.std.proofs.Common.{rules, not, true, false, sym, subst}
use Rattle.std.specs.Prelude.{Option, OnOk}
use Rattle.state_space.specs.Spaces.{sizes}
use Rattle.temporal_logic.specs.Trees.{tree_of}
use Rattle.temporal_logic.specs.declared.formula.Formula.{Formula}
use Rattle.bound_unfolding.specs.CoreForm.{after}
use Rattle.bound_unfolding.specs.CoreTree.{constant, joined, fixed, steps, chain, core_tree}
use Rattle.formula_table.specs.declared.shape.FormulaId.{FormulaId}
use Rattle.formula_table.specs.Closures.{with_core}
use Rattle.formula_table.specs.CorePuts.{IsCorePut}
use Rattle.formula_table.specs.KnownNumbers.{first_operand, second_operand, IsNumber, AreKnown}
use Rattle.formula_table.specs.Tables.{closure_in}
use Rattle.formula_table.proofs.Puts.{with_kept}
use Rattle.formula_table.proofs.Cores.{kept_then}
use Rattle.formula_table.proofs.Closed.{already_put}
use Rattle.formula_table.proofs.CorePuts.{joined_over, fixed_over, refused_first, refused_second, refused_part, nothing_put}
use Rattle.formula_table.proofs.KnownNumbers.{known_kept, both_kept, still_known, both_still_known, first_known}
use Rattle.formula_table.proofs.OperatorLaws.{both_joined, both_fixed, one_after, one_steps, both_chain, chain_refused, unless_put, step_refused, again_refused}
use Rattle.formula_table.proofs.StepLaws.{steps_hold, chain_hold}
use Rattle.formula_table.proofs.table.Table.+formulas.Goals as goal

pub after_of-returns-in_err-a-clause-put : goal.after_of-returns-in_err-a-clause-put
after_of-returns-in_err-a-clause-put t c =
    let a = core_tree (sizes c.args.space.now) c.args.sign (tree_of c.args.a.now) in
    let old = closure_in c.args.self.now in
    refused_part a (after a) old (closure_in c.put_signed.new.self) c.from_residual.result c.in_err-a.field-0.0 c.from_residual.ensures.1 (with_kept (with_core a old) (after a)) c.in_err-a.ensures.put

pub after_of-returns-clause-put : goal.after_of-returns-clause-put
after_of-returns-clause-put t c =
    one_after (closure_in c.args.self.now) (closure_in c.put_signed.new.self) (closure_in c.put_after.new.self) c.in_ok-a.a (core_tree (sizes c.args.space.now) c.args.sign (tree_of c.args.a.now)) c.put_after.result c.in_ok-a.ensures.put c.put_after.ensures

pub after_of-returns-clause-known : goal.after_of-returns-clause-known
after_of-returns-clause-known t c =
    still_known (sizes c.args.space.now) (closure_in c.put_signed.new.self) (closure_in c.put_after.new.self) c.put_after.ensures.kept c.put_after.result (tree_of c.args.a.now) c.put_signed.new.notes c.in_ok-a.ensures.known

pub steps_of-returns-in_err-a-clause-put : goal.steps_of-returns-in_err-a-clause-put
steps_of-returns-in_err-a-clause-put t c =
    let a = core_tree (sizes c.args.space.now) c.args.sign (tree_of c.args.a.now) in
    let old = closure_in c.args.self.now in
    refused_part a (steps c.args.each c.args.bound a) old (closure_in c.put_signed.new.self) c.from_residual.result c.in_err-a.field-0.0 c.from_residual.ensures.1 (steps_hold c.args.each a a old c.args.bound) c.in_err-a.ensures.put

pub steps_of-returns-clause-put : goal.steps_of-returns-clause-put
steps_of-returns-clause-put t c =
    one_steps (closure_in c.args.self.now) (closure_in c.put_signed.new.self) (closure_in c.put_steps.new.self) c.in_ok-a.a (core_tree (sizes c.args.space.now) c.args.sign (tree_of c.args.a.now)) c.put_steps.result c.in_ok-a.ensures.put c.args.each c.args.bound c.put_steps.ensures

pub steps_of-returns-clause-known : goal.steps_of-returns-clause-known
steps_of-returns-clause-known t c =
    still_known (sizes c.args.space.now) (closure_in c.put_signed.new.self) (closure_in c.put_steps.new.self) c.put_steps.ensures.kept c.put_steps.result (tree_of c.args.a.now) c.put_signed.new.notes c.in_ok-a.ensures.known

pub ever_of-returns-in_err-end-clause-put : goal.ever_of-returns-in_err-end-clause-put
ever_of-returns-in_err-end-clause-put t c =
    let a = core_tree (sizes c.args.space.now) c.args.sign (tree_of c.args.a.now) in
    let end = constant (not c.args.each) in
    refused_first (fixed c.args.each end a) end a (fixed_over c.args.each end a) c.from_residual.result c.in_err-end.field-0.0 c.from_residual.ensures.1 (closure_in c.args.self.now) (closure_in c.put_constant.new.self) c.in_err-end.ensures

pub ever_of-returns-in_err-a-clause-put : goal.ever_of-returns-in_err-a-clause-put
ever_of-returns-in_err-a-clause-put t c =
    let a = core_tree (sizes c.args.space.now) c.args.sign (tree_of c.args.a.now) in
    let end = constant (not c.args.each) in
    refused_second (fixed c.args.each end a) end a (fixed_over c.args.each end a) c.from_residual-in_err-a.result c.in_err-a.field-0.0 c.from_residual-in_err-a.ensures.1 (closure_in c.args.self.now) (closure_in c.put_constant.new.self) (closure_in c.put_signed.new.self) c.in_ok-end.end c.in_ok-end.ensures c.in_err-a.ensures.put

pub ever_of-put_signed-requires : goal.ever_of-put_signed-requires
ever_of-put_signed-requires t c =
    let known = known_kept (sizes c.args.space.now) (closure_in c.args.self.now) (closure_in c.put_constant.new.self) c.put_constant.ensures.kept (tree_of c.args.a.now) c.args.notes.now c.requires.known in
    search rules

pub ever_of-returns-clause-put : goal.ever_of-returns-clause-put
ever_of-returns-clause-put t c =
    both_fixed (closure_in c.args.self.now) (closure_in c.put_constant.new.self) (closure_in c.put_signed.new.self) c.in_ok-end.end c.in_ok-a.a (constant (not c.args.each)) (core_tree (sizes c.args.space.now) c.args.sign (tree_of c.args.a.now)) c.in_ok-end.ensures c.in_ok-a.ensures.put (closure_in c.put_fixed.new.self) c.put_fixed.result c.args.each c.put_fixed.ensures

pub ever_of-returns-clause-known : goal.ever_of-returns-clause-known
ever_of-returns-clause-known t c =
    still_known (sizes c.args.space.now) (closure_in c.put_signed.new.self) (closure_in c.put_fixed.new.self) c.put_fixed.ensures.kept c.put_fixed.result (tree_of c.args.a.now) c.put_signed.new.notes c.in_ok-a.ensures.known

pub joined_of-returns-in_err-a-clause-put : goal.joined_of-returns-in_err-a-clause-put
joined_of-returns-in_err-a-clause-put t c =
    let a = core_tree (sizes c.args.space.now) c.args.of_a (tree_of c.args.a.now) in
    let b = core_tree (sizes c.args.space.now) c.args.of_b (tree_of c.args.b.now) in
    refused_first (joined c.args.each a b) a b (joined_over c.args.each a b) c.from_residual.result c.in_err-a.field-0.0 c.from_residual.ensures.1 (closure_in c.args.self.now) (closure_in c.put_signed.new.self) c.in_err-a.ensures.put

pub joined_of-returns-in_err-b-clause-put : goal.joined_of-returns-in_err-b-clause-put
joined_of-returns-in_err-b-clause-put t c =
    let a = core_tree (sizes c.args.space.now) c.args.of_a (tree_of c.args.a.now) in
    let b = core_tree (sizes c.args.space.now) c.args.of_b (tree_of c.args.b.now) in
    refused_second (joined c.args.each a b) a b (joined_over c.args.each a b) c.from_residual-in_err-b.result c.in_err-b.field-0.0 c.from_residual-in_err-b.ensures.1 (closure_in c.args.self.now) (closure_in c.put_signed.new.self) (closure_in c.put_signed-2.new.self) c.in_ok-a.a c.in_ok-a.ensures.put c.in_err-b.ensures.put

pub joined_of-put_signed-requires-2 : goal.joined_of-put_signed-requires-2
joined_of-put_signed-requires-2 t c =
    let known = known_kept (sizes c.args.space.now) (closure_in c.args.self.now) (closure_in c.put_signed.new.self) c.put_signed.ensures.put.kept (tree_of c.args.b.now) c.args.notes.now.1 c.requires.known.1 in
    search rules

pub joined_of-returns-clause-put : goal.joined_of-returns-clause-put
joined_of-returns-clause-put t c =
    both_joined (closure_in c.args.self.now) (closure_in c.put_signed.new.self) (closure_in c.put_signed-2.new.self) c.in_ok-a.a c.in_ok-b.b (core_tree (sizes c.args.space.now) c.args.of_a (tree_of c.args.a.now)) (core_tree (sizes c.args.space.now) c.args.of_b (tree_of c.args.b.now)) c.in_ok-a.ensures.put c.in_ok-b.ensures.put (closure_in c.put_joined.new.self) c.put_joined.result c.args.each c.put_joined.ensures

pub joined_of-returns-clause-known : goal.joined_of-returns-clause-known
joined_of-returns-clause-known t c =
    both_still_known (sizes c.args.space.now) (closure_in c.put_signed-2.new.self) (closure_in c.put_joined.new.self) c.put_joined.ensures.kept c.put_joined.result (tree_of c.args.a.now) (tree_of c.args.b.now) (c.put_signed.new.notes, c.put_signed-2.new.notes) (known_kept (sizes c.args.space.now) (closure_in c.put_signed.new.self) (closure_in c.put_signed-2.new.self) c.put_signed-2.ensures.put.kept (tree_of c.args.a.now) c.put_signed.new.notes c.in_ok-a.ensures.known, c.in_ok-b.ensures.known)

pub fixed_of-returns-in_err-a-clause-put : goal.fixed_of-returns-in_err-a-clause-put
fixed_of-returns-in_err-a-clause-put t c =
    let a = core_tree (sizes c.args.space.now) c.args.sign (tree_of c.args.a.now) in
    let b = core_tree (sizes c.args.space.now) c.args.sign (tree_of c.args.b.now) in
    refused_first (fixed c.args.each a b) a b (fixed_over c.args.each a b) c.from_residual.result c.in_err-a.field-0.0 c.from_residual.ensures.1 (closure_in c.args.self.now) (closure_in c.put_signed.new.self) c.in_err-a.ensures.put

pub fixed_of-returns-in_err-b-clause-put : goal.fixed_of-returns-in_err-b-clause-put
fixed_of-returns-in_err-b-clause-put t c =
    let a = core_tree (sizes c.args.space.now) c.args.sign (tree_of c.args.a.now) in
    let b = core_tree (sizes c.args.space.now) c.args.sign (tree_of c.args.b.now) in
    refused_second (fixed c.args.each a b) a b (fixed_over c.args.each a b) c.from_residual-in_err-b.result c.in_err-b.field-0.0 c.from_residual-in_err-b.ensures.1 (closure_in c.args.self.now) (closure_in c.put_signed.new.self) (closure_in c.put_signed-2.new.self) c.in_ok-a.a c.in_ok-a.ensures.put c.in_err-b.ensures.put

pub fixed_of-put_signed-requires-2 : goal.fixed_of-put_signed-requires-2
fixed_of-put_signed-requires-2 t c =
    let known = known_kept (sizes c.args.space.now) (closure_in c.args.self.now) (closure_in c.put_signed.new.self) c.put_signed.ensures.put.kept (tree_of c.args.b.now) c.args.notes.now.1 c.requires.known.1 in
    search rules

pub fixed_of-returns-clause-put : goal.fixed_of-returns-clause-put
fixed_of-returns-clause-put t c =
    both_fixed (closure_in c.args.self.now) (closure_in c.put_signed.new.self) (closure_in c.put_signed-2.new.self) c.in_ok-a.a c.in_ok-b.b (core_tree (sizes c.args.space.now) c.args.sign (tree_of c.args.a.now)) (core_tree (sizes c.args.space.now) c.args.sign (tree_of c.args.b.now)) c.in_ok-a.ensures.put c.in_ok-b.ensures.put (closure_in c.put_fixed.new.self) c.put_fixed.result c.args.each c.put_fixed.ensures

pub fixed_of-returns-clause-known : goal.fixed_of-returns-clause-known
fixed_of-returns-clause-known t c =
    both_still_known (sizes c.args.space.now) (closure_in c.put_signed-2.new.self) (closure_in c.put_fixed.new.self) c.put_fixed.ensures.kept c.put_fixed.result (tree_of c.args.a.now) (tree_of c.args.b.now) (c.put_signed.new.notes, c.put_signed-2.new.notes) (known_kept (sizes c.args.space.now) (closure_in c.put_signed.new.self) (closure_in c.put_signed-2.new.self) c.put_signed-2.ensures.put.kept (tree_of c.args.a.now) c.put_signed.new.notes c.in_ok-a.ensures.known, c.in_ok-b.ensures.known)

pub iff_of-returns-in_err-same-clause-put : goal.iff_of-returns-in_err-same-clause-put
iff_of-returns-in_err-same-clause-put t c =
    let same = joined true (core_tree (sizes c.args.space.now) true (tree_of c.args.a.now)) (core_tree (sizes c.args.space.now) c.args.sign (tree_of c.args.b.now)) in
    let other = joined true (core_tree (sizes c.args.space.now) false (tree_of c.args.a.now)) (core_tree (sizes c.args.space.now) (not c.args.sign) (tree_of c.args.b.now)) in
    refused_first (joined false same other) same other (joined_over false same other) c.from_residual.result c.in_err-same.field-0.0 c.from_residual.ensures.1 (closure_in c.args.self.now) (closure_in c.joined_of.new.self) c.in_err-same.ensures.put

pub iff_of-returns-in_err-other-clause-put : goal.iff_of-returns-in_err-other-clause-put
iff_of-returns-in_err-other-clause-put t c =
    let same = joined true (core_tree (sizes c.args.space.now) true (tree_of c.args.a.now)) (core_tree (sizes c.args.space.now) c.args.sign (tree_of c.args.b.now)) in
    let other = joined true (core_tree (sizes c.args.space.now) false (tree_of c.args.a.now)) (core_tree (sizes c.args.space.now) (not c.args.sign) (tree_of c.args.b.now)) in
    refused_second (joined false same other) same other (joined_over false same other) c.from_residual-in_err-other.result c.in_err-other.field-0.0 c.from_residual-in_err-other.ensures.1 (closure_in c.args.self.now) (closure_in c.joined_of.new.self) (closure_in c.joined_of-2.new.self) c.in_ok-same.same c.in_ok-same.ensures.put c.in_err-other.ensures.put

pub iff_of-returns-clause-put : goal.iff_of-returns-clause-put
iff_of-returns-clause-put t c =
    both_joined (closure_in c.args.self.now) (closure_in c.joined_of.new.self) (closure_in c.joined_of-2.new.self) c.in_ok-same.same c.in_ok-other.other (joined true (core_tree (sizes c.args.space.now) true (tree_of c.args.a.now)) (core_tree (sizes c.args.space.now) c.args.sign (tree_of c.args.b.now))) (joined true (core_tree (sizes c.args.space.now) false (tree_of c.args.a.now)) (core_tree (sizes c.args.space.now) (not c.args.sign) (tree_of c.args.b.now))) c.in_ok-same.ensures.put c.in_ok-other.ensures.put (closure_in c.put_joined.new.self) c.put_joined.result false c.put_joined.ensures

pub iff_of-returns-clause-known : goal.iff_of-returns-clause-known
iff_of-returns-clause-known t c =
    both_still_known (sizes c.args.space.now) (closure_in c.joined_of-2.new.self) (closure_in c.put_joined.new.self) c.put_joined.ensures.kept c.put_joined.result (tree_of c.args.a.now) (tree_of c.args.b.now) c.joined_of-2.new.notes c.in_ok-other.ensures.known

pub entails_of-returns-in_err-end-clause-put : goal.entails_of-returns-in_err-end-clause-put
entails_of-returns-in_err-end-clause-put t c =
    let end = constant (not c.args.sign) in
    let step = joined (not c.args.sign) (core_tree (sizes c.args.space.now) (not c.args.sign) (tree_of c.args.a.now)) (core_tree (sizes c.args.space.now) c.args.sign (tree_of c.args.b.now)) in
    refused_first (fixed c.args.sign end step) end step (fixed_over c.args.sign end step) c.from_residual.result c.in_err-end.field-0.0 c.from_residual.ensures.1 (closure_in c.args.self.now) (closure_in c.put_constant.new.self) c.in_err-end.ensures

pub entails_of-returns-in_err-step-clause-put : goal.entails_of-returns-in_err-step-clause-put
entails_of-returns-in_err-step-clause-put t c =
    let end = constant (not c.args.sign) in
    let step = joined (not c.args.sign) (core_tree (sizes c.args.space.now) (not c.args.sign) (tree_of c.args.a.now)) (core_tree (sizes c.args.space.now) c.args.sign (tree_of c.args.b.now)) in
    refused_second (fixed c.args.sign end step) end step (fixed_over c.args.sign end step) c.from_residual-in_err-step.result c.in_err-step.field-0.0 c.from_residual-in_err-step.ensures.1 (closure_in c.args.self.now) (closure_in c.put_constant.new.self) (closure_in c.joined_of.new.self) c.in_ok-end.end c.in_ok-end.ensures c.in_err-step.ensures.put

pub entails_of-joined_of-requires : goal.entails_of-joined_of-requires
entails_of-joined_of-requires t c =
    let known = both_kept (sizes c.args.space.now) (closure_in c.args.self.now) (closure_in c.put_constant.new.self) c.put_constant.ensures.kept (tree_of c.args.a.now) (tree_of c.args.b.now) c.args.notes.now c.requires.known in
    search rules

pub entails_of-returns-clause-put : goal.entails_of-returns-clause-put
entails_of-returns-clause-put t c =
    both_fixed (closure_in c.args.self.now) (closure_in c.put_constant.new.self) (closure_in c.joined_of.new.self) c.in_ok-end.end c.in_ok-step.step (constant (not c.args.sign)) (joined (not c.args.sign) (core_tree (sizes c.args.space.now) (not c.args.sign) (tree_of c.args.a.now)) (core_tree (sizes c.args.space.now) c.args.sign (tree_of c.args.b.now))) c.in_ok-end.ensures c.in_ok-step.ensures.put (closure_in c.put_fixed.new.self) c.put_fixed.result c.args.sign c.put_fixed.ensures

pub entails_of-returns-clause-known : goal.entails_of-returns-clause-known
entails_of-returns-clause-known t c =
    both_still_known (sizes c.args.space.now) (closure_in c.joined_of.new.self) (closure_in c.put_fixed.new.self) c.put_fixed.ensures.kept c.put_fixed.result (tree_of c.args.a.now) (tree_of c.args.b.now) c.joined_of.new.notes c.in_ok-step.ensures.known

pub unless_of-returns-in_err-b-clause-put : goal.unless_of-returns-in_err-b-clause-put
unless_of-returns-in_err-b-clause-put t c =
    let b = core_tree (sizes c.args.space.now) c.args.sign (tree_of c.args.b.now) in
    let step = joined (not c.args.sign) (core_tree (sizes c.args.space.now) c.args.sign (tree_of c.args.a.now)) b in
    refused_first (fixed c.args.sign b step) b step (fixed_over c.args.sign b step) c.from_residual.result c.in_err-b.field-0.0 c.from_residual.ensures.1 (closure_in c.args.self.now) (closure_in c.put_signed.new.self) c.in_err-b.ensures.put

pub unless_of-returns-in_err-a-clause-put : goal.unless_of-returns-in_err-a-clause-put
unless_of-returns-in_err-a-clause-put t c =
    again_refused (closure_in c.args.self.now) (closure_in c.put_signed.new.self) (closure_in c.put_signed.new.self) c.in_ok-b.b c.in_ok-b.b (core_tree (sizes c.args.space.now) c.args.sign (tree_of c.args.a.now)) (core_tree (sizes c.args.space.now) c.args.sign (tree_of c.args.b.now)) c.args.sign c.in_ok-b.ensures.put (closure_in c.put_signed-2.new.self) c.from_residual-in_err-a.result c.in_err-a.field-0.0 c.from_residual-in_err-a.ensures.1 c.in_err-a.ensures.put

pub unless_of-returns-in_err-step-clause-put : goal.unless_of-returns-in_err-step-clause-put
unless_of-returns-in_err-step-clause-put t c =
    step_refused (closure_in c.args.self.now) (closure_in c.put_signed.new.self) (closure_in c.put_signed-2.new.self) c.in_ok-a.a c.in_ok-b.b (core_tree (sizes c.args.space.now) c.args.sign (tree_of c.args.a.now)) (core_tree (sizes c.args.space.now) c.args.sign (tree_of c.args.b.now)) c.args.sign c.in_ok-b.ensures.put (closure_in c.put_joined.new.self) c.from_residual-in_err-step.result c.in_err-step.field-0.0 c.from_residual-in_err-step.ensures.1 c.in_ok-a.ensures.put c.in_err-step.ensures

pub unless_of-put_signed-requires-2 : goal.unless_of-put_signed-requires-2
unless_of-put_signed-requires-2 t c =
    let known = known_kept (sizes c.args.space.now) (closure_in c.args.self.now) (closure_in c.put_signed.new.self) c.put_signed.ensures.put.kept (tree_of c.args.a.now) c.args.notes.now.0 c.requires.known.0 in
    search rules

pub unless_of-returns-clause-put : goal.unless_of-returns-clause-put
unless_of-returns-clause-put t c =
    unless_put (closure_in c.args.self.now) (closure_in c.put_signed.new.self) (closure_in c.put_signed-2.new.self) c.in_ok-a.a c.in_ok-b.b (core_tree (sizes c.args.space.now) c.args.sign (tree_of c.args.a.now)) (core_tree (sizes c.args.space.now) c.args.sign (tree_of c.args.b.now)) c.args.sign c.in_ok-b.ensures.put (closure_in c.put_fixed.new.self) c.put_fixed.result (closure_in c.put_joined.new.self) c.in_ok-step.step c.in_ok-a.ensures.put c.in_ok-step.ensures c.put_fixed.ensures

pub unless_of-returns-clause-known : goal.unless_of-returns-clause-known
unless_of-returns-clause-known t c =
    both_still_known (sizes c.args.space.now) (closure_in c.put_signed-2.new.self) (closure_in c.put_fixed.new.self) (kept_then (closure_in c.put_signed-2.new.self) (closure_in c.put_joined.new.self) (closure_in c.put_fixed.new.self) c.put_joined.ensures.kept c.put_fixed.ensures.kept) c.put_fixed.result (tree_of c.args.a.now) (tree_of c.args.b.now) (c.put_signed-2.new.notes, c.put_signed.new.notes) (c.in_ok-a.ensures.known, known_kept (sizes c.args.space.now) (closure_in c.put_signed.new.self) (closure_in c.put_signed-2.new.self) c.put_signed-2.ensures.put.kept (tree_of c.args.b.now) c.put_signed.new.notes c.in_ok-b.ensures.known)

pub chain_of-returns-in_err-b-clause-put : goal.chain_of-returns-in_err-b-clause-put
chain_of-returns-in_err-b-clause-put t c =
    let a = core_tree (sizes c.args.space.now) c.args.sign (tree_of c.args.a.now) in
    let b = core_tree (sizes c.args.space.now) c.args.sign (tree_of c.args.b.now) in
    let old = closure_in c.args.self.now in
    refused_part b (chain c.args.each c.args.bound a b) old (closure_in c.put_signed.new.self) c.from_residual.result c.in_err-b.field-0.0 c.from_residual.ensures.1 (chain_hold c.args.each a b old c.args.bound) c.in_err-b.ensures.put

pub chain_of-returns-then-bound-eq0-clause-known : goal.chain_of-returns-then-bound-eq0-clause-known
chain_of-returns-then-bound-eq0-clause-known t c =
    (known_kept (sizes c.args.space.now) (closure_in c.args.self.now) (closure_in c.put_signed.new.self) c.put_signed.ensures.put.kept (tree_of c.args.a.now) c.args.notes.now.0 c.requires.known.0, c.in_ok-b.ensures.known)

pub chain_of-put_signed-requires-2 : goal.chain_of-put_signed-requires-2
chain_of-put_signed-requires-2 t c =
    let known = known_kept (sizes c.args.space.now) (closure_in c.args.self.now) (closure_in c.put_signed.new.self) c.put_signed.ensures.put.kept (tree_of c.args.a.now) c.args.notes.now.0 c.requires.known.0 in
    search rules

pub chain_of-returns-in_err-a-clause-put : goal.chain_of-returns-in_err-a-clause-put
chain_of-returns-in_err-a-clause-put t c =
    chain_refused (closure_in c.args.self.now) (closure_in c.put_signed.new.self) (closure_in c.put_signed.new.self) (closure_in c.put_signed-2.new.self) c.in_ok-b.b c.in_ok-b.b (core_tree (sizes c.args.space.now) c.args.sign (tree_of c.args.a.now)) (core_tree (sizes c.args.space.now) c.args.sign (tree_of c.args.b.now)) c.from_residual-in_err-a.result c.in_ok-b.ensures.put c.args.each c.args.bound c.if-bound-eq0.false c.in_err-a.field-0.0 c.from_residual-in_err-a.ensures.1 c.in_err-a.ensures.put

pub chain_of-returns-clause-put : goal.chain_of-returns-clause-put
chain_of-returns-clause-put t c =
    both_chain (closure_in c.args.self.now) (closure_in c.put_signed.new.self) (closure_in c.put_signed-2.new.self) (closure_in c.put_chain.new.self) c.in_ok-a.a c.in_ok-b.b (core_tree (sizes c.args.space.now) c.args.sign (tree_of c.args.a.now)) (core_tree (sizes c.args.space.now) c.args.sign (tree_of c.args.b.now)) c.put_chain.result c.in_ok-b.ensures.put c.args.each c.args.bound c.if-bound-eq0.false c.in_ok-a.ensures.put c.put_chain.ensures

pub chain_of-returns-clause-known : goal.chain_of-returns-clause-known
chain_of-returns-clause-known t c =
    both_still_known (sizes c.args.space.now) (closure_in c.put_signed-2.new.self) (closure_in c.put_chain.new.self) c.put_chain.ensures.kept c.put_chain.result (tree_of c.args.a.now) (tree_of c.args.b.now) (c.put_signed-2.new.notes, c.put_signed.new.notes) (c.in_ok-a.ensures.known, known_kept (sizes c.args.space.now) (closure_in c.put_signed.new.self) (closure_in c.put_signed-2.new.self) c.put_signed-2.ensures.put.kept (tree_of c.args.b.now) c.put_signed.new.notes c.in_ok-b.ensures.known)

pub weak_chain_of-returns-in_err-until-clause-put : goal.weak_chain_of-returns-in_err-until-clause-put
weak_chain_of-returns-in_err-until-clause-put t c =
    let weak = chain (not c.args.sign) c.args.bound (core_tree (sizes c.args.space.now) c.args.sign (tree_of c.args.a.now)) (core_tree (sizes c.args.space.now) c.args.sign (tree_of c.args.b.now)) in
    let always = steps c.args.sign c.args.bound (core_tree (sizes c.args.space.now) c.args.sign (tree_of c.args.a.now)) in
    refused_first (joined (not c.args.sign) weak always) weak always (joined_over (not c.args.sign) weak always) c.from_residual.result c.in_err-until.field-0.0 c.from_residual.ensures.1 (closure_in c.args.self.now) (closure_in c.chain_of.new.self) c.in_err-until.ensures.put

pub weak_chain_of-returns-in_err-always-clause-put : goal.weak_chain_of-returns-in_err-always-clause-put
weak_chain_of-returns-in_err-always-clause-put t c =
    let weak = chain (not c.args.sign) c.args.bound (core_tree (sizes c.args.space.now) c.args.sign (tree_of c.args.a.now)) (core_tree (sizes c.args.space.now) c.args.sign (tree_of c.args.b.now)) in
    let always = steps c.args.sign c.args.bound (core_tree (sizes c.args.space.now) c.args.sign (tree_of c.args.a.now)) in
    refused_second (joined (not c.args.sign) weak always) weak always (joined_over (not c.args.sign) weak always) c.from_residual-in_err-always.result c.in_err-always.field-0.0 c.from_residual-in_err-always.ensures.1 (closure_in c.args.self.now) (closure_in c.chain_of.new.self) (closure_in c.steps_of.new.self) c.in_ok-until.until c.in_ok-until.ensures.put c.in_err-always.ensures.put

pub weak_chain_of-returns-clause-put : goal.weak_chain_of-returns-clause-put
weak_chain_of-returns-clause-put t c =
    both_joined (closure_in c.args.self.now) (closure_in c.chain_of.new.self) (closure_in c.steps_of.new.self) c.in_ok-until.until c.in_ok-always.always (chain (not c.args.sign) c.args.bound (core_tree (sizes c.args.space.now) c.args.sign (tree_of c.args.a.now)) (core_tree (sizes c.args.space.now) c.args.sign (tree_of c.args.b.now))) (steps c.args.sign c.args.bound (core_tree (sizes c.args.space.now) c.args.sign (tree_of c.args.a.now))) c.in_ok-until.ensures.put c.in_ok-always.ensures.put (closure_in c.put_joined.new.self) c.put_joined.result (not c.args.sign) c.put_joined.ensures

pub weak_chain_of-returns-clause-known : goal.weak_chain_of-returns-clause-known
weak_chain_of-returns-clause-known t c =
    both_still_known (sizes c.args.space.now) (closure_in c.steps_of.new.self) (closure_in c.put_joined.new.self) c.put_joined.ensures.kept c.put_joined.result (tree_of c.args.a.now) (tree_of c.args.b.now) (c.steps_of.new.notes, c.chain_of.new.notes.1) (c.in_ok-always.ensures.known, known_kept (sizes c.args.space.now) (closure_in c.chain_of.new.self) (closure_in c.steps_of.new.self) c.steps_of.ensures.put.kept (tree_of c.args.b.now) c.chain_of.new.notes.1 c.in_ok-until.ensures.known.1)

pub put_signed-returns-in-Some-clause-put : goal.put_signed-returns-in-Some-clause-put
put_signed-returns-in-Some-clause-put t c =
    let table = c.args.self.now in
    let core = core_tree (sizes c.args.space.now) c.args.sign (tree_of c.args.f.now) in
    let known = subst (λ (o : Option FormulaId). IsNumber (closure_in table) core o) c.in-Some.is (c.number.ensures (sizes c.args.space.now) (closure_in table) (tree_of c.args.f.now) c.requires.known) in
    already_put table.shapes.keys table.ordered c.in-Some.id core known.0 known.1

pub put_signed-returns-in_err-numbers-clause-put : goal.put_signed-returns-in_err-numbers-clause-put
put_signed-returns-in_err-numbers-clause-put t c =
    nothing_put (core_tree (sizes c.args.space.now) c.args.sign (tree_of c.args.f.now)) (closure_in c.args.self.now) c.from_residual.result c.from_residual.ensures.1

pub put_operator-returns-in-True-clause-known : goal.put_operator-returns-in-True-clause-known
put_operator-returns-in-True-clause-known t c =
    both_still_known (sizes c.args.space.now) (closure_in c.args.self.now) (closure_in c.put_constant.new.self) c.put_constant.ensures.kept c.put_constant.result (first_operand (tree_of c.args.f.now)) (second_operand (tree_of c.args.f.now)) c.args.notes.now c.requires.known

pub put_operator-returns-in-False-clause-known : goal.put_operator-returns-in-False-clause-known
put_operator-returns-in-False-clause-known t c =
    both_still_known (sizes c.args.space.now) (closure_in c.args.self.now) (closure_in c.put_constant-in-False.new.self) c.put_constant-in-False.ensures.kept c.put_constant-in-False.result (first_operand (tree_of c.args.f.now)) (second_operand (tree_of c.args.f.now)) c.args.notes.now c.requires.known

pub put_operator-returns-in-Flag-clause-known : goal.put_operator-returns-in-Flag-clause-known
put_operator-returns-in-Flag-clause-known t c =
    both_still_known (sizes c.args.space.now) (closure_in c.args.self.now) (closure_in c.put_flag.new.self) c.put_flag.ensures.kept c.put_flag.result (first_operand (tree_of c.args.f.now)) (second_operand (tree_of c.args.f.now)) c.args.notes.now c.requires.known

pub put_operator-returns-in-Is-clause-known : goal.put_operator-returns-in-Is-clause-known
put_operator-returns-in-Is-clause-known t c =
    both_still_known (sizes c.args.space.now) (closure_in c.args.self.now) (closure_in c.put_comparison.new.self) c.put_comparison.ensures.kept c.put_comparison.result (first_operand (tree_of c.args.f.now)) (second_operand (tree_of c.args.f.now)) c.args.notes.now c.requires.known

pub put_operator-returns-in-Among-clause-known : goal.put_operator-returns-in-Among-clause-known
put_operator-returns-in-Among-clause-known t c =
    both_still_known (sizes c.args.space.now) (closure_in c.args.self.now) (closure_in c.put_among.new.self) c.put_among.ensures.kept c.put_among.result (first_operand (tree_of c.args.f.now)) (second_operand (tree_of c.args.f.now)) c.args.notes.now c.requires.known

pub put_operator-returns-in-Same-clause-known : goal.put_operator-returns-in-Same-clause-known
put_operator-returns-in-Same-clause-known t c =
    both_still_known (sizes c.args.space.now) (closure_in c.args.self.now) (closure_in c.put_same.new.self) c.put_same.ensures.kept c.put_same.result (first_operand (tree_of c.args.f.now)) (second_operand (tree_of c.args.f.now)) c.args.notes.now c.requires.known

pub put_operator-returns-in-Not-clause-known : goal.put_operator-returns-in-Not-clause-known
put_operator-returns-in-Not-clause-known t c =
    let new = closure_in c.put_signed.new.self in
    let known : OnOk c.put_signed.result (AreKnown (sizes c.args.space.now) new (first_operand (tree_of c.args.f.now)) c.put_signed.new.notes) = search rules in
    first_known (sizes c.args.space.now) (closure_in c.args.self.now) new c.put_signed.ensures.put.kept c.put_signed.result (first_operand (tree_of c.args.f.now)) (second_operand (tree_of c.args.f.now)) c.put_signed.new.notes c.args.notes.now.1 known c.requires.known.1

pub put_operator-returns-in-Next-clause-known : goal.put_operator-returns-in-Next-clause-known
put_operator-returns-in-Next-clause-known t c =
    let new = closure_in c.after_of.new.self in
    let known : OnOk c.after_of.result (AreKnown (sizes c.args.space.now) new (first_operand (tree_of c.args.f.now)) c.after_of.new.notes) = search rules in
    first_known (sizes c.args.space.now) (closure_in c.args.self.now) new c.after_of.ensures.put.kept c.after_of.result (first_operand (tree_of c.args.f.now)) (second_operand (tree_of c.args.f.now)) c.after_of.new.notes c.args.notes.now.1 known c.requires.known.1

pub put_operator-returns-in-Eventually-clause-known : goal.put_operator-returns-in-Eventually-clause-known
put_operator-returns-in-Eventually-clause-known t c =
    let new = closure_in c.ever_of.new.self in
    let known : OnOk c.ever_of.result (AreKnown (sizes c.args.space.now) new (first_operand (tree_of c.args.f.now)) c.ever_of.new.notes) = search rules in
    first_known (sizes c.args.space.now) (closure_in c.args.self.now) new c.ever_of.ensures.put.kept c.ever_of.result (first_operand (tree_of c.args.f.now)) (second_operand (tree_of c.args.f.now)) c.ever_of.new.notes c.args.notes.now.1 known c.requires.known.1

pub put_operator-returns-in-Always-clause-known : goal.put_operator-returns-in-Always-clause-known
put_operator-returns-in-Always-clause-known t c =
    let new = closure_in c.ever_of-in-Always.new.self in
    let known : OnOk c.ever_of-in-Always.result (AreKnown (sizes c.args.space.now) new (first_operand (tree_of c.args.f.now)) c.ever_of-in-Always.new.notes) = search rules in
    first_known (sizes c.args.space.now) (closure_in c.args.self.now) new c.ever_of-in-Always.ensures.put.kept c.ever_of-in-Always.result (first_operand (tree_of c.args.f.now)) (second_operand (tree_of c.args.f.now)) c.ever_of-in-Always.new.notes c.args.notes.now.1 known c.requires.known.1

pub put_operator-returns-in-EventuallyWithin-clause-known : goal.put_operator-returns-in-EventuallyWithin-clause-known
put_operator-returns-in-EventuallyWithin-clause-known t c =
    let new = closure_in c.steps_of.new.self in
    let known : OnOk c.steps_of.result (AreKnown (sizes c.args.space.now) new (first_operand (tree_of c.args.f.now)) c.steps_of.new.notes) = search rules in
    first_known (sizes c.args.space.now) (closure_in c.args.self.now) new c.steps_of.ensures.put.kept c.steps_of.result (first_operand (tree_of c.args.f.now)) (second_operand (tree_of c.args.f.now)) c.steps_of.new.notes c.args.notes.now.1 known c.requires.known.1

pub put_operator-returns-in-AlwaysWithin-clause-known : goal.put_operator-returns-in-AlwaysWithin-clause-known
put_operator-returns-in-AlwaysWithin-clause-known t c =
    let new = closure_in c.steps_of-in-AlwaysWithin.new.self in
    let known : OnOk c.steps_of-in-AlwaysWithin.result (AreKnown (sizes c.args.space.now) new (first_operand (tree_of c.args.f.now)) c.steps_of-in-AlwaysWithin.new.notes) = search rules in
    first_known (sizes c.args.space.now) (closure_in c.args.self.now) new c.steps_of-in-AlwaysWithin.ensures.put.kept c.steps_of-in-AlwaysWithin.result (first_operand (tree_of c.args.f.now)) (second_operand (tree_of c.args.f.now)) c.steps_of-in-AlwaysWithin.new.notes c.args.notes.now.1 known c.requires.known.1

pub put_operator-returns-in-Is-clause-put : goal.put_operator-returns-in-Is-clause-put
put_operator-returns-in-Is-clause-put t c =
    subst (λ (f : Formula). IsCorePut (core_tree (sizes c.args.space.now) c.args.sign (tree_of f)) (closure_in c.args.self.now) (closure_in c.put_comparison.new.self) c.put_comparison.result) (sym c.in-Is.is) c.put_comparison.ensures
