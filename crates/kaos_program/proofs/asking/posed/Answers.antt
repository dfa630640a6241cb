use Rattle.std.proofs.Common.{Option, Some, None, map, drop, length, refl, sym, ◌∙◌, subst}
use Rattle.std.proofs.lemmas.Bool.{false≢true}
use Rattle.temporal_logic.specs.Trees.{tree_of}
use Rattle.goal_model.specs.declared.pattern.PatternKind.{PatternKind}
use Rattle.goal_model.specs.ModelViews.{model_of}
use Rattle.pattern_library.specs.PatternQueries.{AreInstance}
use Rattle.verdict_report.specs.Deciding.{IsDecidedBy}
use Rattle.kaos_program.proofs.AskedLinks.{cut_behind}
use Rattle.kaos_program.proofs.asking.posed.Goals as goal

pub returns-then-branch : goal.returns-then-branch
returns-then-branch c =
    let m = model_of c.args.model.now in
    let kind = c.in-Some.kind in
    let list = drop (length m.domains) (map tree_of c.args.demand.list.items) in
    let cut = cut_behind m c.args.demand c.deref.result.now c.domains.result.now c.deref.ensures.value c.domains.ensures in
    let instance : AreInstance kind list = subst (AreInstance kind) cut (c.in_ok-are_instance.ensures.0 c.if-branch.true) in
    (refl, subst (λ (named : Option PatternKind). IsDecidedBy list named (Some kind)) (sym c.in-Some.is) (refl, instance))

pub returns-else-branch : goal.returns-else-branch
returns-else-branch c =
    let m = model_of c.args.model.now in
    let kind = c.in-Some.kind in
    let list = drop (length m.domains) (map tree_of c.args.demand.list.items) in
    let cut = cut_behind m c.args.demand c.deref.result.now c.domains.result.now c.deref.ensures.value c.domains.ensures in
    let other = λ (instance : AreInstance kind list). false≢true (sym c.if-branch.false ∙ c.in_ok-are_instance.ensures.1 (subst (AreInstance kind) (sym cut) instance)) in
    (refl, subst (λ (named : Option PatternKind). IsDecidedBy list named None) (sym c.in-Some.is) other)
