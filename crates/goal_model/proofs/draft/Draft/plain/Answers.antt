use Rattle.std.proofs.Common.{◌≡◌, Ok, sym, ap, subst, ◌∙◌, arith}
use Rattle.temporal_logic.specs.Ltl.{Ltl}
use Rattle.temporal_logic.specs.Trees.{tree_of}
use Rattle.entity_types.specs.View.{written_tree}
use Rattle.goal_model.specs.declared.refusal.RefusalKind.TheVariants.{TooWide}
use Rattle.goal_model.specs.Refusals.{Resolved, Gives}
use Rattle.goal_model.specs.Formulas.{plain_of}
use Rattle.goal_model.specs.Drafts.{draft_of, scope_of}
use Rattle.goal_model.specs.Resolution.{plain_in}
use Rattle.goal_model.proofs.Walking.{refused_as}
use Rattle.goal_model.proofs.PlainParts.{grounded, too_wide, narrow_enough, of_any_width}
use Rattle.goal_model.proofs.draft.Draft.plain.Goals.{else-self-eq2-via-then-self-eq2+else-ground_size-gt-WIDEST, else-self-eq2-via-else-self-eq2}
use Rattle.goal_model.proofs.draft.Draft.plain.Goals as goal

pub returns-then-ground_size-gt-WIDEST : goal.returns-then-ground_size-gt-WIDEST
returns-then-ground_size-gt-WIDEST c =
    let e = too_wide c.args.self.now c.args.name.now (written_tree c.args.written.now) c.ground_size.result c.if-self-eq2.true c.ground_size.ensures.size c.if-ground_size-gt-WIDEST.true in
    subst (λ (o : Resolved Ltl). Gives tree_of c.refused.result o) (sym e) (refused_as tree_of c.refused.result TooWide c.args.name.now c.refused.ensures)

pub returns : goal.returns
returns c =
    let d = c.args.self.now in
    let f = written_tree c.args.written.now in
    let given : plain_in (draft_of d) c.args.name.now f ≡ Ok (plain_of (scope_of (draft_of d)) f) =
    elim c.else-self-eq2.branch [
      | else-self-eq2-via-then-self-eq2+else-ground_size-gt-WIDEST w ↦ narrow_enough d c.args.name.now f w.ground_size.result w.if-self-eq2.true w.ground_size.ensures.size (omega (arith, w.if-ground_size-gt-WIDEST.false))
      | else-self-eq2-via-else-self-eq2 w ↦ of_any_width d c.args.name.now f w.if-self-eq2.false
    ] in
    given ∙ ap Ok (sym (grounded d f) ∙ sym c.in_ok-ground.ensures.tree)
