use Rattle.std.proofs.Common.{◌↔◌, [], sym, subst, Ok, Err, Result}
use Rattle.std.specs.Result.{IfOk}
use Rattle.temporal_logic.specs.Ltl.{Ltl}
use Rattle.temporal_logic.specs.Truth.{Truth}
use Rattle.entity_types.specs.View.{written_tree, rows_of}
use Rattle.entity_types.specs.WrittenTruth.{WrittenTruth}
use Rattle.entity_types.proofs.SameTruth.{ground_same}
use Rattle.entity_types.proofs.EntityFacts.{types_have_members}
use Rattle.entity_types.proofs.grounding.ground.Goals as goal

if_ok : {A E : Type 0} (P Q : A → Type 0) (r : Result A E) → ((a : A) → P a → Q a) → IfOk r P → IfOk r Q
if_ok P Q (Ok a) f h = f a h
if_ok P Q (Err e) f h = h

pub returns-clause-truth : goal.returns-clause-truth
returns-clause-truth c =
    let rows = rows_of c.args.entities.now in
    let tree = written_tree c.args.f.now in
    if_ok _ _ c.ground_under.result
    (λ g e t i. subst (λ (l : Ltl). Truth t l i ↔ WrittenTruth rows t [] tree i) (sym e) (ground_same rows (types_have_members c.args.entities.now) t [] [] tree c.requires.fits i))
    c.ground_under.ensures
