use Rattle.std.proofs.Common.{◌∙◌, sym, ap, subst, arith, replicate, true}
use Rattle.tableau_elimination.specs.Marks.{AreMarked}
use Rattle.tableau_elimination.proofs.RoundSteps.{start_marked}
use Rattle.tableau_elimination.proofs.marks.unmarked.Goals as goal

pub returns : goal.returns
returns c = λ links carrying fulfilling size.
    subst (AreMarked links carrying fulfilling c.in_ok-vec.field-0.items c.in_ok-vec-2.field-0.items c.in_ok-vec-3.field-0.items) size
    (start_marked links carrying fulfilling c.in_ok-vec.field-0.items c.in_ok-vec-2.field-0.items c.in_ok-vec-3.field-0.items
    (c.in_ok-vec.ensures.items_if_clones_equal (λ y h. h) ∙ ap (λ k. replicate k true) (sym size))
    (let z = c.in_ok-vec-2.ensures.len in omega (arith, z, size))
    (let z = c.in_ok-vec-3.ensures.len in omega (arith, z, size)))
