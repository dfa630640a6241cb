use Rattle.std.proofs.Common.{◌≡◌, ◌<◌, true, false, map, length, get_or, sym, ap, ◌∙◌, subst, arith}
use Rattle.std.proofs.lemmas.List.{length-map, get_or-map}
use Rattle.temporal_logic.specs.Ltl.{truth}
use Rattle.temporal_logic.specs.Trees.{tree_of}
use Rattle.pattern_library.specs.Instances.{instance_of, IsOverPlaceholders}
use Rattle.pattern_library.specs.Slots.{slots_of, Finds}
use Rattle.pattern_library.proofs.Listed.{next_found, list_found, list_apart}
use Rattle.pattern_library.proofs.matching.Matching.fit_all.Goals as goal

pub fits-requires : goal.fits-requires
fits-requires c =
    let patterns = c.args.patterns.now in
    let place = c.patterns.place in
    let inside : place < length patterns = omega (arith, c.patterns-test.true) in
    let at : get_or (map tree_of patterns) place truth ≡ tree_of c.index-patterns-place.result = get_or-map tree_of patterns place c.index-patterns-place.result truth inside ∙ ap tree_of (sym c.index-patterns-place.is) in
    let over = c.requires.over place truth (omega (arith, inside, length-map patterns tree_of)) in
    subst (IsOverPlaceholders (length c.patterns.self.slots.items)) at (subst (λ n. IsOverPlaceholders n (get_or (map tree_of patterns) place truth)) (sym c.patterns.invariant.count) over)

pub returns-then-not-fits-clause-found : goal.returns-then-not-fits-clause-found
returns-then-not-fits-clause-found c =
    let patterns = c.args.patterns.now in
    let formulas = c.args.formulas.now in
    let place = c.patterns.place in
    let inside : place < length patterns = omega (arith, c.patterns-test.true) in
    let pattern_at : get_or (map tree_of patterns) place truth ≡ tree_of c.index-patterns-place.result = get_or-map tree_of patterns place c.index-patterns-place.result truth inside ∙ ap tree_of (sym c.index-patterns-place.is) in
    let formula_at : get_or (map tree_of formulas) place truth ≡ tree_of c.index-formulas-place.result = get_or-map tree_of formulas place c.index-formulas-place.result truth (omega (arith, inside, c.requires.count)) ∙ ap tree_of (sym c.index-formulas-place.is) in
    let fits : Finds (slots_of c.patterns.self) (slots_of c.fits.new.self) (λ bound. instance_of bound (get_or (map tree_of patterns) place truth) ≡ get_or (map tree_of formulas) place truth) false =
    rw (pattern_at, formula_at) (rw c.if-not-fits.true at c.fits.ensures.found) in
    list_apart (map tree_of patterns) (map tree_of formulas) (omega (arith, c.requires.count, length-map patterns tree_of, length-map formulas tree_of)) (slots_of c.args.self.now) (slots_of c.patterns.self) (slots_of c.fits.new.self) place (omega (arith, inside, length-map patterns tree_of)) c.patterns.invariant.found fits

pub patterns-preserved : goal.patterns-preserved
patterns-preserved c =
    let patterns = c.args.patterns.now in
    let formulas = c.args.formulas.now in
    let place = c.patterns.place in
    let inside : place < length patterns = omega (arith, c.patterns-test.true) in
    let pattern_at : get_or (map tree_of patterns) place truth ≡ tree_of c.index-patterns-place.result = get_or-map tree_of patterns place c.index-patterns-place.result truth inside ∙ ap tree_of (sym c.index-patterns-place.is) in
    let formula_at : get_or (map tree_of formulas) place truth ≡ tree_of c.index-formulas-place.result = get_or-map tree_of formulas place c.index-formulas-place.result truth (omega (arith, inside, c.requires.count)) ∙ ap tree_of (sym c.index-formulas-place.is) in
    let fits : Finds (slots_of c.patterns.self) (slots_of c.fits.new.self) (λ bound. instance_of bound (get_or (map tree_of patterns) place truth) ≡ get_or (map tree_of formulas) place truth) true =
    rw (pattern_at, formula_at) (rw c.if-not-fits.false at c.fits.ensures.found) in
    record {
      count = c.fits.ensures.count ∙ c.patterns.invariant.count;
      found = next_found (map tree_of patterns) (map tree_of formulas) (slots_of c.args.self.now) (slots_of c.patterns.self) (slots_of c.fits.new.self) place c.patterns.invariant.found fits;
    }

pub returns-clause-found : goal.returns-clause-found
returns-clause-found c =
    let patterns = c.args.patterns.now in
    let formulas = c.args.formulas.now in
    let whole : c.patterns.place ≡ length (map tree_of patterns) = omega (arith, c.patterns-test.false, c.patterns.auto.place-end, length-map patterns tree_of) in
    list_found (map tree_of patterns) (map tree_of formulas) (omega (arith, c.requires.count, length-map patterns tree_of, length-map formulas tree_of)) (slots_of c.args.self.now) (slots_of c.patterns.self) (rw (sym whole) c.patterns.invariant.found)
