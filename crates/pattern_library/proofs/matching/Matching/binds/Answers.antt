use Rattle.std.proofs.Common.{◌≡◌, ◌<◌, true, Some, None, length, sym, ap, ◌∙◌, subst, arith, List}
use Rattle.std.specs.Prelude.{Option, option_map, slice_index_or}
use Rattle.std.specs.Borrow.{Bor}
use Rattle.std.proofs.lemmas.List.{length-map, get_or-map, map-set}
use Rattle.temporal_logic.specs.declared.formula.Formula.{Formula}
use Rattle.temporal_logic.specs.Ltl.{Ltl, truth}
use Rattle.temporal_logic.specs.Trees.{tree_of}
use Rattle.pattern_library.specs.Slots.{slots_of, Finds}
use Rattle.pattern_library.proofs.Filling.{bound_before, bound_now}
use Rattle.pattern_library.proofs.matching.Matching.binds.Goals as goal

-- what is in a slot
abbrev seen : Option (Bor Formula) → Option Ltl
seen slot = option_map (λ f. tree_of f.now) slot

pub returns-in-Some-clause-found : goal.returns-in-Some-clause-found
returns-in-Some-clause-found c =
    let filled = get_or-map seen c.args.self.now.slots.items c.args.placeholder c.index.result.now None c.requires ∙ ap seen (sym c.index.ensures) ∙ ap seen c.in-Some.is in
    bound_before (slots_of c.args.self.now) c.args.placeholder (tree_of c.in-Some.bound.now) (tree_of c.args.formula.now) c.is_same.result filled c.is_same.ensures.same

pub returns-in-None-clause-found : goal.returns-in-None-clause-found
returns-in-None-clause-found c =
    let items = c.args.self.now.slots.items in
    let old = slots_of c.args.self.now in
    let empty = get_or-map seen items c.args.placeholder c.index.result.now None c.requires ∙ ap seen (sym c.index.ensures) ∙ ap seen c.in-None.is in
    let inside : c.args.placeholder < length old = omega (arith, c.requires, length-map items seen) in
    subst (λ (s : List (Option Ltl)). Finds old s (λ formulas. slice_index_or formulas c.args.placeholder truth ≡ tree_of c.args.formula.now) true) (sym (map-set seen items c.args.placeholder (Some c.args.formula)))
    (bound_now old c.args.placeholder (tree_of c.args.formula.now) inside empty)
