use Rattle.std.proofs.Common.{◌≡◌, length, map, arith}
use Rattle.std.specs.Prelude.{Option, option_map}
use Rattle.std.specs.Borrow.{Bor}
use Rattle.std.proofs.lemmas.List.{length-map}
use Rattle.temporal_logic.specs.declared.formula.Formula.{Formula}
use Rattle.temporal_logic.specs.Ltl.{Ltl}
use Rattle.temporal_logic.specs.Trees.{tree_of}
use Rattle.pattern_library.specs.Slots.{slots_of}
use Rattle.pattern_library.specs.Views.{pattern_form, formulas_of}
use Rattle.pattern_library.proofs.Listed.{count_empty, no_subgoals, all_found}
use Rattle.pattern_library.proofs.matching.match_pattern.Goals as goal

abbrev seen : Option (Bor Formula) → Option Ltl
seen slot = option_map (λ f. tree_of f.now) slot

pub returns-then-not-fit_all : goal.returns-then-not-fit_all
returns-then-not-fit_all c =
    let p = pattern_form c.args.pattern.now in
    let parent = rw c.if-not-fits.false at c.fits.ensures.found in
    let subgoals = rw c.if-not-fit_all.true at (rw c.deref.ensures.value at c.fit_all.ensures.found) in
    no_subgoals p (tree_of c.args.parent.now) (map tree_of c.args.subgoals.now) (slots_of c.in_ok-matching.matching) (slots_of c.fits.new.self) (slots_of c.fit_all.new.self) c.in_ok-matching.ensures parent subgoals

pub returns : goal.returns
returns c =
    let p = pattern_form c.args.pattern.now in
    let parent = rw c.if-not-fits.false at c.fits.ensures.found in
    let subgoals = rw c.if-not-fit_all.false at (rw c.deref.ensures.value at c.fit_all.ensures.found) in
    let few = count_empty (slots_of c.in_ok-matching.matching) c.args.pattern.now.placeholders c.in_ok-matching.ensures in
    let first = length-map c.in_ok-matching.matching.slots.items seen in
    let last = length-map c.fit_all.new.self.slots.items seen in
    let count : length (slots_of c.fit_all.new.self) ≡ p.placeholders = omega (arith, few, first, last, c.fits.ensures.count, c.fit_all.ensures.count) in
    all_found p (tree_of c.args.parent.now) (map tree_of c.args.subgoals.now) (slots_of c.in_ok-matching.matching) (slots_of c.fits.new.self) (slots_of c.fit_all.new.self) c.in_ok-matching.ensures parent subgoals
    (formulas_of c.in_ok-binding.field-0) c.in_ok-binding.ensures count
