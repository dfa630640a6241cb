use Rattle.std.proofs.Common.{◌≡◌, length, refl, sym, ap, ◌∙◌, subst, arith}
use Rattle.std.proofs.lemmas.Bool.{false≢true}
use Rattle.temporal_logic.specs.Trees.{tree_of}
use Rattle.pattern_library.specs.Instances.{instance_of, IsOverPlaceholders}
use Rattle.pattern_library.specs.Shapes.{one, two}
use Rattle.pattern_library.specs.Slots.{slots_of}
use Rattle.pattern_library.proofs.Filling.{then_finds}
use Rattle.pattern_library.proofs.Operators.{operators, made_of, over_opened, over_joined, more_opened, more_joined, one_found, two_found, two_apart}
use Rattle.pattern_library.proofs.matching.Matching.+fits.Goals as goal

pub fits-returns-in-Flag-clause-found : goal.fits-returns-in-Flag-clause-found
fits-returns-in-Flag-clause-found t c = rw c.in-Flag.is c.binds.ensures.found

-- ---- one operand
pub fits-fits-requires : goal.fits-fits-requires
fits-fits-requires t c =
    let pattern = tree_of c.args.pattern.now in
    let a = tree_of c.in-One.a.now in
    let is = made_of pattern (one c.in-One.operator a) (rw c.in-One.is at c.shape_of.ensures) in
    let over = over_opened _ c.in-One.operator a (subst (IsOverPlaceholders (length c.args.self.now.slots.items)) is c.requires) in
    (omega (arith, ap operators is, more_opened c.in-One.operator a), over)

pub fits-returns-then-is_same_opening : goal.fits-returns-then-is_same_opening
fits-returns-then-is_same_opening t c =
    let a = tree_of c.in-One.a.now in
    let b = tree_of c.in-One-shape_of.b.now in
    let pattern_is = made_of (tree_of c.args.pattern.now) (one c.in-One.operator a) (rw c.in-One.is at c.shape_of.ensures) in
    let formula_is = made_of (tree_of c.args.formula.now) (one c.in-One-shape_of.other b) (rw c.in-One-shape_of.is at c.shape_of-in-One.ensures) in
    record {
      count = c.fits.ensures.count;
      found = one_found (slots_of c.args.self.now) (slots_of c.fits.new.self) c.in-One.operator c.in-One-shape_of.other a b (tree_of c.args.pattern.now) (tree_of c.args.formula.now) c.fits.result pattern_is formula_is (c.is_same_opening.ensures.0 c.if-is_same_opening.true) c.fits.ensures.found;
    }

-- ---- two operands
pub fits-fit_two-requires : goal.fits-fit_two-requires
fits-fit_two-requires t c =
    let pattern = tree_of c.args.pattern.now in
    let a = tree_of c.in-Two.a.now in
    let b = tree_of c.in-Two.b.now in
    let is = made_of pattern (two c.in-Two.operator a b) (rw c.in-Two.is at c.shape_of.ensures) in
    let over = over_joined _ c.in-Two.operator a b (subst (IsOverPlaceholders (length c.args.self.now.slots.items)) is c.requires) in
    (omega (arith, ap operators is, more_joined c.in-Two.operator a b), over)

pub fits-returns-then-is_same_joining : goal.fits-returns-then-is_same_joining
fits-returns-then-is_same_joining t c =
    let a = tree_of c.in-Two.a.now in
    let b = tree_of c.in-Two.b.now in
    let x = tree_of c.in-Two-shape_of.c.now in
    let y = tree_of c.in-Two-shape_of.d.now in
    let pattern_is = made_of (tree_of c.args.pattern.now) (two c.in-Two.operator a b) (rw c.in-Two.is at c.shape_of.ensures) in
    let formula_is = made_of (tree_of c.args.formula.now) (two c.in-Two-shape_of.other x y) (rw c.in-Two-shape_of.is at c.shape_of-in-Two.ensures) in
    record {
      count = c.fit_two.ensures.count;
      found = two_found (slots_of c.args.self.now) (slots_of c.fit_two.new.self) c.in-Two.operator c.in-Two-shape_of.other a b x y (tree_of c.args.pattern.now) (tree_of c.args.formula.now) c.fit_two.result pattern_is formula_is (c.is_same_joining.ensures.0 c.if-is_same_joining.true) c.fit_two.ensures.found;
    }

pub fits-returns-else-is_same_joining : goal.fits-returns-else-is_same_joining
fits-returns-else-is_same_joining t c =
    let a = tree_of c.in-Two.a.now in
    let b = tree_of c.in-Two.b.now in
    let x = tree_of c.in-Two-shape_of.c.now in
    let y = tree_of c.in-Two-shape_of.d.now in
    let pattern_is = made_of (tree_of c.args.pattern.now) (two c.in-Two.operator a b) (rw c.in-Two.is at c.shape_of.ensures) in
    let formula_is = made_of (tree_of c.args.formula.now) (two c.in-Two-shape_of.other x y) (rw c.in-Two-shape_of.is at c.shape_of-in-Two.ensures) in
    record {
      count = refl;
      found = rw c.if-is_same_joining.false (two_apart (slots_of c.args.self.now) c.in-Two.operator c.in-Two-shape_of.other a b x y (tree_of c.args.pattern.now) (tree_of c.args.formula.now) pattern_is formula_is
          (λ same. false≢true (sym c.if-is_same_joining.false ∙ c.is_same_joining.ensures.1 same)));
    }

pub fit_two-returns-clause-found : goal.fit_two-returns-clause-found
fit_two-returns-clause-found t c =
    then_finds (slots_of c.args.self.now) (slots_of c.fits.new.self) (slots_of c.fits-2.new.self) (λ formulas. instance_of formulas (tree_of c.args.a.now) ≡ tree_of c.args.c.now) (λ formulas. instance_of formulas (tree_of c.args.b.now) ≡ tree_of c.args.d.now) c.fits-2.result (rw c.if-not-fits.false at c.fits.ensures.found) c.fits-2.ensures.found
