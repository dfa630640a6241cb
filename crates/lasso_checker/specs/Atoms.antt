-- Formulas without operands, whose rows are read off the states of a lasso.
use Rattle.temporal_logic.specs.Ltl.{Ltl, truth, falsity, flag, compares, among, relates}

-- a constant, or a test of one variable or two at one position
abbrev pub IsAtom : Ltl → Type 0
IsAtom truth = Unit {0}
IsAtom falsity = Unit {0}
IsAtom (flag x) = Unit {0}
IsAtom (compares x r v) = Unit {0}
IsAtom (among x set) = Unit {0}
IsAtom (relates x r y) = Unit {0}
IsAtom _ = ⊥
