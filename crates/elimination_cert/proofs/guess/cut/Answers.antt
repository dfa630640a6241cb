use Rattle.std.proofs.Common.{◌∙◌, sym, arith}
use Rattle.std.proofs.lemmas.List.{take_rest, drop_all}
use Rattle.elimination_cert.proofs.Cuts.{cut_before, cut_behind, cut_none, before_none, behind_none}
use Rattle.elimination_cert.proofs.guess.cut.Goals as goal

pub returns-in-Some-clause-before : goal.returns-in-Some-clause-before
returns-in-Some-clause-before c = sym (cut_before c.args.byte c.args.bytes.now c.in-Some.at (sym c.in-Some.ensures))

pub returns-in-Some-clause-behind : goal.returns-in-Some-clause-behind
returns-in-Some-clause-behind c = take_rest c.args.bytes.now _ ∙ sym (cut_behind c.args.byte c.args.bytes.now c.in-Some.at (sym c.in-Some.ensures))

pub returns-in-None-clause-before : goal.returns-in-None-clause-before
returns-in-None-clause-before c = sym (before_none c.args.byte c.args.bytes.now (cut_none c.args.byte c.args.bytes.now (sym c.in-None.ensures)))

pub returns-in-None-clause-behind : goal.returns-in-None-clause-behind
returns-in-None-clause-behind c = take_rest c.args.bytes.now _ ∙ drop_all _ c.args.bytes.now (omega arith) ∙ sym (behind_none c.args.byte c.args.bytes.now (cut_none c.args.byte c.args.bytes.now (sym c.in-None.ensures)))
