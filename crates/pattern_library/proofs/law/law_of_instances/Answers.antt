use Rattle.pattern_library.proofs.Bindings.{one_binding}
use Rattle.pattern_library.proofs.Substitution.{instance_truth, shown_trace, instances_refuted}
use Rattle.pattern_library.proofs.law.law_of_instances.Goals as goal

pub returns-clause-substitution : goal.returns-clause-substitution
returns-clause-substitution c = λ formulas shown seen shows f over i. instance_truth formulas shown seen shows f over i

pub returns-clause-shown : goal.returns-clause-shown
returns-clause-shown c = λ sizes seen per formulas. shown_trace seen per.start per.turn per.loops formulas

pub returns-clause-refuted : goal.returns-clause-refuted
returns-clause-refuted c = λ p good none parent subgoals formulas match sizes t per others. instances_refuted p good none parent subgoals formulas match sizes t per others

pub returns-clause-unique : goal.returns-clause-unique
returns-clause-unique c = λ p good occur parent subgoals f g m w. one_binding p good occur parent subgoals f g m w
