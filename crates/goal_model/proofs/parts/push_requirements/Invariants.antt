use Rattle.std.proofs.Common.{◌≡◌, ◌++◌, true, take}
use Rattle.goal_model.specs.declared.item.Part.TheVariants.{Requirement}
use Rattle.goal_model.specs.Items.{all_as}
use Rattle.goal_model.proofs.parts.push_requirements.Given as goal

abbrev pub invariant-requirements : goal.invariant-requirements
invariant-requirements l = l.parts.items ≡ l.fn.parts.items ++ all_as Requirement true (take l.requirement-index l.requirements)
