use Rattle.std.proofs.Common.{◌<◌, length, subst}
use Rattle.std.proofs.lemmas.List.{length-map}
use Rattle.temporal_logic.specs.Fits.{Fits}
use Rattle.goal_model.specs.Models.{RequirementForm, contents_of, requirement_of}
use Rattle.goal_model.specs.KnownParts.{PartIsOf}
use Rattle.goal_model.proofs.Tables.{all_at}
use Rattle.goal_model.proofs.demand.formula_of.Goals as goal

pub compiled-requires : goal.compiled-requires
compiled-requires c =
    let m = contents_of c.args.contents.now in
    let requirements = c.args.contents.now.requirements.items in
    let known : c.in-Requirement.place < length m.requirements = subst (PartIsOf m) c.in-Requirement.is c.requires.known in
    let inside : c.in-Requirement.place < length requirements = rw length-map at known in
    (all_at (λ (r : RequirementForm). (r.operation < length m.operations) × Fits m.ranges r.formula) requirement_of requirements c.in-Requirement.place c.index-in-Requirement.result.now inside c.index-in-Requirement.ensures c.requires.fit.requirements).0
