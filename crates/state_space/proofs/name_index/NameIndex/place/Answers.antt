use Rattle.std.proofs.Common.{◌∙◌}
use Rattle.state_space.proofs.NameIndexes.{looked_up}
use Rattle.state_space.proofs.name_index.NameIndex.place.Goals as goal

pub returns-in_err-place : goal.returns-in_err-place
returns-in_err-place c =
    record { place = λ names index. c.from_residual.ensures ∙ c.in_err-place.ensures.value ∙ looked_up c.args.name.now c.args.self.now.places.entries ∙ index c.args.name.now }

pub returns : goal.returns
returns c =
    record { place = λ names index. c.in_ok-place.ensures.value ∙ looked_up c.args.name.now c.args.self.now.places.entries ∙ index c.args.name.now }
