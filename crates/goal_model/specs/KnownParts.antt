-- Parts of a demand's list that are of a model.
use Rattle.std.specs.Prelude.{◌<◌, length, All}
use Rattle.goal_model.specs.declared.item.Part.{Part}
use Rattle.goal_model.specs.declared.item.Part.TheVariants.{Goal, Obstacle, Requirement, Boundary}
use Rattle.goal_model.specs.Models.{ModelForm}
use Rattle.goal_model.specs.Items.{ItemForm}

-- a part is one of the model; a boundary is that of a link
abbrev pub PartIsOf : ModelForm → Part → Type 0
PartIsOf m (Goal g) = g < length m.goals
PartIsOf m (Obstacle o) = o < length m.obstacles
PartIsOf m (Requirement r) = r < length m.requirements
PartIsOf m (Boundary l) = l < length m.links

-- the item of a link: its parts are the model's, and its label has a name
pub record IsLinkItem (m : ModelForm) (i : ItemForm) : Type 0 where
  pub parts : All (λ p. PartIsOf m p.0) i.parts
  pub named : 0 < length i.label.names
