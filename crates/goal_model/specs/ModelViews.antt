-- The form of a model of the code.
use Rattle.goal_model.specs.declared.model.Model.{Model}
use Rattle.goal_model.specs.Models.{ModelForm, contents_of}

abbrev pub model_of : Model → ModelForm
model_of m = contents_of m.contents
