-- What the code answers of an outcome.
use Rattle.std.specs.Prelude.{◌≡◌, Result, Ok, Err, ⊤}
use Rattle.goal_model.specs.declared.refusal.ModelRefusal.{ModelRefusal}
use Rattle.goal_model.specs.declared.refusal.ModelRefusal.TheVariants as refusals
use Rattle.goal_model.specs.Models.{ModelForm}
use Rattle.goal_model.specs.Items.{items_of}
use Rattle.goal_model.specs.Resolution.{Outcome, refuses, sized}

-- a model whose items are all small enough, or the refusal of the first that is too large
abbrev pub sized_all : ModelForm → Outcome
sized_all m = sized m (items_of m)

-- the code refuses with this outcome, or memory ran out
abbrev pub Refuses : ModelRefusal → Outcome → Type 0
Refuses (refusals.Refused kind statement name) outcome = outcome ≡ refuses kind statement name
Refuses refusals.Memory outcome = ⊤

-- the code answers this outcome, where what it made stands for another
abbrev pub AnswersBy : {A : Type 0} → (A → Outcome) → Result A ModelRefusal → Outcome → Type 0
AnswersBy meant (Ok a) outcome = outcome ≡ meant a
AnswersBy meant (Err e) outcome = Refuses e outcome
