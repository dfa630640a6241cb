-- Demands: what items ask of traces, with their formulas written out.
use Rattle.std.specs.Prelude.{List, map, All, option_map}
use Rattle.std.specs.Option.{option_to_list}
use Rattle.std.specs.List.{flat_map}
use Rattle.temporal_logic.specs.Fits.{Fits}
use Rattle.temporal_logic.specs.Ltl.{Ltl}
use Rattle.temporal_logic.specs.Trees.{tree_of}
use Rattle.formula_table.specs.SmallLists.{AreSmall}
use Rattle.goal_model.specs.declared.item.Wanted.{Wanted}
use Rattle.goal_model.specs.declared.demand.Demand.{Demand}
use Rattle.goal_model.specs.Models.{ModelForm, sizes_of}
use Rattle.goal_model.specs.Items.{LabelForm, ItemForm, label_of, list_of}

-- that no trace meets a list of formulas, or that some does
pub record DemandForm : Type 0 where
  pub label : LabelForm
  pub list : List Ltl
  pub wanted : Wanted

abbrev pub demand_of : Demand → DemandForm
demand_of d = record { label = label_of d.label; list = map tree_of d.list.items; wanted = d.wanted }

-- the demands of items that ask something of traces, in order
abbrev pub demands_of : ModelForm → List ItemForm → List DemandForm
demands_of m items = flat_map (λ i. option_to_list (option_map (λ w. record { label = i.label; list = list_of m i.parts; wanted = w }) i.wanted)) items

-- a list over the model's variables that is small enough to be answered
pub record IsAnswerable (m : ModelForm) (list : List Ltl) : Type 0 where
  pub fit : All (Fits m.ranges) list
  pub small : AreSmall (sizes_of m) list
