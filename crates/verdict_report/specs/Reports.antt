-- When a report is right, and what it counts.
use Rattle.std.specs.Prelude.{◌≡◌, ℕ, ◌+◌, Bool, true, false, List, [], ◌∷◌, ◌++◌, count_by, Option, option_map, Some, None}
use Rattle.std.specs.Option.{option_to_list}
use Rattle.std.specs.List.{AllZip, flat_map}
use Rattle.goal_model.specs.declared.item.Part.{Part}
use Rattle.goal_model.specs.declared.item.LabelKind.{LabelKind}
use Rattle.goal_model.specs.declared.item.LabelKind.TheVariants.{Complete}
use Rattle.goal_model.specs.declared.item.Wanted.{Wanted}
use Rattle.goal_model.specs.declared.item.Wanted.TheVariants.{SomeTrace}
use Rattle.goal_model.specs.declared.pattern.PatternKind.{PatternKind}
use Rattle.goal_model.specs.Models.{LinkForm, refine, assign, ModelForm}
use Rattle.goal_model.specs.Items.{LabelForm, ItemForm, label_of, domain_item, assigned_item, link_items_of}
use Rattle.verdict_report.specs.declared.report.Verdict.{Verdict}
use Rattle.verdict_report.specs.declared.report.Verdict.TheVariants.{Holds, Fails, Withheld}
use Rattle.verdict_report.specs.declared.report.Entry.{Entry}
use Rattle.verdict_report.specs.declared.report.Report.{Report}
use Rattle.verdict_report.specs.Verdicts.{IsRight, IsRightCover}

-- what an entry answers: a demand on traces, for which a pattern may be named, or whether an agent covers a goal
pub data Question : Type 0 where
  of_traces : (label : LabelForm) (parts : List (Part × Bool)) (wanted : Wanted) (named : Option PatternKind) → Question
  of_agent : (label : LabelForm) (goal agent : ℕ) → Question

-- the pattern that a refinement names, for whether it is complete
abbrev pub named_for : LinkForm → LabelKind → Option PatternKind
named_for (refine s g subgoals pattern) Complete = pattern
named_for link kind = None

-- the question of an item of a link that asks something of traces
abbrev pub asked_by : LinkForm → ItemForm → List Question
asked_by link i = option_to_list (option_map (λ w. of_traces i.label i.parts w (named_for link i.label.kind)) i.wanted)

-- whether the domain properties have a trace
abbrev pub domain_question : Question
domain_question = of_traces domain_item.label domain_item.parts SomeTrace None

-- the questions of the link at a place
abbrev pub link_questions : ModelForm → ℕ → LinkForm → List Question
link_questions m l (assign s g a) = of_agent (assigned_item m s g a).label g a ∷ []
link_questions m l link = flat_map (asked_by link) (link_items_of m l link)

-- those of links, of which the first has this place
abbrev pub questions_from : ModelForm → ℕ → List LinkForm → List Question
questions_from m l [] = []
questions_from m l (link ∷ links) = link_questions m l link ++ questions_from m (l + 1) links

-- that of the domain properties, and then the questions of each link in statement order
abbrev pub questions_of : ModelForm → List Question
questions_of m = domain_question ∷ questions_from m 0 m.links

-- an entry answers a question, and is right
abbrev pub IsEntry : ModelForm → ℕ → Question → Entry → Type 0
IsEntry m budget (of_traces label parts wanted named) e = (label_of e.label ≡ label) × (e.wanted ≡ Some wanted) × IsRight m budget wanted parts named e.verdict e.evidence
IsEntry m budget (of_agent label goal agent) e = (label_of e.label ≡ label) × (e.wanted ≡ None) × IsRightCover m goal agent e.verdict e.evidence

-- the report answers each question of the model in order, and all under this budget
pub record Reports (m : ModelForm) (limit : ℕ) (report : Report) : Type 0 where
  pub budget : report.budget ≡ limit
  pub entries : AllZip (IsEntry m limit) (questions_of m) report.entries.items

abbrev pub is_held : Verdict → Bool
is_held Holds = true
is_held _ = false

abbrev pub is_failed : Verdict → Bool
is_failed Fails = true
is_failed _ = false

abbrev pub is_withheld : Verdict → Bool
is_withheld (Withheld number) = true
is_withheld _ = false

-- how many of the entries hold
abbrev pub held_count : Report → ℕ
held_count report = count_by (λ e. is_held e.verdict) report.entries.items

-- how many of the entries fail
abbrev pub failed_count : Report → ℕ
failed_count report = count_by (λ e. is_failed e.verdict) report.entries.items

-- of how many entries the verdict is withheld
abbrev pub withheld_count : Report → ℕ
withheld_count report = count_by (λ e. is_withheld e.verdict) report.entries.items
