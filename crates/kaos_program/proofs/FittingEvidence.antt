-- The evidence of a right report can be written over the model's variables.
use Rattle.std.proofs.Common.{◌≡◌, ℕ, ◌<◌, ◌≤◌, ◌⊎◌, inl, inr, Bool, List, [], ◌∷◌, length, get_or, Some, None, sym, subst, arith}
use Rattle.std.specs.Prelude.{All, Option, slice_index_or}
use Rattle.std.specs.List.{AllZip}
use Rattle.std.proofs.lemmas.Bool.{cases_lt}
use Rattle.std.proofs.lemmas.List.{length-map, get_or_past}
use Rattle.std.proofs.lemmas.Option.{slice_get-get_or}
use Rattle.std.proofs.lemmas.List.Elements.{All-nil, All-cons}
use Rattle.state_space.specs.Ranges.{size_of}
use Rattle.temporal_logic.specs.Fits.{Fits}
use Rattle.tableau_rules.specs.declared.answer.Answer.{Answer}
use Rattle.tableau_rules.specs.declared.answer.Answer.TheVariants.{Empty, Found, Withheld}
use Rattle.tableau_rules.specs.CertView.{cert_of}
use Rattle.goal_model.specs.declared.item.Part.{Part}
use Rattle.goal_model.specs.declared.pattern.PatternKind.{PatternKind}
use Rattle.goal_model.specs.Models.{GoalForm, ModelForm, sizes_of}
use Rattle.goal_model.specs.Items.{no_goal}
use Rattle.agent_capabilities.specs.declared.cover.Cover.{Cover}
use Rattle.agent_capabilities.specs.declared.cover.Cover.TheVariants.{Covered, NotMonitored, NotControlled}
use Rattle.agent_capabilities.specs.Coverage.{no_agent, cover_of, coverage_at}
use Rattle.agent_capabilities.proofs.Covering.{unseen_named, uncontrolled_named}
use Rattle.agent_capabilities.proofs.Variables.{occurring_below}
use Rattle.verdict_report.specs.declared.report.Entry.{Entry}
use Rattle.verdict_report.specs.declared.report.Report.{Report}
use Rattle.verdict_report.specs.Fitting.{EvidenceFits}
use Rattle.verdict_report.specs.Verdicts.{IsFound, evidence_of, cover_evidence}
use Rattle.verdict_report.specs.Reports.{Question, of_traces, of_agent, IsEntry, questions_of, Reports}

module _ (m : ModelForm) (goals_fit : (g : ℕ) → Fits m.ranges (slice_index_or m.goals g no_goal).formula) (budget : ℕ) where
  answer_fits : (parts : List (Part × Bool)) (by : Option PatternKind) (a : Answer) → IsFound m by budget parts a → EvidenceFits (sizes_of m) (evidence_of by a)
  answer_fits parts None (Empty cert) (none, size, has, few, valid, short) =
      λ k c inside. (valid.shape k (get_or (cert_of cert) k c) (slice_get-get_or (cert_of cert) k c inside)).variables
  answer_fits parts (Some kind) (Empty cert) (none, size, has, few, valid, short) =
      λ k c inside. (valid.shape k (get_or (cert_of cert) k c) (slice_get-get_or (cert_of cert) k c inside)).variables
  answer_fits parts None (Found lasso) found = found.0
  answer_fits parts (Some kind) (Found lasso) found = found.0
  answer_fits parts None (Withheld number) found = tt
  answer_fits parts (Some kind) (Withheld number) found = tt

  -- as many sizes as ranges
  sized : (x : ℕ) → x < length m.ranges → x < length (sizes_of m)
  sized x inside = let same = length-map m.ranges size_of in omega (arith, inside, same)

  -- what an agent lacks for a goal occurs in it
  cover_fits : (goal agent : ℕ) (cover : Cover) → cover_of cover ≡ coverage_at m goal agent → EvidenceFits (sizes_of m) (cover_evidence cover)
  cover_fits goal agent Covered covers = tt
  cover_fits goal agent (NotMonitored x) covers =
      sized x.0 (occurring_below m.ranges (slice_index_or m.goals goal no_goal).formula (goals_fit goal) x.0 (unseen_named (slice_index_or m.agents agent no_agent) (slice_index_or m.goals goal no_goal).formula x.0 (sym covers)).0)
  cover_fits goal agent (NotControlled x) covers =
      sized x.0 (occurring_below m.ranges (slice_index_or m.goals goal no_goal).formula (goals_fit goal) x.0 (uncontrolled_named (slice_index_or m.agents agent no_agent) (slice_index_or m.goals goal no_goal).formula x.0 (sym covers)).0)

  entry_fits : (q : Question) (e : Entry) → IsEntry m budget q e → EvidenceFits (sizes_of m) e.evidence
  entry_fits (of_traces label parts wanted named) e is = subst (EvidenceFits (sizes_of m)) (sym is.2.evidence) (answer_fits parts is.2.by is.2.answer is.2.found)
  entry_fits (of_agent label goal agent) e is = subst (EvidenceFits (sizes_of m)) (sym is.2.evidence) (cover_fits goal agent is.2.cover is.2.covers)

  entries_fit : (qs : List Question) (es : List Entry) → AllZip (IsEntry m budget) qs es → All (λ e. EvidenceFits (sizes_of m) e.evidence) es
  entries_fit [] [] all = All-nil (λ (e : Entry). EvidenceFits (sizes_of m) e.evidence)
  entries_fit [] (e ∷ es) all = absurd all
  entries_fit (q ∷ qs) [] all = absurd all
  entries_fit (q ∷ qs) (e ∷ es) all = All-cons (λ (e : Entry). EvidenceFits (sizes_of m) e.evidence) e es (entry_fits q e all.0) (entries_fit qs es all.1)

  -- the evidence of each entry
  pub report_fits : (report : Report) → Reports m budget report → All (λ e. EvidenceFits (sizes_of m) e.evidence) report.entries.items
  report_fits report reports = entries_fit (questions_of m) report.entries.items reports.entries

-- the formula at each place fits the ranges; where there is no goal, it is always true
pub each_goal_fits : (m : ModelForm) → All (λ g. Fits m.ranges g.formula) m.goals → (g : ℕ) → Fits m.ranges (slice_index_or m.goals g no_goal).formula
each_goal_fits m all g = by (cases_lt g (length m.goals))
  where
    by : (g < length m.goals) ⊎ (length m.goals ≤ g) → Fits m.ranges (slice_index_or m.goals g no_goal).formula
    by (inl inside) = all g no_goal inside
    by (inr past) = subst (λ (x : GoalForm). Fits m.ranges x.formula) (sym (get_or_past m.goals g no_goal past)) tt
