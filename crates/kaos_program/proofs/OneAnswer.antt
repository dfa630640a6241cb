-- Two right answers to the same bytes under the same command have the same status, and the same verdicts under the same labels.
use Rattle.std.proofs.Common.{◌≡◌, ◌↔◌, ℕ, ◌+◌, Bool, true, false, List, [], ◌∷◌, map, Some, None, refl, sym, ap, ◌∙◌, subst, arith}
use Rattle.std.specs.Prelude.{Option, IsTrue, option_map, count_by, cond, if◌then◌else◌, ◌==◌}
use Rattle.std.specs.List.{AllZip}
use Rattle.std.proofs.lemmas.Bool.{false≢true}
use Rattle.std.proofs.lemmas.Option.{none-some}
use Rattle.std.proofs.lemmas.List.Folds.{fold-map}
use Rattle.temporal_logic.specs.Truth.{Trace}
use Rattle.temporal_logic.specs.Rows.{from_lists}
use Rattle.model_text.specs.Statements.{StatementForm}
use Rattle.model_text.specs.Readability.{IsReadable}
use Rattle.model_text.proofs.Texts.{spelled_once, never_both}
use Rattle.goal_model.specs.declared.refusal.RefusalKind.{RefusalKind}
use Rattle.goal_model.specs.Models.{GoalForm, TraceForm, ModelForm}
use Rattle.goal_model.specs.Resolution.{made, refuses, outcome_of}
use Rattle.goal_model.specs.Items.{LabelForm, label_of}
use Rattle.verdict_report.specs.declared.report.Verdict.{Verdict}
use Rattle.verdict_report.specs.declared.report.Entry.{Entry}
use Rattle.verdict_report.specs.declared.report.Report.{Report}
use Rattle.verdict_report.specs.Reports.{Question, of_traces, of_agent, questions_of, IsEntry, Reports, is_failed, is_withheld, failed_count, withheld_count}
use Rattle.verdict_report.proofs.VerdictLaws.{one_right, one_cover}
use Rattle.obstacle_regression.specs.Regressions.{goal_regression}
use Rattle.obstacle_regression.specs.Standings.{StandsSo}
use Rattle.kaos_program.specs.declared.status.Status.{Status}
use Rattle.kaos_program.specs.declared.status.Status.TheVariants.{Held, Failed, Withheld}
use Rattle.kaos_program.specs.Statuses.{status_of, status_of_truths}
use Rattle.kaos_program.specs.Truths.{AreTruthsOn, AreTruthRows, AreTruths}
use Rattle.kaos_program.specs.Commands.{CommandForm}
use Rattle.kaos_program.specs.Regressing.{goal_named, status_of_standings}
use Rattle.kaos_program.specs.Answering.{IsAccepted, IsRefused, too_long, a_text, its_statements, Answers, a_refusal, a_report, no_such_goal, candidates, truths}
use Rattle.kaos_program.specs.Laws.{verdicts_in}
use Rattle.kaos_program.proofs.OneStanding.{same_standings}

-- ---- a text is accepted as one model, or refused

-- bytes are read as one list of statements
one_reading : (bytes : List ℕ) (ss rs : List StatementForm) → IsReadable bytes ss → IsReadable bytes rs → ss ≡ rs
one_reading bytes ss rs a b = spelled_once bytes ss rs a.spelled b.spelled

-- an outcome is of one model
same_made : (m n : ModelForm) → made m ≡ made n → m ≡ n
same_made m n e = cc

-- which makes one model
one_model : (bytes : List ℕ) (ss rs : List StatementForm) (m n : ModelForm) → IsReadable bytes ss → outcome_of ss ≡ made m → IsReadable bytes rs → outcome_of rs ≡ made n → m ≡ n
one_model bytes ss rs m n a makes b other = same_made m n (sym makes ∙ ap outcome_of (one_reading bytes ss rs a b) ∙ other)

-- statements that make a model are not refused
made_refuses : (m : ModelForm) (kind : RefusalKind) (statement : ℕ) (name : List ℕ) → made m ≡ refuses kind statement name → ⊥
made_refuses m kind statement name e = cc

-- bytes that are accepted are not refused
accepted_refused : (bytes line : List ℕ) (ss : List StatementForm) (m : ModelForm) → IsAccepted bytes ss m → IsRefused bytes line → ⊥
accepted_refused bytes line ss m a (too_long over) = let size = a.size in omega (arith, over, size)
accepted_refused bytes line ss m a (a_text e size cause) = never_both bytes e ss cause a.readable
accepted_refused bytes line ss m a (its_statements rs kind statement name size read refused) =
    made_refuses m kind statement name (sym a.made ∙ ap outcome_of (one_reading bytes ss rs a.readable read) ∙ refused)

-- ---- reports

-- the label of an entry with its verdict
abbrev verdict_in : Entry → LabelForm × Verdict
verdict_in e = (label_of e.label, e.verdict)

-- two right entries for a question
one_entry : (m : ModelForm) (budget : ℕ) (q : Question) (e f : Entry) → IsEntry m budget q e → IsEntry m budget q f → verdict_in e ≡ verdict_in f
one_entry m budget (of_traces label parts wanted named) e f a b =
    let labels : label_of e.label ≡ label_of f.label = a.0 ∙ sym b.0 in
    let verdicts : e.verdict ≡ f.verdict = one_right m budget wanted parts named e.verdict f.verdict e.evidence f.evidence a.2 b.2 in
    cc (labels, verdicts)
one_entry m budget (of_agent label goal agent) e f a b =
    let labels : label_of e.label ≡ label_of f.label = a.0 ∙ sym b.0 in
    let verdicts : e.verdict ≡ f.verdict = one_cover m goal agent e.verdict f.verdict e.evidence f.evidence a.2 b.2 in
    cc (labels, verdicts)

-- and for each of a list of questions
same_entries : (m : ModelForm) (budget : ℕ) (qs : List Question) (es fs : List Entry) → AllZip (IsEntry m budget) qs es → AllZip (IsEntry m budget) qs fs → map verdict_in es ≡ map verdict_in fs
same_entries m budget [] [] [] a b = refl
same_entries m budget [] (e ∷ es) fs a b = absurd a
same_entries m budget [] [] (f ∷ fs) a b = absurd b
same_entries m budget (q ∷ qs) [] fs a b = absurd a
same_entries m budget (q ∷ qs) (e ∷ es) [] a b = absurd b
same_entries m budget (q ∷ qs) (e ∷ es) (f ∷ fs) a b =
    let first = one_entry m budget q e f a.0 b.0 in
    let rest = same_entries m budget qs es fs a.1 b.1 in
    cc (first, rest)

-- a count by verdicts is one over the labels and verdicts
counted : (test : Verdict → Bool) (es : List Entry) → count_by (λ e. test e.verdict) es ≡ count_by (λ x. test x.1) (map verdict_in es)
counted test es = sym (fold-map (λ (n : ℕ) (x : LabelForm × Verdict). n + cond (test x.1) 1 0) verdict_in 0 es)

-- so entries of the same labels and verdicts count the same
same_count : (test : Verdict → Bool) (es fs : List Entry) → map verdict_in es ≡ map verdict_in fs → count_by (λ e. test e.verdict) es ≡ count_by (λ e. test e.verdict) fs
same_count test es fs same = counted test es ∙ ap (count_by (λ x. test x.1)) same ∙ sym (counted test fs)

-- a status is that of the two counts
abbrev by_counts : (failed withheld : ℕ) → Status
by_counts failed withheld = if failed == 0 then (if withheld == 0 then Held else Withheld) else Failed

-- reports of the same verdicts have the same status
same_status : (report other : Report) → verdicts_in report ≡ verdicts_in other → status_of report ≡ status_of other
same_status report other same =
    ap (λ (n : ℕ). by_counts n (withheld_count report)) (same_count is_failed report.entries.items other.entries.items same)
    ∙ ap (by_counts (failed_count other)) (same_count is_withheld report.entries.items other.entries.items same)

-- two right reports of a model under a budget
same_reports : (m : ModelForm) (budget : ℕ) (report other : Report) → Reports m budget report → Reports m budget other → verdicts_in report ≡ verdicts_in other
same_reports m budget report other a b = same_entries m budget (questions_of m) report.entries.items other.entries.items a.entries b.entries

-- ---- truth of goals on traces

-- a truth value that stands for a fact is one
one_truth : {T : Type 0} (b c : Bool) → IsTrue b ↔ T → IsTrue c ↔ T → b ≡ c
one_truth true true e f = refl
one_truth true false e f = absurd (false≢true (f.1 (e.0 refl)))
one_truth false true e f = absurd (false≢true (e.1 (f.0 refl)))
one_truth false false e f = refl

-- the truth values of goals on a trace
same_row : (t : Trace) (goals : List GoalForm) (bs cs : List Bool) → AreTruthsOn t goals bs → AreTruthsOn t goals cs → bs ≡ cs
same_row t [] [] [] a b = refl
same_row t [] [] (c ∷ cs) a b = absurd b
same_row t [] (b ∷ bs) cs a d = absurd a
same_row t (g ∷ goals) [] cs a b = absurd a
same_row t (g ∷ goals) (b ∷ bs) [] a d = absurd d
same_row t (g ∷ goals) (b ∷ bs) (c ∷ cs) a d =
    let first : b ≡ c = one_truth b c a.0 d.0 in
    let rest = same_row t goals bs cs a.1 d.1 in
    cc (first, rest)

-- and on each trace
same_rows : (goals : List GoalForm) (ts : List TraceForm) (rows others : List (List Bool)) → AreTruthRows goals ts rows → AreTruthRows goals ts others → rows ≡ others
same_rows goals [] [] [] a b = refl
same_rows goals [] [] (other ∷ others) a b = absurd b
same_rows goals [] (row ∷ rows) others a b = absurd a
same_rows goals (t ∷ ts) [] others a b = absurd a
same_rows goals (t ∷ ts) (row ∷ rows) [] a b = absurd b
same_rows goals (t ∷ ts) (row ∷ rows) (other ∷ others) a b =
    let first = same_row (from_lists t.prefix t.cycle) goals row other a.0 b.0 in
    let rest = same_rows goals ts rows others a.1 b.1 in
    cc (first, rest)

-- ---- answers

-- what two answers have in common
pub record Agree (first second : Status) (report other : Option Report) : Type 0 where
  pub status : first ≡ second
  pub verdicts : option_map verdicts_in report ≡ option_map verdicts_in other

-- the goal of a name is at one place
same_goal : (m n : ModelForm) (name : List ℕ) (goal other : ℕ) → m ≡ n → goal_named m name ≡ Some goal → goal_named n name ≡ Some other → goal ≡ other
same_goal m n name goal other same is also = let e : Some goal ≡ Some other = sym is ∙ ap (λ (x : ModelForm). goal_named x name) same ∙ also in cc

-- a name is not that of a goal and of none
never_named : (m n : ModelForm) (name : List ℕ) (goal : ℕ) → m ≡ n → goal_named m name ≡ None → goal_named n name ≡ Some goal → ⊥
never_named m n name goal same none some = none-some goal (sym none ∙ ap (λ (x : ModelForm). goal_named x name) same ∙ some)

-- two right answers agree: both refuse, both report on one model, both name no goal or tell the candidates of one, or both give the truth of
-- the goals
pub one_answer : (bytes : List ℕ) (command : CommandForm) (first second : Status) (report other : Option Report) (output further : List ℕ)
    → Answers bytes command first report output → Answers bytes command second other further → Agree first second report other
one_answer bytes command first second report other output further (a_refusal c line refused) (a_refusal d other_line also) = record { status = refl; verdicts = refl }
one_answer bytes command first second report other output further (a_refusal c line refused) (a_report ss m budget form r accepted reports achieved) = absurd (accepted_refused bytes line ss m accepted refused)
one_answer bytes command first second report other output further (a_refusal c line refused) (no_such_goal ss m name depth budget accepted none) = record { status = refl; verdicts = refl }
one_answer bytes command first second report other output further (a_refusal c line refused) (candidates ss m name goal depth budget standings accepted named stand) = absurd (accepted_refused bytes line ss m accepted refused)
one_answer bytes command first second report other output further (a_refusal c line refused) (truths ss m rows accepted right) = absurd (accepted_refused bytes line ss m accepted refused)
one_answer bytes command first second report other output further (a_report ss m budget form r accepted reports achieved) (a_refusal c line refused) = absurd (accepted_refused bytes line ss m accepted refused)
one_answer bytes command first second report other output further (no_such_goal ss m name depth budget accepted none) (a_refusal c line refused) = record { status = refl; verdicts = refl }
one_answer bytes command first second report other output further (candidates ss m name goal depth budget standings accepted named stand) (a_refusal c line refused) = absurd (accepted_refused bytes line ss m accepted refused)
one_answer bytes command first second report other output further (truths ss m rows accepted right) (a_refusal c line refused) = absurd (accepted_refused bytes line ss m accepted refused)
one_answer bytes command first second report other output further (a_report ss m budget form r accepted reports achieved) (a_report rs n limit shape q also others reached) =
    let same = one_model bytes ss rs m n accepted.readable accepted.made also.readable also.made in
    let verdicts = same_reports m budget r q reports (subst (λ (x : ModelForm). Reports x budget q) (sym same) others) in
    record { status = same_status r q verdicts; verdicts = ap Some verdicts }
one_answer bytes command first second report other output further (no_such_goal ss m name depth budget accepted none) (no_such_goal rs n other_name deep limit also nothing) = record { status = refl; verdicts = refl }
one_answer bytes command first second report other output further (no_such_goal ss m name depth budget accepted none) (candidates rs n other_name goal deep limit standings also named stand) =
    absurd (never_named m n name goal (one_model bytes ss rs m n accepted.readable accepted.made also.readable also.made) none named)
one_answer bytes command first second report other output further (candidates ss m name goal depth budget standings accepted named stand) (no_such_goal rs n other_name deep limit also none) =
    absurd (never_named n m name goal (one_model bytes rs ss n m also.readable also.made accepted.readable accepted.made) none named)
one_answer bytes command first second report other output further (candidates ss m name goal depth budget standings accepted named stand) (candidates rs n other_name place deep limit others also is stands) =
    let same = one_model bytes ss rs m n accepted.readable accepted.made also.readable also.made in
    let goals = same_goal m n name goal place same named is in
    let theirs : AllZip (StandsSo m budget) (goal_regression m goal depth).list others =
    subst (λ (g : ℕ). AllZip (StandsSo m budget) (goal_regression m g depth).list others) (sym goals) (subst (λ (x : ModelForm). AllZip (StandsSo x budget) (goal_regression x place depth).list others) (sym same) stands) in
    record { status = ap status_of_standings (same_standings m budget (goal_regression m goal depth).list standings others stand theirs); verdicts = refl }
one_answer bytes command first second report other output further (truths ss m rows accepted right) (truths rs n others also so) =
    let same = one_model bytes ss rs m n accepted.readable accepted.made also.readable also.made in
    record { status = ap status_of_truths (same_rows m.goals m.traces rows others right (subst (λ (x : ModelForm). AreTruths x others) (sym same) so)); verdicts = refl }
