use Rattle.std.proofs.Common.{List, refl, subst, sym}
use Rattle.std.specs.List.{AllZip}
use Rattle.tableau_rules.specs.Answers.{IsValidAnswer}
use Rattle.goal_model.specs.Models.{sizes_of}
use Rattle.goal_model.specs.ModelViews.{model_of}
use Rattle.verdict_report.specs.declared.report.Entry.{Entry}
use Rattle.verdict_report.specs.Reports.{questions_of, IsEntry}
use Rattle.kaos_program.specs.declared.asking.Asked.{Asked}
use Rattle.kaos_program.specs.Asking.{demands_in, patterns_in, query_asked}
use Rattle.kaos_program.proofs.AskedDemands.{all_answerable, as_many}
use Rattle.kaos_program.proofs.AskedEntries.{IsPatternAnswer, entries_right}
use Rattle.kaos_program.proofs.check.report.Goals as goal

pub found-requires : goal.found-requires
found-requires g c =
    let m = model_of c.args.model.now in
    record { answerable = rw c.deref.ensures.value (all_answerable m (questions_of m) c.in_ok-asked.asked.items c.in_ok-asked.ensures) }

pub entries-requires : goal.entries-requires
entries-requires g c =
    let m = model_of c.args.model.now in
    let asked = c.in_ok-asked.asked.items in
    let vs = c.in_ok-answers.answers.items in
    let ps = c.in_ok-by_patterns.by_patterns.items in
    let found = subst (λ (list : List Asked). AllZip (λ d a. IsValidAnswer (sizes_of m) (query_asked m d) c.args.budget a) (demands_in list) vs) c.deref.ensures.value c.in_ok-answers.ensures.found in
    let patterns = subst (λ (list : List Asked). AllZip (IsPatternAnswer c.args.budget) (patterns_in list) ps) c.deref-2.ensures.value c.in_ok-by_patterns.ensures.found in
    record {
      answered = as_many (λ d a. IsValidAnswer (sizes_of m) (query_asked m d) c.args.budget a) (demands_in asked) vs found;
      by_patterns = as_many (IsPatternAnswer c.args.budget) (patterns_in asked) ps patterns;
    }

pub returns : goal.returns
returns g c =
    let m = model_of c.args.model.now in
    let asked = c.in_ok-asked.asked.items in
    let vs = c.in_ok-answers.answers.items in
    let ps = c.in_ok-by_patterns.by_patterns.items in
    let found = subst (λ (list : List Asked). AllZip (λ d a. IsValidAnswer (sizes_of m) (query_asked m d) c.args.budget a) (demands_in list) vs) c.deref.ensures.value c.in_ok-answers.ensures.found in
    let patterns = subst (λ (list : List Asked). AllZip (IsPatternAnswer c.args.budget) (patterns_in list) ps) c.deref-2.ensures.value c.in_ok-by_patterns.ensures.found in
    let entries = subst (λ (es : List Entry). AllZip (IsEntry m c.args.budget) (questions_of m) es) (sym c.in_ok-entries.ensures.entries)
    (entries_right m c.args.model.now.well_formed.parts.ranges c.args.budget (questions_of m) asked vs ps c.in_ok-asked.ensures found patterns) in
    record { right = record { budget = refl; entries = entries } }
