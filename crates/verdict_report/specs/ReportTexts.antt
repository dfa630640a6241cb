-- The bytes of a report in each form.
use Rattle.std.specs.Prelude.{ℕ, List, [], ◌∷◌, map, ◌++◌, length, max, codes, decimal, slice_index_or}
use Rattle.std.specs.List.{flat_map}
use Rattle.state_space.specs.Ranges.{RangeForm, size_of}
use Rattle.tableau_rules.specs.Certificates.{CertNodeForm}
use Rattle.tableau_rules.specs.CertView.{cert_of}
use Rattle.elimination_cert.specs.CertTexts.{indented_cert}
use Rattle.goal_model.specs.Items.{label_of}
use Rattle.agent_capabilities.specs.declared.cover.Cover.TheVariants.{NotMonitored, NotControlled}
use Rattle.goal_model.specs.Labels.{label_text}
use Rattle.pattern_library.specs.Patterns.{pattern_of}
use Rattle.pattern_library.specs.PatternNames.{pattern_name}
use Rattle.pattern_library.specs.Instances.{placeholder_sizes}
use Rattle.verdict_report.specs.declared.form.Form.{Form}
use Rattle.verdict_report.specs.declared.form.Form.TheVariants.{Full, Brief}
use Rattle.verdict_report.specs.declared.report.Verdict.{Verdict}
use Rattle.verdict_report.specs.declared.report.Verdict.TheVariants.{Holds, Fails, Withheld}
use Rattle.verdict_report.specs.declared.report.Evidence.{Evidence}
use Rattle.verdict_report.specs.declared.report.Evidence.TheVariants.{Elimination, ByPattern, Trace, Offending}
use Rattle.verdict_report.specs.declared.report.Entry.{Entry}
use Rattle.verdict_report.specs.declared.report.Report.{Report}
use Rattle.verdict_report.specs.Reports.{held_count, failed_count, withheld_count}
use Rattle.verdict_report.specs.LassoTexts.{lasso_text}

-- `holds`, `fails`, or `withheld at BUDGET`
abbrev pub verdict_text : Verdict → List ℕ
verdict_text Holds = codes "holds"
verdict_text Fails = codes "fails"
verdict_text (Withheld number) = codes "withheld at " ++ decimal number

-- behind the verdict: the pattern by which a refinement is complete, or the variable that the agent of an assignment lacks
abbrev pub remark_text : List (List ℕ) → Evidence → List ℕ
remark_text names (ByPattern kind cert) = codes " by " ++ pattern_name kind
remark_text names (Offending (NotMonitored x)) = codes ", " ++ slice_index_or names x.0 [] ++ codes " not monitored"
remark_text names (Offending (NotControlled x)) = codes ", " ++ slice_index_or names x.0 [] ++ codes " not controlled"
remark_text names evidence = []

-- the highest rank of a certificate's nodes, 0 where it has none
abbrev pub highest_rank : List CertNodeForm → ℕ
highest_rank [] = 0
highest_rank (c ∷ cert) = max c.rank (highest_rank cert)

-- `  certificate of N nodes, highest rank R`, and a line feed
unfoldable pub summary_text : List CertNodeForm → List ℕ
summary_text cert = codes "  certificate of " ++ decimal (length cert) ++ codes " nodes, highest rank " ++ decimal (highest_rank cert) ++ codes "\n"

-- the lines below a verdict line, each behind two blanks
abbrev pub evidence_text : Form → List (List ℕ) → List RangeForm → Evidence → List ℕ
evidence_text Full names ranges (Elimination cert) = indented_cert (codes "  ") (map size_of ranges) (cert_of cert)
evidence_text Full names ranges (ByPattern kind cert) = indented_cert (codes "  ") (placeholder_sizes (pattern_of kind)) (cert_of cert)
evidence_text Full names ranges (Trace l) = lasso_text names ranges l
evidence_text Brief names ranges (Elimination cert) = summary_text (cert_of cert)
evidence_text Brief names ranges (ByPattern kind cert) = summary_text (cert_of cert)
evidence_text Brief names ranges (Trace l) = lasso_text names ranges l
evidence_text form names ranges evidence = []

-- a verdict line, and the lines of the evidence
unfoldable pub entry_text : Form → List (List ℕ) → List RangeForm → Entry → List ℕ
entry_text form names ranges e = label_text (label_of e.label) ++ codes ": " ++ verdict_text e.verdict ++ remark_text names e.evidence ++ codes "\n" ++ evidence_text form names ranges e.evidence

-- `total: H hold, F fail, W withheld`, and a line feed
unfoldable pub total_text : ℕ → ℕ → ℕ → List ℕ
total_text held failed withheld = codes "total: " ++ decimal held ++ codes " hold, " ++ decimal failed ++ codes " fail, " ++ decimal withheld ++ codes " withheld\n"

-- the whole report in a form, over the names and ranges of the model's variables
unfoldable pub report_text : Form → List (List ℕ) → List RangeForm → Report → List ℕ
report_text form names ranges report =
    codes "kaos report 1 budget " ++ decimal report.budget ++ codes "\n" ++ flat_map (entry_text form names ranges) report.entries.items
    ++ total_text (held_count report) (failed_count report) (withheld_count report)
