use Rattle.std.proofs.Common.{ℕ, List, map, sym, ap, ◌∙◌, subst}
use Rattle.std.specs.Prelude.{All}
use Rattle.state_space.specs.Ranges.{size_of}
use Rattle.state_space.proofs.SpaceFacts.{sizes_of_ranges}
use Rattle.verdict_report.specs.Fitting.{EvidenceFits}
use Rattle.verdict_report.proofs.text.form_text.Goals as goal

pub text_over-requires : goal.text_over-requires
text_over-requires c =
    subst (λ (ns : List ℕ). All (λ e. EvidenceFits ns e.evidence) c.args.report.now.entries.items)
    (sym (sizes_of_ranges c.space.result.now ∙ ap (map size_of) c.space.ensures.ranges)) c.requires
