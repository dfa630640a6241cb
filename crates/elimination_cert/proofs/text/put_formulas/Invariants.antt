use Rattle.std.proofs.Common.{◌≡◌, ◌++◌, ◌<◌, ◌^◌, length, map}
use Rattle.std.specs.List.{All}
use Rattle.std.specs.Fmt.{decimal}
use Rattle.elimination_cert.specs.CertTexts.{list_text}
use Rattle.elimination_cert.specs.Endings.{more_texts, numbers_left}
use Rattle.elimination_cert.proofs.text.put_formulas.Given as goal

abbrev pub invariant-formulas : goal.invariant-formulas
invariant-formulas l = record {
  texts : l.out.items ++ more_texts l.first (map decimal (numbers_left l.formulas l.next)) ≡ l.fn.out.items ++ list_text l.formulas;
  small : All (λ y. y < 2 ^ 16) l.formulas;
}

abbrev pub decreases-formulas : goal.decreases-formulas
decreases-formulas l = length (numbers_left l.formulas l.next)
