use Rattle.std.proofs.Common.{◌≡◌, ◌++◌, map, drop}
use Rattle.std.specs.Fmt.{decimal}
use Rattle.elimination_cert.specs.CertTexts.{list_text}
use Rattle.elimination_cert.specs.Endings.{more_texts}
use Rattle.elimination_cert.proofs.text.put_kids.Given as goal

abbrev pub invariant-kids : goal.invariant-kids
invariant-kids l = l.out.items ++ more_texts l.first (map decimal (drop l.kid-index l.kids)) ≡ l.fn.out.items ++ list_text l.kids
