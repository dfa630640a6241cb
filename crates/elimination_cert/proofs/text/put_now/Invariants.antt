use Rattle.std.proofs.Common.{◌≡◌, ◌++◌, drop}
use Rattle.state_space.specs.Spaces.{sizes}
use Rattle.tableau_rules.specs.Turns.{sets_of}
use Rattle.elimination_cert.specs.CertTexts.{set_texts, now_text}
use Rattle.elimination_cert.specs.Endings.{more_texts}
use Rattle.elimination_cert.proofs.text.put_now.Given as goal

abbrev pub invariant-variables : goal.invariant-variables
invariant-variables l = l.out.items ++ more_texts l.first (set_texts l.x (drop l.x (sizes l.space)) (drop l.x (sets_of l.now))) ≡ l.fn.out.items ++ now_text (sizes l.space) (sets_of l.now)
