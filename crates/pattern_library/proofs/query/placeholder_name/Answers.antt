use Rattle.std.proofs.Common.{◌+◌, ℕ, Err, ap, sym, subst, ◌∙◌, arith}
use Rattle.std.proofs.lemmas.List.{take-replicate}
use Rattle.state_space.specs.Names.{IsName}
use Rattle.pattern_library.proofs.Placeholders.{named}
use Rattle.pattern_library.proofs.query.placeholder_name.Goals as goal

pub unreachable-requires : goal.unreachable-requires
unreachable-requires c =
    let letters = take-replicate {X = ℕ} (c.args.number + 1) 40 112 (omega (arith, c.requires)) in
    c.new.ensures.not_a_name.0 (c.in-Err-NotAName.is ∙ ap (λ e. Err e) c.in-Err-NotAName.field-0-is) (subst IsName (sym letters) (named c.args.number c.requires))
