use Rattle.std.proofs.Common.{ℕ, map, ap, ◌∙◌}
use Rattle.std.specs.Prelude.{slice_index_or}
use Rattle.model_tokens.specs.declared.token.Token.{Token}
use Rattle.model_text.proofs.TokenPlaces.{placed_at}
use Rattle.model_text.proofs.text.place_of.Goals as goal

pub returns-in-Some : goal.returns-in-Some
returns-in-Some c =
    let ts = c.args.tokens.now in
    let found = c.in-Some.ensures.lookup.3 in
    ap (λ (t : Token). t.at) (found.1 c.in-Some.token.now)
    ∙ placed_at ts c.saturating_sub.result c.args.end c.in-Some.token.now found.0
    ∙ ap (λ (k : ℕ). slice_index_or (map (λ (t : Token). t.at) ts) k c.args.end) c.saturating_sub.ensures
