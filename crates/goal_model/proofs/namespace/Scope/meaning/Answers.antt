use Rattle.std.proofs.Common.{ℕ, List, find, bytes_eq, ap, ◌∙◌}
use Rattle.goal_model.specs.Names.{place_of}
use Rattle.goal_model.specs.Scopes.{scope_of, either_of}
use Rattle.goal_model.proofs.namespace.Scope.meaning.Goals as goal

pub returns-in-Some-clause-exact : goal.returns-in-Some-clause-exact
returns-in-Some-clause-exact c =
    let s = scope_of c.args.self.now in
    let other = find (λ d. bytes_eq d.name c.args.name.now) s.others in
    ap (λ o. either_of o other) c.in-Some.ensures.place ∙ ap (λ (b : List ℕ). either_of (place_of b s.names) other) c.bytes.ensures.bytes
