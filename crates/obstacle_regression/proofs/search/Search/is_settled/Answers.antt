use Rattle.std.proofs.Common.{arith}
use Rattle.std.proofs.lemmas.Bool.{leb-true}
use Rattle.std.proofs.lemmas.List.{length-map}
use Rattle.obstacle_regression.specs.Views.{candidate_core, search_of}
use Rattle.obstacle_regression.proofs.Settled.{full_settled}
use Rattle.obstacle_regression.proofs.search.Search.is_settled.Goals as goal

pub returns-then-self : goal.returns-then-self
returns-then-self c =
    let search = c.args.self.now in
    λ cores full. full_settled search.beside (search_of search) c.if-self.true
    (omega (arith, leb-true 200 c.len.result full, c.len.ensures, search.candidates.ok.0, length-map search.candidates.items candidate_core)) cores
