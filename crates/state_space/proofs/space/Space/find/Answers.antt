use Rattle.std.proofs.Common.{sym, refl, ◌∙◌}
use Rattle.std.proofs.lemmas.Bool.{false≢true}
use Rattle.state_space.specs.Spaces.{names}
use Rattle.state_space.proofs.Places.{found_at, among_found, none_among}
use Rattle.state_space.proofs.space.Space.find.Goals as goal

pub returns-in_err-place-clause-some : goal.returns-in_err-place-clause-some
returns-in_err-place-clause-some c =
    let self = c.args.self.now in
    let none = sym (c.place.ensures.place (names self) self.indexed) ∙ c.in_err-place.was in
    rw c.from_residual.ensures (λ h. absurd (false≢true h), λ h. absurd (none_among (names self) c.args.name.now none h))

pub returns-in_err-place-clause-none : goal.returns-in_err-place-clause-none
returns-in_err-place-clause-none c =
    let self = c.args.self.now in
    let none = sym (c.place.ensures.place (names self) self.indexed) ∙ c.in_err-place.was in
    rw c.from_residual.ensures (λ h. none_among (names self) c.args.name.now none, λ h. refl)

pub returns-clause-found : goal.returns-clause-found
returns-clause-found c =
    let self = c.args.self.now in
    found_at (names self) c.args.name.now c.in_ok-place.place (sym (c.place.ensures.place (names self) self.indexed) ∙ c.in_ok-place.was)

pub returns-clause-some : goal.returns-clause-some
returns-clause-some c =
    let self = c.args.self.now in
    let has = among_found (names self) c.args.name.now c.in_ok-place.place (sym (c.place.ensures.place (names self) self.indexed) ∙ c.in_ok-place.was) in
    (λ h. has, λ h. refl)

pub returns-clause-none : goal.returns-clause-none
returns-clause-none c =
    let self = c.args.self.now in
    let has = among_found (names self) c.args.name.now c.in_ok-place.place (sym (c.place.ensures.place (names self) self.indexed) ∙ c.in_ok-place.was) in
    (λ h. absurd (false≢true (sym h)), λ h. absurd (h has))
