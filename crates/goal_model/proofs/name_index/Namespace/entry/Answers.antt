use Rattle.std.proofs.Common.{◌<◌, Some, length, option_map, ap, sym, ◌∙◌, arith, bytes_eq, position}
use Rattle.goal_model.specs.declared.namespace.Declared.{Declared}
use Rattle.goal_model.specs.declared.namespace.Kind.TheVariants.{Property}
use Rattle.goal_model.proofs.NameIndexes.{names, find_at, find_none}
use Rattle.goal_model.proofs.name_index.Namespace.entry.Goals as goal

pub returns-in_err-place : goal.returns-in_err-place
returns-in_err-place c =
    let ds = c.args.self.now.entries.items in
    let place = c.place.ensures.place (names ds) c.args.self.now.indexed ∙ ap (λ x. position (λ n. bytes_eq n x) (names ds)) c.bytes.ensures.bytes in
    ap (option_map (λ d. d.now)) c.from_residual.ensures ∙ sym (find_none c.args.name.now ds (sym place ∙ c.in_err-place.was))

pub index-requires : goal.index-requires
index-requires c =
    let ds = c.args.self.now.entries.items in
    let place = c.place.ensures.place (names ds) c.args.self.now.indexed ∙ ap (λ x. position (λ n. bytes_eq n x) (names ds)) c.bytes.ensures.bytes in
    let there = λ (d : Declared). (find_at c.args.name.now ds c.in_ok-place.place d (sym place ∙ c.in_ok-place.was)).0 in
    let inside : c.in_ok-place.place < length ds = there (record { name = c.args.name.now; kind = Property; place = 0 }) in
    omega (arith, inside, c.args.self.now.entries.ok)

pub returns : goal.returns
returns c =
    let ds = c.args.self.now.entries.items in
    let place = c.place.ensures.place (names ds) c.args.self.now.indexed ∙ ap (λ x. position (λ n. bytes_eq n x) (names ds)) c.bytes.ensures.bytes in
    ap Some c.index.ensures ∙ sym (find_at c.args.name.now ds c.in_ok-place.place c.index.result.now (sym place ∙ c.in_ok-place.was)).1
