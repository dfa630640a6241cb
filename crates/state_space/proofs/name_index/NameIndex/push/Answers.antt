use Rattle.std.proofs.Common.{is_some, sym, ap, ◌∙◌}
use Rattle.state_space.proofs.NameIndexes.{looked_up, index_stays, index_grows, no_value}
use Rattle.state_space.proofs.name_index.NameIndex.push.Goals as goal

pub returns-then-contains_key : goal.returns-then-contains_key
returns-then-contains_key c =
    let es = c.args.self.now.places.entries in
    record { pushed = λ names at index. index_stays _ names c.args.name.now index (ap is_some (sym (looked_up c.args.name.now es)) ∙ sym c.if-contains_key.ensures) }

pub returns : goal.returns
returns c =
    let es = c.args.self.now.places.entries in
    record { pushed = λ names at index. index_grows es c.insert.new.self.entries names c.args.name.now c.in_ok-key.key c.args.place index (no_value _ c.if-contains_key.ensures) c.in_ok-key.ensures.items at c.in_ok-insert.ensures.entries }
