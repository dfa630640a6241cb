use Rattle.std.proofs.Common.{◌≡◌, true, false, get_or, take, sym, subst, ◌∙◌}
use Rattle.std.specs.List.{list_any}
use Rattle.std.proofs.lemmas.Bool.{not-true, not-false}
use Rattle.goal_model.specs.Names.{is_among}
use Rattle.goal_model.proofs.SeenNames.{is_same, tested, seen_more, walk_more, walk_ends}
use Rattle.goal_model.proofs.value_index.names_apart.Goals as goal

pub returns-then-not-branch : goal.returns-then-not-branch
returns-then-not-branch c =
    let names = c.args.names.now in
    let i = c.names.name-index in
    let x = c.bytes.result in
    let is : x.now ≡ get_or names i x.now = subst (λ n. n ≡ get_or names i n) (sym c.bytes.ensures.bytes) c.name-item.is in
    let found : list_any (is_same x) c.names.seen.keys ≡ true = not-false (list_any (is_same x) c.names.seen.keys) (sym c.in_ok-insert.ensures.added ∙ c.if-not-branch.true) in
    let among : is_among x.now (take i names) ≡ true = sym (tested names i x c.names.seen.keys c.names.invariant.0) ∙ found in
    walk_ends _ c.refused.result names i x.now c.names-test.true is among c.names.invariant.1 (rw c.bytes.ensures.bytes c.refused.ensures)

pub names-preserved : goal.names-preserved
names-preserved c =
    let names = c.args.names.now in
    let i = c.names.name-index in
    let x = c.bytes.result in
    let is : x.now ≡ get_or names i x.now = subst (λ n. n ≡ get_or names i n) (sym c.bytes.ensures.bytes) c.name-item.is in
    let none : list_any (is_same x) c.names.seen.keys ≡ false = not-true (list_any (is_same x) c.names.seen.keys) (sym c.in_ok-insert.ensures.added ∙ c.if-not-branch.false) in
    let among : is_among x.now (take i names) ≡ false = sym (tested names i x c.names.seen.keys c.names.invariant.0) ∙ none in
    (seen_more names i x c.names.seen.keys c.insert.new.self.keys c.names-test.true is c.names.invariant.0 none c.in_ok-insert.ensures.keys, walk_more names i x.now c.names-test.true is among c.names.invariant.1)
