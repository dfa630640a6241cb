use Rattle.std.proofs.Common.{◌≡◌, ◌++◌, ℕ, List, ap, sym, ◌∙◌, length, map, Vec, Global}
use Rattle.std.specs.Prelude.{◌==◌}
use Rattle.std.proofs.lemmas.Bool.{false≢true}
use Rattle.std.specs.Int.{bit_at}
use Rattle.state_space.specs.Ranges.{form_of}
use Rattle.state_space.specs.ValueTexts.{value_text, listed}
use Rattle.state_space.proofs.Listing.{listed_more, members_without, not_first}
use Rattle.state_space.proofs.range.Range.put_members.Goals as goal
use Rattle.state_space.proofs.range.Range.put_members.Goals.{then-contains+in_ok-put_next, else-contains}

pub values-preserved : goal.values-preserved
values-preserved c =
    let set = c.args.set.0 in
    let index = c.values.index in
    elim c.if-contains.branch [
      | then-contains+in_ok-put_next w ↦
          let has : bit_at c.args.set.0 c.values.index ≡ 1 = c.contains.ensures.0 w.if-contains.true in
          record {
            texts = ap (λ (v : Vec ℕ Global). v.items) w.out-is ∙ w.in_ok-put_next.ensures ∙ listed_more (value_text (form_of c.args.self.now)) set index c.args.out.now.items c.values.out.items c.values.first has c.values.invariant.texts c.values.invariant.none;
            none = w.first-is ∙ not_first set index has;
          }
      | else-contains w ↦
          let same = members_without set index (λ h. false≢true (sym w.if-contains.false ∙ c.contains.ensures.1 h)) in
          record {
            texts = ap (λ (v : Vec ℕ Global). v.items) w.out-is ∙ c.values.invariant.texts ∙ ap (λ ns. c.args.out.now.items ++ listed (map (value_text (form_of c.args.self.now)) ns)) same;
            none = w.first-is ∙ c.values.invariant.none ∙ ap (λ (ns : List ℕ). length ns == 0) same;
          }
    ]
