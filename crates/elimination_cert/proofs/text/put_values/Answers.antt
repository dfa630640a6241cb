use Rattle.std.proofs.Common.{◌≡◌, ◌++◌, ℕ, List, ap, sym, ◌∙◌, length, map, Vec, Global}
use Rattle.std.specs.Prelude.{◌==◌}
use Rattle.std.specs.Fmt.{decimal}
use Rattle.std.proofs.lemmas.Bool.{false≢true}
use Rattle.std.specs.Int.{bit_at}
use Rattle.state_space.proofs.Listing.{members_without, not_first}
use Rattle.elimination_cert.specs.CertTexts.{joined}
use Rattle.elimination_cert.proofs.Writing.{values_more}
use Rattle.elimination_cert.proofs.text.put_values.Goals as goal
use Rattle.elimination_cert.proofs.text.put_values.Goals.{then-contains+in_ok-put_value, else-contains}

pub values-preserved : goal.values-preserved
values-preserved c =
    let set = c.args.set.0 in
    let value = c.values.value in
    elim c.if-contains.branch [
      | then-contains+in_ok-put_value w ↦
          let has : bit_at c.args.set.0 c.values.value ≡ 1 = c.contains.ensures.0 w.if-contains.true in
          record {
            texts = ap (λ (v : Vec ℕ Global). v.items) w.out-is ∙ w.in_ok-put_value.ensures ∙ values_more set value c.args.out.now.items c.values.out.items c.values.first has c.values.invariant.texts c.values.invariant.none;
            none = w.first-is ∙ not_first set value has;
          }
      | else-contains w ↦
          let same = members_without set value (λ h. false≢true (sym w.if-contains.false ∙ c.contains.ensures.1 h)) in
          record {
            texts = ap (λ (v : Vec ℕ Global). v.items) w.out-is ∙ c.values.invariant.texts ∙ ap (λ ns. c.args.out.now.items ++ joined 43 (map decimal ns)) same;
            none = w.first-is ∙ c.values.invariant.none ∙ ap (λ (ns : List ℕ). length ns == 0) same;
          }
    ]
