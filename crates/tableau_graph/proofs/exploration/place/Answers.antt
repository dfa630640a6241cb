use Rattle.std.proofs.Common.{◌≡◌, Some, map, subst, arith}
use Rattle.std.specs.Prelude.{slice_get}
use Rattle.std.proofs.lemmas.Option.{slice_get_within}
use Rattle.tableau_rules.specs.contracts.node.NodePartialEq.TheImpl
use Rattle.tableau_rules.specs.declared.node.Node.{Node}
use Rattle.tableau_rules.specs.NodeView.{node_of}
use Rattle.tableau_rules.proofs.NodeEquality.{node_eq}
use Rattle.tableau_rules.proofs.Sizes.{map_length}
use Rattle.tableau_graph.specs.Places.{IsPut}
use Rattle.tableau_graph.proofs.Puts.{put_of, place_of}
use Rattle.tableau_graph.proofs.exploration.place.Goals as goal

pub overflow_cast-result : goal.overflow_cast-result
overflow_cast-result c =
    let new = c.replace_full.new.self.keys in
    let e = map_length node_of new in
    let l = c.len.ensures.len in
    let t = c.if-len-budget.false in
    let at = place_of (TheImpl.eq-value).it node_eq c.args.nodes.now.keys new c.replace.result c.in_ok-place.place c.in_ok-place.ensures.keys c.in_ok-place.ensures.index in
    let w = slice_get_within (map node_of new) c.in_ok-place.place (node_of c.replace.result) at in
    let b = c.ranges.budget.fits in
    omega (arith, e, l, t, w, b)

pub returns-then-len-budget : goal.returns-then-len-budget
returns-then-len-budget c =
    let old = c.args.nodes.now.keys in
    let new = c.replace_full.new.self.keys in
    let e = map_length node_of new in
    let l = c.len.ensures.len in
    let t = c.if-len-budget.true in
    (subst (λ (x : Node). IsPut (map node_of old) (map node_of new) (node_of x)) c.replace.ensures.value (put_of (TheImpl.eq-value).it node_eq old new c.replace.result c.in_ok-place.ensures.keys), omega (arith, e, l, t))

pub returns : goal.returns
returns c =
    let old = c.args.nodes.now.keys in
    let new = c.replace_full.new.self.keys in
    let e = map_length node_of new in
    let l = c.len.ensures.len in
    let t = c.if-len-budget.false in (
      subst (λ (x : Node). IsPut (map node_of old) (map node_of new) (node_of x)) c.replace.ensures.value (put_of (TheImpl.eq-value).it node_eq old new c.replace.result c.in_ok-place.ensures.keys),
      omega (arith, e, l, t),
      subst (λ (x : Node). slice_get (map node_of new) c.in_ok-place.place ≡ Some (node_of x)) c.replace.ensures.value
          (place_of (TheImpl.eq-value).it node_eq old new c.replace.result c.in_ok-place.place c.in_ok-place.ensures.keys c.in_ok-place.ensures.index),
    )
