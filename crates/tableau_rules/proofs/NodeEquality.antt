-- Equal nodes, by the test and by the equation.
use Rattle.std.proofs.Common.{◌≡◌, ◌↔◌, ℕ, List, [], ◌∷◌, ◌&&◌, IsTrue, nat_eq, refl, sym, ap, ap₂, ◌∙◌}
use Rattle.std.specs.Cmp.Lexicographic.{pointwise}
use Rattle.std.proofs.lemmas.Slice.Eq.{bytes_eq-Decides}
use Rattle.state_space.specs.declared.values.Values.{Values}
use Rattle.state_space.specs.contracts.values.ValuesPartialEq.TheImpl as TheValues
use Rattle.tableau_rules.specs.declared.node.Node.{Node}
use Rattle.tableau_rules.specs.contracts.node.NodePartialEq.TheImpl
use Rattle.tableau_rules.specs.Nodes.{NodeForm}
use Rattle.tableau_rules.specs.NodeView.{node_of}
use Rattle.tableau_rules.specs.Turns.{sets_of}
use Rattle.formula_table.proofs.Tests.{and_intro, and_true}

values_eq : (u v : Values) → (TheValues.eq-value).it u v ≡ nat_eq u.0 v.0
values_eq u v = refl

sets_eq : (us vs : List Values) → pointwise (TheValues.eq-value).it us vs ≡ pointwise nat_eq (sets_of us) (sets_of vs)
sets_eq [] [] = refl
sets_eq [] (v ∷ vs) = refl
sets_eq (u ∷ us) [] = refl
sets_eq (u ∷ us) (v ∷ vs) = ap (λ b. nat_eq u.0 v.0 && b) (sets_eq us vs)

form : List ℕ → List ℕ → List ℕ → NodeForm
form a b c = record { todo = a; now = b; next = c }

pub node_eq : (a b : Node) → IsTrue ((TheImpl.eq-value).it a b) ↔ (node_of a ≡ node_of b)
unfolding form
node_eq a b =
    let todo = pointwise nat_eq a.todo b.todo in
    let now = pointwise (TheValues.eq-value).it a.now.items b.now.items in
    let next = pointwise nat_eq a.next b.next in
    let s = sets_eq a.now.items b.now.items in (
      λ h.
          let p = and_true todo (now && next) h in
          let q = and_true now next p.1 in
          let e = (bytes_eq-Decides a.todo b.todo).0 p.0 in
          let f = (bytes_eq-Decides (sets_of a.now.items) (sets_of b.now.items)).0 (sym s ∙ q.0) in
          let g = (bytes_eq-Decides a.next b.next).0 q.1 in
          ap (λ x. form x (sets_of a.now.items) a.next) e ∙ ap₂ (λ y z. form b.todo y z) f g,
      λ e. and_intro todo (now && next) ((bytes_eq-Decides a.todo b.todo).1 (ap (λ (n : NodeForm). n.todo) e))
          (and_intro now next (s ∙ (bytes_eq-Decides (sets_of a.now.items) (sets_of b.now.items)).1 (ap (λ (n : NodeForm). n.now) e)) ((bytes_eq-Decides a.next b.next).1 (ap (λ (n : NodeForm). n.next) e))),
    )
