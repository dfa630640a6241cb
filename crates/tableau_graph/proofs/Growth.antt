-- Nodes that are reached, while an exploration puts more of them.
use Rattle.std.proofs.Common.{◌≡◌, ◌≢◌, ℕ, zero, suc, ◌≤◌, List, [], ◌∷◌, ◌++◌, length, take, map, Some, None, Option, sym, ap, subst, ◌∙◌, inl, inr}
use Rattle.std.specs.Prelude.{slice_get, Result, Ok, Err, IfOk}
use Rattle.std.specs.List.{AllZip}
use Rattle.std.proofs.lemmas.Option.{get_or_from_slice_get, slice_get_within}
use Rattle.std.proofs.lemmas.List.{take_all}
use Rattle.std.proofs.lemmas.List.Elements.{All-push}
use Rattle.std.proofs.lemmas.List.Quantifiers.{all_pairs_push}
use Rattle.bound_unfolding.specs.CoreForm.{CoreForm}
use Rattle.formula_table.specs.Closures.{closure_of}
use Rattle.tableau_rules.specs.declared.node.Node.{Node}
use Rattle.tableau_rules.specs.Nodes.{NodeForm}
use Rattle.tableau_rules.specs.NodeView.{node_of, AreNumbersBelow}
use Rattle.tableau_rules.specs.Graphs.{IsReached, kid, AreReached}
use Rattle.tableau_rules.proofs.QueryNodes.{reached_of_query}
use Rattle.tableau_rules.proofs.Sizes.{other_default, contains_got}
use Rattle.tableau_graph.specs.Places.{kids_in, AreWithin, Keeps, PlacesHave, IsPut, IsPlaced, HasKid, IsKidPlace, HasKids}
use Rattle.tableau_graph.proofs.Puts.{got_form}

-- ---- lists
pub got_front : {X : Type 0} (xs ys : List X) (k : ℕ) (x : X) → slice_get xs k ≡ Some x → slice_get (xs ++ ys) k ≡ Some x
got_front [] ys k x h = absurd (cc)
got_front (z ∷ zs) ys zero x h = h
got_front (z ∷ zs) ys (suc k) x h = got_front zs ys k x h

pub same_some : {X : Type 0} (x y : X) (o : Option X) → o ≡ Some x → o ≡ Some y → x ≡ y
same_some x y o e f = cc

take_more : {X : Type 0} (xs : List X) (k : ℕ) (x : X) → slice_get xs k ≡ Some x → take (suc k) xs ≡ take k xs ++ x ∷ []
take_more [] k x h = absurd (cc)
take_more (y ∷ ys) zero x h = let e : y ≡ x = cc in ap (λ z. z ∷ []) e
take_more (y ∷ ys) (suc k) x h = ap (λ zs. y ∷ zs) (take_more ys k x h)

zip_push : {X Y : Type 0} (R : X → Y → Type 0) (xs : List X) (ys : List Y) (x : X) (y : Y) → AllZip R xs ys → R x y → AllZip R (xs ++ x ∷ []) (ys ++ y ∷ [])
zip_push R [] [] x y h r = (r, tt)
zip_push R (u ∷ us) (v ∷ vs) x y h r = (h.0, zip_push R us vs x y h.1 r)
zip_push R [] (v ∷ vs) x y h r = absurd h
zip_push R (u ∷ us) [] x y h r = absurd h

pub zip_map : {X Y : Type 0} (P Q : X → Y → Type 0) (xs : List X) (ys : List Y) → ((x : X) (y : Y) → P x y → Q x y) → AllZip P xs ys → AllZip Q xs ys
zip_map P Q [] [] f h = tt
zip_map P Q (x ∷ xs) (y ∷ ys) f h = (f x y h.0, zip_map P Q xs ys f h.1)
zip_map P Q [] (y ∷ ys) f h = absurd h
zip_map P Q (x ∷ xs) [] f h = absurd h

-- ---- places
pub keeps_all : (nodes : List NodeForm) → Keeps nodes nodes
keeps_all nodes = record { keeps = λ k n h. h }

pub keeps_more : (old new more : List NodeForm) → Keeps old new → Keeps new more → Keeps old more
keeps_more old new more a b = record { keeps = λ k n h. b.keeps k n (a.keeps k n h) }

keeps_put : (old new : List NodeForm) (n : NodeForm) → IsPut old new n → Keeps old new
keeps_put old new n p = elim p [
  | inl e ↦ subst (Keeps old) (sym e) (keeps_all old)
  | inr e ↦ subst (Keeps old) (sym e.0) (record { keeps = λ k m h. got_front old (n ∷ []) k m h })
]

pub have_more : (old new : List NodeForm) (places : List ℕ) (ns : List NodeForm) → Keeps old new → PlacesHave old places ns → PlacesHave new places ns
have_more old new places ns a h = zip_map (λ p n. slice_get old p ≡ Some n) (λ p n. slice_get new p ≡ Some n) places ns a.keeps h

module _ (sizes : List ℕ) (cores : List CoreForm) where
  reached_at : (nodes : List NodeForm) (k : ℕ) (n : NodeForm) → AreReached sizes cores nodes → slice_get nodes k ≡ Some n → IsReached sizes cores n
  reached_at nodes k n a h = subst (IsReached sizes cores) (get_or_from_slice_get nodes k n n h) (a.reached k n (slice_get_within nodes k n h))

  pub reached_put : (old new : List NodeForm) (n : NodeForm) → AreReached sizes cores old → IsReached sizes cores n → IsPut old new n → AreReached sizes cores new
  reached_put old new n a r p = elim p [
    | inl e ↦ subst (AreReached sizes cores) (sym e) a
    | inr e ↦ subst (AreReached sizes cores) (sym e.0) (record {
      distinct = all_pairs_push (λ m k. m ≢ k) old n a.distinct (λ k d l q. e.1 (k, l, other_default old k n d l ∙ q));
      reached = All-push (IsReached sizes cores) old n a.reached r;
    })
  ]

  -- the formulas of a node that has a place are numbers of the query
  pub below_at : (nodes : List Node) (k : ℕ) (x : Node) → AreReached sizes cores (map node_of nodes) → slice_get nodes k ≡ Some x → AreNumbersBelow (length (closure_of cores)) x.todo
  below_at nodes k x a h = (reached_of_query sizes cores (node_of x) (reached_at (map node_of nodes) k (node_of x) a (got_form nodes k x h))).todo_below

  module _ (budget : ℕ) where
    -- a kid that is put has a place, or the nodes are over the budget
    pub kid_placed : (old new : List NodeForm) (at which : ℕ) (n m : NodeForm) (place : Option ℕ) → AreWithin sizes cores budget old → slice_get old at ≡ Some n → slice_get (kids_in sizes cores n) which ≡ Some m
        → IsPlaced budget old new m place → IsKidPlace sizes cores budget old new at which place
    kid_placed old new at which n m place w h k p = go place p
      where
        reached : IsPut old new m → AreReached sizes cores new
        reached q = reached_put old new m w.are (kid n m (reached_at old at n w.are h) (contains_got (kids_in sizes cores n) which m k)) q

        go : (o : Option ℕ) → IsPlaced budget old new m o → IsKidPlace sizes cores budget old new at which o
        go None q = record { nodes = new; more = q.1; are = reached q.0 }
        go (Some p') q = record {
          within = record { are = reached q.0; few = q.1 };
          keeps = keeps_put old new m q.0;
          kid = λ n' h'. (m, subst (λ x. slice_get (kids_in sizes cores x) which ≡ Some m) (same_some n n' (slice_get old at) h h') k, q.2);
        }

    -- the kids of these numbers have places
    pub record Rowing (old new : List NodeForm) (at which : ℕ) (places : List ℕ) : Type 0 where
      pub within : AreWithin sizes cores budget new
      pub keeps : Keeps old new
      pub kids : (n : NodeForm) → slice_get old at ≡ Some n → PlacesHave new places (take which (kids_in sizes cores n))

    pub row_none : (nodes : List NodeForm) (at : ℕ) (places : List ℕ) → AreWithin sizes cores budget nodes → places ≡ [] → Rowing nodes nodes at 0 places
    row_none nodes at places w e = subst (Rowing nodes nodes at 0) (sym e) (record { within = w; keeps = keeps_all nodes; kids = λ n h. tt })

    pub row_more : (old new more : List NodeForm) (at which next place : ℕ) (places all : List ℕ) → next ≡ suc which → all ≡ places ++ place ∷ [] → Rowing old new at which places → HasKid sizes cores budget new more at which place
        → Rowing old more at next all
    row_more old new more at which next place places all e f r k =
        subst (λ w. Rowing old more at w all) (sym e) (subst (Rowing old more at (suc which)) (sym f) (record {
          within = k.within;
          keeps = keeps_more old new more r.keeps k.keeps;
          kids = λ n h.
              let m = k.kid n (r.keeps.keeps at n h) in
              subst (PlacesHave more (places ++ place ∷ [])) (sym (take_more (kids_in sizes cores n) which m.0 m.1))
              (zip_push (λ p x. slice_get more p ≡ Some x) places (take which (kids_in sizes cores n)) place m.0 (have_more new more places (take which (kids_in sizes cores n)) k.keeps (r.kids n h)) m.2);
        }))

    -- where all kids have places, that is the row
    pub row_all : (old new : List NodeForm) (at which : ℕ) (places : List ℕ) (x : NodeForm) → Rowing old new at which places → slice_get old at ≡ Some x → length (kids_in sizes cores x) ≤ which → HasKids sizes cores budget old new at places
    row_all old new at which places x r g l = record {
      within = r.within;
      keeps = r.keeps;
      kids = λ n h.
          let e = same_some x n (slice_get old at) g h in
          subst (PlacesHave new places) (take_all which (kids_in sizes cores n) (subst (λ y. length (kids_in sizes cores y) ≤ which) e l)) (r.kids n h);
    }

-- what follows from a result
pub if_ok : {X E : Type 0} (P Q : X → Type 0) (r : Result X E) → ((x : X) → P x → Q x) → IfOk r P → IfOk r Q
if_ok P Q (Ok x) f h = f x h
if_ok P Q (Err e) f h = tt
