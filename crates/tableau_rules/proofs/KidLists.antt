-- The kids of a node, over numbers of a closure in which no formula stands twice.
use Rattle.std.proofs.Common.{◌≡◌, ◌≢◌, ◌↔◌, ℕ, zero, suc, ◌<◌, false, List, [], ◌∷◌, IsTrue, length, map, slice_get, Option, Some, None, refl, sym, ap, ap₂, ◌∙◌, subst, true≢false, arith}
use Rattle.bound_unfolding.specs.CoreForm.{CoreForm}
use Rattle.formula_table.specs.Closures.{is_same, formula_at, number_in}
use Rattle.formula_table.specs.Distinct.{IsMember, IsDistinct}
use Rattle.formula_table.proofs.Members.{same_eq, same_self, member_at}
use Rattle.tableau_rules.specs.declared.effect.Effect.{Effect}
use Rattle.tableau_rules.specs.declared.effect.Effect.TheVariants.{Nothing, Adds, AddsBoth, Waits, Later, Meets}
use Rattle.tableau_rules.specs.declared.effect.Turn.{Turn}
use Rattle.tableau_rules.specs.declared.effect.Turn.TheVariants.{Clash, Step, One, Two, FulfilOnly, WaitOnly, FulfilOrWait}
use Rattle.tableau_rules.specs.Sets.{with_number, without_number}
use Rattle.tableau_rules.specs.Turns.{change_of, rule_in, effects_of, EffectBelow, TurnBelow}
use Rattle.tableau_rules.specs.Nodes.{NodeForm, chosen, node_rule, kid, stepped, kids_by, kids}
use Rattle.tableau_rules.specs.KidsView.{kid_by, count_of}
use Rattle.formula_table.proofs.Tests.{cond_case}
use Rattle.tableau_rules.proofs.KidMeetings.{mk}

-- ---- a formula has the number at which it stands
pub number_is : (closure : List CoreForm) → IsDistinct closure → (f : ℕ) → f < length closure → number_in closure (formula_at closure f) ≡ f
number_is [] o f l = absurd (omega arith)
number_is (d ∷ ds) o zero l =
    cond_case (λ p. p ≡ 0) (is_same d d) _ _ (λ _. refl) (λ f. absurd (true≢false (sym (same_self d) ∙ f)))
number_is (d ∷ ds) o (suc n) l =
    let c = formula_at ds n in
    cond_case (λ p. p ≡ suc n) (is_same c d) _ _
    (λ e. absurd (o.0 (subst (IsMember ds) (same_eq c d e) (member_at ds n (omega arith)))))
    (λ _. ap suc (number_is ds o.1 n (omega arith)))

-- ---- elements of a mapped list
get_map : {X Y : Type 0} (f : X → Y) (xs : List X) (k : ℕ) (c : X) → slice_get xs k ≡ Some c → slice_get (map f xs) k ≡ Some (f c)
get_map f [] k c h = absurd (cc)
get_map f (x ∷ xs) zero c h = let q : x ≡ c = cc in ap (λ z. Some (f z)) q
get_map f (x ∷ xs) (suc k) c h = get_map f xs k c h

get_map_none : {X Y : Type 0} (f : X → Y) (xs : List X) (k : ℕ) → slice_get xs k ≡ None → slice_get (map f xs) k ≡ None
get_map_none f [] k h = refl
get_map_none f (x ∷ xs) zero h = absurd (cc)
get_map_none f (x ∷ xs) (suc k) h = get_map_none f xs k h

-- a test for an element, where the element is known and where there is none
some_iff : {X : Type 0} (P : Type 0) (o : Option X) (a b : X) → o ≡ Some a → P ↔ (b ≡ a) → P ↔ (o ≡ Some b)
some_iff {X = X} P o a b e f = (λ p. let q : b ≡ a = f.0 p in e ∙ ap Some (sym q), λ h. f.1 (back a b (sym h ∙ e)))
  where
    back : (a b : X) → Some b ≡ Some a → b ≡ a
    back a b h = cc

none_iff : {X : Type 0} (o : Option X) (b : X) → o ≡ None → IsTrue false ↔ (o ≡ Some b)
none_iff {X = X} o b e = (λ h. absurd (true≢false (sym h)), λ h. absurd (back b (sym e ∙ h)))
  where
    back : (b : X) → None ≡ Some b → ⊥
    back b h = cc

pub iff_mapped : {X Y : Type 0} (P : Type 0) (f : X → Y) (xs : List X) (k : ℕ) (c : X) (b : Y) → slice_get xs k ≡ Some c → P ↔ (b ≡ f c) → P ↔ (slice_get (map f xs) k ≡ Some b)
iff_mapped P f xs k c b h e = some_iff P (slice_get (map f xs) k) (f c) b (get_map f xs k c h) e

pub iff_none : {X Y : Type 0} (f : X → Y) (xs : List X) (k : ℕ) (b : Y) → slice_get xs k ≡ None → IsTrue false ↔ (slice_get (map f xs) k ≡ Some b)
iff_none f xs k b h = none_iff (slice_get (map f xs) k) b (get_map_none f xs k h)

-- ---- where a node has a turn over numbers
-- the kids of a turn
abbrev kids_of : List ℕ → NodeForm → ℕ → Turn → List NodeForm
kids_of full n g Step = stepped full n ∷ []
kids_of full n g turn = map (kid_by n g) (effects_of turn)

not_step : (full : List ℕ) (n : NodeForm) (g : ℕ) (turn : Turn) → turn ≢ Step → kids_of full n g turn ≡ map (kid_by n g) (effects_of turn)
not_step full n g Clash h = refl
not_step full n g Step h = absurd (h refl)
not_step full n g (One e) h = refl
not_step full n g (Two e f) h = refl
not_step full n g (FulfilOnly e) h = refl
not_step full n g (WaitOnly e) h = refl
not_step full n g (FulfilOrWait e f) h = refl

module _ (closure : List CoreForm) (distinct : IsDistinct closure) where
  -- the kid by numbers
  pub kid_is : (n : NodeForm) (g : ℕ) (e : Effect) → EffectBelow (length closure) e → kid closure n g (change_of closure e) ≡ kid_by n g e
  kid_is n g Nothing b = refl
  kid_is n g (Adds a) b = ap (λ (x : ℕ). mk (with_number x (without_number g n.todo)) n.now n.next) (number_is closure distinct a.0 b)
  kid_is n g (AddsBoth a c) b =
      ap₂ (λ (x y : ℕ). mk (with_number y (with_number x (without_number g n.todo))) n.now n.next)
      (number_is closure distinct a.0 b.0) (number_is closure distinct c.0 b.1)
  kid_is n g (Waits a later) b =
      ap₂ (λ (x y : ℕ). mk (with_number x (without_number g n.todo)) n.now (with_number y n.next))
      (number_is closure distinct a.0 b.0) (number_is closure distinct later.0 b.1)
  kid_is n g (Later a) b = ap (λ (x : ℕ). mk (without_number g n.todo) n.now (with_number x n.next)) (number_is closure distinct a.0 b)
  kid_is n g (Meets x set) b = refl

  module _ (full : List ℕ) (n : NodeForm) (turn : Turn) (below : TurnBelow (length closure) turn) (rule : rule_in closure turn ≡ node_rule closure n) where
    abbrev g : ℕ
    g = chosen closure n.todo

    kids_in : (turn : Turn) → TurnBelow (length closure) turn → kids_by closure full n (rule_in closure turn) ≡ kids_of full n g turn
    kids_in Clash b = refl
    kids_in Step b = refl
    kids_in (One e) b = ap (λ k. k ∷ []) (kid_is n g e b)
    kids_in (Two e f) b = ap₂ (λ k m. k ∷ m ∷ []) (kid_is n g e b.0) (kid_is n g f b.1)
    kids_in (FulfilOnly e) b = ap (λ k. k ∷ []) (kid_is n g e b)
    kids_in (WaitOnly e) b = ap (λ k. k ∷ []) (kid_is n g e b)
    kids_in (FulfilOrWait e f) b = ap₂ (λ k m. k ∷ m ∷ []) (kid_is n g e b.0) (kid_is n g f b.1)

    kids_are : kids closure full n ≡ kids_of full n g turn
    kids_are = ap (kids_by closure full n) (sym rule) ∙ kids_in turn below

    pub kids_step : turn ≡ Step → kids closure full n ≡ stepped full n ∷ []
    kids_step h = kids_are ∙ ap (kids_of full n g) h

    pub kids_made : (f : ℕ) → f ≡ chosen closure n.todo → turn ≢ Step → kids closure full n ≡ map (kid_by n f) (effects_of turn)
    kids_made f q h = kids_are ∙ (not_step full n g turn h ∙ ap (λ x. map (kid_by n x) (effects_of turn)) (sym q))

    -- the kid of an effect; and where no effect has this number, a step's
    pub kid_made : (f k : ℕ) (e : Effect) → f ≡ chosen closure n.todo → slice_get (effects_of turn) k ≡ Some e → slice_get (kids closure full n) k ≡ Some (kid_by n f e)
    kid_made f k e q h =
        ap (λ ks. slice_get ks k) (kids_made f q (λ s. none (sym (ap (λ x. slice_get (effects_of x) k) s) ∙ h)))
        ∙ get_map (kid_by n f) (effects_of turn) k e h
      where
        none : None ≡ Some e → ⊥
        none x = cc

    pub kid_stepped : (k : ℕ) → k < length (kids closure full n) → slice_get (effects_of turn) k ≡ None → slice_get (kids closure full n) k ≡ Some (stepped full n)
    kid_stepped k l h = ap (λ ks. slice_get ks k) kids_are ∙ go turn k (subst (λ ks. k < length ks) kids_are l) h
      where
        past : (es : List Effect) (j : ℕ) → j < length (map (kid_by n g) es) → slice_get es j ≡ None → ⊥
        past [] j l h = omega arith
        past (e ∷ es) zero l h = cc
        past (e ∷ es) (suc j) l h = past es j (omega arith) h

        go : (turn : Turn) (k : ℕ) → k < length (kids_of full n g turn) → slice_get (effects_of turn) k ≡ None → slice_get (kids_of full n g turn) k ≡ Some (stepped full n)
        go Clash k l h = absurd (omega arith)
        go Step zero l h = refl
        go Step (suc k) l h = absurd (omega arith)
        go (One e) k l h = absurd (past (e ∷ []) k l h)
        go (Two e f) k l h = absurd (past (e ∷ f ∷ []) k l h)
        go (FulfilOnly e) k l h = absurd (past (e ∷ []) k l h)
        go (WaitOnly e) k l h = absurd (past (e ∷ []) k l h)
        go (FulfilOrWait e f) k l h = absurd (past (e ∷ f ∷ []) k l h)

    pub kids_count : count_of turn ≡ length (kids closure full n)
    kids_count = go turn ∙ sym (ap length kids_are)
      where
        go : (turn : Turn) → count_of turn ≡ length (kids_of full n g turn)
        go Clash = refl
        go Step = refl
        go (One e) = refl
        go (Two e f) = refl
        go (FulfilOnly e) = refl
        go (WaitOnly e) = refl
        go (FulfilOrWait e f) = refl
