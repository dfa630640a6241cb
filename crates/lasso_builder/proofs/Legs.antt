-- Walks that go on by one place, and legs that go down the levels.
use Rattle.std.proofs.Common.{◌≡◌, ℕ, ◌+◌, ◌-◌, ◌<◌, ◌≤◌, List, [], ◌∷◌, ◌++◌, length, get_or, Bool, true, refl, sym, ap, subst, ◌∙◌, inl, inr, arith, length-append, nat_lt}
use Rattle.std.proofs.lemmas.Bool.{cases_eq, and_parts}
use Rattle.std.proofs.lemmas.List.{get_or_append_left, get_or_at, get_or_default}
use Rattle.tableau_rules.specs.declared.edges.Edges.{Edges}
use Rattle.tableau_rules.specs.Links.{Among, IsHead, kids_at, InRange}
use Rattle.tableau_rules.specs.Levels.{Alive, alive_at, levelled_at}
use Rattle.lasso_builder.specs.PlaceWalks.{IsWalk, IsServed, FulfilsOn, Extends, Steps, Descends}
use Rattle.tableau_rules.proofs.PlaceTests.{below_is, each_at, head_among}

-- ---- the last place, as the code reads it
pub at_last : (walk : List ℕ) (x n : ℕ) → n ≡ length walk → 0 < length walk → x ≡ get_or walk (n - 1) x → get_or walk (length walk - 1) 0 ≡ x
at_last walk x n e some h = get_or_default walk (length walk - 1) 0 x (omega (arith, some)) ∙ ap (λ z. get_or walk (z - 1) x) (sym e) ∙ sym h

pub extends_self : (walk : List ℕ) → Extends walk walk
extends_self walk = record { longer = omega arith; same = λ k h. refl }

pub extends_one : (old new : List ℕ) (x : ℕ) → Extends old new → Extends old (new ++ x ∷ [])
extends_one old new x e =
    let l = e.longer in let n = length-append new (x ∷ []) in
    record { longer = omega (arith, l, n); same = λ k h. get_or_append_left new (x ∷ []) 0 k (omega (arith, l)) ∙ e.same k h }

pub extends_both : (a b c : List ℕ) → Extends a b → Extends b c → Extends a c
extends_both a b c x y =
    let l = x.longer in let m = y.longer in
    record { longer = omega arith; same = λ k h. y.same k (omega (arith, l, h)) ∙ x.same k h }

-- ---- what is served stays served
pub fulfils_more : (links : List Edges) (fulfilling : ℕ → Bool) (old new : List ℕ) (at : ℕ) → Extends old new → FulfilsOn links fulfilling old at → FulfilsOn links fulfilling new at
fulfils_more links fulfilling old new at x f =
    let l = x.longer in
    let m = f.more in
    let same = x.same at (omega (arith, m)) in
    record {
      more = omega (arith, l, m);
      can = ap fulfilling same ∙ f.can;
      first = subst (λ z. IsHead z (kids_at links (get_or new at 0))) (sym (x.same (at + 1) m)) (subst (λ z. IsHead (get_or old (at + 1) 0) (kids_at links z)) (sym same) f.first);
    }

pub served_more : (links : List Edges) (carrying fulfilling : ℕ → ℕ → Bool) (e : ℕ) (old new : List ℕ) (from : ℕ) → Extends old new
    → IsServed links carrying fulfilling e old from → IsServed links carrying fulfilling e new from
served_more links carrying fulfilling e old new from x s =
    let l = x.longer in let i = s.inside in
    record {
      at = s.at;
      after = s.after;
      inside = omega (arith, l, i);
      how = elim s.how [ inl c ↦ inl (ap (carrying e) (x.same s.at i) ∙ c) | inr f ↦ inr (fulfils_more links (fulfilling e) old new s.at x f) ];
    }

pub served_sooner : (links : List Edges) (carrying fulfilling : ℕ → ℕ → Bool) (e : ℕ) (walk : List ℕ) (from to : ℕ) → to ≤ from
    → IsServed links carrying fulfilling e walk from → IsServed links carrying fulfilling e walk to
served_sooner links carrying fulfilling e walk from to le s = let a = s.after in record { at = s.at; after = omega (arith, a, le); inside = s.inside; how = s.how }

-- ---- walks
pub walk_one : (links : List Edges) (alive : List Bool) (walk : List ℕ) (at x : ℕ) → InRange links → IsWalk links alive walk → get_or walk (length walk - 1) 0 ≡ at
    → Among x (kids_at links at) → Alive alive x → IsWalk links alive (walk ++ x ∷ [])
walk_one links alive walk at x range w last a ax =
    let n = length-append walk (x ∷ []) in
    let s = w.some in
    let inside : at < length links = subst (λ z. z < length links) last (w.living (length walk - 1) (omega (arith, s))).0 in
    let xl = each_at (λ p. p < length links) (kids_at links at) x (range at inside) a in
    record {
      some = omega (arith, n);
      starts = get_or_append_left walk (x ∷ []) 0 0 s ∙ w.starts;
      living = λ k h. elim (cases_eq k (length walk)) [
        | inl q ↦ subst (λ z. (z < length links) × Alive alive z) (sym (get_or_at walk x [] 0 k (sym q))) (xl, ax)
        | inr q ↦ let kl : k < length walk = omega (arith, n, h) in subst (λ z. (z < length links) × Alive alive z) (sym (get_or_append_left walk (x ∷ []) 0 k kl)) (w.living k kl)
      ];
      goes = λ k h. elim (cases_eq (k + 1) (length walk)) [
        | inl q ↦
            let kl : k < length walk = omega (arith, q) in
            let k1 : k ≡ length walk - 1 = omega (arith, q) in
            subst (λ z. Among z (kids_at links (get_or (walk ++ x ∷ []) k 0))) (sym (get_or_at walk x [] 0 (k + 1) (sym q)))
            (subst (λ z. Among x (kids_at links z)) (sym (get_or_append_left walk (x ∷ []) 0 k kl ∙ ap (λ z. get_or walk z 0) k1 ∙ last)) a)
        | inr q ↦
            let k1 : k + 1 < length walk = omega (arith, n, h) in
            subst (λ z. Among z (kids_at links (get_or (walk ++ x ∷ []) k 0))) (sym (get_or_append_left walk (x ∷ []) 0 (k + 1) k1))
            (subst (λ z. Among (get_or walk (k + 1) 0) (kids_at links z)) (sym (get_or_append_left walk (x ∷ []) 0 k (omega arith))) (w.goes k k1))
      ];
    }

pub last_living : (links : List Edges) (alive : List Bool) (walk : List ℕ) (at : ℕ) → IsWalk links alive walk → get_or walk (length walk - 1) 0 ≡ at → (at < length links) × Alive alive at
last_living links alive walk at w last = let s = w.some in subst (λ z. (z < length links) × Alive alive z) last (w.living (length walk - 1) (omega (arith, s)))

pub steps_one : (links : List Edges) (alive : List Bool) (walk : List ℕ) (at x : ℕ) → InRange links → IsWalk links alive walk → get_or walk (length walk - 1) 0 ≡ at
    → Among x (kids_at links at) → Alive alive x → Steps links alive walk (walk ++ x ∷ [])
steps_one links alive walk at x range w last a ax =
    let n = length-append walk (x ∷ []) in
    record { walk = walk_one links alive walk at x range w last a ax; extends = extends_one walk walk x (extends_self walk); more = omega (arith, n) }

-- ---- on the way down the levels
pub record IsUnderway (links : List Edges) (alive : List Bool) (levels old new : List ℕ) (at : ℕ) : Type 0 where
  pub walk : IsWalk links alive new
  pub extends : Extends old new
  pub last : get_or new (length new - 1) 0 ≡ at
  pub level : get_or levels at 0 < length links

module _ (links : List Edges) (fulfilling : ℕ → Bool) (alive : List Bool) (levels old new : List ℕ) (at x : ℕ) (range : InRange links) (u : IsUnderway links alive levels old new at) where
  pub descended : fulfilling at ≡ true → IsHead x (kids_at links at) → Alive alive x → Descends links fulfilling alive old (new ++ x ∷ [])
  descended f h a =
      let n = length-append new (x ∷ []) in
      let l = u.extends.longer in
      let s = u.walk.some in
      let q1 : length new - 1 < length new = omega (arith, s) in
      let q2 : length new - 1 + 1 ≡ length new = omega (arith, s) in
      let here : get_or (new ++ x ∷ []) (length new - 1) 0 ≡ at = get_or_append_left new (x ∷ []) 0 (length new - 1) q1 ∙ u.last in
      record {
        walk = walk_one links alive new at x range u.walk u.last (head_among (kids_at links at) x h) a;
        extends = extends_one old new x u.extends;
        at = length new - 1;
        after = omega (arith, l);
        fulfilled = record {
          more = omega (arith, n, q2);
          can = ap fulfilling here ∙ f;
          first = subst (λ z. IsHead z (kids_at links (get_or (new ++ x ∷ []) (length new - 1) 0))) (sym (get_or_at new x [] 0 (length new - 1 + 1) (sym q2))) (subst (λ z. IsHead x (kids_at links z)) (sym here) h);
        };
      }

  pub down_one : Among x (kids_at links at) → levelled_at alive levels (get_or levels at 0) x ≡ true → IsUnderway links alive levels old (new ++ x ∷ []) x
  down_one am h =
      let p = and_parts (alive_at alive x) (nat_lt (get_or levels x 0) (get_or levels at 0)) h in
      let b = below_is (get_or levels x 0) (get_or levels at 0) p.1 in
      let l = u.level in
      let n = length-append new (x ∷ []) in
      record {
        walk = walk_one links alive new at x range u.walk u.last am p.0;
        extends = extends_one old new x u.extends;
        last = get_or_at new x [] 0 (length (new ++ x ∷ []) - 1) (omega (arith, n));
        level = omega (arith, b, l);
      }
