-- Laps, and that what they served is on the loop that they close.
use Rattle.std.proofs.Common.{◌≡◌, ℕ, zero, suc, ◌+◌, ◌-◌, ◌<◌, List, [], ◌∷◌, length, get_or, set, Bool, sym, ap, subst, ◌∙◌, inl, inr, arith, length-set, get_or-set_same, get_or-set_other}
use Rattle.std.proofs.lemmas.Bool.{cases_eq}
use Rattle.tableau_rules.specs.declared.edges.Edges.{Edges}
use Rattle.lasso_builder.specs.PlaceWalks.{IsServed, Leg, Lap, IsLapped, unbegun}
use Rattle.lasso_builder.proofs.Legs.{extends_both, served_more, served_sooner}

pub lap_leg : (links : List Edges) (carrying fulfilling : ℕ → ℕ → Bool) (e : ℕ) (alive : List Bool) (old mid new : List ℕ) → Lap links carrying fulfilling e alive old mid
    → Leg links carrying fulfilling e alive mid new → Lap links carrying fulfilling (e + 1) alive old new
lap_leg links carrying fulfilling e alive old mid new lap leg =
    let m = lap.more in
    let x = leg.extends.longer in
    record {
      walk = leg.walk;
      extends = extends_both old mid new lap.extends leg.extends;
      more = omega arith;
      served = λ d de. elim (cases_eq d e) [
        | inl q ↦ subst (λ z. IsServed links carrying fulfilling z new (length old - 1)) (sym q) (served_sooner links carrying fulfilling e new (length mid - 1) (length old - 1) (omega arith) leg.served)
        | inr q ↦ served_more links carrying fulfilling d mid new (length old - 1) leg.extends (lap.served d (omega arith))
      ];
    }

-- ---- laps
pub unbegun_less : (begun : List ℕ) (k x : ℕ) → k < length begun → get_or begun k 0 ≡ 0 → 0 < x → unbegun (set begun k x) < unbegun begun
unbegun_less [] k x h z p = absurd (omega arith)
unbegun_less (y ∷ begun) k zero h z p = absurd (omega arith)
unbegun_less (zero ∷ begun) zero (suc x) h z p = omega arith
unbegun_less (suc y ∷ begun) zero (suc x) h z p = absurd (omega arith)
unbegun_less (zero ∷ begun) (suc k) (suc x) h z p = let r = unbegun_less begun k (suc x) (omega arith) z p in omega (arith, r)
unbegun_less (suc y ∷ begun) (suc k) (suc x) h z p = unbegun_less begun k (suc x) (omega arith) z p

module _ (links : List Edges) (carrying fulfilling : ℕ → ℕ → Bool) (untils : ℕ) (alive : List Bool) where
  -- what is known of a place at which a lap began when the walk was this long
  abbrev IsLap : List ℕ → ℕ → ℕ → Type 0
  IsLap walk p long = (long < length walk) × (get_or walk (long - 1) 0 ≡ p) × ((e : ℕ) → e < untils → IsServed links carrying fulfilling e walk (long - 1))

  pub lapped_more : (begun old new : List ℕ) (last : ℕ) → IsLapped links carrying fulfilling untils alive begun old → get_or old (length old - 1) 0 ≡ last → last < length links
      → Lap links carrying fulfilling untils alive old new → IsLapped links carrying fulfilling untils alive (set begun last (length old)) new
  lapped_more begun old new last b is inside lap =
      let size = b.size in
      let m = lap.more in
      let some = b.is.some in
      let same = lap.extends.same in
      let here_is : get_or (set begun last (length old)) last 0 ≡ length old = get_or-set_same begun last (length old) 0 (omega (arith, size, inside)) in
      record {
        is = lap.walk;
        size = length-set begun last (length old) ∙ size;
        laps = λ p pl h. elim (cases_eq p last) [
          | inl q ↦
              let v : get_or (set begun last (length old)) p 0 ≡ length old = ap (λ z. get_or (set begun last (length old)) z 0) q ∙ here_is in
              subst (IsLap new p) (sym v) (m, same (length old - 1) (omega (arith, some)) ∙ is ∙ sym q, lap.served)
          | inr q ↦
              let v : get_or (set begun last (length old)) p 0 ≡ get_or begun p 0 = get_or-set_other begun last p (length old) 0 q in
              let a = b.laps p pl (omega (arith, v, h)) in
              let a0 = a.0 in
              subst (IsLap new p) (sym v)
              (omega (arith, a0, m), same (get_or begun p 0 - 1) (omega (arith, a0)) ∙ a.1, λ e el. served_more links carrying fulfilling e old new (get_or begun p 0 - 1) lap.extends (a.2 e el))
        ];
      }
