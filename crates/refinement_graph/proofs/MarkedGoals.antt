-- What links that are held do to the marks of goals, and that marks which are closed under these links are those of the assured goals.
use Rattle.std.proofs.Common.{◌≡◌, ◌↔◌, ℕ, zero, suc, ◌+◌, ◌<◌, ◌≤◌, Bool, true, false, List, [], ◌∷◌, ◌++◌, length, map, set, get_or, Option, Some, None, refl, sym, ap, subst, ◌∙◌, inl, inr, ⊎_elim, arith}
use Rattle.std.specs.Prelude.{cond, slice_index_or}
use Rattle.std.proofs.lemmas.Bool.{and_parts, and_from, cond-true, cases_eq, true≢false, false≢true}
use Rattle.std.proofs.lemmas.List.{length_push, get_or_push, get_or_append_left}
use Rattle.std.proofs.lemmas.List.Elements.{All-contains, All-contains_itself}
use Rattle.std.proofs.lemmas.List.Sums.{AllPass-from_list_all, list_all-from_AllPass}
use Rattle.goal_model.specs.declared.pattern.PatternKind.{PatternKind}
use Rattle.goal_model.specs.Models.{GoalForm, LinkForm, refine, obstruct, conflict, operationalise, assign, ModelForm, LinkIsOf}
use Rattle.goal_model.specs.Items.{no_goal}
use Rattle.goal_model.specs.Marking.{IsMarked, unmarked}
use Rattle.goal_model.proofs.ReachMarks.{marks_one}
use Rattle.refinement_graph.specs.Assurance.{first_item, link_at, IsHeld, IsAssured, AreAssured, is_expected, is_operationalised, is_refined}
use Rattle.refinement_graph.specs.Marking.{both_hold, AreHeld, AreHeldBelow, HasMarks, are_marked, supported, MarksSupported, AreSound, IsClosedBelow, IsRoundBelow, IsRound}

-- the goals of a link of a model have marks where each goal has one
pub marks_of_link : (m : ModelForm) (link : LinkForm) → LinkIsOf m link → HasMarks (length m.goals) link
marks_of_link m (refine s g subgoals pattern) is = is
marks_of_link m (operationalise s g requirements exact) is = is.0
marks_of_link m (obstruct s g obstacles) is = tt
marks_of_link m (conflict s x goals boundary) is = tt
marks_of_link m (assign s g a) is = tt

-- the goal that a link supports has a mark
pub supported_below : (n : ℕ) (marks : List Bool) (link : LinkForm) (goal : ℕ) → HasMarks n link → supported marks link ≡ Some goal → goal < n
supported_below n marks (refine s p subgoals pattern) goal has e = of_parent (are_marked marks subgoals) e
  where
    of_parent : (b : Bool) → cond b (Some p) None ≡ Some goal → goal < n
    of_parent true is = let same : p ≡ goal = cc in omega (arith, has.0, same)
    of_parent false is = cc
supported_below n marks (operationalise s h requirements exact) goal has e = let same : h ≡ goal = cc in omega (arith, has, same)
supported_below n marks (obstruct s h obstacles) goal has e = cc
supported_below n marks (conflict s x goals boundary) goal has e = cc
supported_below n marks (assign s h a) goal has e = cc

-- the goal that a link supports gets a mark
pub marks_goal : (link : LinkForm) (marks : List Bool) (goal : ℕ) → goal < length marks → supported marks link ≡ Some goal → get_or marks goal false ≡ false → MarksSupported link marks (set marks goal true) true
marks_goal link marks goal inside is unset =
    let one = marks_one marks [] goal inside unset in
    record {
      size = one.size;
      kept = one.kept;
      only = λ g marked. ⊎_elim (λ before. inl before) (λ same. inr (is ∙ ap (λ x. Some x) (sym same))) (one.only g marked);
      done = λ g gives. one.all g (goal_same g (sym gives ∙ is));
      fewer = λ new. omega (arith, one.fewer);
      same = λ old. absurd (true≢false old);
    }
  where
    goal_same : (g : ℕ) → Some g ≡ Some goal → g ≡ goal
    goal_same g e = cc

-- the marks at first are those of the goals that are expected
pub expected_marked : (goals : List GoalForm) (marks : List Bool) (g : ℕ) → marks ≡ map (λ x. x.is_expected) goals → IsMarked marks g ↔ ((g < length goals) × ((slice_index_or goals g no_goal).is_expected ≡ true))
expected_marked goals marks g are = subst (λ ms. IsMarked ms g ↔ ((g < length goals) × ((slice_index_or goals g no_goal).is_expected ≡ true))) (sym are) (at goals g)
  where
    at : (xs : List GoalForm) (k : ℕ) → IsMarked (map (λ x. x.is_expected) xs) k ↔ ((k < length xs) × ((slice_index_or xs k no_goal).is_expected ≡ true))
    at [] k = (λ e. absurd (false≢true e), λ h. absurd (omega (arith, h.0)))
    at (x ∷ xs) zero = (λ e. (omega arith, e), λ h. h.1)
    at (x ∷ xs) (suc k) = (λ e. let h = (at xs k).0 e in (omega (arith, h.0), h.1), λ h. (at xs k).1 (omega (arith, h.0), h.1))

module _ (m : ModelForm) (holds : List Bool) where
  -- what is known of each link is kept as the next one is added
  pub held_more : (n : ℕ) (held : List Bool) (b : Bool) → b ≡ both_hold holds (first_item m n) → AreHeldBelow m holds n held → AreHeldBelow m holds (n + 1) (held ++ b ∷ [])
  held_more n held b is below = record {
    count = omega (arith, below.count, length_push held b);
    each = λ l inside. ⊎_elim
        (λ (same : l ≡ n). get_or_push held b false l (below.count ∙ sym same) ∙ is ∙ ap (λ k. both_hold holds (first_item m k)) (sym same))
        (λ other. get_or_append_left held (b ∷ []) false l (omega (arith, inside, other, below.count)) ∙ below.each l (omega (arith, inside, other)))
        (cases_eq l n);
  }

  -- a link is held where its first two items hold
  held_of : (held : List Bool) (l : ℕ) → AreHeld m holds held → l < length m.links → IsMarked held l → IsHeld m holds l
  held_of held l are inside marked =
      let both = and_parts _ _ (sym (are.each l inside) ∙ marked) in
      record { inside = inside; complete = both.0; consistent = both.1 }

  -- the first two items of a link that is held hold
  marked_of : (held : List Bool) (l : ℕ) → AreHeld m holds held → IsHeld m holds l → IsMarked held l
  marked_of held l are is = are.each l is.inside ∙ and_from _ _ is.complete is.consistent

  -- a link that is held supports only goals that are assured, if the marks are sound
  supported_assured : (marks : List Bool) (l g : ℕ) → AreSound m holds marks → IsHeld m holds l → supported marks (link_at m l) ≡ Some g → IsAssured m holds g
  supported_assured marks l g sound held gives = by_link (link_at m l) refl gives
    where
      by_marks : (s p : ℕ) (subgoals : List ℕ) (pattern : Option PatternKind) (b : Bool) → link_at m l ≡ refine s p subgoals pattern → are_marked marks subgoals ≡ b → cond b (Some p) None ≡ Some g → IsAssured m holds g
      by_marks s p subgoals pattern true is all e =
          let same : p ≡ g = cc in
          let each = AllPass-from_list_all (λ h. slice_index_or marks h false) subgoals all in
          subst (IsAssured m holds) same
          (is_refined l s p subgoals pattern held is (λ h within. sound h (All-contains (λ x. IsMarked marks x) subgoals h each within)))
      by_marks s p subgoals pattern false is all e = cc

      by_link : (link : LinkForm) → link_at m l ≡ link → supported marks link ≡ Some g → IsAssured m holds g
      by_link (refine s p subgoals pattern) is e = by_marks s p subgoals pattern (are_marked marks subgoals) is refl e
      by_link (operationalise s h requirements exact) is e =
          let same : h ≡ g = cc in
          subst (IsAssured m holds) same (is_operationalised l s h requirements exact held is)
      by_link (obstruct s h obstacles) is e = cc
      by_link (conflict s x goals boundary) is e = cc
      by_link (assign s h a) is e = cc

  -- marks that are closed under the links that are held have each goal that is assured
  assured_marked : (held marks : List Bool) → AreHeld m holds held → IsClosedBelow m held (length m.links) marks
      → ((g : ℕ) → g < length m.goals → (slice_index_or m.goals g no_goal).is_expected ≡ true → IsMarked marks g)
      → (g : ℕ) → IsAssured m holds g → IsMarked marks g
  assured_marked held marks are closed begun g (is_expected h inside expected) = begun h inside expected
  assured_marked held marks are closed begun g (is_operationalised l s h requirements exact is_held is) =
      closed l h is_held.inside (marked_of held l are is_held) (ap (supported marks) is)
  assured_marked held marks are closed begun g (is_refined l s h subgoals pattern is_held is assured) =
      let all = list_all-from_AllPass (λ x. slice_index_or marks x false) subgoals (λ k e o. assured_marked held marks are closed begun (get_or subgoals k e) (assured (get_or subgoals k e) (All-contains_itself subgoals k e o))) in
      closed l h is_held.inside (marked_of held l are is_held) (ap (supported marks) is ∙ cond-true (are_marked marks subgoals) (Some h) None all)

module _ (m : ModelForm) (held : List Bool) where
  -- a link that is not held, or whose goal is marked, changes nothing
  pub round_same : (n : ℕ) (a b : List Bool) (new : Bool) → (IsMarked held n → (g : ℕ) → supported b (link_at m n) ≡ Some g → IsMarked b g)
      → IsRoundBelow m held n a b new → IsRoundBelow m held (n + 1) a b new
  round_same n a b new done round = record {
    size = round.size;
    kept = round.kept;
    sound = round.sound;
    fewer = round.fewer;
    same = round.same;
    closed = λ old l g inside marked gives. ⊎_elim
        (λ same. done (subst (IsMarked held) same marked) g (subst (λ k. supported b (link_at m k) ≡ Some g) same gives))
        (λ other. round.closed old l g (omega (arith, inside, other)) marked gives)
        (cases_eq l n);
  }

  -- the goal of a link that is held gets its mark
  pub round_new : (n : ℕ) (a b c : List Bool) (new : Bool) → n < length m.links → IsMarked held n → MarksSupported (link_at m n) b c true
      → IsRoundBelow m held n a b new → IsRoundBelow m held (n + 1) a c true
  round_new n a b c new inside marked step round = record {
    size = step.size ∙ round.size;
    kept = λ g before. step.kept g (round.kept g before);
    sound = λ holds are sound g after. ⊎_elim
        (λ before. round.sound holds are sound g before)
        (λ gives. supported_assured m holds b n g (round.sound holds are sound) (held_of m holds held n are inside marked) gives)
        (step.only g after);
    fewer = λ is. omega (arith, step.fewer refl, no_more new refl);
    same = λ old. absurd (true≢false old);
    closed = λ old. absurd (true≢false old);
  }
    where
      no_more : (is_new : Bool) → new ≡ is_new → unmarked b ≤ unmarked a
      no_more true is = omega (arith, round.fewer is)
      no_more false is = omega (arith, ap unmarked (round.same is))

-- a round in which no mark is new leaves the marks of the goals that are assured
pub round_ended : (m : ModelForm) (holds held before after : List Bool) → AreHeld m holds held → length before ≡ length m.goals
    → ((g : ℕ) → g < length m.goals → (slice_index_or m.goals g no_goal).is_expected ≡ true → IsMarked before g)
    → AreSound m holds before → IsRound m held before after false → AreAssured m holds after
round_ended m holds held before after are size begun sound round = record {
  count = round.size ∙ size;
  marked = λ g inside. (
    round.sound holds are sound g,
    assured_marked m holds held after are (round.closed refl) (λ h within expected. round.kept h (begun h within expected)) g,
  );
}
