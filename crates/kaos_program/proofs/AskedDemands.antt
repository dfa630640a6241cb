-- The queries of the demands that are asked, and the entries of all that is asked.
use Rattle.std.proofs.Common.{◌≡◌, ℕ, zero, suc, ◌+◌, ◌<◌, List, [], ◌∷◌, ◌++◌, map, length, get_or, take, refl, sym, ap, ◌∙◌, subst, arith}
use Rattle.std.specs.Prelude.{All}
use Rattle.std.specs.List.{AllZip}
use Rattle.std.proofs.lemmas.List.{take_more, append-nil}
use Rattle.std.proofs.lemmas.Grind.{flat_map-append}
use Rattle.std.proofs.lemmas.List.Elements.{All-nil, All-cons, All-head, All-tail}
use Rattle.temporal_logic.specs.Ltl.{Ltl}
use Rattle.temporal_logic.specs.Trees.{tree_of}
use Rattle.bound_unfolding.specs.CoreForm.{CoreForm}
use Rattle.tableau_rules.specs.declared.answer.Answer.{Answer}
use Rattle.tableau_rules.specs.declared.query.Query.{Query}
use Rattle.tableau_rules.specs.Answers.{IsValidAnswer}
use Rattle.tableau_rules.specs.QueryView.{cores_in}
use Rattle.goal_model.specs.declared.demand.Demand.{Demand}
use Rattle.goal_model.specs.declared.pattern.PatternKind.{PatternKind}
use Rattle.goal_model.specs.Models.{ModelForm, sizes_of}
use Rattle.goal_model.specs.Demands.{IsAnswerable}
use Rattle.verdict_report.specs.Reports.{Question, of_traces, of_agent}
use Rattle.kaos_program.specs.declared.asking.Asked.{Asked}
use Rattle.kaos_program.specs.declared.asking.Asked.TheVariants.{Demand as DemandAsked, Instance, Assignment}
use Rattle.kaos_program.specs.Asking.{IsAsked, demand_in, demands_in, pattern_in, patterns_in, query_asked}

-- demands of a list that has one more behind it
pub demands_more : (asked : List Asked) (k : ℕ) (one : Asked) → k < length asked → one ≡ get_or asked k one → demands_in (take (k + 1) asked) ≡ demands_in (take k asked) ++ demand_in one
demands_more asked k one inside at =
    ap demands_in (take_more asked k one inside ∙ ap (λ (x : Asked). take k asked ++ x ∷ []) (sym at)) ∙ demands_push (take k asked) one
  where
    demands_push : (xs : List Asked) (x : Asked) → demands_in (xs ++ x ∷ []) ≡ demands_in xs ++ demand_in x
    demands_push xs x = flat_map-append demand_in xs (x ∷ []) ∙ ap (λ (ds : List Demand). demands_in xs ++ ds) (append-nil (demand_in x))

-- and patterns
pub patterns_more : (asked : List Asked) (k : ℕ) (one : Asked) → k < length asked → one ≡ get_or asked k one → patterns_in (take (k + 1) asked) ≡ patterns_in (take k asked) ++ pattern_in one
patterns_more asked k one inside at =
    ap patterns_in (take_more asked k one inside ∙ ap (λ (x : Asked). take k asked ++ x ∷ []) (sym at)) ∙ patterns_push (take k asked) one
  where
    patterns_push : (xs : List Asked) (x : Asked) → patterns_in (xs ++ x ∷ []) ≡ patterns_in xs ++ pattern_in x
    patterns_push xs x = flat_map-append pattern_in xs (x ∷ []) ∙ ap (λ (ks : List PatternKind). patterns_in xs ++ ks) (append-nil (pattern_in x))

module _ (m : ModelForm) where
  abbrev CanAnswer : Demand → Type 0
  CanAnswer d = IsAnswerable m (map tree_of d.list.items)

  -- each demand that is asked can be answered
  pub all_answerable : (qs : List Question) (asked : List Asked) → AllZip (IsAsked m) qs asked → All CanAnswer (demands_in asked)
  all_answerable [] [] is = All-nil CanAnswer
  all_answerable [] (one ∷ asked) is = absurd is
  all_answerable (q ∷ qs) [] is = absurd is
  all_answerable (of_traces label parts wanted named ∷ qs) (DemandAsked d ∷ asked) is =
      All-cons CanAnswer d (demands_in asked) (subst (λ (fs : List Ltl). IsAnswerable m fs) (sym is.0.0.1) is.0.0.3) (all_answerable qs asked is.1)
  all_answerable (of_traces label parts wanted named ∷ qs) (Instance d kind ∷ asked) is = all_answerable qs asked is.1
  all_answerable (of_traces label parts wanted named ∷ qs) (Assignment l cover ∷ asked) is = absurd is.0
  all_answerable (of_agent label goal agent ∷ qs) (DemandAsked d ∷ asked) is = absurd is.0
  all_answerable (of_agent label goal agent ∷ qs) (Instance d kind ∷ asked) is = absurd is.0
  all_answerable (of_agent label goal agent ∷ qs) (Assignment l cover ∷ asked) is = all_answerable qs asked is.1

  -- valid answers to the queries are answers to the demands
  pub answers_of : (budget : ℕ) (ds : List Demand) (qs : List Query) (vs : List Answer) → map cores_in qs ≡ map (query_asked m) ds → AllZip (λ q a. IsValidAnswer (sizes_of m) (cores_in q) budget a) qs vs
      → AllZip (λ d a. IsValidAnswer (sizes_of m) (query_asked m d) budget a) ds vs
  answers_of budget [] [] [] cores valid = tt
  answers_of budget [] [] (a ∷ vs) cores valid = absurd valid
  answers_of budget [] (q ∷ qs) vs cores valid = absurd cc
  answers_of budget (d ∷ ds) [] vs cores valid = absurd cc
  answers_of budget (d ∷ ds) (q ∷ qs) [] cores valid = absurd valid
  answers_of budget (d ∷ ds) (q ∷ qs) (a ∷ vs) cores valid =
      (subst (λ (cs : List CoreForm). IsValidAnswer (sizes_of m) cs budget a) (heads _ _ _ _ cores) valid.0, answers_of budget ds qs vs (tails _ _ _ _ cores) valid.1)
    where
      heads : (x y : List CoreForm) (xs ys : List (List CoreForm)) → x ∷ xs ≡ y ∷ ys → x ≡ y
      heads x y xs ys e = cc

      tails : (x y : List CoreForm) (xs ys : List (List CoreForm)) → x ∷ xs ≡ y ∷ ys → xs ≡ ys
      tails x y xs ys e = cc

-- as many as there are of the other list
pub as_many : {X Y : Type 0} (R : X → Y → Type 0) (xs : List X) (ys : List Y) → AllZip R xs ys → length xs ≡ length ys
as_many R [] [] all = refl
as_many R [] (y ∷ ys) all = absurd all
as_many R (x ∷ xs) [] all = absurd all
as_many R (x ∷ xs) (y ∷ ys) all = ap suc (as_many R xs ys all.1)

-- what all demands have, the one at a place has
pub demand_at : (P : Demand → Type 0) (asked : List Asked) (k : ℕ) (one : Asked) (d : Demand) → k < length asked → one ≡ get_or asked k one → one ≡ DemandAsked d → All P (demands_in asked) → P d
demand_at P [] k one d inside at is all = absurd (omega (arith, inside))
demand_at P (x ∷ asked) zero one d inside at is all = All-head P d (demands_in asked) (subst (λ (y : Asked). All P (demand_in y ++ demands_in asked)) (sym at ∙ is) all)
demand_at P (DemandAsked e ∷ asked) (suc k) one d inside at is all = demand_at P asked k one d (omega (arith, inside)) at is (All-tail P e (demands_in asked) all)
demand_at P (Instance e kind ∷ asked) (suc k) one d inside at is all = demand_at P asked k one d (omega (arith, inside)) at is all
demand_at P (Assignment l cover ∷ asked) (suc k) one d inside at is all = demand_at P asked k one d (omega (arith, inside)) at is all
