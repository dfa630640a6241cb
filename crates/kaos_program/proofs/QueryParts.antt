-- Queries and their answers, one more at a time.
use Rattle.std.proofs.Common.{◌≡◌, ℕ, ◌+◌, ◌<◌, List, [], ◌∷◌, ◌++◌, map, length, get_or, take, sym, ap, ap₂, ◌∙◌, subst}
use Rattle.std.specs.Prelude.{All}
use Rattle.std.specs.List.{AllZip}
use Rattle.std.proofs.lemmas.List.{take_more, map-append}
use Rattle.std.proofs.lemmas.List.Elements.{All-push}
use Rattle.std.proofs.lemmas.Slice.Zip.{all_zipped_more}
use Rattle.state_space.specs.declared.space.Space.{Space}
use Rattle.state_space.specs.Ranges.{RangeForm}
use Rattle.state_space.specs.Spaces.{ranges, sizes}
use Rattle.temporal_logic.specs.declared.formula.Formula.{Formula}
use Rattle.temporal_logic.specs.Fits.{Fits}
use Rattle.temporal_logic.specs.Trees.{tree_of}
use Rattle.formula_table.specs.SmallLists.{AreSmall}
use Rattle.tableau_rules.specs.declared.answer.Answer.{Answer}
use Rattle.tableau_rules.specs.declared.query.Query.{Query}
use Rattle.tableau_rules.specs.Answers.{IsValidAnswer}
use Rattle.tableau_rules.specs.Queries.{IsOver}
use Rattle.tableau_rules.specs.QueryView.{cores_in}
use Rattle.bound_unfolding.specs.CoreForm.{CoreForm}
use Rattle.bound_unfolding.specs.CoreLists.{cores_of}
use Rattle.goal_model.specs.declared.demand.Demand.{Demand}
use Rattle.goal_model.specs.Models.{ModelForm, sizes_of}
use Rattle.goal_model.specs.Demands.{IsAnswerable}
use Rattle.kaos_program.specs.Asking.{query_asked}
use Rattle.kaos_program.proofs.ModelParts.{All-unmap, sizes_same}

-- the items before a place, and the one there
taken : {X : Type 0} (xs : List X) (k : ℕ) (x : X) → k < length xs → x ≡ get_or xs k x → take (k + 1) xs ≡ take k xs ++ x ∷ []
taken xs k x inside at = take_more xs k x inside ∙ ap (λ y. take k xs ++ y ∷ []) (sym at)

-- ---- over a space that has the model's ranges
module _ (m : ModelForm) (space : Space) (same : ranges space ≡ m.ranges) where
  module _ (d : Demand) (answerable : IsAnswerable m (map tree_of d.list.items)) where
    -- a demand's list is of the space, and small
    pub list_fits : (list : List Formula) → list ≡ d.list.items → All (λ f. Fits (ranges space) (tree_of f)) list
    list_fits list is =
        subst (λ (fs : List Formula). All (λ f. Fits (ranges space) (tree_of f)) fs) (sym is)
        (subst (λ (rs : List RangeForm). All (λ f. Fits rs (tree_of f)) d.list.items) (sym same) (All-unmap (Fits m.ranges) tree_of d.list.items answerable.fit))

    pub list_small : (list : List Formula) → list ≡ d.list.items → AreSmall (sizes space) (map tree_of list)
    list_small list is =
        subst (λ (fs : List Formula). AreSmall (sizes space) (map tree_of fs)) (sym is)
        (subst (λ (ns : List ℕ). AreSmall ns (map tree_of d.list.items)) (sym (sizes_same space m same)) answerable.small)

  -- one query more
  pub cores_more : (ds : List Demand) (d : Demand) (qs all : List Query) (q : Query) (list : List Formula) → list ≡ d.list.items → map cores_in qs ≡ map (query_asked m) ds
      → cores_in q ≡ cores_of (sizes space) (map tree_of list) → all ≡ qs ++ q ∷ [] → map cores_in all ≡ map (query_asked m) (ds ++ d ∷ [])
  cores_more ds d qs all q list is before here pushed =
      let of_demand : cores_in q ≡ query_asked m d = here ∙ ap₂ (λ (ns : List ℕ) (fs : List Formula). cores_of ns (map tree_of fs)) (sizes_same space m same) is in
      ap (map cores_in) pushed ∙ map-append cores_in qs (q ∷ []) ∙ ap₂ (λ (xs : List (List CoreForm)) (x : List CoreForm). xs ++ x ∷ []) before of_demand
      ∙ sym (map-append (query_asked m) ds (d ∷ []))

  -- and all of them are over the model's variables
  pub over_more : (qs all : List Query) (q : Query) → All (λ q. All (IsOver (sizes_of m)) (cores_in q)) qs → All (IsOver (sizes space)) (cores_in q) → all ≡ qs ++ q ∷ []
      → All (λ q. All (IsOver (sizes_of m)) (cores_in q)) all
  over_more qs all q before here pushed =
      let P = λ (q : Query). All (IsOver (sizes_of m)) (cores_in q) in
      subst (All P) (sym pushed) (All-push P qs q before (subst (λ (ns : List ℕ). All (IsOver ns) (cores_in q)) (sizes_same space m same) here))

  -- one answer more
  pub answers_more : (budget : ℕ) (qs : List Query) (k : ℕ) (q : Query) (vs all : List Answer) (a : Answer) → k < length qs → q ≡ get_or qs k q
      → AllZip (λ q a. IsValidAnswer (sizes_of m) (cores_in q) budget a) (take k qs) vs → IsValidAnswer (sizes space) (cores_in q) budget a → all ≡ vs ++ a ∷ []
      → AllZip (λ q a. IsValidAnswer (sizes_of m) (cores_in q) budget a) (take (k + 1) qs) all
  answers_more budget qs k q vs all a inside at before here pushed =
      let R = λ (q : Query) (a : Answer). IsValidAnswer (sizes_of m) (cores_in q) budget a in
      let valid : R q a = subst (λ (ns : List ℕ). IsValidAnswer ns (cores_in q) budget a) (sizes_same space m same) here in
      subst (λ (xs : List Query). AllZip R xs all) (sym (taken qs k q inside at)) (subst (AllZip R (take k qs ++ q ∷ [])) (sym pushed) (all_zipped_more R (take k qs) vs q a before valid))
