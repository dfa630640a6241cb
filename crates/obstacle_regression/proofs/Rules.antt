-- The rules among the domain properties of the code.
use Rattle.std.proofs.Common.{◌≡◌, ℕ, suc, ◌+◌, ◌<◌, true, false, List, [], ◌∷◌, ◌++◌, length, map, get_or, drop, drop-cons, sym, ap, ◌∙◌, arith, append_assoc}
use Rattle.std.specs.Prelude.{filter}
use Rattle.std.proofs.lemmas.Bool.{cond-true, cond-false}
use Rattle.std.proofs.lemmas.List.{map-append}
use Rattle.temporal_logic.specs.declared.formula.Formula.{Formula}
use Rattle.temporal_logic.specs.Ltl.{Ltl}
use Rattle.temporal_logic.specs.Trees.{tree_of}
use Rattle.goal_model.specs.declared.contents.Property.{Property}
use Rattle.goal_model.specs.Models.{PropertyForm, property_of}

-- their formulas
abbrev pub rules_in : List Property → List Ltl
rules_in properties = map (λ (p : PropertyForm). p.formula) (filter (λ (p : PropertyForm). p.is_rule) (map property_of properties))

module _ (properties : List Property) (index : ℕ) (p : Property) (inside : index < length properties) (at : p ≡ get_or properties index p) where
  parted : drop index properties ≡ p ∷ drop (index + 1) properties
  parted =
      let next : suc index ≡ index + 1 = omega arith in
      drop-cons properties index p inside ∙ ap (λ x. x ∷ drop (suc index) properties) (sym at) ∙ ap (λ n. p ∷ drop n properties) next

  pub rule_first : p.rule ≡ true → rules_in (drop index properties) ≡ tree_of p.formula ∷ rules_in (drop (index + 1) properties)
  rule_first is = ap rules_in parted ∙ ap (map (λ (q : PropertyForm). q.formula)) (cond-true _ _ _ is)

  pub none_first : p.rule ≡ false → rules_in (drop index properties) ≡ rules_in (drop (index + 1) properties)
  none_first not = ap rules_in parted ∙ ap (map (λ (q : PropertyForm). q.formula)) (cond-false _ _ _ not)

-- one rule more
pub one_more : (old new : List Formula) (f : Formula) (rest all : List Ltl) → new ≡ old ++ f ∷ [] → map tree_of old ++ tree_of f ∷ rest ≡ all → map tree_of new ++ rest ≡ all
one_more old new f rest all longer whole =
    ap (λ fs. map tree_of fs ++ rest) longer
    ∙ ap (λ fs. fs ++ rest) (map-append tree_of old (f ∷ []))
    ∙ append_assoc (map tree_of old) (tree_of f ∷ []) rest
    ∙ whole
