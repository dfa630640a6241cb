use Rattle.std.proofs.Common.{◌≡◌, ◌+◌, List, ◌∷◌, ◌++◌, map, drop, sym, ap, ◌∙◌, subst}
use Rattle.temporal_logic.specs.declared.formula.Formula.{Formula}
use Rattle.temporal_logic.specs.Trees.{tree_of}
use Rattle.obstacle_regression.proofs.Rules.{rules_in, rule_first, none_first, one_more}
use Rattle.obstacle_regression.proofs.regression.rules_of.Goals as goal
use Rattle.obstacle_regression.proofs.regression.rules_of.Goals.{then-property+in_ok-clone+in_ok-push, else-property}

pub domains-preserved : goal.domains-preserved
domains-preserved c =
    let all = c.domains-property-items.result.now in
    let index = c.domains.property-index in
    let p = c.property-item.result in
    let old = map tree_of c.domains.rules.items in
    let rest = rules_in (drop (index + 1) all) in
    let Done = λ (rules : List Formula). map tree_of rules ++ rest ≡ rules_in all in
    elim c.if-property.branch [ then-property+in_ok-clone+in_ok-push w ↦ subst (λ v. Done v.items) (sym w.rules-is) (one_more c.domains.rules.items w.push.new.self.items w.in_ok-clone.field-0 rest (rules_in all) w.in_ok-push.ensures.items (ap (λ f. old ++ f ∷ rest) w.in_ok-clone.ensures.same ∙ ap (λ z. old ++ z) (sym (rule_first all index p c.domains-test.true c.property-item.is w.if-property.true)) ∙ c.domains.invariant)) | else-property w ↦ subst (λ v. Done v.items) (sym w.rules-is) (ap (λ z. old ++ z) (sym (none_first all index p c.domains-test.true c.property-item.is w.if-property.false)) ∙ c.domains.invariant) ]
