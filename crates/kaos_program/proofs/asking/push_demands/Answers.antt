use Rattle.std.proofs.Common.{◌≡◌, Option, List, [], ◌∷◌, ◌++◌, ◌∙◌, length, ap, sym, subst, append_assoc, rules, arith}
use Rattle.std.specs.Prelude.{All}
use Rattle.std.specs.List.{AllZip}
use Rattle.std.specs.Vec.Iter.{into_iter_items}
use Rattle.std.proofs.lemmas.List.{append-nil}
use Rattle.std.proofs.lemmas.List.Elements.{All-head}
use Rattle.obstacle_regression.proofs.Halves.{all_right}
use Rattle.goal_model.specs.declared.demand.Demand.{Demand}
use Rattle.goal_model.specs.declared.pattern.PatternKind.{PatternKind}
use Rattle.goal_model.specs.Models.{link_of}
use Rattle.goal_model.specs.ModelViews.{model_of}
use Rattle.verdict_report.specs.Reports.{named_for}
use Rattle.kaos_program.specs.declared.asking.Asked.{Asked}
use Rattle.kaos_program.specs.Asking.{Poses}
use Rattle.kaos_program.proofs.AskedLinks.{IsLong, no_items, posed_more}
use Rattle.kaos_program.proofs.asking.push_demands.Goals as goal

pub demands-init : goal.demands-init
demands-init c = record {
  asked = ([], [], c.into_iter-demand-iterator.ensures.into_iter_gives.0, sym (append-nil c.args.asked.now.items), tt);
  left = search rules;
}

pub posed-requires : goal.posed-requires
posed-requires c =
    let m = model_of c.args.model.now in
    let (done, more, whole, asked, posed) = c.demands.invariant.asked in
    let now : done ++ c.in-Some.demand ∷ into_iter_items c.next.new.self ≡ c.args.demands.items = ap (λ (ds : List Demand). done ++ ds) (sym c.in-Some.ensures.steps.0) ∙ whole in
    All-head (IsLong m) c.in-Some.demand (into_iter_items c.next.new.self) (all_right (IsLong m) done (c.in-Some.demand ∷ into_iter_items c.next.new.self) (subst (All (IsLong m)) (sym now) c.requires))

pub demands-preserved : goal.demands-preserved
demands-preserved c =
    let m = model_of c.args.model.now in
    let link = link_of c.args.link.now in
    let (done, more, whole, asked, posed) = c.demands.invariant.asked in
    let d = c.in-Some.demand in
    let one = c.in_ok-posed.field-0 in
    let rest = into_iter_items c.next.new.self in
    let now : (done ++ d ∷ []) ++ rest ≡ c.args.demands.items = append_assoc done (d ∷ []) rest ∙ ap (λ (ds : List Demand). done ++ ds) (sym c.in-Some.ensures.steps.0) ∙ whole in
    let items = c.in_ok-push.ensures.items ∙ ap (λ (list : List Asked). list ++ one ∷ []) asked ∙ append_assoc c.args.asked.now.items more (one ∷ []) in
    let here : Poses m (named_for link d.label.kind) d one = subst (λ (named : Option PatternKind). Poses m named d one) c.named_for-named.ensures c.in_ok-posed.ensures in
    record {
      asked = (done ++ d ∷ [], more ++ one ∷ [], now, items, posed_more m link done d more one posed here);
      left = omega (arith, c.demands.invariant.left, c.in-Some.ensures.steps.1, ap length c.in-Some.ensures.steps.0);
    }

pub returns : goal.returns
returns c =
    let m = model_of c.args.model.now in
    let link = link_of c.args.link.now in
    let (done, more, whole, asked, posed) = c.demands.invariant.asked in
    let none : into_iter_items c.demands.demand-iterator ≡ [] = no_items (into_iter_items c.demands.demand-iterator) (omega (arith, c.demands.invariant.left, c.in-None.ensures.steps.0)) in
    let all : done ≡ c.args.demands.items = sym (append-nil done) ∙ ap (λ (ds : List Demand). done ++ ds) (sym none) ∙ whole in
    (more, asked, subst (λ (ds : List Demand). AllZip (λ d one. Poses m (named_for link d.label.kind) d one) ds more) all posed)
