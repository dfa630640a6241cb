use Rattle.std.proofs.Common.{◌≡◌, ◌<◌, ◌∙◌, ℕ, List, true, false, length, map, sym, ap, rules}
use Rattle.std.proofs.lemmas.List.{append-nil}
use Rattle.state_space.specs.Spaces.{sizes}
use Rattle.state_space.proofs.SpaceFacts.{sizes_of_ranges}
use Rattle.goal_model.specs.declared.refusal.RefusalKind.TheVariants.{TooLarge}
use Rattle.goal_model.specs.Models.{PropertyForm, contents_of, sizes_of}
use Rattle.goal_model.specs.Items.{domain_item, is_small_item}
use Rattle.goal_model.specs.SmallLists.{is_small_list}
use Rattle.goal_model.specs.Resolution.{refuses}
use Rattle.goal_model.proofs.SizedItems.{sized_small, sized_large, some_domain, first_blamed}
use Rattle.goal_model.proofs.item_size.large_domains.Goals as goal

pub index-first-requires : goal.index-first-requires
index-first-requires c =
    let formulas = map (λ (p : PropertyForm). p.formula) (contents_of c.args.contents.now).domains in
    let some : 0 < length c.args.contents.now.domains.items =
    some_domain (sizes c.args.contents.now.space) c.args.contents.now.domains.items (sym (c.if-is_small.ensures (sizes c.args.contents.now.space) formulas c.requires.domains)) in
    search rules

pub returns-then-is_small : goal.returns-then-is_small
returns-then-is_small c others =
    let m = contents_of c.args.contents.now in
    let formulas = map (λ (p : PropertyForm). p.formula) m.domains in
    let small : is_small_item m domain_item ≡ true =
    ap (is_small_list (sizes_of m)) (append-nil formulas) ∙ sym (c.if-is_small.ensures (sizes c.args.contents.now.space) formulas c.requires.domains ∙ ap (λ (ns : List ℕ). is_small_list ns formulas) (sizes_of_ranges c.args.contents.now.space)) in
    sized_small m domain_item others small

pub returns : goal.returns
returns c others =
    let m = contents_of c.args.contents.now in
    let properties = c.args.contents.now.domains.items in
    let formulas = map (λ (p : PropertyForm). p.formula) m.domains in
    let counted = c.if-is_small.ensures (sizes c.args.contents.now.space) formulas c.requires.domains in
    let large : is_small_item m domain_item ≡ false =
    ap (is_small_list (sizes_of m)) (append-nil formulas) ∙ sym (counted ∙ ap (λ (ns : List ℕ). is_small_list ns formulas) (sizes_of_ranges c.args.contents.now.space)) in
    sized_large m domain_item others large
    ∙ ap (λ (q : ℕ × List ℕ). refuses TooLarge q.0 q.1) (first_blamed properties c.index-first.result.now (some_domain (sizes c.args.contents.now.space) properties (sym counted)) c.index-first.ensures)
    ∙ ap (refuses TooLarge c.index-first.result.now.statement) (sym c.in_ok-clone.ensures.same)
