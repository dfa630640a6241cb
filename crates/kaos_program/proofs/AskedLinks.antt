-- What is asked of the links of a model, those of one link more at a time.
use Rattle.std.proofs.Common.{◌≡◌, ℕ, zero, suc, ◌+◌, ◌-◌, ◌<◌, ◌≤◌, Bool, List, [], ◌∷◌, ◌++◌, map, length, take, drop, refl, sym, ap, ◌∙◌, subst, arith}
use Rattle.std.specs.Prelude.{All, Option, None, Some, slice_index_or, option_map}
use Rattle.std.specs.Option.{option_to_list}
use Rattle.std.specs.List.{AllZip, flat_map}
use Rattle.std.proofs.Math.Seq.{drop-append_seam}
use Rattle.std.proofs.lemmas.List.{append-nil, append_assoc, length-map, length-append, length-drop, drop-map, take_all}
use Rattle.std.proofs.lemmas.List.Elements.{All-nil, All-cons, All-head, All-tail}
use Rattle.std.proofs.lemmas.Slice.Zip.{all_zipped_more}
use Rattle.temporal_logic.specs.declared.formula.Formula.{Formula}
use Rattle.temporal_logic.specs.Ltl.{Ltl}
use Rattle.temporal_logic.specs.Trees.{tree_of}
use Rattle.goal_model.specs.declared.demand.Demand.{Demand}
use Rattle.goal_model.specs.declared.item.Item.{Item}
use Rattle.goal_model.specs.declared.item.Part.{Part}
use Rattle.goal_model.specs.declared.pattern.PatternKind.{PatternKind}
use Rattle.goal_model.specs.declared.item.Wanted.{Wanted}
use Rattle.goal_model.specs.declared.contents.Link.{Link}
use Rattle.goal_model.specs.declared.contents.Link.TheVariants as links
use Rattle.goal_model.specs.declared.contents.Property.{Property}
use Rattle.goal_model.specs.Models.{PropertyForm, LinkForm, ModelForm, property_of, link_of}
use Rattle.goal_model.specs.Items.{ItemForm, item_of, assigned_item, no_link, link_items_of, list_of}
use Rattle.goal_model.specs.Demands.{DemandForm, demand_of, demands_of, IsAnswerable}
use Rattle.agent_capabilities.specs.declared.cover.Cover.{Cover}
use Rattle.agent_capabilities.specs.Coverage.{cover_of, coverage_at}
use Rattle.verdict_report.specs.Deciding.{formulas_of, IsDecidedBy}
use Rattle.verdict_report.specs.Reports.{Question, of_traces, of_agent, named_for, asked_by, domain_question, link_questions, questions_from}
use Rattle.kaos_program.specs.declared.asking.Asked.{Asked}
use Rattle.kaos_program.specs.declared.asking.Asked.TheVariants.{Demand as DemandAsked, Instance, Assignment}
use Rattle.kaos_program.specs.Asking.{IsDemandOf, IsAsked, Poses, AsksMore}

heads : {X : Type 0} (x y : X) (xs ys : List X) → x ∷ xs ≡ y ∷ ys → x ≡ y
heads x y xs ys e = cc

tails : {X : Type 0} (x y : X) (xs ys : List X) → x ∷ xs ≡ y ∷ ys → xs ≡ ys
tails x y xs ys e = cc

pub no_items : {X : Type 0} (xs : List X) → length xs ≡ 0 → xs ≡ []
no_items [] none = refl
no_items (x ∷ xs) none = absurd (omega (arith, none))

-- both lists have more behind them
zipped_append : {X Y : Type 0} (R : X → Y → Type 0) (xs more : List X) (ys further : List Y) → AllZip R xs ys → AllZip R more further → AllZip R (xs ++ more) (ys ++ further)
zipped_append R [] more [] further a b = b
zipped_append R [] more (y ∷ ys) further a b = absurd a
zipped_append R (x ∷ xs) more [] further a b = absurd a
zipped_append R (x ∷ xs) more (y ∷ ys) further a b = (a.0, zipped_append R xs more ys further a.1 b)

module _ (m : ModelForm) where
  abbrev CanAnswer : Demand → Type 0
  CanAnswer d = IsAnswerable m (map tree_of d.list.items)

  -- behind the domain properties stand the formulas of the parts
  behind_domains : (parts : List (Part × Bool)) → drop (length m.domains) (list_of m parts) ≡ formulas_of m parts
  behind_domains parts =
      let domains = map (λ (p : PropertyForm). p.formula) m.domains in
      ap (λ (n : ℕ). drop n (list_of m parts)) (sym (length-map m.domains (λ p. p.formula))) ∙ drop-append_seam domains (formulas_of m parts)

  module _ (link : LinkForm) where
    abbrev IsPosed : Demand → Asked → Type 0
    IsPosed d one = Poses m (named_for link d.label.kind) d one

    module _ (i : ItemForm) (w : Wanted) (d : Demand) (is : demand_of d ≡ record { label = i.label; list = list_of m i.parts; wanted = w }) (can : CanAnswer d) where
      of_item : (e : Demand) → e ≡ d → IsDemandOf m i.label i.parts w e
      of_item e same =
          let here = ap demand_of same ∙ is in
          (ap (λ (f : DemandForm). f.label) here, ap (λ (f : DemandForm). f.list) here, ap (λ (f : DemandForm). f.wanted) here, subst (λ (f : DemandForm). IsAnswerable m f.list) is can)

      decided : (by : Option PatternKind) → IsDecidedBy (drop (length m.domains) (map tree_of d.list.items)) (named_for link d.label.kind) by → IsDecidedBy (formulas_of m i.parts) (named_for link i.label.kind) by
      decided by before =
          subst (λ (fs : List Ltl). IsDecidedBy fs (named_for link i.label.kind) by) (ap (λ (f : DemandForm). drop (length m.domains) f.list) is ∙ behind_domains i.parts)
          (subst (λ (f : DemandForm). IsDecidedBy (drop (length m.domains) (map tree_of d.list.items)) (named_for link f.label.kind) by) is before)

      -- a demand that is asked so asks the question of its item
      posed_asked : (one : Asked) → IsPosed d one → IsAsked m (of_traces i.label i.parts w (named_for link i.label.kind)) one
      posed_asked (DemandAsked e) posed = (of_item e posed.0, decided None posed.1)
      posed_asked (Instance e kind) posed = (of_item e posed.0, decided (Some kind) posed.1)
      posed_asked (Assignment l cover) posed = absurd posed

    -- and those of items ask their questions
    pub demands_asked : (items : List ItemForm) (ds : List Demand) (asked : List Asked) → map demand_of ds ≡ demands_of m items → All CanAnswer ds → AllZip IsPosed ds asked → AllZip (IsAsked m) (flat_map (asked_by link) items) asked
    demands_asked [] [] [] e all posed = tt
    demands_asked [] [] (one ∷ asked) e all posed = absurd posed
    demands_asked [] (d ∷ ds) asked e all posed = absurd cc
    demands_asked (i ∷ items) ds asked e all posed = by i.wanted (demands_asked items) ds asked e all posed
      where
        by : (wanted : Option Wanted) → ((ds : List Demand) (asked : List Asked) → map demand_of ds ≡ demands_of m items → All CanAnswer ds → AllZip IsPosed ds asked → AllZip (IsAsked m) (flat_map (asked_by link) items) asked)
            → (ds : List Demand) (asked : List Asked) → map demand_of ds ≡ option_to_list (option_map (λ (w : Wanted). record { label = i.label; list = list_of m i.parts; wanted = w }) wanted) ++ demands_of m items → All CanAnswer ds
            → AllZip IsPosed ds asked → AllZip (IsAsked m) (option_to_list (option_map (λ w. of_traces i.label i.parts w (named_for link i.label.kind)) wanted) ++ flat_map (asked_by link) items) asked
        by None rest ds asked e all posed = rest ds asked e all posed
        by (Some w) rest [] asked e all posed = absurd cc
        by (Some w) rest (d ∷ ds) [] e all posed = absurd posed
        by (Some w) rest (d ∷ ds) (one ∷ asked) e all posed =
            let wanted_is : DemandForm = record { label = i.label; list = list_of m i.parts; wanted = w } in
            let here : demand_of d ≡ wanted_is = heads (demand_of d) wanted_is (map demand_of ds) (demands_of m items) e in
            (posed_asked i w d here (All-head CanAnswer d ds all) one posed.0, rest ds asked (tails (demand_of d) wanted_is (map demand_of ds) (demands_of m items) e) (All-tail CanAnswer d ds all) posed.1)

  -- the item of an assignment asks its question
  pub assignment_asked : (l s g a : ℕ) (items : List Item) (cover : Cover) → map item_of items ≡ assigned_item m s g a ∷ [] → cover_of cover ≡ coverage_at m g a
      → AllZip (IsAsked m) (of_agent (assigned_item m s g a).label g a ∷ []) (map (λ (i : Item). Assignment i.label cover) items)
  assignment_asked l s g a [] cover e covers = absurd cc
  assignment_asked l s g a (i ∷ []) cover e covers = ((ap (λ (f : ItemForm). f.label) (heads (item_of i) (assigned_item m s g a) [] [] e), covers), tt)
  assignment_asked l s g a (i ∷ j ∷ items) cover e covers = absurd cc

  -- what is asked of the domain properties and of the links before a place
  abbrev pub questions_to : ℕ → List Question
  questions_to k = domain_question ∷ questions_from m 0 (take k m.links)

  -- the questions of one link more are behind those of the links before it
  questions_more : (first : ℕ) (links : List LinkForm) (k : ℕ) → k < length links
      → questions_from m first (take (suc k) links) ≡ questions_from m first (take k links) ++ link_questions m (first + k) (slice_index_or links k no_link)
  questions_more first [] k inside = absurd (omega (arith, inside))
  questions_more first (link ∷ links) zero inside =
      let here : first ≡ first + 0 = omega arith in
      append-nil (link_questions m first link) ∙ ap (λ (n : ℕ). link_questions m n link) here
  questions_more first (link ∷ links) (suc k) inside =
      let on : first + 1 + k ≡ first + suc k = omega arith in
      let rest = questions_more (first + 1) links k (omega (arith, inside)) ∙ ap (λ (n : ℕ). questions_from m (first + 1) (take k links) ++ link_questions m n (slice_index_or links k no_link)) on in
      ap (λ (qs : List Question). link_questions m first link ++ qs) rest
      ∙ sym (append_assoc (link_questions m first link) (questions_from m (first + 1) (take k links)) (link_questions m (first + suc k) (slice_index_or links k no_link)))

  -- one link further
  pub asked_more : (k : ℕ) (before after : List Asked) → k < length m.links → AllZip (IsAsked m) (questions_to k) before → AsksMore m (link_questions m k (slice_index_or m.links k no_link)) before after
      → AllZip (IsAsked m) (questions_to (k + 1)) after
  asked_more k before after inside asked (more, is, zipped) =
      let link = link_questions m k (slice_index_or m.links k no_link) in
      let place : 0 + k ≡ k = omega arith in
      let next : suc k ≡ k + 1 = omega arith in
      let questions : questions_to (k + 1) ≡ questions_to k ++ link =
      ap questions_to (sym next)
      ∙ ap (λ (qs : List Question). domain_question ∷ qs) (questions_more 0 m.links k inside ∙ ap (λ (n : ℕ). questions_from m 0 (take k m.links) ++ link_questions m n (slice_index_or m.links k no_link)) place) in
      subst (λ (qs : List Question). AllZip (IsAsked m) qs after) (sym questions)
      (subst (λ (list : List Asked). AllZip (IsAsked m) (questions_to k ++ link) list) (sym is) (zipped_append (IsAsked m) (questions_to k) link before more asked zipped))

-- a link that is no assignment asks the questions of its items
pub other_questions : (m : ModelForm) (k : ℕ) (link : Link) → ((s g a : ℕ) → link ≡ links.Assign s g a → ⊥) → link_questions m k (link_of link) ≡ flat_map (asked_by (link_of link)) (link_items_of m k (link_of link))
other_questions m k (links.Refine s g subgoals pattern) other = refl
other_questions m k (links.Obstruct s g obstacles) other = refl
other_questions m k (links.Conflict s x goals boundary) other = refl
other_questions m k (links.Operationalise s g requirements exact) other = refl
other_questions m k (links.Assign s g a) other = absurd (other s g a refl)

-- ---- demands that are asked with what decides them

-- as many formulas at least as there are domain properties
abbrev pub IsLong : ModelForm → Demand → Type 0
IsLong m d = length m.domains ≤ length d.list.items

pub domains_first : (m : ModelForm) (items : List ItemForm) (ds : List Demand) → map demand_of ds ≡ demands_of m items → All (IsLong m) ds
domains_first m [] [] e = All-nil (IsLong m)
domains_first m [] (d ∷ ds) e = absurd cc
domains_first m (i ∷ items) ds e = by i.wanted (domains_first m items) ds e
  where
    long : (d : Demand) (parts : List (Part × Bool)) → map tree_of d.list.items ≡ list_of m parts → IsLong m d
    long d parts is =
        let domains = map (λ (p : PropertyForm). p.formula) m.domains in
        omega (arith, length-map d.list.items tree_of, ap length is, length-append domains (formulas_of m parts), length-map m.domains (λ p. p.formula))

    by : (wanted : Option Wanted) → ((ds : List Demand) → map demand_of ds ≡ demands_of m items → All (IsLong m) ds) → (ds : List Demand)
        → map demand_of ds ≡ option_to_list (option_map (λ (w : Wanted). record { label = i.label; list = list_of m i.parts; wanted = w }) wanted) ++ demands_of m items → All (IsLong m) ds
    by None rest ds e = rest ds e
    by (Some w) rest [] e = absurd cc
    by (Some w) rest (d ∷ ds) e =
        let wanted_is : DemandForm = record { label = i.label; list = list_of m i.parts; wanted = w } in
        let here : demand_of d ≡ wanted_is = heads (demand_of d) wanted_is (map demand_of ds) (demands_of m items) e in
        All-cons (IsLong m) d ds (long d i.parts (ap (λ (f : DemandForm). f.list) here)) (rest ds (tails (demand_of d) wanted_is (map demand_of ds) (demands_of m items) e))

-- one demand more
pub posed_more : (m : ModelForm) (link : LinkForm) (done : List Demand) (d : Demand) (more : List Asked) (one : Asked) → AllZip (λ d one. Poses m (named_for link d.label.kind) d one) done more → Poses m (named_for link d.label.kind) d one
    → AllZip (λ d one. Poses m (named_for link d.label.kind) d one) (done ++ d ∷ []) (more ++ one ∷ [])
posed_more m link done d more one all here = all_zipped_more (λ (d : Demand) (one : Asked). Poses m (named_for link d.label.kind) d one) done more d one all here

-- the formulas of a demand behind the domain properties, as the code cuts them off
pub cut_behind : (m : ModelForm) (d : Demand) (list : List Formula) (properties : List Property) → list ≡ d.list.items → map property_of properties ≡ m.domains
    → map tree_of (take (length list - length properties) (drop (length properties) list)) ≡ drop (length m.domains) (map tree_of d.list.items)
cut_behind m d list properties same domains =
    let count : length properties ≡ length m.domains = sym (length-map properties property_of) ∙ ap length domains in
    let rest = drop (length properties) list in
    let left = length-drop (length properties) list in
    ap (map tree_of) (take_all (length list - length properties) rest (omega (arith, left))) ∙ sym (drop-map tree_of (length properties) list) ∙ ap (λ (fs : List Formula). drop (length properties) (map tree_of fs)) same ∙ ap (λ (n : ℕ). drop n (map tree_of d.list.items)) count
