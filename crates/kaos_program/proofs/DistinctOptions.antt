-- What options give, read one after the other, is what they all give, where no option is given twice.
use Rattle.std.proofs.Common.{◌≡◌, ◌≢◌, ◌↔◌, refl, sym, ap, ◌∙◌, subst, false, bytes_eq, ℕ, suc, arith, List, [], ◌∷◌, Option, Some, None, get_or}
use Rattle.std.specs.Prelude.{All}
use Rattle.std.specs.Option.{option_or}
use Rattle.std.proofs.lemmas.Bool.{false≢true}
use Rattle.std.proofs.lemmas.Slice.Eq.{bytes_eq-Decides}
use Rattle.std.proofs.lemmas.List.Elements.{All-nil, All-cons, All-head, All-tail, All-weaker}
use Rattle.std.proofs.lemmas.List.Kept.{AllPairs-cons}
use Rattle.verdict_report.specs.declared.form.Form.{Form}
use Rattle.kaos_program.specs.Commands.{OptionForm, a_budget, a_form, a_goal, a_depth, name_of, AreDistinct, as_budget, as_form, as_goal, as_depth, first_of}
use Rattle.kaos_program.specs.Options.{OptionsForm, no_options, with_option, with_options}
use Rattle.kaos_program.proofs.FoundValues.{value_in, chained}

-- what options gave
abbrev given : Option ℕ → Option Form → Option (List ℕ) → Option ℕ → OptionsForm
given budget form goal depth = record { budget = budget; form = form; goal = goal; depth = depth }

-- options of two names
abbrev Differ : OptionForm → OptionForm → Type 0
Differ o p = name_of o ≢ name_of p

-- an option that was not given before
abbrev IsNew : OptionsForm → OptionForm → Type 0
IsNew options (a_budget nodes) = options.budget ≡ None
IsNew options (a_form form) = options.form ≡ None
IsNew options (a_goal name) = options.goal ≡ None
IsNew options (a_depth levels) = options.depth ≡ None

-- ---- one more option

-- what is given of a name where it was given before, and else by these
abbrev Gives : {A : Type 0} (before : Option A) (value : OptionForm → Option A) (os : List OptionForm) (after : Option A) → Type 0
Gives before value os after = after ≡ option_or before (first_of value os)

-- an option was new; it adds its value, and what is new behind it has another name and was new before it
record IsOneMore (options : OptionsForm) (o : OptionForm) (more : OptionsForm) : Type 0 where
  new : IsNew options o
  others : (p : OptionForm) → IsNew more p ↔ (Differ o p × IsNew options p)
  budget : Gives options.budget as_budget (o ∷ []) more.budget
  form : Gives options.form as_form (o ∷ []) more.form
  goal : Gives options.goal as_goal (o ∷ []) more.goal
  depth : Gives options.depth as_depth (o ∷ []) more.depth

-- nothing is added to a value
nothing_added : {A : Type 0} (x : Option A) → x ≡ option_or x None
nothing_added None = refl
nothing_added (Some x) = refl

-- two options of one name, of which one was given
given_before : {A : Type 0} {T : Type 0} (o p : OptionForm) (x : A) → name_of o ≡ name_of p → (Some x ≡ None) ↔ (Differ o p × T)
given_before o p x same = ((λ none. cc), λ both. absurd (both.0 same))

-- and two of different names
left_alone : {T : Type 0} (o p : OptionForm) → bytes_eq (name_of p) (name_of o) ≡ false → T ↔ (Differ o p × T)
left_alone o p other = ((λ new. (differ, new)), λ both. both.1)
  where
    differ : Differ o p
    differ same = false≢true (sym other ∙ ap (λ (name : List ℕ). bytes_eq name (name_of o)) (sym same) ∙ (bytes_eq-Decides (name_of o) (name_of o)).1 refl)

behind_budget : (nodes : ℕ) (form : Option Form) (goal : Option (List ℕ)) (depth : Option ℕ) (p : OptionForm)
    → IsNew (given (Some nodes) form goal depth) p ↔ (Differ (a_budget nodes) p × IsNew (given None form goal depth) p)
behind_budget nodes form goal depth (a_budget other) = given_before (a_budget nodes) (a_budget other) nodes refl
behind_budget nodes form goal depth (a_form other) = left_alone (a_budget nodes) (a_form other) refl
behind_budget nodes form goal depth (a_goal other) = left_alone (a_budget nodes) (a_goal other) refl
behind_budget nodes form goal depth (a_depth other) = left_alone (a_budget nodes) (a_depth other) refl

behind_form : (budget : Option ℕ) (form : Form) (goal : Option (List ℕ)) (depth : Option ℕ) (p : OptionForm)
    → IsNew (given budget (Some form) goal depth) p ↔ (Differ (a_form form) p × IsNew (given budget None goal depth) p)
behind_form budget form goal depth (a_budget other) = left_alone (a_form form) (a_budget other) refl
behind_form budget form goal depth (a_form other) = given_before (a_form form) (a_form other) form refl
behind_form budget form goal depth (a_goal other) = left_alone (a_form form) (a_goal other) refl
behind_form budget form goal depth (a_depth other) = left_alone (a_form form) (a_depth other) refl

behind_goal : (budget : Option ℕ) (form : Option Form) (name : List ℕ) (depth : Option ℕ) (p : OptionForm)
    → IsNew (given budget form (Some name) depth) p ↔ (Differ (a_goal name) p × IsNew (given budget form None depth) p)
behind_goal budget form name depth (a_budget other) = left_alone (a_goal name) (a_budget other) refl
behind_goal budget form name depth (a_form other) = left_alone (a_goal name) (a_form other) refl
behind_goal budget form name depth (a_goal other) = given_before (a_goal name) (a_goal other) name refl
behind_goal budget form name depth (a_depth other) = left_alone (a_goal name) (a_depth other) refl

behind_depth : (budget : Option ℕ) (form : Option Form) (goal : Option (List ℕ)) (levels : ℕ) (p : OptionForm)
    → IsNew (given budget form goal (Some levels)) p ↔ (Differ (a_depth levels) p × IsNew (given budget form goal None) p)
behind_depth budget form goal levels (a_budget other) = left_alone (a_depth levels) (a_budget other) refl
behind_depth budget form goal levels (a_form other) = left_alone (a_depth levels) (a_form other) refl
behind_depth budget form goal levels (a_goal other) = left_alone (a_depth levels) (a_goal other) refl
behind_depth budget form goal levels (a_depth other) = given_before (a_depth levels) (a_depth other) levels refl

-- a new option is taken, and is one more
one_taken : (budget : Option ℕ) (form : Option Form) (goal : Option (List ℕ)) (depth : Option ℕ) (o : OptionForm)
    → IsNew (given budget form goal depth) o
    → (more : OptionsForm) × (with_option (given budget form goal depth) o ≡ Some more) × IsOneMore (given budget form goal depth) o more
one_taken None form goal depth (a_budget nodes) new = (
  given (Some nodes) form goal depth,
  refl,
  record {
    new = refl;
    others = behind_budget nodes form goal depth;
    budget = refl;
    form = nothing_added form;
    goal = nothing_added goal;
    depth = nothing_added depth;
  },
)
one_taken (Some earlier) form goal depth (a_budget nodes) new = cc
one_taken budget None goal depth (a_form form) new = (
  given budget (Some form) goal depth,
  refl,
  record {
    new = refl;
    others = behind_form budget form goal depth;
    budget = nothing_added budget;
    form = refl;
    goal = nothing_added goal;
    depth = nothing_added depth;
  },
)
one_taken budget (Some earlier) goal depth (a_form form) new = cc
one_taken budget form None depth (a_goal name) new = (
  given budget form (Some name) depth,
  refl,
  record {
    new = refl;
    others = behind_goal budget form name depth;
    budget = nothing_added budget;
    form = nothing_added form;
    goal = refl;
    depth = nothing_added depth;
  },
)
one_taken budget form (Some earlier) depth (a_goal name) new = cc
one_taken budget form goal None (a_depth levels) new = (
  given budget form goal (Some levels),
  refl,
  record {
    new = refl;
    others = behind_depth budget form goal levels;
    budget = nothing_added budget;
    form = nothing_added form;
    goal = nothing_added goal;
    depth = refl;
  },
)
one_taken budget form goal (Some earlier) (a_depth levels) new = cc

-- an option that is taken was new
taken_new : (budget : Option ℕ) (form : Option Form) (goal : Option (List ℕ)) (depth : Option ℕ) (o : OptionForm) (more : OptionsForm)
    → with_option (given budget form goal depth) o ≡ Some more → IsNew (given budget form goal depth) o
taken_new None form goal depth (a_budget nodes) more e = refl
taken_new (Some earlier) form goal depth (a_budget nodes) more e = cc
taken_new budget None goal depth (a_form form) more e = refl
taken_new budget (Some earlier) goal depth (a_form form) more e = cc
taken_new budget form None depth (a_goal name) more e = refl
taken_new budget form (Some earlier) depth (a_goal name) more e = cc
taken_new budget form goal None (a_depth levels) more e = refl
taken_new budget form goal (Some earlier) (a_depth levels) more e = cc

-- so is one more
one_more : (options : OptionsForm) (o : OptionForm) (more : OptionsForm) → with_option options o ≡ Some more → IsOneMore options o more
one_more options o more e =
    let new = taken_new options.budget options.form options.goal options.depth o more e in
    let taken = one_taken options.budget options.form options.goal options.depth o new in
    subst (IsOneMore options o) (value_in taken.0 more (sym taken.1 ∙ e)) taken.2

-- ---- all options

-- a value of one option and of those behind it
joined : {A : Type 0} (before : Option A) (value : OptionForm → Option A) (o : OptionForm) (os : List OptionForm) (middle after : Option A)
    → Gives before value (o ∷ []) middle → Gives middle value os after → Gives before value (o ∷ os) after
joined {A = A} before value o os middle after first rest = rest ∙ rw first (by before (value o))
  where
    by : (b v : Option A) → option_or (option_or b (option_or v None)) (first_of value os) ≡ option_or b (option_or v (first_of value os))
    by None None = refl
    by None (Some x) = refl
    by (Some x) v = refl

-- of distinct options the first differs from those behind it
distinct_first : (o : OptionForm) (os : List OptionForm) → AreDistinct (o ∷ os) → All (Differ o) os
distinct_first o os apart = λ k d inside. apart 0 (suc k) d (omega arith) (omega arith)

-- and those behind it are distinct
distinct_rest : (o : OptionForm) (os : List OptionForm) → AreDistinct (o ∷ os) → AreDistinct os
distinct_rest o os apart = λ i j d before inside. apart (suc i) (suc j) d (omega arith) (omega arith)

-- the options that give this are new and distinct, and it is what they all give
pub record AreGiven (options : OptionsForm) (os : List OptionForm) (more : OptionsForm) : Type 0 where
  pub new : All (IsNew options) os
  pub distinct : AreDistinct os
  pub budget : Gives options.budget as_budget os more.budget
  pub form : Gives options.form as_form os more.form
  pub goal : Gives options.goal as_goal os more.goal
  pub depth : Gives options.depth as_depth os more.depth

-- no options give what there was
none_given : (options : OptionsForm) → AreGiven options [] options
none_given options = record {
  new = All-nil (IsNew options);
  distinct = λ i j d before inside. absurd (omega arith);
  budget = nothing_added options.budget;
  form = nothing_added options.form;
  goal = nothing_added options.goal;
  depth = nothing_added options.depth;
}

-- options that were all taken
pub options_given : (options : OptionsForm) (os : List OptionForm) (more : OptionsForm)
    → with_options options os ≡ Some more → AreGiven options os more
options_given options [] more e = subst (AreGiven options []) (value_in options more e) (none_given options)
options_given options (o ∷ os) more e =
    let step = chained (λ middle. with_options middle os) (with_option options o) more e in
    let middle : OptionsForm = step.0 in
    let one = one_more options o middle step.1 in
    let rest = options_given middle os more step.2 in
    let behind : All (λ p. Differ o p × IsNew options p) os = All-weaker (IsNew middle) (λ p. Differ o p × IsNew options p) (λ p new. (one.others p).0 new) os rest.new in
    record {
      new = All-cons (IsNew options) o os one.new (λ k d inside. (behind k d inside).1);
      distinct = AllPairs-cons Differ o os (λ k d inside. (behind k d inside).0) rest.distinct;
      budget = joined options.budget as_budget o os middle.budget more.budget one.budget rest.budget;
      form = joined options.form as_form o os middle.form more.form one.form rest.form;
      goal = joined options.goal as_goal o os middle.goal more.goal one.goal rest.goal;
      depth = joined options.depth as_depth o os middle.depth more.depth one.depth rest.depth;
    }

-- options that are new and distinct are all taken
pub options_taken : (options : OptionsForm) (os : List OptionForm)
    → AreDistinct os → All (IsNew options) os → (more : OptionsForm) × (with_options options os ≡ Some more)
options_taken options [] distinct new = (options, refl)
options_taken options (o ∷ os) distinct new =
    let first = one_taken options.budget options.form options.goal options.depth o (All-head (IsNew options) o os new) in
    let differ = distinct_first o os distinct in
    let rest = All-tail (IsNew options) o os new in
    let later = options_taken first.0 os (distinct_rest o os distinct) (λ k d inside. (first.2.others (get_or os k d)).1 (differ k d inside, rest k d inside)) in
    (later.0, rw first.1 later.1)

-- before the first option all are new
pub all_new : (os : List OptionForm) → All (IsNew no_options) os
all_new os = λ k d inside. new (get_or os k d)
  where
    new : (o : OptionForm) → IsNew no_options o
    new (a_budget nodes) = refl
    new (a_form form) = refl
    new (a_goal name) = refl
    new (a_depth levels) = refl
