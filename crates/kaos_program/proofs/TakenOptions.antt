-- The options that a command takes are those of which no other has a value.
use Rattle.std.proofs.Common.{◌≡◌, refl, List, [], ◌∷◌, None}
use Rattle.std.specs.Prelude.{IsTrue}
use Rattle.std.specs.List.{list_all}
use Rattle.kaos_program.specs.Commands.{OptionForm, a_budget, a_form, a_goal, a_depth, as_form, as_goal, as_depth, first_of, is_of_check, is_of_regress}

-- of the options of a check none is a goal or a depth
pub of_check : (os : List OptionForm) → IsTrue (list_all is_of_check os) → (first_of as_goal os ≡ None) × (first_of as_depth os ≡ None)
of_check [] taken = (refl, refl)
of_check (a_budget nodes ∷ os) taken = of_check os taken
of_check (a_form form ∷ os) taken = of_check os taken
of_check (a_goal name ∷ os) taken = cc
of_check (a_depth levels ∷ os) taken = cc

-- and where none is, they are such
pub all_of_check : (os : List OptionForm) → first_of as_goal os ≡ None → first_of as_depth os ≡ None → IsTrue (list_all is_of_check os)
all_of_check [] no_goal no_depth = refl
all_of_check (a_budget nodes ∷ os) no_goal no_depth = all_of_check os no_goal no_depth
all_of_check (a_form form ∷ os) no_goal no_depth = all_of_check os no_goal no_depth
all_of_check (a_goal name ∷ os) no_goal no_depth = cc
all_of_check (a_depth levels ∷ os) no_goal no_depth = cc

-- of the options of a regression none is a form
pub of_regress : (os : List OptionForm) → IsTrue (list_all is_of_regress os) → first_of as_form os ≡ None
of_regress [] taken = refl
of_regress (a_budget nodes ∷ os) taken = of_regress os taken
of_regress (a_form form ∷ os) taken = cc
of_regress (a_goal name ∷ os) taken = of_regress os taken
of_regress (a_depth levels ∷ os) taken = of_regress os taken

-- and where none is, they are such
pub all_of_regress : (os : List OptionForm) → first_of as_form os ≡ None → IsTrue (list_all is_of_regress os)
all_of_regress [] no_form = refl
all_of_regress (a_budget nodes ∷ os) no_form = all_of_regress os no_form
all_of_regress (a_form form ∷ os) no_form = cc
all_of_regress (a_goal name ∷ os) no_form = all_of_regress os no_form
all_of_regress (a_depth levels ∷ os) no_form = all_of_regress os no_form
