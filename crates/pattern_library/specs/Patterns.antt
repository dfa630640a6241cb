-- The five patterns of refinement, over placeholders: placeholder k is the flag of number k, in order of first occurrence.
use Rattle.std.specs.Prelude.{ℕ, List, [], ◌∷◌, ◌++◌}
use Rattle.goal_model.specs.declared.pattern.PatternKind.{PatternKind}
use Rattle.goal_model.specs.declared.pattern.PatternKind.TheVariants.{Milestone, Cases, Guard, Split, Induction}
use Rattle.temporal_logic.specs.Ltl.{Ltl, flag, neg, conj, disj, entails, next, eventually, always, unless}

-- a parent and its subgoals in order, over so many placeholders
pub record PatternForm : Type 0 where
  pub placeholders : ℕ
  pub parent : Ltl
  pub subgoals : List Ltl

-- from C to T in two stages, by way of M
abbrev pub milestone_of : Ltl → Ltl → Ltl → PatternForm
milestone_of C T M = record {
  placeholders = 3;
  parent = entails C (eventually T);
  subgoals = entails C (eventually M) ∷ entails M (eventually T) ∷ [];
}

-- from C to T by the case of P and that of Q
abbrev pub cases_of : Ltl → Ltl → Ltl → Ltl → PatternForm
cases_of C T P Q = record {
  placeholders = 4;
  parent = entails C (eventually T);
  subgoals = entails (conj C P) (eventually T) ∷ entails (conj C Q) (eventually T) ∷ entails C (disj P Q) ∷ [];
}

-- from C to T once D comes, where C stays up to then
abbrev pub guard_of : Ltl → Ltl → Ltl → PatternForm
guard_of C T D = record {
  placeholders = 3;
  parent = entails C (eventually T);
  subgoals = entails (conj C D) (eventually T) ∷ entails C (eventually D) ∷ entails C (unless C T) ∷ [];
}

-- P and Q each by itself
abbrev pub split_of : Ltl → Ltl → Ltl → PatternForm
split_of C P Q = record {
  placeholders = 3;
  parent = entails C (conj P Q);
  subgoals = entails C P ∷ entails C Q ∷ [];
}

-- P at first, and P kept
abbrev pub induction_of : Ltl → Ltl → PatternForm
induction_of C P = record {
  placeholders = 2;
  parent = entails C (always P);
  subgoals = entails C P ∷ entails P (next P) ∷ [];
}

abbrev pub pattern_of : PatternKind → PatternForm
pattern_of Milestone = milestone_of (flag 0) (flag 1) (flag 2)
pattern_of Cases = cases_of (flag 0) (flag 1) (flag 2) (flag 3)
pattern_of Guard = guard_of (flag 0) (flag 1) (flag 2)
pattern_of Split = split_of (flag 0) (flag 1) (flag 2)
pattern_of Induction = induction_of (flag 0) (flag 1)

-- what a trace must meet to have all subgoals and not the parent
abbrev pub broken_by : (subgoals : List Ltl) → Ltl → List Ltl
broken_by subgoals parent = subgoals ++ neg parent ∷ []

abbrev pub pattern_list : PatternForm → List Ltl
pattern_list p = broken_by p.subgoals p.parent
