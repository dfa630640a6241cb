-- An outcome is one.
use Rattle.std.proofs.Common.{◌≡◌, ℕ, List}
use Rattle.goal_model.specs.declared.refusal.RefusalKind.{RefusalKind}
use Rattle.model_text.specs.Statements.{StatementForm}
use Rattle.goal_model.specs.Models.{ModelForm}
use Rattle.goal_model.specs.Resolution.{Outcome, made, refuses, outcome_of}

same_model : (o : Outcome) (m n : ModelForm) → o ≡ made m → o ≡ made n → m ≡ n
same_model o m n e f = cc

same_refusal : (o : Outcome) (kind other : RefusalKind) (statement number : ℕ) (x y : List ℕ) → o ≡ refuses kind statement x → o ≡ refuses other number y
    → (kind ≡ other) × (statement ≡ number) × (x ≡ y)
same_refusal o kind other statement number x y e f = (cc, cc, cc)

never_both : (o : Outcome) (m : ModelForm) (kind : RefusalKind) (statement : ℕ) (x : List ℕ) → o ≡ made m → o ≡ refuses kind statement x → ⊥
never_both o m kind statement x e f = absurd cc

pub one_model : (ss : List StatementForm) (m n : ModelForm) → outcome_of ss ≡ made m → outcome_of ss ≡ made n → m ≡ n
one_model ss m n e f = same_model (outcome_of ss) m n e f

pub one_refusal : (ss : List StatementForm) (kind other : RefusalKind) (statement number : ℕ) (x y : List ℕ) → outcome_of ss ≡ refuses kind statement x
    → outcome_of ss ≡ refuses other number y → (kind ≡ other) × (statement ≡ number) × (x ≡ y)
one_refusal ss kind other statement number x y e f = same_refusal (outcome_of ss) kind other statement number x y e f

pub not_both : (ss : List StatementForm) (m : ModelForm) (kind : RefusalKind) (statement : ℕ) (x : List ℕ) → outcome_of ss ≡ made m → outcome_of ss ≡ refuses kind statement x → ⊥
not_both ss m kind statement x e f = never_both (outcome_of ss) m kind statement x e f
