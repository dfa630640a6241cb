-- What has equivalent parts is equivalent: for facts, and for each operator over predicates of positions.
use Rattle.std.proofs.Common.{◌≡◌, ℕ, ◌↔◌, ◌⊎◌, inl, inr, sym, subst, ⊎_elim}
use Rattle.temporal_logic.specs.Truth.{Sometime, Ever, Between, SomeBetween, HoldsUntil, Releases, HoldsUntilBefore, ReleasesBefore}

pub iff_refl : {A : Type 0} → A ↔ A
iff_refl = (λ a. a, λ a. a)

pub iff_sym : {A B : Type 0} → A ↔ B → B ↔ A
iff_sym e = (e.1, e.0)

pub iff_trans : {A B C : Type 0} → A ↔ B → B ↔ C → A ↔ C
iff_trans e f = (λ a. f.0 (e.0 a), λ c. e.1 (f.1 c))

pub not_iff : {A B : Type 0} → A ↔ B → (¬ A) ↔ (¬ B)
not_iff e = (λ n b. n (e.1 b), λ n a. n (e.0 a))

pub and_iff : {A B C D : Type 0} → A ↔ B → C ↔ D → (A × C) ↔ (B × D)
and_iff e f = (λ p. (e.0 p.0, f.0 p.1), λ p. (e.1 p.0, f.1 p.1))

pub or_iff : {A B C D : Type 0} → A ↔ B → C ↔ D → (A ⊎ C) ↔ (B ⊎ D)
or_iff e f = (⊎_elim (λ a. inl (e.0 a)) (λ c. inr (f.0 c)), ⊎_elim (λ b. inl (e.1 b)) (λ d. inr (f.1 d)))

pub to_iff : {A B C D : Type 0} → A ↔ B → C ↔ D → (A → C) ↔ (B → D)
to_iff e f = (λ g b. f.0 (g (e.1 b)), λ g a. f.1 (g (e.0 a)))

pub iff_iff : {A B C D : Type 0} → A ↔ B → C ↔ D → (A ↔ C) ↔ (B ↔ D)
iff_iff e f = (λ g. iff_trans (iff_sym e) (iff_trans g f), λ g. iff_trans e (iff_trans g (iff_sym f)))

-- a fact about one of two equal numbers is one about the other
pub value_iff : (P : ℕ → Type 0) {a b : ℕ} → a ≡ b → P a ↔ P b
value_iff P e = (λ h. subst P e h, λ h. subst P (sym e) h)

pub sometime_iff : (P Q : ℕ → Type 0) → ((j : ℕ) → P j ↔ Q j) → (i : ℕ) → Sometime P i ↔ Sometime Q i
sometime_iff P Q e i = (λ w. (w.0, w.1, (e w.0).0 w.2), λ w. (w.0, w.1, (e w.0).1 w.2))

pub ever_iff : (P Q : ℕ → Type 0) → ((j : ℕ) → P j ↔ Q j) → (i : ℕ) → Ever P i ↔ Ever Q i
ever_iff P Q e i = (λ f j o. (e j).0 (f j o), λ f j o. (e j).1 (f j o))

pub between_iff : (P Q : ℕ → Type 0) → ((j : ℕ) → P j ↔ Q j) → (i n : ℕ) → Between P i n ↔ Between Q i n
between_iff P Q e i n = (λ f k o s. (e k).0 (f k o s), λ f k o s. (e k).1 (f k o s))

pub some_between_iff : (P Q : ℕ → Type 0) → ((j : ℕ) → P j ↔ Q j) → (i n : ℕ) → SomeBetween P i n ↔ SomeBetween Q i n
some_between_iff P Q e i n = (λ w. (w.0, w.1, w.2, (e w.0).0 w.3), λ w. (w.0, w.1, w.2, (e w.0).1 w.3))

module _ (P Q R S : ℕ → Type 0) (e : (j : ℕ) → P j ↔ R j) (f : (j : ℕ) → Q j ↔ S j) (i : ℕ) where
  pub until_iff : HoldsUntil P Q i ↔ HoldsUntil R S i
  until_iff = sometime_iff (λ j. Q j × Between P i j) (λ j. S j × Between R i j) (λ j. and_iff (f j) (between_iff P R e i j)) i

  pub releases_iff : Releases P Q i ↔ Releases R S i
  releases_iff = ever_iff (λ j. Q j ⊎ SomeBetween P i j) (λ j. S j ⊎ SomeBetween R i j) (λ j. or_iff (f j) (some_between_iff P R e i j)) i

  pub until_before_iff : (n : ℕ) → HoldsUntilBefore n P Q i ↔ HoldsUntilBefore n R S i
  until_before_iff n = some_between_iff (λ j. Q j × Between P i j) (λ j. S j × Between R i j) (λ j. and_iff (f j) (between_iff P R e i j)) i n

  pub releases_before_iff : (n : ℕ) → ReleasesBefore n P Q i ↔ ReleasesBefore n R S i
  releases_before_iff n = between_iff (λ j. Q j ⊎ SomeBetween P i j) (λ j. S j ⊎ SomeBetween R i j) (λ j. or_iff (f j) (some_between_iff P R e i j)) i n
