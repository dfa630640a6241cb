-- What is known of the statements of a readable text: they pass no limit.
use Rattle.std.proofs.Common.{◌≡◌, ℕ, zero, suc, ◌≤◌, Bool, true, false, if◌then◌else◌, List, [], ◌∷◌, length, Option, Some, None, get_or, refl, arith}
use Rattle.std.proofs.lemmas.Bool.{ltb-false}
use Rattle.std.specs.Prelude.{All, not, nat_lt, count_by, ◌||◌}
use Rattle.std.specs.List.{list_any, list_all}
use Rattle.model_tokens.specs.Versions.{text_forms}
use Rattle.model_text.specs.declared.limits.LimitKind.{LimitKind}
use Rattle.model_text.specs.declared.limits.LimitKind.TheVariants.{Statements, Links, Parts, NameLength, Number, Bound, Depth}
use Rattle.model_text.specs.Statements.{StatementForm}
use Rattle.model_text.specs.Readability.{IsReadable}
use Rattle.model_text.specs.Limits.{is_link, has_many_parts, is_short, is_small, has_wide_bound, formulas_of, depth_of, is_deep, has_formula}
use Rattle.goal_model.specs.WholeDrafts.{IsShallow}

-- a limit that is not passed
not_passed : (b : Bool) (kind : LimitKind) (rest : Option LimitKind) → (if b then Some kind else rest) ≡ None → (b ≡ false) × (rest ≡ None)
not_passed true kind rest e = absurd cc
not_passed false kind rest e = (refl, e)

neither : (a b : Bool) → (a || b) ≡ false → (a ≡ false) × (b ≡ false)
neither true b e = absurd cc
neither false b e = (refl, e)

-- no element passes a test that none passes
none_passes : {X : Type 0} (test : X → Bool) (xs : List X) → list_any test xs ≡ false → All (λ x. test x ≡ false) xs
none_passes test [] e k d l = absurd (omega (arith, l))
none_passes test (x ∷ xs) e zero d l = (neither (test x) (list_any test xs) e).0
none_passes test (x ∷ xs) e (suc k) d l = none_passes test xs (neither (test x) (list_any test xs) e).1 k d (omega (arith, l))

at_most : (n k : ℕ) → nat_lt n k ≡ false → k ≤ n
at_most n k e = ltb-false n k e

pub few_statements : (bytes : List ℕ) (ss : List StatementForm) → IsReadable bytes ss → length ss ≤ 2000
few_statements bytes ss readable = at_most 2000 (length ss) (not_passed (nat_lt 2000 (length ss)) Statements _ readable.within_limits).0

pub shallow_statements : (bytes : List ℕ) (ss : List StatementForm) → IsReadable bytes ss → All IsShallow ss
shallow_statements bytes ss readable k d l j f m =
    let ts = text_forms bytes in
    let statements = (not_passed (nat_lt 2000 (length ss)) Statements _ readable.within_limits).1 in
    let links = (not_passed (nat_lt 512 (count_by is_link ss)) Links _ statements).1 in
    let parts = (not_passed (list_any has_many_parts ss) Parts _ links).1 in
    let names = (not_passed (not (list_all is_short ts)) NameLength _ parts).1 in
    let numbers = (not_passed (not (list_all is_small ts)) Number _ names).1 in
    let bounds = (not_passed (list_any (has_formula has_wide_bound) ss) Bound _ numbers).1 in
    let deep = (not_passed (list_any (has_formula is_deep) ss) Depth _ bounds).0 in
    let s = get_or ss k d in
    at_most 100 (depth_of (get_or (formulas_of s) j f)) (none_passes is_deep (formulas_of s) (none_passes (has_formula is_deep) ss deep k d l) j f m)
