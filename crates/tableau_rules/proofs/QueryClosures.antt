-- The closure of a list of cores as it grows by one core after another, and the numbers that the cores have in it.
use Rattle.std.proofs.Common.{◌≡◌, ℕ, ◌+◌, ◌<◌, ◌≤◌, List, [], ◌∷◌, ◌++◌, IsTrue, nat_lt, map, take, drop, length, get_or, refl, sym, ap, ap₂, ◌∙◌, subst, true≢false, arith}
use Rattle.std.specs.Prelude.{Result, Ok, Err, OnOk}
use Rattle.std.proofs.lemmas.Bool.{lt-ltb, ltb-true}
use Rattle.std.proofs.lemmas.List.{drop_more, map-append, take-append-drop}
use Rattle.bound_unfolding.specs.CoreForm.{CoreForm}
use Rattle.formula_table.specs.declared.shape.FormulaId.{FormulaId}
use Rattle.formula_table.specs.declared.table.Table.{Table}
use Rattle.formula_table.specs.Closures.{is_same, formula_at, number_in, with_core, with_cores, closure_of}
use Rattle.formula_table.specs.Distinct.{IsDistinct}
use Rattle.formula_table.specs.Tables.{closure_in, IsKept}
use Rattle.formula_table.proofs.Members.{same_eq, same_self}
use Rattle.formula_table.proofs.Cores.{kept_self, kept_then, core_kept}
use Rattle.formula_table.proofs.Decodings.{id_once}
use Rattle.formula_table.proofs.Tests.{and_intro, and_true}
use Rattle.tableau_rules.specs.declared.begun.Begun.{Begun}
use Rattle.tableau_rules.specs.declared.query.Query.{Query}
use Rattle.tableau_rules.specs.Nodes.{with_numbers_of}
use Rattle.tableau_rules.specs.Sets.{with_number}
use Rattle.tableau_rules.specs.NumberedCores.{cores_at, are_below}
use Rattle.tableau_rules.specs.BegunQueries.{cores_so_far, IsBegun}
use Rattle.tableau_rules.specs.QueryView.{cores_in}
use Rattle.tableau_rules.specs.SameCores.{are_same}
use Rattle.tableau_rules.proofs.KidLists.{number_is}

-- ---- equal lists
pub are_same_eq : (xs ys : List CoreForm) → IsTrue (are_same xs ys) → xs ≡ ys
are_same_eq [] [] h = refl
are_same_eq (x ∷ xs) (y ∷ ys) h = let r = and_true (is_same x y) _ h in ap₂ (λ z zs. z ∷ zs) (same_eq x y r.0) (are_same_eq xs ys r.1)
are_same_eq _ _ h = absurd (true≢false (sym h))

are_same_self : (xs : List CoreForm) → IsTrue (are_same xs xs)
are_same_self [] = refl
are_same_self (x ∷ xs) = and_intro (is_same x x) _ (same_self x) (are_same_self xs)

pub are_same_of : (xs ys : List CoreForm) → xs ≡ ys → IsTrue (are_same xs ys)
are_same_of xs ys e = subst (λ zs. IsTrue (are_same xs zs)) e (are_same_self xs)

-- a query's table has the query's closure
pub closure_is : (q : Query) → closure_in q.formulas.table ≡ closure_of (cores_in q)
closure_is q = are_same_eq (closure_in q.formulas.table) (closure_of (cores_in q)) q.closed

-- ---- one core behind others
cores_kept : (cs cl : List CoreForm) → IsKept cl (with_cores cs cl)
cores_kept [] cl = kept_self cl
cores_kept (c ∷ cs) cl = kept_then cl (with_core c cl) (with_cores cs (with_core c cl)) (core_kept c cl) (cores_kept cs (with_core c cl))

with_cores-append : (xs ys cl : List CoreForm) → with_cores (xs ++ ys) cl ≡ with_cores ys (with_cores xs cl)
with_cores-append [] ys cl = refl
with_cores-append (x ∷ xs) ys cl = with_cores-append xs ys (with_core x cl)

with_numbers_of-append : (cl xs : List CoreForm) (c : CoreForm) (numbers : List ℕ) → with_numbers_of cl (xs ++ c ∷ []) numbers ≡ with_number (number_in cl c) (with_numbers_of cl xs numbers)
with_numbers_of-append cl [] c numbers = refl
with_numbers_of-append cl (x ∷ xs) c numbers = with_numbers_of-append cl xs c (with_number (number_in cl x) numbers)

-- the table of the first cores of a list has room for the next, where it has for all
pub room_for : {X : Type 0} (core : X → CoreForm) (xs : List X) (k : ℕ) (x : X) → k < length xs → x ≡ get_or xs k x
    → (cl : List CoreForm) → cl ≡ closure_of (map core (take k xs)) → (limit : ℕ) → length (closure_of (map core xs)) ≤ limit → length (with_core (core x) cl) ≤ limit
room_for core xs k x l e cl is limit few =
    let before = map core (take k xs) in
    let behind = map core (drop (k + 1) xs) in
    let all : map core xs ≡ before ++ core x ∷ behind =
    ap (map core) (sym (take-append-drop k xs) ∙ ap (λ ys. take k xs ++ ys) (drop_more xs k x l ∙ ap (λ y. y ∷ drop (k + 1) xs) (sym e))) ∙ map-append core (take k xs) (x ∷ drop (k + 1) xs) in
    let whole : closure_of (map core xs) ≡ with_cores behind (with_core (core x) cl) =
    ap closure_of all ∙ with_cores-append before (core x ∷ behind) [] ∙ ap (λ z. with_cores behind (with_core (core x) z)) (sym is) in
    let kept = cores_kept behind (with_core (core x) cl) in
    omega (arith, kept.0, ap length whole, few)

-- ---- numbers of a closure
below_first : (n : ℕ) (id : FormulaId) (ids : List FormulaId) → IsTrue (are_below n (id ∷ ids)) → id.0 < n
below_first n id ids h = ltb-true id.0 n (and_true (nat_lt id.0 n) (are_below n ids) h).0

below_rest : (n : ℕ) (id : FormulaId) (ids : List FormulaId) → IsTrue (are_below n (id ∷ ids)) → IsTrue (are_below n ids)
below_rest n id ids h = (and_true (nat_lt id.0 n) (are_below n ids) h).1

below_push : (m n : ℕ) → m ≤ n → (ids : List FormulaId) (id : FormulaId) → IsTrue (are_below m ids) → id.0 < n → IsTrue (are_below n (ids ++ id ∷ []))
below_push m n few [] id h l = and_intro (nat_lt id.0 n) _ (lt-ltb id.0 n l) refl
below_push m n few (x ∷ ids) id h l =
    let first = below_first m x ids h in
    and_intro (nat_lt x.0 n) _ (lt-ltb x.0 n (omega (arith, first, few))) (below_push m n few ids id (below_rest m x ids h) l)

cores_at_kept : (old new : List CoreForm) → IsKept old new → (ids : List FormulaId) → IsTrue (are_below (length old) ids) → cores_at new ids ≡ cores_at old ids
cores_at_kept old new kept [] h = refl
cores_at_kept old new kept (id ∷ ids) h =
    ap₂ (λ z zs. z ∷ zs) (kept.1 id.0 (below_first (length old) id ids h)) (cores_at_kept old new kept ids (below_rest (length old) id ids h))

-- where no formula stands twice, equal cores have equal numbers
numbers_once : (cl : List CoreForm) → IsDistinct cl → (ids more : List FormulaId) → IsTrue (are_below (length cl) ids) → IsTrue (are_below (length cl) more)
    → cores_at cl ids ≡ cores_at cl more → ids ≡ more
numbers_once cl o [] [] h m e = refl
numbers_once cl o (x ∷ xs) (y ∷ ys) h m e =
    let first : formula_at cl x.0 ≡ formula_at cl y.0 = cc in
    let rest : cores_at cl xs ≡ cores_at cl ys = cc in
    ap₂ (λ z zs. z ∷ zs) (id_once cl o x y (below_first (length cl) x xs h) (below_first (length cl) y ys m) first)
    (numbers_once cl o xs ys (below_rest (length cl) x xs h) (below_rest (length cl) y ys m) rest)
numbers_once cl o [] (y ∷ ys) h m e = absurd (cc)
numbers_once cl o (x ∷ xs) [] h m e = absurd (cc)

-- the numbers of cores stay the same as the closure grows
with_numbers_of_kept : (old new : List CoreForm) → IsDistinct old → IsDistinct new → IsKept old new → (ids : List FormulaId) → IsTrue (are_below (length old) ids)
    → (numbers : List ℕ) → with_numbers_of new (cores_at old ids) numbers ≡ with_numbers_of old (cores_at old ids) numbers
with_numbers_of_kept old new o n kept [] h numbers = refl
with_numbers_of_kept old new o n kept (id ∷ ids) h numbers =
    let l = below_first (length old) id ids h in
    let f = formula_at old id.0 in
    let number : number_in new f ≡ number_in old f =
    ap (number_in new) (sym (kept.1 id.0 l)) ∙ number_is new n id.0 (omega (arith, l, kept.0)) ∙ sym (number_is old o id.0 l) in
    ap (λ x. with_numbers_of new (cores_at old ids) (with_number x numbers)) number
    ∙ with_numbers_of_kept old new o n kept ids (below_rest (length old) id ids h) (with_number (number_in old f) numbers)

-- ---- one core comes
module _ (before after : Begun) (begun : IsBegun before) (c : CoreForm) (id : FormulaId)
    (put : closure_in after.table ≡ with_core c (closure_in before.table)) (at : formula_at (closure_in after.table) id.0 ≡ c) (inside : id.0 < length (closure_in after.table))
    (numbers : after.numbers.items ≡ before.numbers.items ++ id ∷ []) (start : after.start ≡ with_number id.0 before.start) where
  abbrev old : List CoreForm
  old = closure_in before.table

  abbrev new : List CoreForm
  new = closure_in after.table

  kept : IsKept old new
  kept = subst (IsKept old) (sym put) (core_kept c old)

  core_comes : cores_so_far after ≡ cores_so_far before ++ c ∷ []
  core_comes =
      ap (cores_at new) numbers ∙ map-append (λ (i : FormulaId). formula_at new i.0) before.numbers.items (id ∷ [])
      ∙ ap₂ (λ xs d. xs ++ d ∷ []) (cores_at_kept old new kept before.numbers.items begun.inside) at

  begun_after : IsBegun after
  begun_after =
      let done = cores_so_far before in
      record {
        closed = put ∙ ap (with_core c) begun.closed ∙ sym (with_cores-append done (c ∷ []) []) ∙ ap closure_of (sym core_comes);
        inside = subst (λ ids. IsTrue (are_below (length new) ids)) (sym numbers) (below_push (length old) (length new) kept.0 before.numbers.items id begun.inside inside);
        started =
            start
            ∙ ap₂ with_number (sym (number_is new after.table.distinct id.0 inside) ∙ ap (number_in new) at)
            (begun.started ∙ sym (with_numbers_of_kept old new before.table.distinct after.table.distinct kept before.numbers.items begun.inside []))
            ∙ sym (with_numbers_of-append new done c [])
            ∙ ap (λ cs. with_numbers_of new cs []) (sym core_comes);
      }

-- a core that the table was given, and whose number was noted
module _ {T E : Type 0} (before after : Begun) (begun : IsBegun before) (c : CoreForm) (id : FormulaId) (table : Table) (same : after.table ≡ table)
    (put : closure_in table ≡ with_core c (closure_in before.table)) (at : formula_at (closure_in table) id.0 ≡ c) (inside : id.0 < length (closure_in table)) where
  pub core_noted : (r : Result T E) → OnOk r (after.numbers.items ≡ before.numbers.items ++ id ∷ []) → OnOk r (after.start ≡ with_number id.0 before.start)
      → OnOk r (cores_so_far after ≡ cores_so_far before ++ c ∷ []) × OnOk r (IsBegun after)
  core_noted (Err e) n s = (tt, tt)
  core_noted (Ok x) n s =
      let put_there = ap closure_in same ∙ put in
      let at_there = ap (λ (t : Table). formula_at (closure_in t) id.0) same ∙ at in
      let inside_there = subst (λ (t : Table). id.0 < length (closure_in t)) (sym same) inside in
      (core_comes before after begun c id put_there at_there inside_there n s, begun_after before after begun c id put_there at_there inside_there n s)

-- ---- equal cores
pub closures_once : (a b : Query) → cores_in a ≡ cores_in b → closure_in a.formulas.table ≡ closure_in b.formulas.table
closures_once a b e = closure_is a ∙ ap closure_of e ∙ sym (closure_is b)

pub cores_once : (a b : Query) → cores_in a ≡ cores_in b → a.numbers.items ≡ b.numbers.items
cores_once a b e =
    let cl = closure_in a.formulas.table in
    let same = sym (closures_once a b e) in
    numbers_once cl a.formulas.table.distinct a.numbers.items b.numbers.items a.inside
    (subst (λ (cs : List CoreForm). IsTrue (are_below (length cs) b.numbers.items)) same b.inside)
    (e ∙ ap (λ (cs : List CoreForm). cores_at cs b.numbers.items) same)
