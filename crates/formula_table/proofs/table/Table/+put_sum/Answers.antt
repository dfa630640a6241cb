use Rattle.std.proofs.Common.{◌≡◌, ◌+◌, ◌-◌, ◌^◌, suc, false, refl, subst, arith}
use Rattle.std.specs.Prelude.{Option, Some, Ok, Err}
use Rattle.temporal_logic.specs.Trees.{relation_of}
use Rattle.bound_unfolding.specs.CoreForm.{CoreForm, core_false, lit, both}
use Rattle.bound_unfolding.specs.CoreTree.{sum_from, term_before}
use Rattle.bound_unfolding.proofs.Indexes.{sum_without, sum_with}
use Rattle.formula_table.specs.declared.shape.FormulaId.{FormulaId}
use Rattle.formula_table.specs.CorePuts.{IsSumPut}
use Rattle.formula_table.specs.Tables.{closure_in}
use Rattle.formula_table.proofs.CorePuts.{joined_at, put_at}
use Rattle.formula_table.proofs.SumLaws.{term_refused, rest_refused, sum_refused, term_alone, sum_put}
use Rattle.formula_table.proofs.table.Table.+put_sum.Goals as goal

pub returns-then-set-eq0 : goal.returns-then-set-eq0
returns-then-set-eq0 t c =
    let s = c.args.sum in
    let n : c.args.left ≡ suc (c.args.left - 1) = omega arith in
    let e = sum_without (relation_of s.cmp) s.x.0 s.y.0 s.size c.args.index (c.args.index + 1) (c.args.left - 1) c.args.left c.indexes_from-set.result.0 refl n c.indexes_from-set.ensures c.if-set-eq0.true in
    subst (λ (sum : CoreForm). IsSumPut sum (closure_in c.args.self.now) (closure_in c.put_sum.new.self) c.put_sum.result) e c.put_sum.ensures

pub returns-in_err-term : goal.returns-in_err-term
returns-in_err-term t c =
    let s = c.args.sum in
    let set = c.indexes_from-set.result.0 in
    let term = both (lit s.x.0 (2 ^ c.args.index)) (lit s.y.0 set) in
    let there : ¬ (term ≡ core_false) = λ h. cc in
    let rest = sum_from (relation_of s.cmp) s.x.0 s.y.0 s.size (c.args.index + 1) (c.args.left - 1) in
    let n : c.args.left ≡ suc (c.args.left - 1) = omega arith in
    let e = sum_with (relation_of s.cmp) s.x.0 s.y.0 s.size c.args.index (c.args.index + 1) (c.args.left - 1) c.args.left set term rest (term_before term rest) refl n c.indexes_from-set.ensures c.if-set-eq0.false refl refl refl in
    let old = closure_in c.args.self.now in
    let one = closure_in c.put_term.new.self in
    subst (λ (sum : CoreForm). IsSumPut sum old one c.from_residual.result) e
    (term_refused term rest there old one c.from_residual.result c.in_err-term.field-0.0 c.from_residual.ensures.1 c.in_err-term.ensures)

pub returns-in_err-put_sum : goal.returns-in_err-put_sum
returns-in_err-put_sum t c =
    let s = c.args.sum in
    let set = c.indexes_from-set.result.0 in
    let term = both (lit s.x.0 (2 ^ c.args.index)) (lit s.y.0 set) in
    let there : ¬ (term ≡ core_false) = λ h. cc in
    let rest = sum_from (relation_of s.cmp) s.x.0 s.y.0 s.size (c.args.index + 1) (c.args.left - 1) in
    let n : c.args.left ≡ suc (c.args.left - 1) = omega arith in
    let e = sum_with (relation_of s.cmp) s.x.0 s.y.0 s.size c.args.index (c.args.index + 1) (c.args.left - 1) c.args.left set term rest (term_before term rest) refl n c.indexes_from-set.ensures c.if-set-eq0.false refl refl refl in
    let old = closure_in c.args.self.now in
    let one = closure_in c.put_term.new.self in
    let two = closure_in c.put_sum-2.new.self in
    subst (λ (sum : CoreForm). IsSumPut sum old two c.from_residual-in_err-put_sum.result) e
    (rest_refused term rest there old two c.from_residual-in_err-put_sum.result c.in_err-put_sum.field-0.0 c.from_residual-in_err-put_sum.ensures.1 one c.in_ok-term.term c.in_ok-term.ensures c.in_err-put_sum.ensures)

pub returns-in_err-put_joined-in-Some : goal.returns-in_err-put_joined-in-Some
returns-in_err-put_joined-in-Some t c =
    let s = c.args.sum in
    let set = c.indexes_from-set.result.0 in
    let term = both (lit s.x.0 (2 ^ c.args.index)) (lit s.y.0 set) in
    let there : ¬ (term ≡ core_false) = λ h. cc in
    let rest = sum_from (relation_of s.cmp) s.x.0 s.y.0 s.size (c.args.index + 1) (c.args.left - 1) in
    let n : c.args.left ≡ suc (c.args.left - 1) = omega arith in
    let e = sum_with (relation_of s.cmp) s.x.0 s.y.0 s.size c.args.index (c.args.index + 1) (c.args.left - 1) c.args.left set term rest (term_before term rest) refl n c.indexes_from-set.ensures c.if-set-eq0.false refl refl refl in
    let old = closure_in c.args.self.now in
    let one = closure_in c.put_term.new.self in
    let two = closure_in c.put_sum-2.new.self in
    let new = closure_in c.put_joined.new.self in
    let more = subst (λ (o : Option FormulaId). IsSumPut rest one two (Ok o)) c.in-Some.is c.in_ok-put_sum.ensures in
    let joined = joined_at false two new c.in_ok-term.term c.in-Some.rest term rest (Err c.in_err-put_joined-in-Some.field-0.0) (put_at term old one c.in_ok-term.term c.in_ok-term.ensures two more.1.kept) more.1.id c.in_err-put_joined-in-Some.ensures in
    subst (λ (sum : CoreForm). IsSumPut sum old new c.from_residual-in_err-put_joined-in-Some.result) e
    (sum_refused term rest there old new c.from_residual-in_err-put_joined-in-Some.result c.in_err-put_joined-in-Some.field-0.0 c.from_residual-in_err-put_joined-in-Some.ensures.1 one two c.in_ok-term.term c.in-Some.rest c.in_ok-term.ensures more joined)

pub returns-in-None : goal.returns-in-None
returns-in-None t c =
    let s = c.args.sum in
    let set = c.indexes_from-set.result.0 in
    let term = both (lit s.x.0 (2 ^ c.args.index)) (lit s.y.0 set) in
    let there : ¬ (term ≡ core_false) = λ h. cc in
    let rest = sum_from (relation_of s.cmp) s.x.0 s.y.0 s.size (c.args.index + 1) (c.args.left - 1) in
    let n : c.args.left ≡ suc (c.args.left - 1) = omega arith in
    let e = sum_with (relation_of s.cmp) s.x.0 s.y.0 s.size c.args.index (c.args.index + 1) (c.args.left - 1) c.args.left set term rest (term_before term rest) refl n c.indexes_from-set.ensures c.if-set-eq0.false refl refl refl in
    let old = closure_in c.args.self.now in
    let one = closure_in c.put_term.new.self in
    let two = closure_in c.put_sum-2.new.self in
    subst (λ (sum : CoreForm). IsSumPut sum old two (Ok (Some c.in_ok-term.term))) e
    (term_alone term rest there old one two c.in_ok-term.term c.in_ok-term.ensures (subst (λ (o : Option FormulaId). IsSumPut rest one two (Ok o)) c.in-None.is c.in_ok-put_sum.ensures))

pub returns-in_ok-put_joined-in-Some : goal.returns-in_ok-put_joined-in-Some
returns-in_ok-put_joined-in-Some t c =
    let s = c.args.sum in
    let set = c.indexes_from-set.result.0 in
    let term = both (lit s.x.0 (2 ^ c.args.index)) (lit s.y.0 set) in
    let there : ¬ (term ≡ core_false) = λ h. cc in
    let rest = sum_from (relation_of s.cmp) s.x.0 s.y.0 s.size (c.args.index + 1) (c.args.left - 1) in
    let n : c.args.left ≡ suc (c.args.left - 1) = omega arith in
    let e = sum_with (relation_of s.cmp) s.x.0 s.y.0 s.size c.args.index (c.args.index + 1) (c.args.left - 1) c.args.left set term rest (term_before term rest) refl n c.indexes_from-set.ensures c.if-set-eq0.false refl refl refl in
    let old = closure_in c.args.self.now in
    let one = closure_in c.put_term.new.self in
    let two = closure_in c.put_sum-2.new.self in
    let new = closure_in c.put_joined.new.self in
    let more = subst (λ (o : Option FormulaId). IsSumPut rest one two (Ok o)) c.in-Some.is c.in_ok-put_sum.ensures in
    let joined = joined_at false two new c.in_ok-term.term c.in-Some.rest term rest (Ok c.in_ok-put_joined-in-Some.field-0) (put_at term old one c.in_ok-term.term c.in_ok-term.ensures two more.1.kept) more.1.id c.in_ok-put_joined-in-Some.ensures in
    subst (λ (sum : CoreForm). IsSumPut sum old new (Ok (Some c.in_ok-put_joined-in-Some.field-0))) e
    (sum_put term rest there old one two c.in_ok-term.term c.in_ok-term.ensures new c.in-Some.rest c.in_ok-put_joined-in-Some.field-0 more joined)
