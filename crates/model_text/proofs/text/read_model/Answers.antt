use Rattle.std.proofs.Common.{◌≡◌, ◌≤◌, length, vec_len, map, Some, None, Ok, Err, sym, ◌∙◌, inr, arith}
use Rattle.std.proofs.lemmas.List.{length-map}
use Rattle.model_tokens.specs.Tokens.{form_of, all_placed}
use Rattle.model_text.specs.Statements.{statements_of}
use Rattle.model_text.specs.Limits.{most_operators, passed_limit}
use Rattle.model_text.specs.Readability.{first_bad, a_bad_byte}
use Rattle.model_text.specs.Reading.{left}
use Rattle.model_text.specs.StatementReading.{text_at}
use Rattle.model_text.proofs.Texts.{version_made, places_made, first_made, few_forms, readable, only_reading, refused_by_operators, fault_made, refused_by_syntax, refused_by_limit}
use Rattle.model_text.proofs.text.read_model.Goals as goal

pub returns-in-Some-clause-refused : goal.returns-in-Some-clause-refused
returns-in-Some-clause-refused c =
    let ts = c.in_ok-signs.signs.items in
    let first : c.bad_byte.result ≡ first_bad (all_placed ts) = rw c.deref.ensures.value at c.bad_byte.ensures in
    inr (a_bad_byte c.in-Some.at (first_made c.args.bytes.now ts (Some c.in-Some.at) c.in_ok-signs.ensures (sym c.in-Some.is ∙ first)))

pub returns-then-most_operators-gt-MOST_OPERATORS-clause-refused :
    goal.returns-then-most_operators-gt-MOST_OPERATORS-clause-refused
returns-then-most_operators-gt-MOST_OPERATORS-clause-refused c =
    let ts = c.in_ok-tokens.tokens.items in
    let is = version_made c.args.bytes.now c.in_ok-signs.signs.items ts c.in_ok-signs.ensures c.in_ok-tokens.ensures.forms in
    let first : c.bad_byte.result ≡ first_bad (all_placed c.in_ok-signs.signs.items) = rw c.deref.ensures.value at c.bad_byte.ensures in
    let good = first_made c.args.bytes.now c.in_ok-signs.signs.items None c.in_ok-signs.ensures (sym c.in_default.is ∙ first) in
    let count : c.most_operators.result ≡ most_operators 0 (map (λ t. form_of t.kind) ts) = rw c.deref-2.ensures.value at c.most_operators.ensures in
    inr (refused_by_operators c.args.bytes.now _ good is (omega (arith, count, c.if-most_operators-gt-MOST_OPERATORS.true)))

pub returns-in-Err-Syntax-clause-refused : goal.returns-in-Err-Syntax-clause-refused
returns-in-Err-Syntax-clause-refused c =
    let ts = c.in_ok-tokens.tokens.items in
    let is = version_made c.args.bytes.now c.in_ok-signs.signs.items ts c.in_ok-signs.ensures c.in_ok-tokens.ensures.forms in
    let first : c.bad_byte.result ≡ first_bad (all_placed c.in_ok-signs.signs.items) = rw c.deref.ensures.value at c.bad_byte.ensures in
    let good = first_made c.args.bytes.now c.in_ok-signs.signs.items None c.in_ok-signs.ensures (sym c.in_default.is ∙ first) in
    let count : c.most_operators.result ≡ most_operators 0 (map (λ t. form_of t.kind) ts) = rw c.deref-2.ensures.value at c.most_operators.ensures in
    let ended = rw c.in-Err-Syntax.field-0-is at c.in-Err-Syntax.ensures in
    let fault : text_at (map (λ t. form_of t.kind) c.deref-3.result.now) ≡ Err (left c.statements.new.cursor) = ended.exact in
    let again : c.deref-in-Err-Syntax.result.now ≡ ts = c.deref-in-Err-Syntax.ensures.value in
    let place = rw again at c.place_of-at.ensures in
    let read = rw c.deref-3.ensures.value at fault in
    let left_is = length-map c.statements.new.cursor.rest.now (λ t. form_of t.kind) in
    let places = places_made c.args.bytes.now c.in_ok-signs.signs.items ts c.in_ok-signs.ensures c.in_ok-tokens.ensures.places in
    let many = sym (length-map ts (λ t. t.at)) in
    let at = fault_made c.args.bytes.now ts (map (λ t. t.at) ts) _ _ (length c.statements.new.cursor.rest.now) c.place_of-at.result places many is read left_is place in
    inr (refused_by_syntax c.args.bytes.now _ _ c.place_of-at.result good is (omega (arith, count, c.if-most_operators-gt-MOST_OPERATORS.false)) read at)

pub returns-in-Some-passed_limit-clause-refused : goal.returns-in-Some-passed_limit-clause-refused
returns-in-Some-passed_limit-clause-refused c =
    let ts = c.in_ok-tokens.tokens.items in
    let is = version_made c.args.bytes.now c.in_ok-signs.signs.items ts c.in_ok-signs.ensures c.in_ok-tokens.ensures.forms in
    let first : c.bad_byte.result ≡ first_bad (all_placed c.in_ok-signs.signs.items) = rw c.deref.ensures.value at c.bad_byte.ensures in
    let good = first_made c.args.bytes.now c.in_ok-signs.signs.items None c.in_ok-signs.ensures (sym c.in_default.is ∙ first) in
    let count : c.most_operators.result ≡ most_operators 0 (map (λ t. form_of t.kind) ts) = rw c.deref-2.ensures.value at c.most_operators.ensures in
    let read : text_at (map (λ t. form_of t.kind) c.deref-3.result.now) ≡ Ok (statements_of c.in-Ok.raw, left c.statements.new.cursor) = c.in-Ok.ensures.exact in
    let passed : c.passed_limit.result ≡ passed_limit (map (λ t. form_of t.kind) ts) (statements_of c.in-Ok.raw) = rw c.deref-4.ensures.value at c.passed_limit.ensures in
    inr (refused_by_limit c.args.bytes.now _ _ _ c.in-Some-passed_limit.kind good is (omega (arith, count, c.if-most_operators-gt-MOST_OPERATORS.false)) (rw c.deref-3.ensures.value at read) (sym passed ∙ c.in-Some-passed_limit.is))

pub returns-clause-found : goal.returns-clause-found
returns-clause-found c =
    let ts = c.in_ok-tokens.tokens.items in
    let is = version_made c.args.bytes.now c.in_ok-signs.signs.items ts c.in_ok-signs.ensures c.in_ok-tokens.ensures.forms in
    let first : c.bad_byte.result ≡ first_bad (all_placed c.in_ok-signs.signs.items) = rw c.deref.ensures.value at c.bad_byte.ensures in
    let good = first_made c.args.bytes.now c.in_ok-signs.signs.items None c.in_ok-signs.ensures (sym c.in_default.is ∙ first) in
    let count : c.most_operators.result ≡ most_operators 0 (map (λ t. form_of t.kind) ts) = rw c.deref-2.ensures.value at c.most_operators.ensures in
    let read : text_at (map (λ t. form_of t.kind) c.deref-3.result.now) ≡ Ok (statements_of c.in-Ok.raw, left c.statements.new.cursor) = c.in-Ok.ensures.exact in
    let passed : c.passed_limit.result ≡ passed_limit (map (λ t. form_of t.kind) ts) (statements_of c.in-Ok.raw) = rw c.deref-4.ensures.value at c.passed_limit.ensures in
    readable c.args.bytes.now _ _ _ good is (rw c.deref-3.ensures.value at read) (omega (arith, count, c.if-most_operators-gt-MOST_OPERATORS.false)) (sym passed ∙ c.in-None.is)

pub returns-clause-only : goal.returns-clause-only
returns-clause-only c ss reads =
    let ts = c.in_ok-tokens.tokens.items in
    let is = version_made c.args.bytes.now c.in_ok-signs.signs.items ts c.in_ok-signs.ensures c.in_ok-tokens.ensures.forms in
    let read : text_at (map (λ t. form_of t.kind) c.deref-3.result.now) ≡ Ok (statements_of c.in-Ok.raw, left c.statements.new.cursor) = c.in-Ok.ensures.exact in
    only_reading c.args.bytes.now _ _ ss _ is (rw c.deref-3.ensures.value at read) reads

pub returns-clause-count : goal.returns-clause-count
returns-clause-count c =
    let ts = c.in_ok-tokens.tokens.items in
    let few = few_forms c.args.bytes.now (map (λ t. form_of t.kind) ts) (version_made c.args.bytes.now c.in_ok-signs.signs.items ts c.in_ok-signs.ensures c.in_ok-tokens.ensures.forms) in
    let count : vec_len c.in-Ok.raw.statements ≤ length (map (λ t. form_of t.kind) c.deref-3.result.now) = c.in-Ok.ensures.count in
    let here = rw c.deref-3.ensures.value at count in
    omega (arith, here, few)
