use Rattle.std.proofs.Common.{◌≡◌, ◌+◌, ◌<◌, inr, length, rules, true, false, Some, None}
use Rattle.state_space.specs.Ranges.{form_of, IsGoodRange}
use Rattle.state_space.specs.Spaces.{names}
use Rattle.entity_types.specs.Joined.{joined_names, first_taken}
use Rattle.entity_types.specs.Attributes.{is_some_long, a_bad_range, a_long_name, a_name_there, too_many}
use Rattle.entity_types.proofs.joined.new_names.Goals as goal

pub returns-then-not-is_good-clause-refused : goal.returns-then-not-is_good-clause-refused
returns-then-not-is_good-clause-refused c =
    let bad : ¬ (IsGoodRange (form_of c.args.range.now)) = search rules in
    inr (a_bad_range bad)

pub returns-then-is_some_long-clause-refused : goal.returns-then-is_some_long-clause-refused
returns-then-is_some_long-clause-refused c =
    let good : IsGoodRange (form_of c.args.range.now) = search rules in
    let long : is_some_long c.args.attr.now c.args.members.now ≡ true = search rules in
    inr (a_long_name good long)

pub returns-in-Some-clause-refused : goal.returns-in-Some-clause-refused
returns-in-Some-clause-refused c =
    let good : IsGoodRange (form_of c.args.range.now) = search rules in
    let short : is_some_long c.args.attr.now c.args.members.now ≡ false = search rules in
    let there : first_taken (names c.args.space.now) (joined_names c.args.attr.now c.args.members.now) ≡ Some c.in-Some.member = search rules in
    inr (a_name_there c.in-Some.member good short there)

pub returns-then-from-members-gt64-clause-refused : goal.returns-then-from-members-gt64-clause-refused
returns-then-from-members-gt64-clause-refused c =
    let good : IsGoodRange (form_of c.args.range.now) = search rules in
    let short : is_some_long c.args.attr.now c.args.members.now ≡ false = search rules in
    let free : first_taken (names c.args.space.now) (joined_names c.args.attr.now c.args.members.now) ≡ None = search rules in
    let many : 64 < length (names c.args.space.now) + length c.args.members.now = search rules in
    inr (too_many good short free many)
