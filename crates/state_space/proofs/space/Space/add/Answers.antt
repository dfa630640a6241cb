use Rattle.std.proofs.Common.{Contains, is_ok, rules}
use Rattle.state_space.specs.declared.space.Variable.{Variable}
use Rattle.state_space.specs.Ranges.{form_of, size_of, IsGoodRange}
use Rattle.state_space.specs.Spaces.{names}
use Rattle.state_space.proofs.NameLists.{distinct_grown}
use Rattle.state_space.proofs.SpaceFacts.{full_grown}
use Rattle.state_space.proofs.space.Space.add.Goals as goal

pub invariant_of-self-clause-apart : goal.invariant_of-self-clause-apart
invariant_of-self-clause-apart c =
    let new : ¬ (Contains (names c.args.self.now) c.args.name) = search rules in
    distinct_grown (λ (v : Variable). v.name) c.args.self.now.variables.items c.push_all.new.variables.items _ (is_ok c.push_all.result) c.args.self.now.apart new c.push_all.ensures.variables

pub invariant_of-self-clause-whole : goal.invariant_of-self-clause-whole
invariant_of-self-clause-whole c =
    let good : IsGoodRange (form_of c.args.range) = search rules in
    full_grown (λ (v : Variable). size_of (form_of v.range)) c.args.self.now.variables.items c.push_all.new.variables.items _ c.args.self.now.full.items c.push_all.new.full.items _ (is_ok c.push_all.result)
    c.args.self.now.whole (let few = good.few in let is = c.size.ensures.size in search rules) c.push_all.ensures.variables c.push_all.ensures.full

pub invariant_of-self-clause-indexed : goal.invariant_of-self-clause-indexed
invariant_of-self-clause-indexed c = c.push_all.ensures.places c.args.self.now.indexed
