use Rattle.std.proofs.Common.{arith, refl, sym, ◌∙◌, true≢false}
use Rattle.tableau_rules.proofs.SetMeetings.{same_length, met_at, met_is}
use Rattle.tableau_rules.proofs.kids.is_met_by.Goals as goal

pub returns-then-old-new : goal.returns-then-old-new
returns-then-old-new c = record {
  met = (
    λ h. absurd (true≢false (sym h)),
    λ e. absurd (c.if-old-new.true (sym (same_length c.args.effect c.args.new.now c.args.old.now e))),
  );
}

pub returns-then-new-place : goal.returns-then-new-place
returns-then-new-place c = record {
  met = (
    λ h. absurd (true≢false (sym h)),
    λ e. absurd (c.if-new-place.true
        (met_at c.args.effect c.args.new.now c.args.old.now c.places.place (record { 0 = 0 }) (omega arith) e ∙ sym c.set_by.ensures.set)),
  );
}

pub returns : goal.returns
returns c = record {
  met = (
    λ _. met_is c.args.effect c.args.new.now c.args.old.now (record { 0 = 0 }) c.if-old-new.false (λ k l. c.places.invariant k (omega arith)),
    λ _. refl,
  );
}
