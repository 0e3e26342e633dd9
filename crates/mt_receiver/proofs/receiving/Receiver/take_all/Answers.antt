use Rattle.std.proofs.Common.{refl, subst, ◌∙◌, arith, Bool, []}
use Rattle.mt_receiver.specs.Receives.{Went}
use Rattle.mt_receiver.proofs.Puts.{same_none, same_on}
use Rattle.mt_receiver.proofs.Taking.{ended_with, stands_on, took_none}
use Rattle.mt_receiver.proofs.receiving.Receiver.take_all.Goals as goal

pub loop-init : goal.loop-init
loop-init g c = record {
  room = refl;
  same = same_none c.args.senders.now;
  ids = (refl, refl);
  stands = record {
    given = [];
    took = took_none c.args.self.now.ids.now 0 c.args.senders.now (g.I.Intake.held c.args.intake.now) (g.I.Intake.clock c.args.intake.now);
    ids_are = refl;
    limit_is = refl;
    woken = c.requires.begins.0;
    count = c.requires.begins.1;
    clock_is = refl;
    goes_on = (let none = c.requires.begins.1 in let some = c.requires.begins.2 in omega arith);
  };
  faults = refl;
}

pub returns-then-branch-clause-took : goal.returns-then-branch-clause-took
returns-then-branch-clause-took g c =
    let went = subst (λ (over : Bool). Went c.loop.self c.is_over_after.new.self c.loop.senders c.is_over_after.new.senders (g.I.Intake.held c.loop.intake) (g.I.Intake.held c.is_over_after.new.intake) (g.I.Intake.clock c.loop.intake) (g.I.Intake.clock c.is_over_after.new.intake) over) c.if-branch.true c.in_ok-is_over_after.ensures.went in
    ended_with c.args.self.now.ids.now c.args.self.now.limit c.loop.self c.is_over_after.new.self c.args.senders.now c.loop.senders c.is_over_after.new.senders _ _ _ _ _ _ c.in_ok-is_over_after.ensures.ids.1 c.loop.invariant.stands went

pub loop-preserved : goal.loop-preserved
loop-preserved g c =
    let went = subst (λ (over : Bool). Went c.loop.self c.is_over_after.new.self c.loop.senders c.is_over_after.new.senders (g.I.Intake.held c.loop.intake) (g.I.Intake.held c.is_over_after.new.intake) (g.I.Intake.clock c.loop.intake) (g.I.Intake.clock c.is_over_after.new.intake) over) c.if-branch.false c.in_ok-is_over_after.ensures.went in
    record {
      room = c.in_ok-is_over_after.ensures.room ∙ c.loop.invariant.room;
      same = same_on c.args.senders.now c.loop.senders c.is_over_after.new.senders c.loop.invariant.same c.in_ok-is_over_after.ensures.same;
      ids = (c.in_ok-is_over_after.ensures.ids.0 ∙ c.loop.invariant.ids.0, c.in_ok-is_over_after.ensures.ids.1 ∙ c.loop.invariant.ids.1);
      stands = stands_on c.args.self.now.ids.now c.args.self.now.limit c.loop.self c.is_over_after.new.self c.args.senders.now c.loop.senders c.is_over_after.new.senders _ _ _ _ _ _ c.in_ok-is_over_after.ensures.ids.0 c.in_ok-is_over_after.ensures.ids.1 c.loop.invariant.stands went;
      faults = c.in_ok-is_over_after.ensures.counts ∙ c.loop.invariant.faults;
    }
