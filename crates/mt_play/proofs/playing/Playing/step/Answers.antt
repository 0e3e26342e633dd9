use Rattle.std.proofs.Common.{inl, inr, refl}
use Rattle.mt_play.specs.Plays.{IsLeft, IsLeftBy}
use Rattle.mt_play.proofs.Committing.{on_err_then}
use Rattle.mt_play.proofs.Coursing.{on_err}
use Rattle.mt_play.proofs.playing.Playing.step.Goals as goal

pub returns-clause-steps : goal.returns-clause-steps
returns-clause-steps c given sessions g is = c.carry_out.ensures.steps given sessions g c.args.event.now is (c.in_ok-planned.ensures.planned given sessions g is)

pub returns-in_err-planned-clause-left : goal.returns-in_err-planned-clause-left
returns-in_err-planned-clause-left c =
    on_err c.from_residual.result (IsLeftBy c.args.self.now c.args.event.now c.args.self.now) (inl refl)

pub returns-clause-left : goal.returns-clause-left
returns-clause-left c =
    let old = c.args.self.now in
    let new = c.carry_out.new.self in
    let planned = c.in_ok-planned.planned in
    on_err_then c.carry_out.result (IsLeft planned.course planned.outcome old.store new.store) (IsLeftBy old c.args.event.now new)
    (λ left. inr (record { planned = planned; line = λ given sessions g is. c.in_ok-planned.ensures.planned given sessions g is; journal = left }))
    c.carry_out.ensures.left
