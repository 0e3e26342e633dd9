use Rattle.std.proofs.Common.{◌≡◌, ◌∙◌, List, ap, subst}
use Rattle.mt_model.specs.declared.texts.config.SessionRow.{SessionRow}
use Rattle.mt_model.specs.texts.Contents.{contents_of}
use Rattle.mt_whole.specs.mt_machine.Environment.{given_by}
use Rattle.mt_whole.specs.mt_regained.Reopening.{reopened_node}
use Rattle.mt_whole.specs.Plan.{whole_from}
use Rattle.mt_whole.specs.Talks.{IsWholeOf}
use Rattle.mt_play.specs.Courses.{coming}
use Rattle.mt_play.specs.Plays.{left_ceiling, left_node}
use Rattle.mt_play.specs.declared.playing.Playing.{Playing}
use Rattle.mt_play.proofs.Coursing.{on_err}
use Rattle.mt_play.proofs.Reopening.{reopened_whole}
use Rattle.mt_play.proofs.playing.Playing.stop_in.Goals as goal

pub reopen-requires : goal.reopen-requires
reopen-requires c =
    let self = c.args.self.now in
    record { rests = (left_node self c.args.outcome c.args.by, left_ceiling self c.args.outcome c.args.by, c.in_ok-lose_power.ensures.rests) }

pub returns-in_err-reopen-clause-stays : goal.returns-in_err-reopen-clause-stays
returns-in_err-reopen-clause-stays c =
    on_err c.from_residual-in_err-reopen.result (c.reopen.new.self.whole ≡ c.args.self.now.whole) (c.in_err-reopen.ensures.stays ∙ ap (λ (p : Playing). p.whole) c.lose_power.ensures.stays)

pub returns-clause-stops : goal.returns-clause-stops
returns-clause-stops c given sessions g event is brings =
    let self = c.args.self.now in
    let new = c.reopen.new.self in
    let node = left_node self c.args.outcome c.args.by in
    let ceiling = left_ceiling self c.args.outcome c.args.by in
    let config = c.reopen.ensures.config ∙ ap (λ (p : Playing). p.config) c.lose_power.ensures.stays in
    let rows : new.config.now.sessions ≡ sessions = (λ i. (config i).now.sessions) ∙ is.rows in
    let reopened = c.in_ok-reopen.ensures.reopened node ceiling c.in_ok-lose_power.ensures.rests in
    record {
      sent = c.new.ensures;
      stands = record {
        by = (λ i. given_by (contents_of (config i).now)) ∙ is.by;
        rows = rows;
        whole = subst (IsWholeOf new.whole) (reopened_whole c.stops_leave_all.ensures given g event self c.args.by is.whole sessions c.args.outcome brings)
            (subst (λ (all : List SessionRow). IsWholeOf new.whole (whole_from (reopened_node all ceiling node) ceiling all)) rows reopened.whole);
        stop = ap coming reopened.none;
      };
    }
