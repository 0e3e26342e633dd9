use Rattle.std.proofs.Common.{refl, subst, sym}
use Rattle.mt_model.specs.declared.texts.recording.Event.TheVariants as events
use Rattle.mt_play.specs.mt_runs.Course.{stepped}
use Rattle.mt_play.specs.Plays.{IsPlaying}
use Rattle.mt_play.specs.declared.playing.Playing.{Playing}
use Rattle.mt_compare.proofs.Reopening.{reopens}
use Rattle.mt_compare.proofs.side.Side.stop_in.Goals as goal

pub returns-clause-passed : goal.returns-clause-passed
returns-clause-passed c given sessions g is line =
    let event = c.args.event.now in
    let by = c.args.by in
    let now = stepped given sessions g event in
    let steps = c.in_ok-carry_out.ensures.steps given sessions g is line in
    let had = c.has-was.ensures given sessions g (subst (λ (p : Playing). IsPlaying p given sessions g) (sym c.playing.ensures) is.playing) in
    let acts = c.acts_for.ensures given sessions g (subst (λ (p : Playing). IsPlaying p given sessions g) (sym c.playing-2.ensures) is.playing) in
    let shown = c.in_ok-mark.ensures given sessions g (subst (λ (p : Playing). IsPlaying p given sessions g) (sym c.playing-3.ensures) is.playing) in
    let has = c.has.ensures given sessions now (subst (λ (p : Playing). IsPlaying p given sessions now) (sym c.playing-4.ensures) steps.stands.playing) in
    let marks =
    reopens given sessions c.args.fabric g event by c.args.survives c.args.planned.course c.requires.course line.course c.in_ok-mark.mark c.in_ok-left.left
    c.has-was.result c.has.result c.acts_for.result c.lost_by-self.result shown c.in_ok-left.ensures had acts has c.lost_by-self.ensures in
    record { stands = steps.stands; unseen = refl; rest = refl; marks = (events.Stop by.asked by.fate, refl, marks) }
