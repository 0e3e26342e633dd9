use Rattle.std.proofs.Common.{Option, ◌∷◌, ap, refl, subst, sym, ◌∙◌}
use Rattle.mt_play.specs.mt_runs.Course.{stepped}
use Rattle.mt_play.specs.mt_runs.Isolation.{own_part}
use Rattle.mt_play.specs.mt_runs.Marks.{born, gone}
use Rattle.mt_play.specs.mt_marks.Marked.{marked_at}
use Rattle.mt_play.specs.Plays.{IsPlaying}
use Rattle.mt_play.specs.declared.playing.Playing.{Playing}
use Rattle.mt_compare.specs.Sides.{if_lost_at}
use Rattle.mt_compare.specs.declared.passing.Passed.TheVariants as passes
use Rattle.mt_compare.specs.declared.side.LineOf.{LineOf}
use Rattle.mt_compare.proofs.Changing.{changes}
use Rattle.mt_compare.proofs.side.Side.go_on.Goals as goal

pub returns-in-Stays-clause-passed : goal.returns-in-Stays-clause-passed
returns-in-Stays-clause-passed c given sessions g is line =
    let fabric = c.args.fabric in
    let event = c.args.event.now in
    let now = stepped given sessions g event in
    let steps = c.in_ok-carry_out.ensures.steps given sessions g is line in
    let had = c.has-was.ensures given sessions g (subst (λ (p : Playing). IsPlaying p given sessions g) (sym c.playing.ensures) is.playing) in
    let acts = c.acts_for.ensures given sessions g (subst (λ (p : Playing). IsPlaying p given sessions g) (sym c.playing-2.ensures) is.playing) in
    let has = c.has.ensures given sessions now (subst (λ (p : Playing). IsPlaying p given sessions now) (sym c.playing-3.ensures) steps.stands.playing) in
    let marks = changes given sessions fabric g event c.args.planned.course c.requires.goes line.course c.has-was.result c.has.result c.acts_for.result passes.Stays had acts has c.in-Stays.ensures in
    record { stands = steps.stands; unseen = refl; rest = refl; marks = (marks, c.requires.told) }

pub returns-in-Enters-clause-passed : goal.returns-in-Enters-clause-passed
returns-in-Enters-clause-passed c given sessions g is line =
    let fabric = c.args.fabric in
    let event = c.args.event.now in
    let now = stepped given sessions g event in
    let steps = c.in_ok-carry_out.ensures.steps given sessions g is line in
    let had = c.has-was.ensures given sessions g (subst (λ (p : Playing). IsPlaying p given sessions g) (sym c.playing.ensures) is.playing) in
    let acts = c.acts_for.ensures given sessions g (subst (λ (p : Playing). IsPlaying p given sessions g) (sym c.playing-2.ensures) is.playing) in
    let has = c.has.ensures given sessions now (subst (λ (p : Playing). IsPlaying p given sessions now) (sym c.playing-3.ensures) steps.stands.playing) in
    let marks = changes given sessions fabric g event c.args.planned.course c.requires.goes line.course c.has-was.result c.has.result c.acts_for.result passes.Enters had acts has c.in-Enters.ensures in
    let none_lost = ap (λ (lost : Option LineOf). marked_at event (born (own_part fabric now.whole)) ∷ if_lost_at lost) (sym c.requires.told) in
    record { stands = steps.stands; unseen = refl; rest = refl; marks = (event, refl, marks ∙ none_lost) }

pub returns-in-Leaves-clause-passed : goal.returns-in-Leaves-clause-passed
returns-in-Leaves-clause-passed c given sessions g is line =
    let fabric = c.args.fabric in
    let event = c.args.event.now in
    let now = stepped given sessions g event in
    let steps = c.in_ok-carry_out.ensures.steps given sessions g is line in
    let had = c.has-was.ensures given sessions g (subst (λ (p : Playing). IsPlaying p given sessions g) (sym c.playing.ensures) is.playing) in
    let acts = c.acts_for.ensures given sessions g (subst (λ (p : Playing). IsPlaying p given sessions g) (sym c.playing-2.ensures) is.playing) in
    let has = c.has.ensures given sessions now (subst (λ (p : Playing). IsPlaying p given sessions now) (sym c.playing-3.ensures) steps.stands.playing) in
    let marks = changes given sessions fabric g event c.args.planned.course c.requires.goes line.course c.has-was.result c.has.result c.acts_for.result passes.Leaves had acts has c.in-Leaves.ensures in
    let none_lost = ap (λ (lost : Option LineOf). marked_at event gone ∷ if_lost_at lost) (sym c.requires.told) in
    record { stands = steps.stands; unseen = refl; rest = refl; marks = (event, refl, marks ∙ none_lost) }
