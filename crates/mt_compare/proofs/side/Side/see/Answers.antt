use Rattle.std.proofs.Common.{refl, subst, sym}
use Rattle.mt_play.specs.Plays.{IsPlaying}
use Rattle.mt_play.specs.declared.playing.Playing.{Playing}
use Rattle.mt_compare.proofs.Looking.{is_marked, is_unmarked}
use Rattle.mt_compare.proofs.side.Side.see.Goals as goal

pub returns-in_default-clause-seen : goal.returns-in_default-clause-seen
returns-in_default-clause-seen c given sessions g is =
    let plays = subst (λ (p : Playing). IsPlaying p given sessions g) (sym c.playing.ensures) is.playing in
    (is_unmarked c.args.fabric g.whole c.args.event.now c.in_ok-mark.mark c.in_default.is (c.in_ok-mark.ensures given sessions g plays), record { node = refl; rest = refl; told = refl; lost = refl })

pub returns-clause-seen : goal.returns-clause-seen
returns-clause-seen c given sessions g is =
    let plays = subst (λ (p : Playing). IsPlaying p given sessions g) (sym c.playing.ensures) is.playing in
    let told = is_marked c.args.fabric g.whole c.args.event.now c.in_ok-mark.mark c.in-Some.mark c.in-Some.is (c.in_ok-mark.ensures given sessions g plays) in
    (told.0, record { node = refl; rest = refl; told = refl; lost = refl }, told.1, refl)
