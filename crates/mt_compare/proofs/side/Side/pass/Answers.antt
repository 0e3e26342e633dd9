use Rattle.std.proofs.Common.{subst, sym}
use Rattle.mt_play.specs.Plays.{IsPlaying}
use Rattle.mt_play.specs.declared.playing.Playing.{Playing}
use Rattle.mt_compare.proofs.side.Side.pass.Goals as goal

pub returns-in-Goes-clause-passed : goal.returns-in-Goes-clause-passed
returns-in-Goes-clause-passed c given sessions g is =
    c.go_on.ensures.passed given sessions g is (c.in_ok-planned.ensures.planned given sessions g (subst (λ (p : Playing). IsPlaying p given sessions g) (sym c.playing.ensures) is.playing))

pub returns-in-Stops-clause-passed : goal.returns-in-Stops-clause-passed
returns-in-Stops-clause-passed c given sessions g is =
    c.stop_in.ensures.passed given sessions g is (c.in_ok-planned.ensures.planned given sessions g (subst (λ (p : Playing). IsPlaying p given sessions g) (sym c.playing.ensures) is.playing))
