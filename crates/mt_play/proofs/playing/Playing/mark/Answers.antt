use Rattle.mt_play.proofs.playing.Playing.mark.Goals as goal

pub returns : goal.returns
returns c given sessions g is = c.mark.ensures g.whole is.whole
