use Rattle.mt_play.proofs.playing.Playing.shown.Goals as goal

pub returns : goal.returns
returns c given sessions g is = c.shown.ensures g.whole is.whole
