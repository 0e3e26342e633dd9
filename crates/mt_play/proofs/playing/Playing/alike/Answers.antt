use Rattle.mt_play.proofs.playing.Playing.alike.Goals as goal

pub returns : goal.returns
returns c given to_other mine theirs g h is its = c.alike.ensures g.whole h.whole is.whole its.whole
