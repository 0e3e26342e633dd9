use Rattle.std.proofs.Common.{ap, ◌∙◌}
use Rattle.mt_whole.specs.mt_machine.State.{State}
use Rattle.mt_play.proofs.playing.Playing.armed.Goals as goal

pub returns : goal.returns
returns c given sessions g is = c.armed.ensures ∙ ap (λ (s : State). s.node.armed) is.whole.state
