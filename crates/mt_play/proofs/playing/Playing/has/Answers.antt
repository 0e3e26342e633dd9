use Rattle.std.proofs.Common.{ap, ◌∙◌}
use Rattle.mt_whole.specs.mt_machine.State.{State, is_member}
use Rattle.mt_play.proofs.playing.Playing.has.Goals as goal

pub returns : goal.returns
returns c given sessions g is = c.has.ensures ∙ ap (λ (s : State). is_member c.args.fabric s.node) is.whole.state
