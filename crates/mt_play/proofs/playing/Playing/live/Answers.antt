use Rattle.std.proofs.Common.{ap, ◌∙◌}
use Rattle.mt_whole.specs.mt_machine.State.{State}
use Rattle.mt_whole.specs.mt_runs.Whole.{fabric_live}
use Rattle.mt_play.proofs.playing.Playing.live.Goals as goal

pub returns : goal.returns
returns c given sessions g is = c.live.ensures ∙ ap (λ (s : State). fabric_live s.node c.args.session) is.whole.state
