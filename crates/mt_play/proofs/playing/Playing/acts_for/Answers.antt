use Rattle.std.proofs.Common.{ap, ◌∙◌}
use Rattle.mt_whole.specs.mt_machine.State.{State}
use Rattle.mt_whole.specs.mt_runs.Lines.{fabric_of}
use Rattle.mt_play.proofs.playing.Playing.acts_for.Goals as goal

pub returns : goal.returns
returns c given sessions g is = c.acts_for.ensures ∙ ap (λ (s : State). fabric_of s.node c.args.event.now) is.whole.state
