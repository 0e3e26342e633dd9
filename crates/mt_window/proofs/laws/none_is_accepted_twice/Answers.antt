use Rattle.std.proofs.Common.{[], arith}
use Rattle.mt_window.proofs.Answered.{once-accepted_over}
use Rattle.mt_window.proofs.laws.none_is_accepted_twice.Goals as goal

pub returns : goal.returns
returns c start counters counter = once-accepted_over counter start [] counters (omega arith)
