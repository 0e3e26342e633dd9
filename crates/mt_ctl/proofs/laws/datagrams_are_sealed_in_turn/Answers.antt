use Rattle.mt_ctl.proofs.Ends.{datagrams-append}
use Rattle.mt_ctl.proofs.laws.datagrams_are_sealed_in_turn.Goals as goal

pub returns : goal.returns
returns c = λ row messages message. datagrams-append row messages message row.counter_out
