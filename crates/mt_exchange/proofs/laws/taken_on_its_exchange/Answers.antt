use Rattle.mt_exchange.proofs.Heard.{on-its-exchange}
use Rattle.mt_exchange.proofs.laws.taken_on_its_exchange.Goals as goal

pub returns : goal.returns
returns c = on-its-exchange
