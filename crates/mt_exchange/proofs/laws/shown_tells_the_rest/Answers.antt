use Rattle.mt_exchange.proofs.Retelling.{tells}
use Rattle.mt_exchange.proofs.laws.shown_tells_the_rest.Goals as goal

pub returns : goal.returns
returns c = tells
