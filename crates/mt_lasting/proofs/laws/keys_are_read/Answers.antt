use Rattle.mt_lasting.proofs.KeyOrder.{keys_read}
use Rattle.mt_lasting.proofs.laws.keys_are_read.Goals as goal

pub returns : goal.returns
returns c = keys_read
