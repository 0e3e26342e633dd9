use Rattle.mt_tlv.proofs.Narrowest.{narrow_again}
use Rattle.mt_tlv.proofs.laws.written_is_read.Goals as goal

pub returns : goal.returns
returns c = narrow_again
