use Rattle.mt_tlv.proofs.Again.{element_again}
use Rattle.mt_tlv.proofs.laws.element_is_read.Goals as goal

pub returns : goal.returns
returns c = element_again
