use Rattle.mt_tlv.proofs.Longer.{element_stays, fault_stays}
use Rattle.mt_tlv.proofs.laws.later_bytes_change_nothing.Goals as goal

pub returns-clause-read : goal.returns-clause-read
returns-clause-read c bytes later rest tag v is = element_stays bytes later ((tag, v), rest) is

pub returns-clause-fault : goal.returns-clause-fault
returns-clause-fault c = fault_stays
