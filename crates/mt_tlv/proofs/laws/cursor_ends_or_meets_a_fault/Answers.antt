use Rattle.mt_tlv.proofs.Ends.{ends_or_faults}
use Rattle.mt_tlv.proofs.laws.cursor_ends_or_meets_a_fault.Goals as goal

pub returns : goal.returns
returns c = ends_or_faults
