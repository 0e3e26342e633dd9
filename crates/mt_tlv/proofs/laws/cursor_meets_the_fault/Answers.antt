use Rattle.mt_tlv.proofs.Faults.{read_fault_met, met_fault_read, met_never}
use Rattle.mt_tlv.proofs.laws.cursor_meets_the_fault.Goals as goal

pub returns-clause-read : goal.returns-clause-read
returns-clause-read c = read_fault_met

pub returns-clause-met : goal.returns-clause-met
returns-clause-met c = met_fault_read

pub returns-clause-never : goal.returns-clause-never
returns-clause-never c = met_never
