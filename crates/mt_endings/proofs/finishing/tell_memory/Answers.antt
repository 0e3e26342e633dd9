use Rattle.std.proofs.Common.{refl, rules}
use Rattle.mt_endings.specs.declared.fault.Fault.TheVariants.{Memory}
use Rattle.mt_endings.specs.Faults.{fault_line, fault_text}
use Rattle.mt_endings.specs.Statuses.{cut_short, whole}
use Rattle.mt_endings.proofs.finishing.tell_memory.Goals as goal

pub returns-in-Ok-clause-tells : goal.returns-in-Ok-clause-tells
unfolding fault_line fault_text
returns-in-Ok-clause-tells g c = (fault_line Memory, whole refl (c.write_all.ensures.cause.stays (search rules)), c.in-Ok.ensures.took)

pub returns-in-Err-clause-tells : goal.returns-in-Err-clause-tells
unfolding fault_line fault_text
returns-in-Err-clause-tells g c =
    let less = c.in-Err.ensures.less in
    (less.0, cut_short less.1 (c.write_all.ensures.cause.rose (search rules)), less.2)
