use Rattle.mt_ccm.proofs.ScheduleFacts.{first_of, own_schedule}
use Rattle.mt_ccm.proofs.sealing.Cipher.new.Goals as goal

pub invariant_of-result : goal.invariant_of-result
invariant_of-result c = own_schedule c.args.key.now c.expanded.result c.expanded.ensures

pub returns : goal.returns
returns c = first_of c.args.key.now c.expanded.result c.expanded.ensures
