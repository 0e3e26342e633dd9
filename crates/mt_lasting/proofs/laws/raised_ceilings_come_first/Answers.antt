use Rattle.mt_lasting.proofs.Boots.{boot_stays}
use Rattle.mt_lasting.proofs.Ceilings.{raised_first, same_under_any}
use Rattle.mt_lasting.proofs.laws.raised_ceilings_come_first.Goals as goal

pub returns : goal.returns
returns c = record { first = raised_first; any = same_under_any; boot = boot_stays }
