use Rattle.mt_lasting.proofs.Alone.{alone, nothing_else}
use Rattle.mt_lasting.proofs.Anyones.{anyones_change, anyones_taken}
use Rattle.mt_lasting.proofs.laws.only_what_lasts_changes.Goals as goal

pub returns : goal.returns
returns c = record { alone = alone; nothing = nothing_else; steps = anyones_change; taken = anyones_taken }
