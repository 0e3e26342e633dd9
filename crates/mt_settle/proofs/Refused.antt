-- Why a journal is not recovered, as why nothing is told of it.
use Rattle.std.proofs.Common.{◌≡◌, ℕ, List, ap}
use Rattle.std.specs.Prelude.{Option, Some, Err}
use Rattle.mt_journal.specs.Recovering.{FaultHasCause, HasPlace}
use Rattle.mt_journal.specs.declared.reading.JournalFault.{JournalFault}
use Rattle.mt_journal.specs.declared.reading.JournalFault.TheVariants.{Disk, NotAJournal, Memory}
use Rattle.mt_keeping.specs.Recovered.{recovered}
use Rattle.mt_model.specs.texts.Contents.{Contents}
use Rattle.mt_settle.specs.Settled.{StopsSettling, fault_of, settled_by}

pub stops_settling : (fault : JournalFault) (contents : Contents) (told : Option (List ℕ)) (old new : ℕ) → FaultHasCause old new fault
    → ((journal : List ℕ) → told ≡ Some journal → HasPlace fault (λ at. recovered contents journal ≡ Err at)) → StopsSettling (fault_of fault) contents told old new
stops_settling Disk contents told old new cause refused = cause
stops_settling (NotAJournal place) contents told old new cause refused = (cause, λ journal is. ap settled_by (refused journal is))
stops_settling Memory contents told old new cause refused = cause
