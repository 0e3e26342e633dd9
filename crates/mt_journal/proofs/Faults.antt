-- A fault that is handed on.
use Rattle.std.proofs.Common.{◌≡◌, ℕ}
use Rattle.std.specs.Prelude.{Result, Ok, Err}
use Rattle.mt_journal.specs.Recovering.{HasPlace, IfNotAJournal}
use Rattle.mt_journal.specs.declared.reading.JournalFault.{JournalFault}
use Rattle.mt_journal.specs.declared.reading.JournalFault.TheVariants.{Disk, NotAJournal, Memory}

by_fault : (fault : JournalFault) (P Q : ℕ → Type 0) → HasPlace fault P → ((at : ℕ) → P at → Q at) → HasPlace fault Q
by_fault Disk P Q here leads = here
by_fault (NotAJournal place) P Q here leads = leads place here
by_fault Memory P Q here leads = here

pub handed_on : {T : Type 0} (result : Result T JournalFault) (fault : JournalFault) (P Q : ℕ → Type 0) → result ≡ Err fault → HasPlace fault P → ((at : ℕ) → P at → Q at) → IfNotAJournal result Q
handed_on result fault P Q is here leads = rw is (by_fault fault P Q here leads)

pub at_place : {T : Type 0} (result : Result T JournalFault) (P Q : ℕ → Type 0) → IfNotAJournal result P → ((at : ℕ) → P at → Q at) → IfNotAJournal result Q
at_place (Ok x) P Q here leads = here
at_place (Err fault) P Q here leads = by_fault fault P Q here leads
