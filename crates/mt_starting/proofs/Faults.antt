-- Why no node starts.
use Rattle.std.proofs.Common.{◌≡◌, ℕ, List}
use Rattle.std.specs.Prelude.{IfErr, IfOk, Result, Ok, Err}
use Rattle.mt_durable.specs.declared.durable.Entry.{Entry}
use Rattle.mt_shared.specs.mt_interactions.Configured.{ConfiguredInteractions}
use Rattle.mt_journal.specs.Recovering.{FaultHasCause, HasPlace}
use Rattle.mt_journal.specs.declared.reading.JournalFault.{JournalFault}
use Rattle.mt_journal.specs.declared.reading.JournalFault.TheVariants as journals
use Rattle.mt_shared.specs.mt_keeping.Recovered.{recovered}
use Rattle.mt_model.specs.declared.texts.config.Config.{Config}
use Rattle.mt_model.specs.texts.Contents.{contents_of}
use Rattle.mt_starting.specs.Starts.{HasFailedFor, IsBegunWith, IsRecovered, IsStartCause, IsStartedOn, IsWornCause, fault_of}
use Rattle.mt_starting.specs.declared.starting.StartFault.{StartFault}
use Rattle.mt_starting.specs.declared.starting.StartFault.TheVariants.{Disk, NotAJournal, Worn, Memory}

pub ok_more : {T E : Type 0} (r : Result T E) (P Q : T → Type 0) → ((t : T) → P t → Q t) → IfOk r P → IfOk r Q
ok_more (Ok t) P Q more its = more t its
ok_more (Err e) P Q more its = tt

pub err_more : {T E : Type 0} (r : Result T E) (P Q : E → Type 0) → ((e : E) → P e → Q e) → IfErr r P → IfErr r Q
err_more (Ok t) P Q more its = tt
err_more (Err e) P Q more its = more e its

pub started_on : (config : Config) (file : List ℕ) (map : List Entry) (node : ConfiguredInteractions) → IsRecovered config file map → IsBegunWith config map node → IsStartedOn config file node
started_on config file map node found begun = record { map = map; found = found; begun = begun }

pub worn_cause : (config : Config) (file : List ℕ) (map : List Entry) (fault : StartFault) → IsRecovered config file map → IsWornCause map fault → IsStartCause config file fault
worn_cause config file map Disk found its = tt
worn_cause config file map (NotAJournal place) found its = absurd its
worn_cause config file map Worn found its = (map, found, its)
worn_cause config file map Memory found its = tt

pub cause_of : (config : Config) (file : List ℕ) (fault : JournalFault) → HasPlace fault (λ at. recovered (contents_of config) file ≡ Err at) → IsStartCause config file (fault_of fault)
cause_of config file journals.Disk its = tt
cause_of config file (journals.NotAJournal place) its = its
cause_of config file journals.Memory its = tt

pub failed_for : (fault : JournalFault) (before now : ℕ) → FaultHasCause before now fault → HasFailedFor (fault_of fault) before now
failed_for journals.Disk before now its = its
failed_for (journals.NotAJournal place) before now its = its
failed_for journals.Memory before now its = its
