-- With which node a disk starts, and why it may not.
use Rattle.std.specs.Prelude.{◌≡◌, ◌<◌, ◌≤◌, ◌^◌, ℕ, List, Some, Ok, Err, ⊤}
use Rattle.mt_durable.specs.declared.durable.Entry.{Entry}
use Rattle.mt_shared.specs.mt_interactions.Configured.{ConfiguredInteractions, IsStarted}
use Rattle.mt_journal.specs.declared.reading.JournalFault.{JournalFault}
use Rattle.mt_journal.specs.declared.reading.JournalFault.TheVariants as journals
use Rattle.mt_shared.specs.mt_keeping.Recovered.{recovered}
use Rattle.mt_model.specs.declared.texts.config.Config.{Config}
use Rattle.mt_model.specs.texts.Contents.{contents_of}
use Rattle.mt_opcreds.specs.Laws.{KeepsRules}
use Rattle.mt_outside.specs.Stream.{one_more}
use Rattle.mt_shared.specs.mt_regained.Begun.{boot_in, ceiling_in}
use Rattle.mt_shared.specs.mt_runs.Isolation.{IsValidWhole}
use Rattle.mt_shared.specs.mt_runs.Whole.{Whole, begun_in}
use Rattle.mt_shared.specs.Replay.{given_in}
use Rattle.mt_starting.specs.declared.starting.StartFault.{StartFault}
use Rattle.mt_starting.specs.declared.starting.StartFault.TheVariants.{Disk, NotAJournal, Worn, Memory}

-- the map with which a node goes on that is recovered of this file
abbrev pub IsRecovered : Config → List ℕ → List Entry → Type 0
IsRecovered config file map = recovered (contents_of config) file ≡ Ok (Some map)

-- One boot more can be counted, and there is room for event numbers.
abbrev pub HasRoom : List Entry → Type 0
HasRoom map = (boot_in map < 2 ^ 31) × (ceiling_in map ≤ 2 ^ 61)

-- THE NODE IS STARTED with this map, which has room.
pub record IsBegunWith (config : Config) (map : List Entry) (node : ConfiguredInteractions) : Type 0 where
  pub room : HasRoom map
  pub started : IsStarted map config node

-- and so with the map that the disk's file has
pub record IsStartedOn (config : Config) (file : List ℕ) (node : ConfiguredInteractions) : Type 0 where
  pub map : List Entry
  pub found : IsRecovered config file map
  pub begun : IsBegunWith config map node

-- THE NODE MAY BE SERVED: its configuration's verdicts keep their rules, and the whole with which its run begins is valid, where nothing has been
-- said over the sessions of its boot.

abbrev pub begun_whole : ConfiguredInteractions → Whole
begun_whole node = record { state = node.state; ledger = node.ledger; talks = begun_in node.state.node.boot node.config.sessions }

pub record MayServe (node : ConfiguredInteractions) : Type 0 where
  pub rules : KeepsRules (given_in node).judged
  pub valid : IsValidWhole (begun_whole node)

-- worn means that the map has no room
abbrev pub IsWornCause : List Entry → StartFault → Type 0
IsWornCause map Worn = HasRoom map → ⊥
IsWornCause map (NotAJournal place) = ⊥
IsWornCause map fault = ⊤

-- WHY IT IS NOT, by what the file has.
abbrev pub IsStartCause : Config → List ℕ → StartFault → Type 0
IsStartCause config file Disk = ⊤
IsStartCause config file (NotAJournal place) = recovered (contents_of config) file ≡ Err place
IsStartCause config file Worn = (map : List Entry) × IsRecovered config file map × (HasRoom map → ⊥)
IsStartCause config file Memory = ⊤

-- The disk has failed where that is the fault, and not otherwise.
abbrev pub HasFailedFor : StartFault → ℕ → ℕ → Type 0
HasFailedFor Disk before now = now ≡ one_more before
HasFailedFor fault before now = now ≡ before

-- what keeps a journal from being recovered
abbrev pub fault_of : JournalFault → StartFault
fault_of journals.Disk = Disk
fault_of (journals.NotAJournal place) = NotAJournal place
fault_of journals.Memory = Memory
