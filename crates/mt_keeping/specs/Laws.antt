-- What a node's state on a disk that stops comes to: laws that join commits, stops, recoveries and the states of nodes.
use Rattle.std.specs.Prelude.{◌≡◌, ◌≢◌, ℕ, ◌^◌, ◌<◌, ◌≤◌, true, List, [], Some}
use Rattle.mt_durable.specs.Changes.{change_bytes}
use Rattle.mt_durable.specs.Keeping.{HasRoom, IsAdmitted, IsChange, LeadsTo}
use Rattle.mt_durable.specs.Maps.{have_values, keys_ascend}
use Rattle.mt_durable.specs.Reading.{Says}
use Rattle.mt_durable.specs.Setting.{with_all}
use Rattle.mt_durable.specs.declared.durable.Entry.{Entry}
use Rattle.mt_grammar.specs.Grammar.{is_in_grammar}
use Rattle.mt_journal.specs.Standing.{switch_calls}
use Rattle.mt_journal.specs.declared.position.Position.{Position}
use Rattle.mt_lasting.specs.Contents.{durable}
use Rattle.mt_machine.specs.State.{IsValid}
use Rattle.mt_model.specs.declared.node.state.NodeState.{NodeState}
use Rattle.mt_model.specs.declared.texts.config.Config.{Config}
use Rattle.mt_model.specs.texts.Contents.{Contents, contents_of}
use Rattle.mt_outside.specs.Logs.{log_of}
use Rattle.mt_outside.specs.MemoryDisk as disks
use Rattle.mt_outside.specs.MemoryDisk.{DiskState, restarted}
use Rattle.mt_outside.specs.Stops.{has_stopped}
use Rattle.mt_outside.specs.declared.stop.Stop.{Stop}
use Rattle.mt_regained.specs.Begun.{MayStart, boot_in, ceiling_in, first_change, next_boot}
use Rattle.mt_regained.specs.Reopened.{reopened_map}
use Rattle.mt_regained.specs.Reopening.{reopened_node}
use Rattle.mt_store.specs.Leading.{map_left}
use Rattle.mt_keeping.specs.Recovered.{KeepsMap, RecoversFrom, StopHoldsMap}

-- RECOVERIES.

-- a journal in use on a disk in memory leads to this map, all of it safe
abbrev pub KeepsInMemory : DiskState → Position → List Entry → Type 0
KeepsInMemory disk place map = KeepsMap (λ (d : DiskState). Some (disks.contents_of d)) (λ (d : DiskState). disks.Leaves (disks.held d)) disk place map

-- Of a journal in use is recovered what a node goes on with behind its map.
abbrev pub KeptMapsAreRecovered : Type 0
KeptMapsAreRecovered = (contents : Contents) (disk : DiskState) (place : Position) (map : List Entry) → KeepsInMemory disk place map → RecoversFrom contents map (disks.contents_of disk)

-- Of what a stop in a commit has left of a disk in memory is recovered what a node goes on with behind the map with the change, where the stop
-- came at one of the last two calls and all was kept, and else behind the map from before.
abbrev pub StopsAreRecovered : Type 0
StopsAreRecovered = (contents : Contents) (calls : ℕ) (one other : List Entry) (stop : Stop) (disk : DiskState)
    → StopHoldsMap calls one other (Some stop) disk.stop (log_of disk) → has_stopped disk.stop ≡ true → RecoversFrom contents (map_left calls stop one other) (disks.contents_of (restarted disk))

-- A journal that leads to a map with an entry has its head: a commit to it makes four calls.
abbrev pub KeptMapsTakeFourCalls : Type 0
KeptMapsTakeFourCalls = (disk : DiskState) (place : Position) (map : List Entry) → KeepsInMemory disk place map → map ≢ [] → switch_calls place ≡ 4

-- COMMITS.

-- A change leads from a map to one alone.
abbrev pub ChangesLeadToOne : Type 0
ChangesLeadToOne = (change before after : List Entry) (bytes : List ℕ) → keys_ascend before ≡ true → have_values before ≡ true → Says change bytes → LeadsTo bytes before after → after ≡ with_all change before

-- what may be committed to a store that tells this map
pub record MayCommit (bytes : List ℕ) (told : List Entry) : Type 0 where
  pub form : IsChange bytes
  pub room : HasRoom bytes (Some told)
  pub admitted : IsAdmitted is_in_grammar bytes (Some told)

-- A change may be committed that leads to the map of a valid state.
abbrev pub StatesMayBeCommitted : Type 0
StatesMayBeCommitted = (change told : List Entry) (bytes : List ℕ) (s : NodeState) (ceiling : ℕ) → keys_ascend told ≡ true → have_values told ≡ true → Says change bytes → with_all change told ≡ durable s ceiling
    → IsValid s → ceiling ≤ 2 ^ 62 → MayCommit bytes told

-- What a boot commits first is a change.
abbrev pub FirstChangesAreSaid : Type 0
FirstChangesAreSaid = (boot ceiling : ℕ) → boot ≤ 2 ^ 31 → ceiling ≤ 2 ^ 62 → Says (first_change boot ceiling) (change_bytes (first_change boot ceiling))

-- STATES.

-- A map of a state has an entry: the number of its boot at least.
abbrev pub StatesHaveMaps : Type 0
StatesHaveMaps = (s : NodeState) (ceiling : ℕ) → durable s ceiling ≢ []

-- With this map begins the reopening of a state, where this ceiling of event numbers was stored.
pub record BeginsReopened (config : Config) (s : NodeState) (ceiling : ℕ) (map : List Entry) : Type 0 where
  pub state : next_boot config map ≡ Some (reopened_node config.sessions ceiling s)
  pub ceiling_is : ceiling_in map ≡ ceiling
  pub boot_is : boot_in map ≡ s.boot
  pub may : s.boot < 2 ^ 31 → ceiling ≤ 2 ^ 61 → MayStart map

-- So does the one with which a node goes on that kept what is durable of a valid state.
abbrev pub StatesAreReopened : Type 0
StatesAreReopened = (config : Config) (s : NodeState) (ceiling : ℕ) (map : List Entry) → IsValid s → ceiling ≤ 2 ^ 62 → reopened_map (contents_of config) (durable s ceiling) ≡ Some map
    → BeginsReopened config s ceiling map
