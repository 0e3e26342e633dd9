-- The map with which a node goes on: that of its journal, rolled back. A node that has never started goes on with its configuration's fabrics
-- and entries.
use Rattle.std.specs.Prelude.{◌≡◌, ◌<◌, ◌≤◌, ◌^◌, true, List, [], ◌∷◌, Option, Some}
use Rattle.std.specs.List.{list_all}
use Rattle.mt_durable.specs.Changes.{change_bytes}
use Rattle.mt_durable.specs.Maps.{have_values, keys_ascend}
use Rattle.mt_durable.specs.Reading.{Says}
use Rattle.mt_durable.specs.declared.durable.Entry.{Entry}
use Rattle.mt_model.specs.declared.texts.config.Config.{Config}
use Rattle.mt_model.specs.texts.Contents.{Contents, contents_of}
use Rattle.mt_machine.specs.Opened.{opened, opened_with}
use Rattle.mt_lasting.specs.Contents.{durable}
use Rattle.mt_regained.specs.Begun.{MayStart, boot_in, ceiling_in, next_boot}
use Rattle.mt_regained.specs.Laws.{is_of_bytes}
use Rattle.mt_regained.specs.Rolled.{rolled_map}

-- the map of a node that has never started
abbrev pub new_map : Contents → List Entry
new_map contents = durable (opened_with 0 contents.fabrics contents.entries []) 0

-- None where the map is not in the grammar of states
abbrev pub reopened_map : Contents → List Entry → Option (List Entry)
reopened_map contents [] = Some (new_map contents)
reopened_map contents (entry ∷ entries) = rolled_map (entry ∷ entries)

-- the map has an image
abbrev pub HasImage : List Entry → Type 0
HasImage map = Says map (change_bytes map)

-- With the map with which a node goes on it goes on again: a rollback is made once.
abbrev pub GoesOnAgain : Type 0
GoesOnAgain = (config : Config) (map reopened : List Entry) → list_all is_of_bytes map ≡ true → keys_ascend map ≡ true → have_values map ≡ true
    → reopened_map (contents_of config) map ≡ Some reopened → reopened_map (contents_of config) reopened ≡ Some reopened

-- With the map with which it goes on a node may start, where it can count one more boot and has room for event numbers.
abbrev pub ReopenedMayStart : Type 0
ReopenedMayStart = (config : Config) (map reopened : List Entry) → list_all is_of_bytes map ≡ true → keys_ascend map ≡ true → have_values map ≡ true
    → reopened_map (contents_of config) map ≡ Some reopened → boot_in reopened < 2 ^ 31 → ceiling_in reopened ≤ 2 ^ 61 → MayStart reopened

-- A new node starts in its first boot, at the event number 0.

pub record BeginsAsNew (config : Config) : Type 0 where
  pub may : MayStart (new_map (contents_of config))
  pub state : next_boot config (new_map (contents_of config)) ≡ Some (opened config)
  pub ceiling : ceiling_in (new_map (contents_of config)) ≡ 0

abbrev pub NewNodesBegin : Type 0
NewNodesBegin = (config : Config) → BeginsAsNew config
