-- What holds of single clusters in every run.
use Rattle.std.specs.Prelude.{◌≡◌, ℕ, List, Ok}
use Rattle.mt_config.specs.Configuration.{IsConfiguration}
use Rattle.mt_files.specs.Recording.{recording_of}
use Rattle.mt_model.specs.declared.texts.config.Config.{Config}
use Rattle.mt_model.specs.declared.texts.recording.Event.{Event}
use Rattle.mt_keysets.specs.Laws.{OthersLeaveThem, SetsAreItsOwn}
use Rattle.mt_secrecy.specs.Alike.{AllAlike}
use Rattle.mt_secrecy.specs.Laws.{KeysAreInNoMessage, KeysAreNeverSent}
use Rattle.mt_windows.specs.Laws.{BasicOpensAreExact, OpensAreExact, RevokesAreExact, RunsShowTheirWindows, WindowsAreOpenSinceOpened}
use Rattle.mt_endings.specs.Endings.{Recordings, of_files}
use Rattle.mt_top.specs.Asked.{replayed}

-- A commissioning window, through every stop of the disk.
pub record WindowsAreExact : Type 0 where
  -- at each moment its rows are those that the lines so far have made of it
  pub rows : RunsShowTheirWindows
  -- it is open from the line that opens it up to the line that closes it, and at no other time
  pub opened : WindowsAreOpenSinceOpened
  -- each of its three commands is refused exactly where one of its causes stands
  pub opens : OpensAreExact
  pub basic_opens : BasicOpensAreExact
  pub revokes : RevokesAreExact

-- The group key sets of a fabric, through every stop of the disk.
pub record KeySetsAreTheirOwn : Type 0 where
  -- at each moment they are what the fabric's own commands made of them, and none where it entered the table or left it
  pub run : SetsAreItsOwn
  -- a line of another leaves them while the fabric is in the table
  pub others : OthersLeaveThem

-- Two recordings that say the same but for the epoch keys of group key sets come to the same output, with every configuration.
abbrev pub OutputsHaveNoKeys : Type 0
OutputsHaveNoKeys = (config : Config) (bytes : List ℕ) (recordings others : Recordings) (events other_events : List Event)
    → IsConfiguration bytes config → recording_of recordings.first ≡ Ok events → recording_of others.first ≡ Ok other_events → AllAlike events other_events
    → of_files replayed bytes recordings ≡ of_files replayed bytes others

-- No epoch key is ever sent.
pub record KeysAreSecret : Type 0 where
  -- the same bytes are sent in both, in the same order
  pub sent : KeysAreNeverSent
  -- and to the same fabrics
  pub messages : KeysAreInNoMessage
  -- so `replay` writes the same
  pub written : OutputsHaveNoKeys
