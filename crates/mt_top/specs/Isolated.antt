-- What each fabric is sent of a run is determined by its own part and its marks, through every stop of the disk.
use Rattle.std.specs.Prelude.{◌≡◌, ◌≢◌, ℕ, List, Ok, map}
use Rattle.mt_config.specs.Configuration.{IsConfiguration}
use Rattle.mt_files.specs.Output.{sent_line}
use Rattle.mt_files.specs.Recording.{recording_of}
use Rattle.mt_model.specs.declared.texts.config.Config.{Config}
use Rattle.mt_model.specs.declared.texts.recording.Event.{Event}
use Rattle.mt_model.specs.texts.Contents.{contents_of}
use Rattle.mt_compare.specs.mt_runs.Course.{Going}
use Rattle.mt_compare.specs.mt_runs.Isolation.{IsValidWhole, own_part}
use Rattle.mt_compare.specs.mt_runs.Laws.{HasRoom}
use Rattle.mt_compare.specs.mt_runs.Marks.{marks}
use Rattle.mt_compare.specs.mt_runs.Messages.{Message, behind, messages, messages_to}
use Rattle.mt_compare.specs.mt_runs.Replay.{ends, held}
use Rattle.mt_endings.specs.Endings.{Recordings, of_files}
use Rattle.mt_top.specs.Asked.{replayed}
use Rattle.mt_top.specs.Begun.{Begun, begun_with}

-- the line of a message
abbrev pub line_to : Message → List ℕ
line_to message = sent_line message.sent

-- another run, from a valid whole and with room for its boots, in which a fabric begins with the same own part and has the same marks; whatever
-- stop of its disk is to come
pub record IsAlike (begun : Begun) (events : List Event) (fabric : ℕ) (other : Going) (others : List Event) : Type 0 where
  pub valid : IsValidWhole other.whole
  pub room : HasRoom other others
  pub own : own_part fabric begun.going.whole ≡ own_part fabric other.whole
  pub marked : marks begun.given begun.sessions fabric begun.going events ≡ marks begun.given begun.sessions fabric other others

-- Whatever other run there is that is alike for a fabric, that fabric is sent in it exactly what it is sent in this one.
abbrev pub IsDetermined : Begun → List Event → Type 0
IsDetermined begun events = (fabric : ℕ) (other : Going) (others : List Event) → fabric ≢ 0 → IsAlike begun events fabric other others
    → messages_to fabric (messages begun.given begun.sessions begun.going events) ≡ messages_to fabric (messages begun.given begun.sessions other others)

-- And it holds the same at the end, its own part where it is in the table, and nothing otherwise; and so it is wherever one of its lives ends.

abbrev pub LeavesTheSame : Begun → List Event → Type 0
LeavesTheSame begun events = (fabric : ℕ) (other : Going) (others : List Event) → fabric ≢ 0 → IsAlike begun events fabric other others
    → held fabric (behind begun.given begun.sessions begun.going events).whole ≡ held fabric (behind begun.given begun.sessions other others).whole

abbrev pub EndsTheSame : Begun → List Event → Type 0
EndsTheSame begun events = (fabric : ℕ) (other : Going) (others : List Event) → fabric ≢ 0 → IsAlike begun events fabric other others
    → ends begun.given begun.sessions fabric begun.going events ≡ ends begun.given begun.sessions fabric other others

-- These lines are the messages of the run, each to one fabric, and so it is with each fabric.
pub record IsIsolated (begun : Begun) (events : List Event) (lines : List (List ℕ)) : Type 0 where
  pub told : lines ≡ map line_to (messages begun.given begun.sessions begun.going events)
  pub determined : IsDetermined begun events
  pub left : LeavesTheSame begun events
  pub ended : EndsTheSame begun events

-- So it is with the lines to which every configuration and every recording come.
abbrev pub RunsAreIsolated : Type 0
RunsAreIsolated = (config : Config) (bytes : List ℕ) (recordings : Recordings) (events : List Event) → IsConfiguration bytes config → recording_of recordings.first ≡ Ok events
    → IsIsolated (begun_with (contents_of config)) events (of_files replayed bytes recordings).lines
