-- What is asked is opened by the node, and what is shown tells of what it sealed.
use Rattle.std.specs.Prelude.{◌≡◌, ◌≤◌, ◌+◌, ℕ, List, [], All, length, map, None, Some, Ok}
use Rattle.mt_config.specs.Configuration.{IsConfiguration}
use Rattle.mt_ctl.specs.Asking.{datagrams_told, exhausted_line}
use Rattle.mt_ctl.specs.Hearing.{answers, datagrams_from, numbered}
use Rattle.mt_ctl.specs.Script.{script_of}
use Rattle.mt_ctl.specs.Showing.{bytes_of, datagrams_in, shown_each}
use Rattle.mt_ctl.specs.Steps.{script_headers}
use Rattle.mt_ctl.specs.Testing.{AreToldOf}
use Rattle.mt_ctl.specs.Text.{shown_line}
use Rattle.mt_ctl.specs.declared.showing.Shown.{Shown}
use Rattle.mt_ctl.specs.declared.steps.Step.{Step}
use Rattle.mt_files.specs.Lines.{text_of}
use Rattle.mt_files.specs.Output.{output_of}
use Rattle.mt_files.specs.Recording.{recording_of}
use Rattle.mt_frame.specs.Writing.{IsProtocol}
use Rattle.mt_model.specs.declared.texts.config.Config.{Config}
use Rattle.mt_model.specs.declared.texts.config.SessionRow.{SessionRow}
use Rattle.mt_model.specs.declared.texts.recording.Event.{Event}
use Rattle.mt_model.specs.declared.texts.recording.Sent.{Sent}
use Rattle.mt_model.specs.texts.Contents.{contents_of}
use Rattle.mt_session.specs.Sessions.{Message}
use Rattle.mt_endings.specs.Endings.{Ending, Recordings, of_files}
use Rattle.mt_asking.specs.Asked.{asking, showing}
use Rattle.mt_asking.specs.Rows.{row_of}

-- What is written for a script is a recording. A new session of the node opens its datagrams, in their order, to exactly the protocol headers and
-- payloads of the script, each under its counter.
pub record IsOpened (row : SessionRow) (steps : List Step) (ending : Ending) : Type 0 where
  pub whole : ending.fault ≡ None
  pub events : List Event
  pub recording : recording_of (text_of ending.lines) ≡ Ok events
  pub opened : answers row (datagrams_told events) ≡ map Ok (numbered row.counter_in (script_headers steps))

-- So it is with every configuration and every script, on each session that has counters enough.
abbrev pub AskedIsOpened : Type 0
AskedIsOpened = (session : ℕ) (config : Config) (bytes : List ℕ) (recordings : Recordings) (row : SessionRow) (steps : List Step)
    → IsConfiguration bytes config → row_of session (contents_of config) ≡ Some row → script_of recordings.first ≡ Ok steps → exhausted_line row steps ≡ None
    → IsOpened row steps (of_files (asking session) bytes recordings)

-- These are the messages that a new session of the node seals in what was sent, one after the other.
pub record AreSealed (row : SessionRow) (messages : List Message) (sent : List Sent) : Type 0 where
  pub spelled : All (λ message. IsProtocol message.header) messages
  pub enough : row.counter_out + length messages ≤ 4294967295
  pub datagrams : bytes_of (datagrams_in sent) ≡ datagrams_from row row.counter_out messages

-- A line is written for each datagram. One that is opened has a message that is sealed in it with the node's key, one that is closed has the kind of
-- the first test that it fails, and no other is closed. And what a new session of the node sealed is shown exactly.
pub record IsShown (row : SessionRow) (sent : List Sent) (ending : Ending) : Type 0 where
  pub whole : ending.fault ≡ None
  pub items : List Shown
  pub lines : ending.lines ≡ map shown_line items
  pub told : AreToldOf row [] (datagrams_in sent) items
  pub sealed : (messages : List Message) → AreSealed row messages sent → items ≡ shown_each (datagrams_in sent) (map Ok (numbered row.counter_out messages))

-- So it is with every configuration and every output, on each session.
abbrev pub ShownIsExact : Type 0
ShownIsExact = (session : ℕ) (config : Config) (bytes : List ℕ) (recordings : Recordings) (row : SessionRow) (sent : List Sent)
    → IsConfiguration bytes config → row_of session (contents_of config) ≡ Some row → output_of recordings.first ≡ Ok sent
    → IsShown row sent (of_files (showing session) bytes recordings)
