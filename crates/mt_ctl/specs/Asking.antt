-- What a controller sends for a script: a datagram for each step, sealed by the other side of the row.
use Rattle.std.specs.Prelude.{ℕ, ◌+◌, ◌==◌, List, [], ◌∷◌, Option, Some, None, if◌then◌else◌}
use Rattle.mt_model.specs.declared.texts.config.SessionRow.{SessionRow}
use Rattle.mt_model.specs.declared.texts.recording.Event.{Event}
use Rattle.mt_model.specs.declared.texts.recording.Event.TheVariants.{Ask, Datagram, Tick, Report, Resend, Stop}
use Rattle.mt_outside.specs.declared.network.Peer.{Peer}
use Rattle.mt_session.specs.Datagrams.{datagram, mirror}
use Rattle.mt_ctl.specs.declared.steps.Step.{Step}
use Rattle.mt_ctl.specs.Steps.{header_of, next_behind}

-- from where a controller sends: 127.0.0.1, as its mapped address, and port 5540
abbrev pub controller : Peer
controller = record { ip = 0 ∷ 0 ∷ 0 ∷ 0 ∷ 0 ∷ 0 ∷ 0 ∷ 0 ∷ 0 ∷ 0 ∷ 255 ∷ 255 ∷ 127 ∷ 0 ∷ 0 ∷ 1 ∷ []; port = 5540 }

-- the event of a step, sealed under this counter by the side of this row, where this is the id of the next exchange
abbrev pub event_of : SessionRow → ℕ → ℕ → Step → Event
event_of row counter next step = Datagram step.ms controller (datagram row counter (header_of next step) step.payload)

-- the events of steps, each under the next counter
abbrev pub events_from : SessionRow → ℕ → ℕ → List Step → List Event
events_from row counter next [] = []
events_from row counter next (step ∷ steps) =
    event_of row counter next step ∷ events_from row (counter + 1) (next_behind next step.kind) steps

-- The events of a script, for the node's row. The counters are those from which the node takes messages,
-- and the controller's exchanges have the ids from 1 on.
abbrev pub asked : SessionRow → List Step → List Event
asked row steps = events_from (mirror row) row.counter_in 1 steps

-- the first of the steps that would have the counter 4,294,967,295, which is never used, by the line of its script
abbrev pub exhausted_from : ℕ → ℕ → List Step → Option ℕ
exhausted_from line counter [] = None
exhausted_from line counter (step ∷ steps) =
    if counter == 4294967295 then Some line else exhausted_from (line + 1) (counter + 1) steps

-- The line of a script, whose head is line 1, for which no counter is left.
abbrev pub exhausted_line : SessionRow → List Step → Option ℕ
exhausted_line row steps = exhausted_from 2 row.counter_in steps

-- the datagrams among events
abbrev pub datagrams_told : List Event → List (List ℕ)
datagrams_told [] = []
datagrams_told (Datagram ms peer bytes ∷ events) = bytes ∷ datagrams_told events
datagrams_told (Ask ms fabric node cats opcode payload ∷ events) = datagrams_told events
datagrams_told (Tick ms ∷ events) = datagrams_told events
datagrams_told (Report ms fabric subscription ∷ events) = datagrams_told events
datagrams_told (Resend ms session ∷ events) = datagrams_told events
datagrams_told (Stop calls fate ∷ events) = datagrams_told events
