-- What is shown of the datagrams that a node sends: each is opened by the other side of the row.
use Rattle.std.specs.Prelude.{ℕ, Bool, true, false, List, [], ◌∷◌, filter, Result, Ok, Err}
use Rattle.mt_model.specs.declared.texts.config.SessionRow.{SessionRow}
use Rattle.mt_model.specs.declared.texts.recording.Sent.{Sent}
use Rattle.mt_model.specs.declared.texts.recording.To.{To}
use Rattle.mt_model.specs.declared.texts.recording.To.TheVariants.{Plain, Session}
use Rattle.mt_session.specs.declared.opening.Dropped.{Dropped}
use Rattle.mt_session.specs.declared.opening.Dropped.TheVariants.{Frame, OtherSession, Source, NotSealed, Duplicate, Old}
use Rattle.mt_session.specs.Datagrams.{mirror}
use Rattle.mt_session.specs.Opening.{Arrival, received}
use Rattle.mt_session.specs.Sessions.{arrivals_by, counters}
use Rattle.mt_ctl.specs.declared.showing.Shown.{Shown}
use Rattle.mt_ctl.specs.declared.showing.Shown.TheVariants.{Opened, Closed}

-- whether a message goes to a session's peer, as a datagram
abbrev pub is_sealed_to : To → Bool
is_sealed_to (Session session peer) = true
is_sealed_to (Plain fabric opcode) = false

-- the datagrams among what is sent
abbrev pub datagrams_in : List Sent → List Sent
datagrams_in sent = filter (λ message. is_sealed_to message.to) sent

-- the number of the test that a datagram fails
abbrev pub kind_of : Dropped → ℕ
kind_of (Frame fault) = 1
kind_of OtherSession = 2
kind_of NotSealed = 3
kind_of (Duplicate counter header) = 4
kind_of Old = 5
kind_of Source = 6

-- what is shown of a datagram that was sent at this time, by what a session answers to it
abbrev pub shown_as : ℕ → Result Arrival Dropped → Shown
shown_as ms (Ok arrival) = Opened ms arrival.header arrival.payload
shown_as ms (Err dropped) = Closed ms (kind_of dropped)

-- what a session of this row shows of datagrams, behind what it let in before
abbrev pub shown_behind : SessionRow → List Arrival → List Sent → List Shown
shown_behind row arrivals [] = []
shown_behind row arrivals (message ∷ sent) =
    shown_as message.ms (received row (counters arrivals) message.bytes)
    ∷ shown_behind row (arrivals_by arrivals (received row (counters arrivals) message.bytes)) sent

-- What is shown of all that a node sent, for its row: the other side opens each datagram in its turn.
abbrev pub shown : SessionRow → List Sent → List Shown
shown row sent = shown_behind (mirror row) [] (datagrams_in sent)

-- what is shown of datagrams, by what a session answers to each
abbrev pub shown_each : List Sent → List (Result Arrival Dropped) → List Shown
shown_each [] answers = []
shown_each (message ∷ sent) [] = []
shown_each (message ∷ sent) (answer ∷ answers) = shown_as message.ms answer ∷ shown_each sent answers

-- the bytes of the datagrams
abbrev pub bytes_of : List Sent → List (List ℕ)
bytes_of [] = []
bytes_of (message ∷ sent) = message.bytes ∷ bytes_of sent
