-- What a new session answers to datagrams that come one after the other.
use Rattle.std.specs.Prelude.{ℕ, ◌+◌, List, [], ◌∷◌, Result}
use Rattle.mt_model.specs.declared.texts.config.SessionRow.{SessionRow}
use Rattle.mt_session.specs.declared.opening.Dropped.{Dropped}
use Rattle.mt_session.specs.Datagrams.{datagram}
use Rattle.mt_session.specs.Opening.{Arrival, received}
use Rattle.mt_session.specs.Sessions.{Message, arrivals_by, counters}

-- the answers behind what was let in before
abbrev pub answers_behind : SessionRow → List Arrival → List (List ℕ) → List (Result Arrival Dropped)
answers_behind row arrivals [] = []
answers_behind row arrivals (bytes ∷ datagrams) =
    received row (counters arrivals) bytes
    ∷ answers_behind row (arrivals_by arrivals (received row (counters arrivals) bytes)) datagrams

-- what a new session of this row answers
abbrev pub answers : SessionRow → List (List ℕ) → List (Result Arrival Dropped)
answers row datagrams = answers_behind row [] datagrams

-- messages with their counters, from this one on
abbrev pub numbered : ℕ → List Message → List Arrival
numbered counter [] = []
numbered counter (message ∷ messages) =
    record { counter = counter; header = message.header; payload = message.payload } ∷ numbered (counter + 1) messages

-- the datagrams of messages that a session of this row seals, under the counters from this one on
abbrev pub datagrams_from : SessionRow → ℕ → List Message → List (List ℕ)
datagrams_from row counter [] = []
datagrams_from row counter (message ∷ messages) =
    datagram row counter message.header message.payload ∷ datagrams_from row (counter + 1) messages
