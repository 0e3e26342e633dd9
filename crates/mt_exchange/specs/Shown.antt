-- What is shown of a session's run: what came and what went, in one order. An answer that sends nothing leaves no trace in it, and payloads that
-- are kept leave none before they are sent.
use Rattle.std.specs.Prelude.{◌≡◌, ℕ, Bool, List, [], ◌∷◌, ◌++◌, Option, Some, None, Result, Ok, Err}
use Rattle.mt_model.specs.declared.texts.config.SessionRow.{SessionRow}
use Rattle.mt_model.specs.declared.messages.message.Payload.{Payload}
use Rattle.mt_session.specs.declared.fault.SealFault.{SealFault}
use Rattle.mt_session.specs.Opening.{Arrival}
use Rattle.mt_session.specs.Sessions.{Message}
use Rattle.mt_exchange.specs.declared.exchange.Key.{Key}
use Rattle.mt_exchange.specs.Runs.{Happening, Run, after, answer_message, answer_of, answer_sending, answered, arrived, begun, dropped, report_message, report_of, reported, resend_step, run}
use Rattle.mt_exchange.specs.Sending.{Sending, alone, free_id, plainly, reliably, silence}

-- A message that is sent, and until when what it asks for must come, in ms.
pub record Outgoing : Type 0 where
  pub message : Message
  pub deadline : Option ℕ

-- A fresh message, and whether the session was live; a message that is sent, and when, in ms; the same of a report of a subscription, which
-- begins an exchange; a resend step; all exchanges are dropped.
pub data Shown : Type 0 where
  heard : Bool → Arrival → Shown
  sent : Outgoing → ℕ → Shown
  told : ℕ → Outgoing → ℕ → Shown
  again : ℕ → Shown
  closed : Shown

-- What would be sent, before the session is asked.

abbrev pub outgoing : Option ℕ → Message → Outgoing
outgoing deadline message = record { message = message; deadline = deadline }

abbrev pub outgoing_if : Option ℕ → Option Message → Option Outgoing
outgoing_if deadline None = None
outgoing_if deadline (Some message) = Some (outgoing deadline message)

abbrev pub deadline_to_send : Sending → Option ℕ
deadline_to_send silence = None
deadline_to_send (alone counter) = None
deadline_to_send (reliably payload rest) = payload.deadline
deadline_to_send (plainly payload) = payload.deadline

abbrev pub deadline_of_first : List Payload → Option ℕ
deadline_of_first [] = None
deadline_of_first (payload ∷ rest) = payload.deadline

-- of an answer, and of a report

abbrev pub answer_outgoing : Run → Key → Option ℕ → List Payload → Option Outgoing
answer_outgoing r key acknowledge payloads = outgoing_if (deadline_to_send (answer_sending r key acknowledge payloads)) (answer_message r key acknowledge payloads)

abbrev pub report_outgoing : Run → List Payload → Option Outgoing
report_outgoing r payloads = outgoing_if (deadline_of_first payloads) (report_message (free_id r.next_id r.open_ones) payloads)

-- What is shown of it, by what the session says to that: what it refuses is not sent.

abbrev pub shown_answer : Option Outgoing → Result (Option (List ℕ)) SealFault → ℕ → List Shown
shown_answer (Some message) (Ok bytes) now = sent message now ∷ []
shown_answer (Some message) (Err fault) now = []
shown_answer None answer now = []

abbrev pub shown_report : ℕ → Option Outgoing → Result (Option (List ℕ)) SealFault → ℕ → List Shown
shown_report subscription (Some message) (Ok bytes) now = told subscription message now ∷ []
shown_report subscription (Some message) (Err fault) now = []
shown_report subscription None answer now = []

-- what is shown of what happens to a run
abbrev pub shown_by : SessionRow → Run → Happening → List Shown
shown_by row r (arrived live a) = heard live a ∷ []
shown_by row r (answered key acknowledge payloads now) = shown_answer (answer_outgoing r key acknowledge payloads) (answer_of row r key acknowledge payloads) now
shown_by row r (reported subscription payloads now) = shown_report subscription (report_outgoing r payloads) (report_of row r payloads) now
shown_by row r (resend_step now) = again now ∷ []
shown_by row r dropped = closed ∷ []

-- ALL THAT IS SHOWN of what happens, from a run on
abbrev pub shown_from : SessionRow → Run → List Happening → List Shown
shown_from row r [] = []
shown_from row r (happening ∷ happenings) = shown_by row r happening ++ shown_from row (after row r happening) happenings

abbrev pub shown : SessionRow → List Happening → List Shown
shown row happenings = shown_from row begun happenings

-- What came and what was sealed, as it is shown.

abbrev pub arrivals_in : List Shown → List Arrival
arrivals_in [] = []
arrivals_in (heard live a ∷ more) = a ∷ arrivals_in more
arrivals_in (sent message now ∷ more) = arrivals_in more
arrivals_in (told subscription message now ∷ more) = arrivals_in more
arrivals_in (again now ∷ more) = arrivals_in more
arrivals_in (closed ∷ more) = arrivals_in more

abbrev pub messages_in : List Shown → List Message
messages_in [] = []
messages_in (heard live a ∷ more) = messages_in more
messages_in (sent message now ∷ more) = message.message ∷ messages_in more
messages_in (told subscription message now ∷ more) = message.message ∷ messages_in more
messages_in (again now ∷ more) = messages_in more
messages_in (closed ∷ more) = messages_in more

-- What is shown has all that came and all that was sealed, in the same order.

abbrev pub ArrivalsAreShown : Type 0
ArrivalsAreShown = (row : SessionRow) (happenings : List Happening) → arrivals_in (shown row happenings) ≡ (run row happenings).arrivals

abbrev pub MessagesAreShown : Type 0
MessagesAreShown = (row : SessionRow) (happenings : List Happening) → messages_in (shown row happenings) ≡ (run row happenings).messages

-- What happens once more is shown behind the rest.

abbrev pub MoreIsShown : Type 0
MoreIsShown = (row : SessionRow) (happenings : List Happening) (happening : Happening)
    → shown row (happenings ++ happening ∷ []) ≡ shown row happenings ++ shown_by row (run row happenings) happening

abbrev pub RunsGoOn : Type 0
RunsGoOn = (row : SessionRow) (happenings : List Happening) (happening : Happening)
    → run row (happenings ++ happening ∷ []) ≡ after row (run row happenings) happening
