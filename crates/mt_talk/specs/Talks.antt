-- What is said over a session of the node, in lists that nothing stores.
use Rattle.std.specs.Prelude.{◌≡◌, ℕ, List, [], ◌∷◌, ◌++◌, Option, Some, None, Result, Ok, Err}
use Rattle.mt_outside.specs.declared.network.Peer.{Peer}
use Rattle.mt_model.specs.declared.texts.config.SessionRow.{SessionRow}
use Rattle.mt_model.specs.declared.messages.message.Payload.{Payload}
use Rattle.mt_session.specs.declared.fault.SealFault.{SealFault}
use Rattle.mt_session.specs.declared.fault.SealFault.TheVariants.{TooLong}
use Rattle.mt_exchange.specs.declared.exchange.Exchange.{Exchange}
use Rattle.mt_exchange.specs.declared.exchange.Key.{Key}
use Rattle.mt_exchange.specs.Resending.{due_again, ended_by, resent}
use Rattle.mt_exchange.specs.Runs.{Happening, IsRunOf, IsSessionOf, Run, after, answer_of, answered, report_of, reported, run}
use Rattle.mt_exchange.specs.Shown.{Shown, again, arrivals_in, closed, messages_in, shown, shown_by}
use Rattle.mt_talk.specs.declared.talk.Talk as code

-- A talk: all that is shown of its session; the open exchanges, with what is still to be sent on them, and the id that the node's next one tries
-- first; and from where the latest fresh message came.
pub record Talk : Type 0 where
  pub shown : List Shown
  pub open_ones : List Exchange
  pub next_id : ℕ
  pub latest : Option Peer

abbrev pub begun_talk : Talk
begun_talk = record { shown = []; open_ones = []; next_id = 1; latest = None }

-- the run of its session: what came and what was sealed is what is shown of that
abbrev pub run_in : Talk → Run
run_in t = record { open_ones = t.open_ones; next_id = t.next_id; arrivals = arrivals_in t.shown; messages = messages_in t.shown }

-- the open exchanges
abbrev pub open_in : SessionRow → Talk → List Exchange
open_in row t = t.open_ones

-- a talk behind what happens
abbrev pub behind : SessionRow → Happening → Talk → Talk
behind row happening t = record t {
  shown = t.shown ++ shown_by row (run_in t) happening;
  open_ones = (after row (run_in t) happening).open_ones;
  next_id = (after row (run_in t) happening).next_id;
}

-- The node answers on an exchange, and acknowledges this counter. What the session says to that:
abbrev pub answer_in : SessionRow → Talk → Key → Option ℕ → List Payload → Result (Option (List ℕ)) SealFault
answer_in row t key acknowledge payloads = answer_of row (run_in t) key acknowledge payloads

-- the datagram that is sent, where there is one: what the session refuses is not sent
abbrev pub sent_by : Result (Option (List ℕ)) SealFault → Option (List ℕ)
sent_by (Ok sent) = sent
sent_by (Err fault) = None

-- why the session refuses it, where it does
abbrev pub refusal_in : Result (Option (List ℕ)) SealFault → Option SealFault
refusal_in (Ok sent) = None
refusal_in (Err fault) = Some fault

-- with a message that is too long nothing has happened
abbrev pub behind_unless_too_long : SessionRow → Result (Option (List ℕ)) SealFault → Happening → Talk → Talk
behind_unless_too_long row (Err TooLong) happening t = t
behind_unless_too_long row answer happening t = behind row happening t

abbrev pub after_answer : SessionRow → Key → Option ℕ → List Payload → ℕ → Talk → Talk
after_answer row key acknowledge payloads now t =
    behind_unless_too_long row (answer_in row t key acknowledge payloads) (answered key acknowledge payloads now) t

-- A subscription reports. With a report that is refused nothing has happened.
abbrev pub report_in : SessionRow → Talk → List Payload → Result (Option (List ℕ)) SealFault
report_in row t payloads = report_of row (run_in t) payloads

abbrev pub behind_unless_refused : SessionRow → Result (Option (List ℕ)) SealFault → Happening → Talk → Talk
behind_unless_refused row (Ok sent) happening t = behind row happening t
behind_unless_refused row (Err fault) happening t = t

abbrev pub after_report : SessionRow → ℕ → List Payload → ℕ → Talk → Talk
after_report row subscription payloads now t = behind_unless_refused row (report_in row t payloads) (reported subscription payloads now) t

-- What is owed and due is sent again, and exchanges on which that was in vain close, with their subscriptions.

abbrev pub resent_in : SessionRow → ℕ → Talk → List (List ℕ)
resent_in row now t = due_again now (open_in row t)

abbrev pub ended_in : SessionRow → ℕ → Talk → List ℕ
ended_in row now t = ended_by now (open_in row t)

abbrev pub after_resend : ℕ → Talk → Talk
after_resend now t = record t { shown = t.shown ++ again now ∷ []; open_ones = resent now t.open_ones }

-- Nothing is to be sent, owed or awaited any more.
abbrev pub after_drop : Talk → Talk
after_drop t = record t { shown = t.shown ++ closed ∷ []; open_ones = [] }

-- A talk as the code has it stands for this one, over the session of this row: what happened on it, which nothing stores, is what is shown.
pub record IsTalkOf (talk : code.Talk) (row : SessionRow) (t : Talk) : Type 0 where
  pub happenings : List Happening
  pub session : IsSessionOf talk.session row happenings
  pub exchanges : IsRunOf talk.exchanges row happenings
  pub shown : t.shown ≡ shown row happenings
  pub open_ones : t.open_ones ≡ (run row happenings).open_ones
  pub next_id : t.next_id ≡ (run row happenings).next_id
  pub latest : talk.latest ≡ t.latest
