-- A talk behind what happens.
use Rattle.std.proofs.Common.{◌≡◌, ◌≢◌, ℕ, Bool, true, false, List, [], ◌∷◌, ◌++◌, Option, Some, Result, Ok, Err, OnOk, if◌then◌else◌, ap, refl, subst, sym, ◌∙◌}
use Rattle.mt_outside.specs.declared.network.Peer.{Peer}
use Rattle.mt_model.specs.declared.texts.config.SessionRow.{SessionRow}
use Rattle.mt_model.specs.declared.messages.message.Payload.{Payload}
use Rattle.mt_session.specs.declared.fault.SealFault.{SealFault}
use Rattle.mt_session.specs.declared.fault.SealFault.TheVariants.{Exhausted, TooLong, Memory}
use Rattle.mt_session.specs.declared.kept.Session.{Session}
use Rattle.mt_session.specs.declared.opening.Dropped.{Dropped}
use Rattle.mt_session.specs.Opening.{Arrival, received}
use Rattle.mt_session.specs.Sessions.{StandsFor, counters}
use Rattle.mt_exchange.specs.declared.exchange.Key.{Key}
use Rattle.mt_exchange.specs.declared.exchanges.Exchanges.{Exchanges}
use Rattle.mt_exchange.specs.Receiving.{Taken, key_of, taken}
use Rattle.mt_exchange.specs.Runs.{Happening, IsRunOf, IsSessionOf, Run, after, answer_of, answered, arrived, dropped, report_of, reported, resend_step, run}
use Rattle.mt_exchange.specs.Shown.{ArrivalsAreShown, MessagesAreShown, MoreIsShown, RunsGoOn, arrivals_in, messages_in, shown_by}
use Rattle.mt_talk.specs.Hearing.{IsHeardInPart, Said, acknowledging, after_datagram, after_received, nothing, received_in, said_again, said_as, said_in}
use Rattle.mt_talk.specs.Talks.{IsTalkOf, Talk, after_answer, after_drop, after_report, after_resend, answer_in, behind, behind_unless_refused, behind_unless_too_long, report_in, run_in}
use Rattle.mt_talk.specs.declared.talk.Talk as code

-- the run of a talk is that of what happened on its session
pub run_is : ArrivalsAreShown → MessagesAreShown → (talk : code.Talk) (row : SessionRow) (t : Talk) (s : IsTalkOf talk row t) → run_in t ≡ run row s.happenings
run_is arrivals messages talk row t s =
    let came : arrivals_in t.shown ≡ (run row s.happenings).arrivals = ap arrivals_in s.shown ∙ arrivals row s.happenings in
    let went : messages_in t.shown ≡ (run row s.happenings).messages = ap messages_in s.shown ∙ messages row s.happenings in
    λ i. record { open_ones = s.open_ones i; next_id = s.next_id i; arrivals = came i; messages = went i }

-- what the session makes of a datagram
pub received_is : ArrivalsAreShown → MessagesAreShown → (talk : code.Talk) (row : SessionRow) (t : Talk) (s : IsTalkOf talk row t) (bytes : List ℕ) (answer : Result Arrival Dropped)
    → answer ≡ received row (counters (run row s.happenings).arrivals) bytes → answer ≡ received_in row t bytes
received_is arrivals messages talk row t s bytes answer is = is ∙ sym (ap (λ (r : Run). received row (counters r.arrivals) bytes) (run_is arrivals messages talk row t s))

-- what a fresh message says, and what a copy says
pub said_is : (row : SessionRow) (t : Talk) (live : Bool) (a : Arrival) (answer : Result Arrival Dropped) (x : Said) (turn : Taken) → live ≡ true → Ok a ≡ answer
    → x ≡ said_as (key_of a.header) (acknowledging a.header a.counter) turn → turn ≡ taken t.open_ones a → x ≡ said_in row t live answer
said_is row t live a answer x turn lives is heard turned =
    heard ∙ ap (said_as (key_of a.header) (acknowledging a.header a.counter)) turned ∙ (λ i. said_in row t (sym lives i) (is i))

pub again_is : (row : SessionRow) (t : Talk) (live : Bool) (reason : Dropped) (answer : Result Arrival Dropped) (x : Said) → Err reason ≡ answer
    → x ≡ (if live then said_again reason else nothing) → x ≡ said_in row t live answer
again_is row t true reason answer x is heard = heard ∙ ap (said_in row t true) is
again_is row t false reason answer x is heard = heard ∙ ap (said_in row t false) is

-- what it says to an answer, and to a report
pub answer_is : ArrivalsAreShown → MessagesAreShown → (talk : code.Talk) (row : SessionRow) (t : Talk) (s : IsTalkOf talk row t) (key : Key) (acknowledge : Option ℕ) (payloads : List Payload)
    (answer : Result (Option (List ℕ)) SealFault) → answer_of row (run row s.happenings) key acknowledge payloads ≡ answer → answer ≡ answer_in row t key acknowledge payloads
answer_is arrivals messages talk row t s key acknowledge payloads answer is =
    sym is ∙ sym (ap (λ (r : Run). answer_of row r key acknowledge payloads) (run_is arrivals messages talk row t s))

pub report_is : ArrivalsAreShown → MessagesAreShown → (talk : code.Talk) (row : SessionRow) (t : Talk) (s : IsTalkOf talk row t) (payloads : List Payload)
    (answer : Result (Option (List ℕ)) SealFault) → report_of row (run row s.happenings) payloads ≡ answer → answer ≡ report_in row t payloads
report_is arrivals messages talk row t s payloads answer is = sym is ∙ sym (ap (λ (r : Run). report_of row r payloads) (run_is arrivals messages talk row t s))

-- a talk behind what happens stands for what is shown then
pub stands_behind : ArrivalsAreShown → MessagesAreShown → MoreIsShown → RunsGoOn → (talk later : code.Talk) (row : SessionRow) (t : Talk) (h : Happening) (latest : Option Peer) (s : IsTalkOf talk row t)
    → IsSessionOf later.session row (s.happenings ++ h ∷ []) → IsRunOf later.exchanges row (s.happenings ++ h ∷ []) → later.latest ≡ latest
    → IsTalkOf later row (record (behind row h t) { latest = latest })
stands_behind arrivals messages more goes_on talk later row t h latest s session exchanges is =
    let r : run_in t ≡ run row s.happenings = run_is arrivals messages talk row t s in
    let on : run row (s.happenings ++ h ∷ []) ≡ after row (run row s.happenings) h = goes_on row s.happenings h in
    record {
      happenings = s.happenings ++ h ∷ [];
      session = session;
      exchanges = exchanges;
      shown = (λ i. s.shown i ++ shown_by row (r i) h) ∙ sym (more row s.happenings h);
      open_ones = ap (λ (z : Run). (after row z h).open_ones) r ∙ sym (ap (λ (z : Run). z.open_ones) on);
      next_id = ap (λ (z : Run). (after row z h).next_id) r ∙ sym (ap (λ (z : Run). z.next_id) on);
      latest = is;
    }

-- only what is too long has not happened
behind_other : (row : SessionRow) (answer : Result (Option (List ℕ)) SealFault) (h : Happening) (t : Talk) → answer ≢ Err TooLong
    → behind row h t ≡ behind_unless_too_long row answer h t
behind_other row (Ok bytes) h t other = refl
behind_other row (Err Exhausted) h t other = refl
behind_other row (Err TooLong) h t other = absurd (other refl)
behind_other row (Err Memory) h t other = refl

-- a talk behind an answer, and behind a report
pub answered_behind : ArrivalsAreShown → MessagesAreShown → MoreIsShown → RunsGoOn → (talk later : code.Talk) (row : SessionRow) (t : Talk) (key : Key) (acknowledge : Option ℕ) (payloads : List Payload) (now : ℕ)
    (answer : Result (Option (List ℕ)) SealFault) (s : IsTalkOf talk row t) → answer_of row (run row s.happenings) key acknowledge payloads ≡ answer → answer ≢ Err TooLong
    → IsSessionOf later.session row (s.happenings ++ answered key acknowledge payloads now ∷ []) → IsRunOf later.exchanges row (s.happenings ++ answered key acknowledge payloads now ∷ [])
    → later.latest ≡ talk.latest → IsTalkOf later row (after_answer row key acknowledge payloads now t)
answered_behind arrivals messages more goes_on talk later row t key acknowledge payloads now answer s is other session exchanges same =
    let h : Happening = answered key acknowledge payloads now in
    let e : answer ≡ answer_in row t key acknowledge payloads = answer_is arrivals messages talk row t s key acknowledge payloads answer is in
    subst (λ (x : Talk). IsTalkOf later row x) (behind_other row answer h t other ∙ ap (λ (x : Result (Option (List ℕ)) SealFault). behind_unless_too_long row x h t) e)
    (stands_behind arrivals messages more goes_on talk later row t h t.latest s session exchanges (same ∙ s.latest))

pub too_long_behind : ArrivalsAreShown → MessagesAreShown → (talk later : code.Talk) (row : SessionRow) (t : Talk) (key : Key) (acknowledge : Option ℕ) (payloads : List Payload) (now : ℕ)
    (s : IsTalkOf talk row t) → answer_of row (run row s.happenings) key acknowledge payloads ≡ Err TooLong → later ≡ talk → IsTalkOf later row (after_answer row key acknowledge payloads now t)
too_long_behind arrivals messages talk later row t key acknowledge payloads now s is same =
    let h : Happening = answered key acknowledge payloads now in
    let e : Err TooLong ≡ answer_in row t key acknowledge payloads = answer_is arrivals messages talk row t s key acknowledge payloads (Err TooLong) is in
    subst (λ (x : Result (Option (List ℕ)) SealFault). IsTalkOf later row (behind_unless_too_long row x h t)) e (subst (λ (x : code.Talk). IsTalkOf x row t) (sym same) s)

pub reported_behind : ArrivalsAreShown → MessagesAreShown → MoreIsShown → RunsGoOn → (talk later : code.Talk) (row : SessionRow) (t : Talk) (subscription : ℕ) (payloads : List Payload) (now : ℕ)
    (bytes : Option (List ℕ)) (s : IsTalkOf talk row t) → report_of row (run row s.happenings) payloads ≡ Ok bytes
    → IsSessionOf later.session row (s.happenings ++ reported subscription payloads now ∷ []) → IsRunOf later.exchanges row (s.happenings ++ reported subscription payloads now ∷ [])
    → later.latest ≡ talk.latest → IsTalkOf later row (after_report row subscription payloads now t)
reported_behind arrivals messages more goes_on talk later row t subscription payloads now bytes s is session exchanges same =
    let h : Happening = reported subscription payloads now in
    let e : Ok bytes ≡ report_in row t payloads = report_is arrivals messages talk row t s payloads (Ok bytes) is in
    subst (λ (x : Result (Option (List ℕ)) SealFault). IsTalkOf later row (behind_unless_refused row x h t)) e
    (stands_behind arrivals messages more goes_on talk later row t h t.latest s session exchanges (same ∙ s.latest))

pub refused_behind : ArrivalsAreShown → MessagesAreShown → (talk later : code.Talk) (row : SessionRow) (t : Talk) (subscription : ℕ) (payloads : List Payload) (now : ℕ) (fault : SealFault)
    (s : IsTalkOf talk row t) → report_of row (run row s.happenings) payloads ≡ Err fault → later ≡ talk → IsTalkOf later row (after_report row subscription payloads now t)
refused_behind arrivals messages talk later row t subscription payloads now fault s is same =
    let h : Happening = reported subscription payloads now in
    let e : Err fault ≡ report_in row t payloads = report_is arrivals messages talk row t s payloads (Err fault) is in
    subst (λ (x : Result (Option (List ℕ)) SealFault). IsTalkOf later row (behind_unless_refused row x h t)) e (subst (λ (x : code.Talk). IsTalkOf x row t) (sym same) s)

-- a talk behind a resend step, and behind a drop
pub again_behind : ArrivalsAreShown → MessagesAreShown → MoreIsShown → RunsGoOn → {A E : Type 0} (result : Result A E) (talk later : code.Talk) (row : SessionRow) (t : Talk) (now : ℕ) (s : IsTalkOf talk row t)
    → later.session ≡ talk.session → later.latest ≡ talk.latest → OnOk result (IsRunOf later.exchanges row (s.happenings ++ resend_step now ∷ [])) → OnOk result (IsTalkOf later row (after_resend now t))
again_behind arrivals messages more goes_on (Ok x) talk later row t now s session same exchanges =
    stands_behind arrivals messages more goes_on talk later row t (resend_step now) t.latest s
    (subst (λ (x : Session). IsSessionOf x row (s.happenings ++ resend_step now ∷ [])) (sym session)
    (subst (λ (r : Run). StandsFor talk.session row r.arrivals r.messages) (sym (goes_on row s.happenings (resend_step now))) s.session)) exchanges (same ∙ s.latest)
again_behind arrivals messages more goes_on (Err fault) talk later row t now s session same exchanges = tt

pub dropped_behind : ArrivalsAreShown → MessagesAreShown → MoreIsShown → RunsGoOn → (talk later : code.Talk) (row : SessionRow) (t : Talk) (s : IsTalkOf talk row t)
    → later.session ≡ talk.session → later.latest ≡ talk.latest → IsRunOf later.exchanges row (s.happenings ++ dropped ∷ []) → IsTalkOf later row (after_drop t)
dropped_behind arrivals messages more goes_on talk later row t s session same exchanges =
    stands_behind arrivals messages more goes_on talk later row t dropped t.latest s
    (subst (λ (x : Session). IsSessionOf x row (s.happenings ++ dropped ∷ [])) (sym session)
    (subst (λ (r : Run). StandsFor talk.session row r.arrivals r.messages) (sym (goes_on row s.happenings dropped)) s.session)) exchanges (same ∙ s.latest)

session_behind : RunsGoOn → (session : Session) (row : SessionRow) (happenings : List Happening) (live : Bool) (a : Arrival)
    → StandsFor session row ((run row happenings).arrivals ++ a ∷ []) (run row happenings).messages
    → IsSessionOf session row (happenings ++ arrived live a ∷ [])
session_behind goes_on session row happenings true a stands =
    subst (λ (r : Run). StandsFor session row r.arrivals r.messages) (sym (goes_on row happenings (arrived true a))) stands
session_behind goes_on session row happenings false a stands =
    subst (λ (r : Run). StandsFor session row r.arrivals r.messages) (sym (goes_on row happenings (arrived false a))) stands

-- while a session is not live its exchanges stay
run_waits : RunsGoOn → (exchanges : Exchanges) (row : SessionRow) (happenings : List Happening) (a : Arrival)
    → IsRunOf exchanges row happenings → IsRunOf exchanges row (happenings ++ arrived false a ∷ [])
run_waits goes_on exchanges row happenings a stands = record {
  open_ones = stands.open_ones ∙ ap (λ (r : Run). r.open_ones) (sym (goes_on row happenings (arrived false a)));
  next_id = stands.next_id ∙ ap (λ (r : Run). r.next_id) (sym (goes_on row happenings (arrived false a)));
}

pub heard_waiting : ArrivalsAreShown → MessagesAreShown → MoreIsShown → RunsGoOn → (talk : code.Talk) (session : Session) (row : SessionRow) (t : Talk) (live : Bool) (from : Peer) (a : Arrival)
    (answer : Result Arrival Dropped) (s : IsTalkOf talk row t) → live ≡ false → Ok a ≡ answer
    → StandsFor session row ((run row s.happenings).arrivals ++ a ∷ []) (run row s.happenings).messages
    → IsTalkOf (record talk { session = session; latest = Some from }) row (after_received live from answer t)
heard_waiting arrivals messages more goes_on talk session row t live from a answer s waits is stands =
    let later : code.Talk = record talk { session = session; latest = Some from } in
    let told : IsTalkOf later row (after_received false from (Ok a) t) =
    stands_behind arrivals messages more goes_on talk later row t (arrived false a) (Some from) s (session_behind goes_on session row s.happenings false a stands)
    (run_waits goes_on talk.exchanges row s.happenings a s.exchanges) refl in
    subst (λ (x : Result Arrival Dropped). IsTalkOf later row (after_received live from x t)) is
    (subst (λ (b : Bool). IsTalkOf later row (after_received b from (Ok a) t)) (sym waits) told)

pub heard_live : ArrivalsAreShown → MessagesAreShown → MoreIsShown → RunsGoOn → (talk : code.Talk) (session : Session) (exchanges : Exchanges) (row : SessionRow) (t : Talk) (live : Bool) (from : Peer) (a : Arrival)
    (answer : Result Arrival Dropped) (s : IsTalkOf talk row t) → live ≡ true → Ok a ≡ answer
    → StandsFor session row ((run row s.happenings).arrivals ++ a ∷ []) (run row s.happenings).messages → IsRunOf exchanges row (s.happenings ++ arrived true a ∷ [])
    → IsTalkOf (record talk { session = session; exchanges = exchanges; latest = Some from }) row (after_received live from answer t)
heard_live arrivals messages more goes_on talk session exchanges row t live from a answer s lives is stands runs =
    let later : code.Talk = record talk { session = session; exchanges = exchanges; latest = Some from } in
    let told : IsTalkOf later row (after_received true from (Ok a) t) =
    stands_behind arrivals messages more goes_on talk later row t (arrived true a) (Some from) s (session_behind goes_on session row s.happenings true a stands) runs refl in
    subst (λ (x : Result Arrival Dropped). IsTalkOf later row (after_received live from x t)) is
    (subst (λ (b : Bool). IsTalkOf later row (after_received b from (Ok a) t)) (sym lives) told)

-- there was no memory: the exchange is as it was, or it has taken the message
pub waits_in_part : ArrivalsAreShown → MessagesAreShown → MoreIsShown → RunsGoOn → (talk : code.Talk) (session : Session) (exchanges : Exchanges) (row : SessionRow) (t : Talk) (from : Peer) (bytes : List ℕ) (a : Arrival)
    (s : IsTalkOf talk row t) → Ok a ≡ received_in row t bytes
    → StandsFor session row ((run row s.happenings).arrivals ++ a ∷ []) (run row s.happenings).messages → exchanges ≡ talk.exchanges
    → IsHeardInPart (record talk { session = session; exchanges = exchanges; latest = Some from }) row from bytes t
waits_in_part arrivals messages more goes_on talk session exchanges row t from bytes a s is stands same = record {
  taken = false;
  stands =
      subst (λ (x : Exchanges). IsTalkOf (record talk { session = session; exchanges = x; latest = Some from }) row (after_datagram row false from bytes t)) (sym same)
      (heard_waiting arrivals messages more goes_on talk session row t false from a (received_in row t bytes) s refl is stands);
}

pub taken_in_part : ArrivalsAreShown → MessagesAreShown → MoreIsShown → RunsGoOn → (talk : code.Talk) (session : Session) (exchanges : Exchanges) (row : SessionRow) (t : Talk) (from : Peer) (bytes : List ℕ) (a : Arrival)
    (s : IsTalkOf talk row t) → Ok a ≡ received_in row t bytes
    → StandsFor session row ((run row s.happenings).arrivals ++ a ∷ []) (run row s.happenings).messages → IsRunOf exchanges row (s.happenings ++ arrived true a ∷ [])
    → IsHeardInPart (record talk { session = session; exchanges = exchanges; latest = Some from }) row from bytes t
taken_in_part arrivals messages more goes_on talk session exchanges row t from bytes a s is stands runs = record {
  taken = true;
  stands = heard_live arrivals messages more goes_on talk session exchanges row t true from a (received_in row t bytes) s refl is stands runs;
}
