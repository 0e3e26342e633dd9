-- Of a configuration and a script, what is asked; of a configuration and an output, what is shown.
use Rattle.std.proofs.Common.{◌≡◌, ◌≢◌, ◌<◌, ◌≤◌, ◌+◌, ◌^◌, ℕ, Bool, true, false, cond, List, [], ◌∷◌, length, Option, Some, None, Ok, refl, sym, ap, subst, arith, ◌∙◌}
use Rattle.std.specs.Prelude.{All, find, map}
use Rattle.std.specs.List.{filter_map}
use Rattle.std.specs.List.Sorted.{IsNonDecreasing}
use Rattle.std.proofs.lemmas.List.Elements.{All-head, All-tail}
use Rattle.mt_config.specs.Configuration.{IsConfiguration}
use Rattle.mt_ctl.specs.Asking.{asked, datagrams_told, exhausted_line}
use Rattle.mt_ctl.specs.Hearing.{answers, datagrams_from, numbered}
use Rattle.mt_ctl.specs.Script.{script_of}
use Rattle.mt_ctl.specs.Showing.{bytes_of, datagrams_in, shown, shown_each}
use Rattle.mt_ctl.specs.Steps.{script_headers}
use Rattle.mt_ctl.specs.Testing.{AreToldOf}
use Rattle.mt_ctl.specs.declared.steps.Step.{Step}
use Rattle.mt_files.specs.Form.{HasForm, IsEvent}
use Rattle.mt_files.specs.Output.{output_of}
use Rattle.mt_files.specs.Recording.{recording_of, recording_text}
use Rattle.mt_frame.specs.Writing.{IsProtocol}
use Rattle.mt_model.specs.declared.limits.TheConstants.{RECORDING_BYTES, RECORDING_LINES}
use Rattle.mt_model.specs.declared.texts.config.Config.{Config}
use Rattle.mt_model.specs.declared.texts.config.SessionRow.{SessionRow}
use Rattle.mt_model.specs.declared.texts.recording.Event.{Event}
use Rattle.mt_model.specs.declared.texts.recording.Sent.{Sent}
use Rattle.mt_model.specs.texts.Contents.{Contents, contents_of}
use Rattle.mt_model.specs.texts.Events.{event_time}
use Rattle.mt_session.specs.Datagrams.{mirror}
use Rattle.mt_session.specs.Sessions.{Message}
use Rattle.mt_endings.specs.Endings.{Recordings, configured, of_files, with_recording}
use Rattle.mt_asking.specs.Asked.{asked_by, asked_on, asking, on_session, recorded_unless, shown_by, shown_on, showing}
use Rattle.mt_asking.specs.Laws.{IsOpened, IsShown}
use Rattle.mt_asking.specs.Rows.{is_named, row_of}
use Rattle.mt_asking.proofs.ConfigRows.{IsInRange, rows_in_range}
use Rattle.mt_asking.proofs.Found.{named_unicast}
use Rattle.mt_asking.proofs.ScriptSteps.{events_spelled, messages_spelled, script_spelled}

-- what is so of all rows is so of the one that is found
found-so : (P : SessionRow → Type 0) (session : ℕ) (rows : List SessionRow) (row : SessionRow) → All P rows → find (is_named session) rows ≡ Some row → P row
found-so P session [] row all h = absurd (cc)
found-so P session (x ∷ rows) row all h = by_test (is_named session x) (λ later. found-so P session rows row (All-tail P x rows all) later) h
  where
    by_test : (t : Bool) → (find (is_named session) rows ≡ Some row → P row) → cond t (Some x) (find (is_named session) rows) ≡ Some row → P row
    by_test true rest e = let same : x ≡ row = cc in subst P same (All-head P x rows all)
    by_test false rest e = rest e

-- the row that is named fits its fields
named-in-range : (session : ℕ) (config : Config) (bytes : List ℕ) (row : SessionRow) → IsConfiguration bytes config → row_of session (contents_of config) ≡ Some row → IsInRange row
named-in-range session config bytes row is named = found-so IsInRange session config.sessions row (rows_in_range bytes (contents_of config) is) named

-- The laws of mt_ctl and mt_files that are used here.

abbrev Opens : Type 0
Opens = (row : SessionRow) (steps : List Step) → row.session ≢ 0 → row.session < 2 ^ 16 → row.counter_in < 2 ^ 32
    → exhausted_line row steps ≡ None → All (λ message. IsProtocol message.header) (script_headers steps)
    → answers row (datagrams_told (asked row steps)) ≡ map Ok (numbered row.counter_in (script_headers steps))

pub record Recordable : Type 0 where
  pub form : (row : SessionRow) (bytes : List ℕ) (steps : List Step) → script_of bytes ≡ Ok steps → All HasForm (asked row steps)
  pub times : (row : SessionRow) (bytes : List ℕ) (steps : List Step) → script_of bytes ≡ Ok steps → IsNonDecreasing (filter_map event_time (asked row steps))
  pub few : (row : SessionRow) (bytes : List ℕ) (steps : List Step) → script_of bytes ≡ Ok steps → length (asked row steps) ≤ 65535
  pub short : (row : SessionRow) (bytes : List ℕ) (steps : List Step) → script_of bytes ≡ Ok steps → length (recording_text (asked row steps)) ≤ 67108864

abbrev ReadAgain : Type 0
ReadAgain = (events : List Event) → All IsEvent events → All HasForm events → IsNonDecreasing (filter_map event_time events)
    → length events ≤ RECORDING_LINES → length (recording_text events) ≤ RECORDING_BYTES → recording_of (recording_text events) ≡ Ok events

abbrev Tells : Type 0
Tells = (row : SessionRow) (sent : List Sent) → AreToldOf row [] (datagrams_in sent) (shown row sent)

abbrev ShowsSealed : Type 0
ShowsSealed = (row : SessionRow) (messages : List Message) (sent : List Sent) → row.peer_session ≢ 0 → row.peer_session < 2 ^ 16
    → row.counter_out + length messages ≤ 4294967295 → All (λ message. IsProtocol message.header) messages
    → bytes_of (datagrams_in sent) ≡ datagrams_from row row.counter_out messages
    → shown row sent ≡ shown_each (datagrams_in sent) (map Ok (numbered row.counter_out messages))

-- ASK

pub asked_exactly : Opens → Recordable → ReadAgain → (session : ℕ) (config : Config) (bytes : List ℕ) (recordings : Recordings) (row : SessionRow) (steps : List Step)
    → IsConfiguration bytes config → row_of session (contents_of config) ≡ Some row → script_of recordings.first ≡ Ok steps → exhausted_line row steps ≡ None
    → IsOpened row steps (of_files (asking session) bytes recordings)
asked_exactly opens recordable again session config bytes recordings row steps is named reads enough =
    let ranges = named-in-range session config bytes row is named in
    let unicast = named_unicast session config.sessions row config.sessions_are_valid named in
    let spelled = script_spelled recordings.first steps reads in
    let few = recordable.few row recordings.first steps reads in
    let ending : of_files (asking session) bytes recordings ≡ on_session asked_on (Some row) recordings =
    ap (configured (λ (contents : Contents). asking session contents recordings)) is ∙ ap (λ (found : Option SessionRow). on_session asked_on found recordings) named in
    let comes : asked_on row recordings.first ≡ recorded_unless None (asked row steps) = ap (asked_by row) reads ∙ ap (λ (line : Option ℕ). recorded_unless line (asked row steps)) enough in
    let all = ending ∙ ap with_recording comes in
    subst (IsOpened row steps) (sym all) (record {
      whole = refl;
      events = asked row steps;
      recording = again (asked row steps) (events_spelled (mirror row) row.counter_in 1 steps ranges.key_in (omega arith) spelled)
          (recordable.form row recordings.first steps reads) (recordable.times row recordings.first steps reads) (omega (arith, few)) (recordable.short row recordings.first steps reads);
      opened = opens row steps unicast.session (let le = ranges.session in omega (arith, le)) (let le = ranges.counter_in in omega (arith, le)) enough (messages_spelled 1 steps (omega arith) spelled);
    })

-- SHOW

pub shown_exactly : Tells → ShowsSealed → (session : ℕ) (config : Config) (bytes : List ℕ) (recordings : Recordings) (row : SessionRow) (sent : List Sent)
    → IsConfiguration bytes config → row_of session (contents_of config) ≡ Some row → output_of recordings.first ≡ Ok sent
    → IsShown row sent (of_files (showing session) bytes recordings)
shown_exactly tells sealed session config bytes recordings row sent is named reads =
    let ranges = named-in-range session config bytes row is named in
    let unicast = named_unicast session config.sessions row config.sessions_are_valid named in
    let ending : of_files (showing session) bytes recordings ≡ on_session shown_on (Some row) recordings =
    ap (configured (λ (contents : Contents). showing session contents recordings)) is ∙ ap (λ (found : Option SessionRow). on_session shown_on found recordings) named in
    let all = ending ∙ ap with_recording (ap (shown_by row) reads) in
    subst (IsShown row sent) (sym all) (record {
      whole = refl;
      items = shown row sent;
      lines = refl;
      told = tells row sent;
      sealed = λ messages h. sealed row messages sent unicast.peer_session (let le = ranges.peer_session in omega (arith, le)) h.enough h.spelled h.datagrams;
    })
