-- How long the line of each event is, and a text of lines.
use Rattle.std.proofs.Common.{◌≡◌, ℕ, ◌+◌, ◌^◌, ◌<◌, ◌≤◌, List, [], ◌∷◌, length, map, arith, length-append}
use Rattle.std.specs.List.{sum_by}
use Rattle.std.proofs.lemmas.List.Sums.{sum_by-cons}
use Rattle.mt_model.specs.declared.limits.TheConstants.{LAST_TIME, PAYLOAD_BYTES, RECEIVED_BYTES}
use Rattle.mt_model.specs.declared.texts.recording.Event.{Event}
use Rattle.mt_model.specs.declared.texts.recording.Event.TheVariants.{Ask, Datagram, Tick, Report, Resend, Stop}
use Rattle.mt_files.specs.Event.{at_time, event_fields, event_line, line_size}
use Rattle.mt_files.specs.Form.{HasForm, IsEvent}
use Rattle.mt_files.specs.Lines.{ended, line_of, text_of}
use Rattle.mt_files.specs.Recording.{head, recording_text}
use Rattle.mt_sizes.specs.Laws.{most_bytes}
use Rattle.mt_sizes.proofs.Fields.{fabric-long, fate-long, hex-long, id-long, joined, joined-long, number-long, payload-long, peer-long, subject-long, time-long}

ended-long : (line : List ℕ) → length (ended line) ≡ length line + 1
ended-long line = length-append line (10 ∷ [])

fields-long : (fields : List (List ℕ)) → 0 < length fields → length (ended (line_of fields)) ≡ joined fields
fields-long [] some = absurd (omega arith)
fields-long (field ∷ fields) some = let all = joined-long field fields in omega (arith, all, ended-long (line_of (field ∷ fields)))

some-fields : (event : Event) → 0 < length (event_fields event)
some-fields (Ask ms fabric node cats opcode payload) = omega arith
some-fields (Datagram ms peer bytes) = omega arith
some-fields (Tick ms) = omega arith
some-fields (Report ms fabric subscription) = omega arith
some-fields (Resend ms session) = omega arith
some-fields (Stop calls fate) = omega arith

line-long : (event : Event) → line_size event ≡ joined (event_fields event)
line-long event = fields-long (event_fields event) (some-fields event)

fields-short : (event : Event) → IsEvent event → HasForm event → joined (event_fields event) ≤ most_bytes event
fields-short (Ask ms fabric node cats opcode payload) is form =
    let time = time-long ms form.time in
    let number = fabric-long fabric form.index in
    let who = subject-long node cats form.tags in
    let code = hex-long (opcode ∷ []) in
    let bytes = payload-long PAYLOAD_BYTES payload (omega arith) form.size in
    omega arith
fields-short (Datagram ms peer bytes) is form =
    let time = time-long ms form.0 in
    let from = peer-long peer is.1 in
    let packet = payload-long RECEIVED_BYTES bytes (omega arith) form.1 in
    omega arith
fields-short (Tick ms) is form = let time = time-long ms form in omega arith
fields-short (Report ms fabric subscription) is form =
    let time = time-long ms form.0 in
    let number = fabric-long fabric form.1 in
    let id = id-long subscription is.2 in
    omega arith
fields-short (Resend ms session) is form =
    let time = time-long ms form.0 in
    let id = id-long session (omega arith) in
    omega arith
fields-short (Stop calls fate) is form = let number = number-long calls is in let word = fate-long fate in omega arith

pub line-short : (event : Event) → IsEvent event → HasForm event → line_size event ≤ most_bytes event
line-short event is form = let all = line-long event in let short = fields-short event is form in omega arith

-- at another time

in-time : (ms : ℕ) → ms ≤ LAST_TIME → ms < 2 ^ 64
in-time ms most = omega arith

pub moved-event : (ms : ℕ) (event : Event) → ms ≤ LAST_TIME → IsEvent event → HasForm event → IsEvent (at_time ms event) × HasForm (at_time ms event)
moved-event ms (Ask before fabric node cats opcode payload) most is form = (
  record { time = in-time ms most; index = is.index; id = is.id; tags = is.tags; code = is.code; bytes = is.bytes },
  record { time = most; index = form.index; actor = form.actor; tags = form.tags; size = form.size },
)
moved-event ms (Datagram before peer bytes) most is form = ((in-time ms most, is.1, is.2), (most, form.1))
moved-event ms (Tick before) most is form = (in-time ms most, most)
moved-event ms (Report before fabric subscription) most is form = ((in-time ms most, is.1, is.2), (most, form.1, form.2))
moved-event ms (Resend before session) most is form = ((in-time ms most, is.1), (most, form.1))
moved-event ms (Stop calls fate) most is form = (is, form)

-- all lines

lines-long : (events : List Event) → length (text_of (map event_line events)) ≡ sum_by line_size events
lines-long [] = omega arith
lines-long (event ∷ events) =
    let rest = lines-long events in
    let first = sum_by-cons line_size event events in
    omega (arith, rest, first, length-append (ended (event_line event)) (text_of (map event_line events)))

pub text-long : (events : List Event) → length (recording_text events) ≡ 16 + sum_by line_size events
text-long events = let rest = lines-long events in omega (arith, rest, length-append (ended head) (text_of (map event_line events)))
