-- The line that is written for an event, and read again; and recordings of such lines.
use Rattle.std.proofs.Common.{◌≡◌, ◌≢◌, ℕ, ◌+◌, ◌-◌, ◌^◌, ◌<◌, ◌≤◌, cond, List, [], ◌∷◌, ◌++◌, length, map, replicate, Result, Ok, Err, refl, ap, ◌∙◌, arith, length-append}
use Rattle.std.specs.Prelude.{All, codes}
use Rattle.std.specs.Fmt.{decimal}
use Rattle.std.specs.Int.{w16, w64, to_be_bytes}
use Rattle.std.specs.List.{filter_map, flat_map, join_with_byte}
use Rattle.std.specs.List.Sorted.{IsNonDecreasing}
use Rattle.std.proofs.lemmas.Fmt.{length-decimal-le}
use Rattle.std.proofs.lemmas.List.{length-map}
use Rattle.std.proofs.lemmas.List.Elements.{All-nil, All-cons, All-head, All-tail, All-from_recursion}
use Rattle.hex.specs.Hex.{encode_lower}
use Rattle.mt_outside.specs.declared.fate.Fate.{Fate}
use Rattle.mt_outside.specs.declared.fate.Fate.TheVariants.{Kept, Lost, Torn}
use Rattle.mt_model.specs.declared.limits.TheConstants.{LAST_TIME, LINE_BYTES, PAYLOAD_BYTES, RECEIVED_BYTES, RECORDING_BYTES, RECORDING_LINES, LAST_CALLS, LAST_FABRIC}
use Rattle.mt_model.specs.declared.texts.recording.Event.{Event}
use Rattle.mt_model.specs.declared.texts.recording.Event.TheVariants.{Ask, Datagram, Tick, Report, Resend, Stop}
use Rattle.mt_model.specs.declared.texts.recording.Sent.{Sent}
use Rattle.mt_model.specs.declared.texts.recording.To.{To}
use Rattle.mt_model.specs.declared.texts.recording.To.TheVariants.{Plain, Session}
use Rattle.mt_model.specs.declared.texts.line_fault.LineKind.{LineKind}
use Rattle.mt_model.specs.declared.texts.line_fault.LineKind.TheVariants.{Hex}
use Rattle.mt_files.specs.Event.{ask_of, datagram_of, event_fields, event_line, line_event, report_of, resend_of, stop_of, tick_of, told_in}
use Rattle.mt_outside.specs.Fates.{fate_text}
use Rattle.mt_files.specs.Form.{HasForm, IsEvent, IsSent, IsTo}
use Rattle.mt_files.specs.Lines.{lines_of, parts_of}
use Rattle.mt_files.specs.Output.{fields_to, sent_line, IsOutput}
use Rattle.mt_model.specs.texts.Events.{event_time}
use Rattle.mt_files.specs.Recording.{head, recording_of, recording_text}
use Rattle.mt_files.specs.Subject.{cat_text}
use Rattle.mt_files.proofs.ReadAgain.{fate_in-fate_text, Lacks-fate_text, Lacks-payload_text, Lacks-peer_text, Lacks-subject_text, length-cats, length-encode, length-payload_text, opcode_in-encode, payload_in-payload_text, peer_in-peer_text, subject_in-subject_text}
use Rattle.mt_files.proofs.Recordings.{read-IsRecording}
use Rattle.mt_files.proofs.Written.{IsMark, Lacks, Lacks-decimal, Lacks-hex, Lacks-high, Lacks-join, Lacks-none, Lacks-word, lines_of-text_of, number_between-decimal, parts_of-join}

abbrev told_as : Event → Result Event LineKind
told_as e = Ok e

pub line_feed : IsMark 10
line_feed = record { some = omega arith; low = omega arith }

pub space : IsMark 32
space = record { some = omega arith; low = omega arith }

-- Neither LF nor a space stands in a field.

fields-lack : (byte : ℕ) (e : Event) → IsMark byte → IsEvent e → All (Lacks byte) (event_fields e)
fields-lack byte (Ask ms fabric node cats opcode payload) m p =
    let index = p.index in
    All-from_recursion (Lacks byte) (event_fields (Ask ms fabric node cats opcode payload)) (Lacks-high byte (codes "A") m refl, (Lacks-decimal byte ms m p.time, (Lacks-decimal byte fabric m (omega arith), (Lacks-subject_text byte node cats m, (Lacks-hex byte (opcode ∷ []) m, (Lacks-payload_text byte payload m, tt))))))
fields-lack byte (Datagram ms peer bytes) m p =
    All-from_recursion (Lacks byte) (event_fields (Datagram ms peer bytes)) (Lacks-high byte (codes "D") m refl, (Lacks-decimal byte ms m p.0, (Lacks-peer_text byte peer m, (Lacks-payload_text byte bytes m, tt))))
fields-lack byte (Tick ms) m p = All-from_recursion (Lacks byte) (event_fields (Tick ms)) (Lacks-high byte (codes "T") m refl, (Lacks-decimal byte ms m p, tt))
fields-lack byte (Report ms fabric subscription) m p =
    All-from_recursion (Lacks byte) (event_fields (Report ms fabric subscription)) (Lacks-high byte (codes "R") m refl, (Lacks-decimal byte ms m p.0, (Lacks-decimal byte fabric m (omega arith), (Lacks-decimal byte subscription m (omega arith), tt))))
fields-lack byte (Resend ms session) m p =
    All-from_recursion (Lacks byte) (event_fields (Resend ms session)) (Lacks-high byte (codes "M") m refl, (Lacks-decimal byte ms m p.0, (Lacks-decimal byte session m (omega arith), tt)))
fields-lack byte (Stop calls fate) m p = All-from_recursion (Lacks byte) (event_fields (Stop calls fate)) (Lacks-high byte (codes "X") m refl, (Lacks-decimal byte calls m p, (Lacks-fate_text byte fate m, tt)))

pub fields_to-lack : (byte ms : ℕ) (to : To) (bytes : List ℕ) → IsMark byte → ms < 2 ^ 64 → IsTo to → All (Lacks byte) (fields_to ms to bytes)
fields_to-lack byte ms (Session session peer) bytes m time p =
    All-from_recursion (Lacks byte) (fields_to ms (Session session peer) bytes) (Lacks-high byte (codes "S") m refl, (Lacks-decimal byte ms m time, (Lacks-peer_text byte peer m, (Lacks-payload_text byte bytes m, tt))))
fields_to-lack byte ms (Plain fabric opcode) bytes m time p =
    All-from_recursion (Lacks byte) (fields_to ms (Plain fabric opcode) bytes) (Lacks-high byte (codes "P") m refl, (Lacks-decimal byte ms m time, (Lacks-decimal byte fabric m (omega arith), (Lacks-hex byte (opcode ∷ []) m, (Lacks-payload_text byte bytes m, tt)))))

event-single : (e : Event) → IsEvent e → Lacks 10 (event_line e)
event-single e p = Lacks-join 10 32 (event_fields e) refl (fields-lack 10 e line_feed p)

pub event_line-single : (e : Event) → IsEvent e → All (λ byte. byte ≢ 10) (event_line e)
event_line-single e p = Lacks-none 10 (event_line e) (event-single e p)

pub sent-single : (m : Sent) → IsSent m → Lacks 10 (sent_line m)
sent-single m p = Lacks-join 10 32 (fields_to m.ms m.to m.bytes) refl (fields_to-lack 10 m.ms m.to m.bytes line_feed p.0 p.1)

pub sent_line-single : (m : Sent) → IsSent m → All (λ byte. byte ≢ 10) (sent_line m)
sent_line-single m p = Lacks-none 10 (sent_line m) (sent-single m p)

pub all_sent-single : (messages : List Sent) → All IsSent messages → All (Lacks 10) (map sent_line messages)
all_sent-single [] p = All-nil (Lacks 10)
all_sent-single (m ∷ messages) p = All-cons (Lacks 10) (sent_line m) (map sent_line messages) (sent-single m (All-head IsSent m messages p)) (all_sent-single messages (All-tail IsSent m messages p))

pub output-lines : (bytes : List ℕ) (messages : List Sent) → All IsSent messages → IsOutput bytes messages → lines_of bytes ≡ map sent_line messages
output-lines bytes messages p is = ap lines_of is ∙ lines_of-text_of (map sent_line messages) (all_sent-single messages p)

-- The fields are those that were written.

pub fields-some : (e : Event) → 0 < length (event_fields e)
fields-some (Ask ms fabric node cats opcode payload) = omega arith
fields-some (Datagram ms peer bytes) = omega arith
fields-some (Tick ms) = omega arith
fields-some (Report ms fabric subscription) = omega arith
fields-some (Resend ms session) = omega arith
fields-some (Stop calls fate) = omega arith

pub parts_of-fields : (fields : List (List ℕ)) → 0 < length fields → All (Lacks 32) fields → parts_of 32 (join_with_byte 32 fields) ≡ fields
parts_of-fields [] some h = absurd (omega arith)
parts_of-fields (field ∷ fields) some h = parts_of-join 32 field fields h

told-again : (e : Event) → IsEvent e → line_event (event_line e) ≡ told_in (event_fields e)
told-again e p = ap told_in (parts_of-fields (event_fields e) (fields-some e) (fields-lack 32 e space p))

told_in-fields : (e : Event) → IsEvent e → HasForm e → told_in (event_fields e) ≡ told_as e
told_in-fields (Ask ms fabric node cats opcode payload) p f =
    let index = f.index in
    let time = number_between-decimal 0 LAST_TIME ms p.time (omega arith) f.time in
    let number = number_between-decimal 0 LAST_FABRIC fabric (omega arith) (omega arith) f.index in
    let subject = subject_in-subject_text node cats p.id f.tags p.tags in
    let code = opcode_in-encode opcode p.code in
    let bytes = payload_in-payload_text PAYLOAD_BYTES payload f.size p.bytes in
    (λ i. ask_of (time i) (number i) (subject i) (code i) (bytes i))
    ∙ ap (λ t. cond t (told_as (Ask ms fabric node cats opcode payload)) (Err Hex)) f.actor
told_in-fields (Datagram ms peer bytes) p f =
    let time = number_between-decimal 0 LAST_TIME ms p.0 (omega arith) f.0 in
    let address = peer_in-peer_text peer p.1 in
    let payload = payload_in-payload_text RECEIVED_BYTES bytes f.1 p.2 in
    λ i. datagram_of (time i) (address i) (payload i)
told_in-fields (Tick ms) p f = ap tick_of (number_between-decimal 0 LAST_TIME ms p (omega arith) f)
told_in-fields (Report ms fabric subscription) p f =
    let time = number_between-decimal 0 LAST_TIME ms p.0 (omega arith) f.0 in
    let number = number_between-decimal 0 LAST_FABRIC fabric (omega arith) (omega arith) f.1 in
    let id = number_between-decimal 1 4294967295 subscription (omega arith) f.2 (omega arith) in
    λ i. report_of (time i) (number i) (id i)
told_in-fields (Resend ms session) p f =
    let time = number_between-decimal 0 LAST_TIME ms p.0 (omega arith) f.0 in
    let id = number_between-decimal 1 65535 session (omega arith) f.1 (omega arith) in
    λ i. resend_of (time i) (id i)
told_in-fields (Stop calls fate) p f =
    let number = number_between-decimal 0 LAST_CALLS calls p (omega arith) f in
    λ i. stop_of (number i) (fate_in-fate_text fate i)

line_event-event_line : (e : Event) → IsEvent e → HasForm e → line_event (event_line e) ≡ told_as e
line_event-event_line e p f = told-again e p ∙ told_in-fields e p f

-- Lines are short.

pub length-decimal : (n : ℕ) → n < 2 ^ 64 → length (decimal n) ≤ 20
length-decimal n h = length-decimal-le 20 n (omega arith) (omega arith) h

abbrev pub total : List (List ℕ) → ℕ
total [] = 0
total (part ∷ parts) = length part + 1 + total parts

pub length-join : (parts : List (List ℕ)) → length (join_with_byte 32 parts) ≤ total parts
length-join [] = omega arith
length-join (part ∷ []) = omega arith
length-join (part ∷ next ∷ parts) = let rest = length-join (next ∷ parts) in omega (arith, length-append part (32 ∷ join_with_byte 32 (next ∷ parts)))

length-cats_of : (given cats : List ℕ) → length given ≤ 3 → cats ≡ given ++ replicate (3 - length given) 0 → length cats ≤ 3
length-cats_of [] cats few is = rw is (omega arith)
length-cats_of (a ∷ []) cats few is = rw is (omega arith)
length-cats_of (a ∷ b ∷ []) cats few is = rw is (omega arith)
length-cats_of (a ∷ b ∷ c ∷ []) cats few is = rw is (omega arith)
length-cats_of (a ∷ b ∷ c ∷ d ∷ given) cats few is = absurd (omega arith)

length-fate_text : (fate : Fate) → length (fate_text fate) ≤ 4
length-fate_text Kept = omega arith
length-fate_text Lost = omega arith
length-fate_text Torn = omega arith

fields-short : (e : Event) → IsEvent e → HasForm e → total (event_fields e) ≤ LINE_BYTES
fields-short (Ask ms fabric node cats opcode payload) p f =
    let index = p.index in
    let time = length-decimal ms p.time in
    let number = length-decimal fabric (omega arith) in
    let three = length-cats_of f.tags.given cats f.tags.few f.tags.padded in
    let tags = length-cats cats in
    let id = length-encode (to_be_bytes w64 node) in
    let code = length-encode (opcode ∷ []) in
    let bytes = length-payload_text PAYLOAD_BYTES payload f.size in
    omega (arith, length-append (encode_lower (to_be_bytes w64 node)) (flat_map cat_text cats))
fields-short (Datagram ms peer bytes) p f =
    let time = length-decimal ms p.0 in
    let ip = length-encode peer.ip in
    let long = p.1.long in
    let port = length-encode (to_be_bytes w16 peer.port) in
    let payload = length-payload_text RECEIVED_BYTES bytes f.1 in
    omega (arith, length-append (encode_lower peer.ip) (encode_lower (to_be_bytes w16 peer.port)))
fields-short (Tick ms) p f = let time = length-decimal ms p in omega arith
fields-short (Report ms fabric subscription) p f =
    let time = length-decimal ms p.0 in
    let number = length-decimal fabric (omega arith) in
    let id = length-decimal subscription (omega arith) in
    omega arith
fields-short (Resend ms session) p f =
    let time = length-decimal ms p.0 in
    let id = length-decimal session (omega arith) in
    omega arith
fields-short (Stop calls fate) p f = let number = length-decimal calls p in let word = length-fate_text fate in omega arith

event_line-short : (e : Event) → IsEvent e → HasForm e → length (event_line e) ≤ LINE_BYTES
event_line-short e p f = let join = length-join (event_fields e) in let short = fields-short e p f in omega arith

-- Recordings as they are written.

lines-again : (events : List Event) → All IsEvent events → All HasForm events → map line_event (map event_line events) ≡ map told_as events
lines-again [] p f = refl
lines-again (e ∷ events) p f = λ i. line_event-event_line e (All-head IsEvent e events p) (All-head HasForm e events f) i ∷ lines-again events (All-tail IsEvent e events p) (All-tail HasForm e events f) i

abbrev IsShort : List ℕ → Type 0
IsShort line = length line ≤ LINE_BYTES

lines-short : (events : List Event) → All IsEvent events → All HasForm events → All IsShort (map event_line events)
lines-short [] p f = All-nil IsShort
lines-short (e ∷ events) p f = All-cons IsShort (event_line e) (map event_line events) (event_line-short e (All-head IsEvent e events p) (All-head HasForm e events f)) (lines-short events (All-tail IsEvent e events p) (All-tail HasForm e events f))

lines-single : (events : List Event) → All IsEvent events → All (Lacks 10) (map event_line events)
lines-single [] p = All-nil (Lacks 10)
lines-single (e ∷ events) p = All-cons (Lacks 10) (event_line e) (map event_line events) (event-single e (All-head IsEvent e events p)) (lines-single events (All-tail IsEvent e events p))

head-single : Lacks 10 head
head-single = Lacks-word 10 head refl

pub recording_text-read : (events : List Event) → All IsEvent events → All HasForm events → IsNonDecreasing (filter_map event_time events) → length events ≤ RECORDING_LINES → length (recording_text events) ≤ RECORDING_BYTES → recording_of (recording_text events) ≡ Ok events
recording_text-read events p f times few short =
    let long : length (map event_line events) ≡ length events = length-map events event_line in
    read-IsRecording (recording_text events) events (record {
      lines = map event_line events;
      text = lines_of-text_of (head ∷ map event_line events) (All-cons (Lacks 10) head (map event_line events) head-single (lines-single events p));
      told = lines-again events p f;
      times = times;
      short = short;
      short_lines = lines-short events p f;
      few_lines = omega arith;
    })
