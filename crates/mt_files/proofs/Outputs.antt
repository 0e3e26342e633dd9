-- Outputs, as they are read and as they are written.
use Rattle.std.proofs.Common.{◌≡◌, ℕ, ◌+◌, ◌^◌, ◌<◌, ◌≤◌, ◌||◌, Bool, true, false, cond, ltb, List, [], ◌∷◌, length, map, Option, Some, None, Result, Ok, Err, refl, sym, ap, subst, ◌∙◌, arith, length-append}
use Rattle.std.specs.Prelude.{All, codes}
use Rattle.std.specs.Int.{w16, to_be_bytes}
use Rattle.std.specs.List.Sorted.{IsNonDecreasing}
use Rattle.std.proofs.lemmas.Bool.{le-ltb}
use Rattle.std.proofs.lemmas.List.Elements.{All-nil, All-cons, All-head, All-tail, All-weaker}
use Rattle.hex.specs.Hex.{encode_lower}
use Rattle.mt_outside.specs.declared.network.Peer.{Peer}
use Rattle.mt_model.specs.declared.limits.TheConstants.{LAST_FABRIC, LAST_TIME, LINE_BYTES, PAYLOAD_BYTES, RECEIVED_BYTES, RECORDING_BYTES, RECORDING_LINES}
use Rattle.mt_model.specs.declared.texts.line_fault.LineFault.{LineFault}
use Rattle.mt_model.specs.declared.texts.line_fault.LineFault.TheVariants.{TooLong}
use Rattle.mt_model.specs.declared.texts.line_fault.LineKind.{LineKind}
use Rattle.mt_model.specs.declared.texts.line_fault.LineKind.TheVariants.{Time}
use Rattle.mt_model.specs.declared.texts.recording.Sent.{Sent}
use Rattle.mt_model.specs.declared.texts.recording.To.{To}
use Rattle.mt_model.specs.declared.texts.recording.To.TheVariants.{Plain, Session}
use Rattle.mt_files.specs.Event.{fabric_in, time_in}
use Rattle.mt_files.specs.Field.{opcode_in, payload_in, peer_in}
use Rattle.mt_files.specs.Form.{HasSentForm, HasToForm, IsSent, IsTo}
use Rattle.mt_files.specs.Lines.{fields_of, lines_of, text_is}
use Rattle.mt_files.specs.Output.{as_told, fields_to, in_time, line_sent, line_told, messages_from, output_of, output_text, plain_in, plain_of, sealed_in, sealed_of, sent_in, sent_line, told_to}
use Rattle.mt_files.specs.Told.{at_line, followed, onto}
use Rattle.mt_files.proofs.EventLines.{all_sent-single, fields_to-lack, length-decimal, length-join, parts_of-fields, space, total}
use Rattle.mt_files.proofs.ReadAgain.{length-encode, length-payload_text, opcode_in-encode, payload_in-payload_text, peer_in-peer_text}
use Rattle.mt_files.proofs.Readings.{followed-some}
use Rattle.mt_files.proofs.Recordings.{rises-cons, rises-tail}
use Rattle.mt_files.proofs.Shapes.{AtMost, between-some, payload-size}
use Rattle.mt_files.proofs.Written.{lines_of-text_of, number_between-decimal}

abbrev sends : Sent → Result Sent LineKind
sends m = Ok m

abbrev one_told : Sent → Result Sent LineFault
one_told m = Ok m

abbrev all_told : List Sent → Result (List Sent) LineFault
all_told ms = Ok ms

abbrev sealed : ℕ → Peer → List ℕ → Sent
sealed ms peer bytes = record { ms = ms; to = Session 0 peer; bytes = bytes }

abbrev plain : ℕ → ℕ → ℕ → List ℕ → Sent
plain ms fabric opcode bytes = record { ms = ms; to = Plain fabric opcode; bytes = bytes }

sent-same : (x y : Sent) → sends x ≡ sends y → x ≡ y
sent-same x y h = cc

-- What a line tells is within the ranges.

sealed-form : (fields : List (List ℕ)) (m : Sent) → sealed_in fields ≡ sends m → HasSentForm m
sealed-form (ms ∷ peer ∷ bytes ∷ []) m h =
    by_fields (time_in ms) (peer_in peer) (payload_in RECEIVED_BYTES bytes) (λ n is. (between-some 0 LAST_TIME ms n is).1) (payload-size RECEIVED_BYTES bytes) h
  where
    by_fields : (oms : Option ℕ) (op : Option Peer) (ob : Option (List ℕ)) → AtMost LAST_TIME oms → ((bytes : List ℕ) → ob ≡ Some bytes → length bytes ≤ RECEIVED_BYTES) → sealed_of oms op ob ≡ sends m → HasSentForm m
    by_fields (Some ms) (Some peer) (Some bytes) time size h = subst HasSentForm (sent-same (sealed ms peer bytes) m h) (time ms refl, size bytes refl)
    by_fields None op ob time size h = absurd (cc)
    by_fields (Some ms) None ob time size h = absurd (cc)
    by_fields (Some ms) (Some peer) None time size h = absurd (cc)
sealed-form fields m h = absurd (cc)

plain-form : (fields : List (List ℕ)) (m : Sent) → plain_in fields ≡ sends m → HasSentForm m
plain-form (ms ∷ fabric ∷ opcode ∷ payload ∷ []) m h =
    by_fields (time_in ms) (fabric_in fabric) (opcode_in opcode) (payload_in PAYLOAD_BYTES payload)
    (λ n is. (between-some 0 LAST_TIME ms n is).1) (λ n is. (between-some 0 LAST_FABRIC fabric n is).1) (payload-size PAYLOAD_BYTES payload) h
  where
    by_fields : (oms ofabric oo : Option ℕ) (ob : Option (List ℕ)) → AtMost LAST_TIME oms → AtMost LAST_FABRIC ofabric → ((bytes : List ℕ) → ob ≡ Some bytes → length bytes ≤ PAYLOAD_BYTES) → plain_of oms ofabric oo ob ≡ sends m → HasSentForm m
    by_fields (Some ms) (Some fabric) (Some opcode) (Some bytes) time index size h =
        subst HasSentForm (sent-same (plain ms fabric opcode bytes) m h) (time ms refl, (index fabric refl, size bytes refl))
    by_fields None ofabric oo ob time index size h = absurd (cc)
    by_fields (Some ms) None oo ob time index size h = absurd (cc)
    by_fields (Some ms) (Some fabric) None ob time index size h = absurd (cc)
    by_fields (Some ms) (Some fabric) (Some opcode) None time index size h = absurd (cc)
plain-form fields m h = absurd (cc)

-- either of two lines
either : (t : Bool) (a b : Result Sent LineKind) (m : Sent) → (a ≡ sends m → HasSentForm m) → (b ≡ sends m → HasSentForm m) → cond t a b ≡ sends m → HasSentForm m
either true a b m p q h = p h
either false a b m p q h = q h

sent_in-form : (fields : List (List ℕ)) (m : Sent) → sent_in fields ≡ sends m → HasSentForm m
sent_in-form [] m h = absurd (cc)
sent_in-form (letter ∷ fields) m h =
    either (text_is letter (codes "S")) _ _ m (sealed-form fields m)
    (either (text_is letter (codes "P")) _ _ m (plain-form fields m) (λ h. absurd (cc))) h

in_time-some : (before : ℕ) (r : Result Sent LineKind) (m : Sent) (number : ℕ) → at_line number (in_time before r) ≡ one_told m → r ≡ sends m
in_time-some before (Err kind) m number h = absurd (cc)
in_time-some before (Ok x) m number h = by_time (ltb x.ms before) h
  where
    by_time : (t : Bool) → at_line number (cond t (Err Time) (sends x)) ≡ one_told m → sends x ≡ sends m
    by_time true h = absurd (cc)
    by_time false h = let same : x ≡ m = cc in ap sends same

line-some : (number before : ℕ) (line : List ℕ) (m : Sent) → line_told number before line ≡ one_told m → line_sent line ≡ sends m
line-some number before line m h = by_test (ltb LINE_BYTES (length line) || ltb RECORDING_LINES number) h
  where
    by_test : (t : Bool) → cond t (Err TooLong) (at_line number (in_time before (line_sent line))) ≡ one_told m → line_sent line ≡ sends m
    by_test true h = absurd (cc)
    by_test false h = in_time-some before (line_sent line) m number h

messages-form : (lines : List (List ℕ)) (number before : ℕ) (ms : List Sent) → messages_from number before lines ≡ all_told ms → All HasSentForm ms
messages-form [] number before ms h = let none : [] ≡ ms = cc in subst (All HasSentForm) none (All-nil HasSentForm)
messages-form (line ∷ lines) number before ms h =
    let f = followed-some (line_told number before line) (λ message. messages_from (number + 1) message.ms lines) ms h in
    subst (All HasSentForm) (sym f.all) (All-cons HasSentForm f.item f.others
    (sent_in-form (fields_of line) f.item (line-some number before line f.item f.first))
    (messages-form lines (number + 1) f.item.ms f.others f.then))

pub output-form : (bytes : List ℕ) (ms : List Sent) → output_of bytes ≡ all_told ms → All HasSentForm ms
output-form bytes ms h = by_length (ltb RECORDING_BYTES (length bytes)) h
  where
    by_length : (t : Bool) → cond t (Err TooLong) (messages_from 1 0 (lines_of bytes)) ≡ all_told ms → All HasSentForm ms
    by_length true h = absurd (cc)
    by_length false h = messages-form (lines_of bytes) 1 0 ms h

abbrev IsShort : Sent → Type 0
IsShort m = length m.bytes ≤ 1280

short-to : (to : To) (bytes : List ℕ) → HasToForm to bytes → length bytes ≤ 1280
short-to (Session session peer) bytes h = h
short-to (Plain fabric opcode) bytes h = h.1

pub messages-short : (lines : List (List ℕ)) (ms : List Sent) → messages_from 1 0 lines ≡ all_told ms → All IsShort ms
messages-short lines ms h = All-weaker HasSentForm IsShort (λ m form. short-to m.to m.bytes form.1) ms (messages-form lines 1 0 ms h)

-- A line is read as it was written.

fields_to-some : (ms : ℕ) (to : To) (bytes : List ℕ) → 0 < length (fields_to ms to bytes)
fields_to-some ms (Session session peer) bytes = omega arith
fields_to-some ms (Plain fabric opcode) bytes = omega arith

sent_in-fields : (ms : ℕ) (to : To) (bytes : List ℕ) → IsSent (record { ms = ms; to = to; bytes = bytes }) → HasSentForm (record { ms = ms; to = to; bytes = bytes })
    → sent_in (fields_to ms to bytes) ≡ sends (record { ms = ms; to = told_to to; bytes = bytes })
sent_in-fields ms (Session session peer) bytes p f =
    let time = number_between-decimal 0 LAST_TIME ms p.0 (omega arith) f.0 in
    let address = peer_in-peer_text peer p.1 in
    let payload = payload_in-payload_text RECEIVED_BYTES bytes f.1 p.2 in
    λ i. sealed_of (time i) (address i) (payload i)
sent_in-fields ms (Plain fabric opcode) bytes p f =
    let time = number_between-decimal 0 LAST_TIME ms p.0 (omega arith) f.0 in
    let number = number_between-decimal 0 LAST_FABRIC fabric (let small = p.1.0 in omega arith) (omega arith) f.1.0 in
    let code = opcode_in-encode opcode p.1.1 in
    let payload = payload_in-payload_text PAYLOAD_BYTES bytes f.1.1 p.2 in
    λ i. plain_of (time i) (number i) (code i) (payload i)

line_sent-again : (m : Sent) → IsSent m → HasSentForm m → line_sent (sent_line m) ≡ sends (as_told m)
line_sent-again m p f =
    let fields = fields_to m.ms m.to m.bytes in
    ap sent_in (parts_of-fields fields (fields_to-some m.ms m.to m.bytes) (fields_to-lack 32 m.ms m.to m.bytes space p.0 p.1))
    ∙ sent_in-fields m.ms m.to m.bytes p f

fields_to-short : (ms : ℕ) (to : To) (bytes : List ℕ) → ms < 2 ^ 64 → IsTo to → HasToForm to bytes → total (fields_to ms to bytes) ≤ LINE_BYTES
fields_to-short ms (Session session peer) bytes small p f =
    let time = length-decimal ms small in
    let ip = length-encode peer.ip in
    let long = p.long in
    let port = length-encode (to_be_bytes w16 peer.port) in
    let payload = length-payload_text RECEIVED_BYTES bytes f in
    omega (arith, length-append (encode_lower peer.ip) (encode_lower (to_be_bytes w16 peer.port)))
fields_to-short ms (Plain fabric opcode) bytes small p f =
    let index = p.0 in
    let time = length-decimal ms small in
    let number = length-decimal fabric (omega arith) in
    let code = length-encode (opcode ∷ []) in
    let payload = length-payload_text PAYLOAD_BYTES bytes f.1 in
    omega arith

sent_line-short : (m : Sent) → IsSent m → HasSentForm m → length (sent_line m) ≤ LINE_BYTES
sent_line-short m p f =
    let join = length-join (fields_to m.ms m.to m.bytes) in
    let short = fields_to-short m.ms m.to m.bytes p.0 p.1 f.1 in
    omega arith

line-again : (number before : ℕ) (m : Sent) → IsSent m → HasSentForm m → number ≤ RECORDING_LINES → before ≤ m.ms → line_told number before (sent_line m) ≡ one_told (as_told m)
line-again number before m p f counted later =
    let long : ltb LINE_BYTES (length (sent_line m)) ≡ false = le-ltb LINE_BYTES (length (sent_line m)) (sent_line-short m p f) in
    let many : ltb RECORDING_LINES number ≡ false = le-ltb RECORDING_LINES number counted in
    let time : ltb m.ms before ≡ false = le-ltb m.ms before later in
    let told = line_sent-again m p f in
    (λ i. cond (long i || many i) (Err TooLong) (at_line number (in_time before (told i))))
    ∙ ap (λ t. at_line number (cond t (Err Time) (sends (as_told m)))) time

-- The whole output is read as it was written.

abbrev times : List Sent → List ℕ
times ms = map (λ message. message.ms) ms

messages-again : (ms : List Sent) (number before : ℕ) → All IsSent ms → All HasSentForm ms → IsNonDecreasing (before ∷ times ms) → number + length ms ≤ RECORDING_LINES + 1
    → messages_from number before (map sent_line ms) ≡ all_told (map as_told ms)
messages-again [] number before p f rise few = refl
messages-again (m ∷ ms) number before p f rise few =
    let later : before ≤ m.ms = rise 0 1 0 (omega arith) (omega arith) in
    let first = line-again number before m (All-head IsSent m ms p) (All-head HasSentForm m ms f) (omega arith) later in
    ap (λ r. followed r (λ message. messages_from (number + 1) message.ms (map sent_line ms))) first
    ∙ ap (onto (as_told m)) (messages-again ms (number + 1) m.ms (All-tail IsSent m ms p) (All-tail HasSentForm m ms f) (rises-tail before (times (m ∷ ms)) rise) (omega arith))

pub output-again : (ms : List Sent) → All IsSent ms → All HasSentForm ms → IsNonDecreasing (times ms) → length ms ≤ RECORDING_LINES → length (output_text ms) ≤ RECORDING_BYTES
    → output_of (output_text ms) ≡ all_told (map as_told ms)
output-again ms p f rise few short =
    let long : ltb RECORDING_BYTES (length (output_text ms)) ≡ false = le-ltb RECORDING_BYTES (length (output_text ms)) short in
    let lines = lines_of-text_of (map sent_line ms) (all_sent-single ms p) in
    (λ i. cond (long i) (Err TooLong) (messages_from 1 0 (lines i)))
    ∙ messages-again ms 1 0 p f (rises-cons 0 (times ms) (λ k d lt. omega arith) rise) (omega arith)
